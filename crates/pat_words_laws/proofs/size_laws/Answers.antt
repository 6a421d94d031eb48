use Rattle.pat_words_laws.proofs.SizeLaws.{levels_some, levels_size, degree_size}
use Rattle.pat_words_laws.proofs.size_laws.Goals as goal

pub returns : goal.returns
returns c = record {
  levels = λ e. (levels_some e, levels_size e);
  degree = degree_size;
}
