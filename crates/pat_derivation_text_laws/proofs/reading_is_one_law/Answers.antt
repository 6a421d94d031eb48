use Rattle.pat_derivation_text_laws.proofs.Ways.{reads_one}
use Rattle.pat_derivation_text_laws.proofs.reading_is_one_law.Goals as goal

pub returns : goal.returns
returns c = reads_one
