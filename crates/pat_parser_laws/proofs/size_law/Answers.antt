use Rattle.pat_parser_laws.proofs.Counts.{at_most_four}
use Rattle.pat_parser_laws.proofs.size_law.Goals as goal

pub returns : goal.returns
returns c = at_most_four
