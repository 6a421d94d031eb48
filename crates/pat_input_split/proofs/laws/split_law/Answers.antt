use Rattle.pat_input_split.proofs.Once.{one_split}
use Rattle.pat_input_split.proofs.laws.split_law.Goals as goal

pub returns : goal.returns
returns c = one_split
