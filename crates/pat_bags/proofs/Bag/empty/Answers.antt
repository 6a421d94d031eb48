use Rattle.pat_bags.proofs.Counts.{zeros}
use Rattle.pat_bags.proofs.Bag.empty.Goals as goal

pub returns : goal.returns
returns c = zeros 32
