use Rattle.std.proofs.Common.{replicate}
use Rattle.pat_bags.proofs.Counts.{zeros, one_at}
use Rattle.pat_bags.proofs.Bag.one.Goals as goal

pub returns : goal.returns
returns c = one_at (replicate 32 0) c.args.tag (zeros 32) c.requires
