use Rattle.pat_linear.proofs.ListsOn.{united}
use Rattle.pat_linear.proofs.flat.Lists.unite.Goals as goal

pub returns : goal.returns
returns c =
    united c.self.inside.sets c.self.inside.starts c.pop.new.self c.in-Some-Some.upper c.in-Some-Some.lower.now c.args.self.now c.self.view_is c.self.invariant c.in-Some-Some.ensures.some c.in-Some-Some.ensures'.some
