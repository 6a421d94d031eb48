use Rattle.pat_linear.proofs.ListsOn.{pushed, pushed_down}
use Rattle.pat_linear.proofs.flat.Lists.push.Goals as goal

pub invariant_of-self : goal.invariant_of-self
invariant_of-self c =
    pushed_down c.push.result c.self.inside.sets c.push.new.self c.self.inside.starts c.args.self.now c.args.set c.push.ensures.ok c.push.ensures.err c.self.view_is c.self.invariant c.requires

pub returns : goal.returns
returns c =
    pushed c.push.result c.self.inside.sets c.push.new.self c.self.inside.starts c.args.self.now c.args.set c.push.ensures.ok c.self.view_is c.self.invariant c.requires
