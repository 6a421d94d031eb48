use Rattle.pat_linear.proofs.ListsOn.{first_taken}
use Rattle.pat_linear.proofs.flat.Lists.take_first.Goals as goal

pub returns : goal.returns
returns c =
    first_taken c.self.inside.sets c.remove.new.self c.self.inside.starts c.in-Some.start.now c.args.self.now c.remove.result c.self.view_is c.requires c.in-Some.ensures.some c.remove.ensures.before c.remove.ensures.after
