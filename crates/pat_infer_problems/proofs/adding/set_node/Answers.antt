use Rattle.pat_infer_problems.proofs.Grown.{set_grows}
use Rattle.pat_infer_problems.proofs.adding.set_node.Goals as goal

pub returns-then-place-len : goal.returns-then-place-len
returns-then-place-len c = set_grows c.args.problem.now c.replace.new.self c.args.node c.args.of c.replace.ensures.after
