use Rattle.pat_types.specs.Views.{needs_view}
use Rattle.pat_infer_environments.proofs.Checked.{meets_order}
use Rattle.pat_infer_environments.proofs.lets.lets.check_order.Goals as goal

pub returns : goal.returns
returns c = meets_order c.args.program.now c.check_node.result c.args.node (needs_view c.args.bound.now) (needs_view c.args.body.now) c.are_in_order.result c.are_in_order.ensures c.check_node.ensures
