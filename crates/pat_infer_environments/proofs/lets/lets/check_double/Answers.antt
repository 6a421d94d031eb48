use Rattle.pat_types.specs.Views.{needs_view}
use Rattle.pat_infer_environments.proofs.Checked.{meets_double}
use Rattle.pat_infer_environments.proofs.lets.lets.check_double.Goals as goal

pub returns : goal.returns
returns c = meets_double c.args.program.now c.check_node.result c.args.node (needs_view c.args.bound.now) (needs_view c.args.body.now) c.receive_once.result c.receive_once.ensures c.check_node.ensures
