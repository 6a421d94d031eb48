use Rattle.std.proofs.Common.{map}
use Rattle.pat_semantics_spec.specs.Programs.{tag_at}
use Rattle.pat_core.specs.Views.{program_view}
use Rattle.pat_types.specs.Views.{needs_view}
use Rattle.pat_reduce_values.specs.ValueViews.{value_view}
use Rattle.pat_checkpoint_balances.proofs.Holding.{nothing_declared}
use Rattle.pat_checkpoint_balances.proofs.walk.add_message.Goals as goal

pub returns-in-None : goal.returns-in-None
returns-in-None c =
    nothing_declared (needs_view c.args.held.now) (tag_at (program_view c.args.program.now) c.args.interface c.args.message.now.tag) (map value_view c.args.message.now.values) c.in-None.ensures
