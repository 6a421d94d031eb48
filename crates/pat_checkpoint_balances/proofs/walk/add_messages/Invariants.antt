use Rattle.std.proofs.Common.{◌≡◌, ◌++◌, map, drop}
use Rattle.pat_types.specs.Views.{needs_view}
use Rattle.pat_core.specs.Views.{program_view}
use Rattle.pat_reduce.specs.threads.ThreadViews.{message_view}
use Rattle.pat_checkpoint_spec.specs.Checkpoints.{interface_at}
use Rattle.pat_checkpoint_spec.specs.HoldingsInOrder.{messages_hold_types}
use Rattle.pat_checkpoint_balances.proofs.walk.add_messages.Given as goal

abbrev pub invariant-loop-message : goal.invariant-loop-message
invariant-loop-message l =
    needs_view l.held ++ messages_hold_types (program_view l.program) (interface_at l.checkpoint.config.live l.checkpoint.interfaces) (map message_view (drop l.message-index l.checkpoint.config.messages))
    ≡ needs_view l.initial.held ++ messages_hold_types (program_view l.program) (interface_at l.checkpoint.config.live l.checkpoint.interfaces) (map message_view l.checkpoint.config.messages)
