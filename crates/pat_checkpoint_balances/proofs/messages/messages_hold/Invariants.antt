use Rattle.std.proofs.Common.{◌≡◌, map, drop}
use Rattle.std.specs.List.{list_all}
use Rattle.pat_core.specs.Views.{program_view}
use Rattle.pat_reduce.specs.threads.ThreadViews.{message_view}
use Rattle.pat_checkpoint_spec.specs.Checkpoints.{interface_at}
use Rattle.pat_checkpoint_spec.specs.Mailboxes.{message_fits}
use Rattle.pat_checkpoint_balances.proofs.messages.messages_hold.Given as goal

abbrev pub invariant-loop-message : goal.invariant-loop-message
invariant-loop-message l =
    list_all (message_fits (program_view l.program) (interface_at l.checkpoint.config.live l.checkpoint.interfaces)) (map message_view (drop l.message-index l.checkpoint.config.messages))
    ≡ list_all (message_fits (program_view l.program) (interface_at l.checkpoint.config.live l.checkpoint.interfaces)) (map message_view l.checkpoint.config.messages)
