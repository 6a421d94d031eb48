use Rattle.std.proofs.Common.{◌≡◌, drop, map}
use Rattle.std.specs.List.{list_all}
use Rattle.pat_reduce.specs.threads.ThreadViews.{message_view}
use Rattle.pat_checkpoint_spec.specs.Numbers.{message_lives}
use Rattle.pat_checkpoint_numbers.proofs.numbers.messages_live.Given as goal

-- what is left decides it
abbrev pub invariant-loop-message : goal.invariant-loop-message
invariant-loop-message l = list_all (message_lives l.live) (map message_view (drop l.message-index l.messages)) ≡ list_all (message_lives l.live) (map message_view l.messages)
