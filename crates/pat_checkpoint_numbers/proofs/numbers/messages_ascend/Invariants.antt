use Rattle.std.proofs.Common.{◌≡◌, drop, map}
use Rattle.pat_reduce.specs.threads.ThreadViews.{message_view}
use Rattle.pat_checkpoint_spec.specs.Numbers.{ascends}
use Rattle.pat_checkpoint_numbers.proofs.numbers.messages_ascend.Given as goal

-- what is left decides it
abbrev pub invariant-loop-message : goal.invariant-loop-message
invariant-loop-message l = ascends l.least (map (λ m. m.number) (map message_view (drop l.message-index l.messages))) ≡ ascends 0 (map (λ m. m.number) (map message_view l.messages))
