use Rattle.std.proofs.Common.{◌≡◌, drop, map}
use Rattle.std.specs.Prelude.{nat_lt}
use Rattle.std.specs.List.{list_all}
use Rattle.pat_reduce.specs.threads.ThreadViews.{message_view}
use Rattle.pat_checkpoint_numbers.proofs.numbers.messages_are_below.Given as goal

-- what is left decides it
abbrev pub invariant-loop-message : goal.invariant-loop-message
invariant-loop-message l = list_all (λ m. nat_lt m.number l.next) (map message_view (drop l.message-index l.messages)) ≡ list_all (λ m. nat_lt m.number l.next) (map message_view l.messages)
