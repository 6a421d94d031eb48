use Rattle.std.proofs.Common.{◌≡◌, false, drop, take, map}
use Rattle.std.specs.List.{list_any, find}
use Rattle.pat_reduce.specs.threads.ThreadViews.{message_view}
use Rattle.pat_reduce.specs.threads.GuardViews.{guard_view}
use Rattle.pat_reduce.specs.threads.ThreadActs.{first_taken, message_in, takes_option}
use Rattle.pat_reduce.proofs.threads.guards.first_message.Given as goal

-- no message so far is taken
abbrev pub invariant-loop-message : goal.invariant-loop-message
invariant-loop-message l = record {
  rest : find (λ m. takes_option (guard_view l.guard) (message_in (map message_view l.messages) m.number)) (map message_view (drop l.message-index l.messages)) ≡ first_taken (guard_view l.guard) (map message_view l.messages);
  before : list_any (λ m. takes_option (guard_view l.guard) (message_in (map message_view l.messages) m.number)) (map message_view (take l.message-index l.messages)) ≡ false;
}
