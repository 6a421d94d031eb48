use Rattle.std.proofs.Common.{◌≡◌, ◌++◌, map, length}
use Rattle.std.specs.Borrow.{Bor}
use Rattle.std.specs.Vec.Iter.{into_iter_items, into_iter_len}
use Rattle.pat_reduce.specs.declared.threads.state.Message.{Message}
use Rattle.pat_reduce.specs.threads.ThreadViews.{message_view}
use Rattle.pat_machine_indexes.proofs.messages.copies.copy_box.Given as goal

-- the copies so far, and the messages that are left
abbrev pub invariant-loop-message : goal.invariant-loop-message
invariant-loop-message l = record {
  whole : map message_view l.own ++ map message_view (map (λ (m : Bor Message). m.now) (into_iter_items l.message-iterator)) ≡ map message_view l.fn.own ++ map message_view (map (λ (m : Bor Message). m.now) (into_iter_items l.initial.message-iterator));
  count : into_iter_len l.message-iterator ≡ length (into_iter_items l.message-iterator);
}
