use Rattle.std.proofs.Common.{◌≡◌, ◌+◌, ◌≤◌, length, vec_len, vec_capacity}
use Rattle.pat_mailboxes.specs.Kept.{IsStore, shown_in}
use Rattle.pat_mailboxes.proofs.store.Store.open_ahead.Given as goal

abbrev pub invariant-loop : goal.invariant-loop
invariant-loop l =
    IsStore l.self l.room
    × (shown_in l.self ≡ shown_in l.fn.self)
    × (vec_len l.self.queues ≡ vec_len l.fn.self.queues)
    × (vec_capacity l.fn.self.queues ≤ vec_capacity l.self.queues)
    × (vec_len l.self.queues + l.mailboxes ≤ vec_capacity l.self.queues)
    × (length l.fn.self.ready.items ≤ length l.self.ready.items)
    × (l.counter ≤ length l.self.ready.items)
