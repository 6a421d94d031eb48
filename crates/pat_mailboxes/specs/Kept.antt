-- How mailboxes are kept: each with a queue of its own, some queues ahead.
use Rattle.std.specs.Prelude.{◌≡◌, ℕ, ◌+◌, ◌<◌, ◌≤◌, cond, nat_eq, List, [], ◌∷◌, map, Option, Some, None}
use Rattle.pat_mailboxes.specs.queues.Nodes.{times}
use Rattle.pat_mailboxes.specs.queues.Queues.{queue_at, values_at, IsLive as IsLiveQueue}
use Rattle.pat_reduce.specs.declared.threads.state.Message.{Message}
use Rattle.pat_mailboxes.specs.declared.store.Store.{Store}
use Rattle.pat_mailboxes.specs.Mailboxes.{Mailbox, all_pending, AreInOrder}

abbrev pub shown : List (Option (List Message)) → Option ℕ → Option Mailbox
shown queues None = None
shown queues (Some e) = Some (record { pending = values_at queues e })

abbrev pub mailboxes_of : List (Option ℕ) → List (Option (List Message)) → List (Option Mailbox)
mailboxes_of entries queues = map (shown queues) entries

abbrev pub counts : ℕ → Option ℕ → ℕ
counts q None = 0
counts q (Some e) = cond (nat_eq q e) 1 0

-- how many mailboxes have a queue
abbrev pub times_had : ℕ → List (Option ℕ) → ℕ
times_had q [] = 0
times_had q (o ∷ es) = counts q o + times_had q es

-- each queue is one mailbox's or ready, and is live; a ready one is empty; each message is pending in order or its place is spare
pub record AreKept (entries : List (Option ℕ)) (ready : List ℕ) (queues : List (Option (List Message))) (spare room : ℕ) : Type 0 where
  pub once : (q : ℕ) → times q ready + times_had q entries ≤ 1
  pub live : (q : ℕ) → 0 < times_had q entries → IsLiveQueue queues q
  pub empty : (q : ℕ) → 0 < times q ready → queue_at queues q ≡ Some []
  pub order : AreInOrder (mailboxes_of entries queues)
  pub all : all_pending (mailboxes_of entries queues) + spare ≡ room

abbrev pub IsStore : Store → (room : ℕ) → Type 0
IsStore s room = AreKept s.queues.items s.ready.items s.pool.0 s.pool.1 room

-- the mailboxes that a store holds
abbrev pub shown_in : Store → List (Option Mailbox)
shown_in s = mailboxes_of s.queues.items s.pool.0
