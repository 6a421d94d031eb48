-- Live mailboxes with their pending messages.
use Rattle.std.specs.Prelude.{◌≡◌, ℕ, ◌+◌, ◌<◌, List, [], ◌∷◌, length, Option, Some, None, slice_get}
use Rattle.std.specs.Option.{unwrap_or}
use Rattle.std.specs.List.{AllByRecursion}
use Rattle.pat_reduce.specs.declared.threads.state.Message.{Message}

-- the messages that are pending in a mailbox
pub record Mailbox : Type 0 where
  pub pending : List Message

-- the mailboxes by number, how many messages may be pending, and for how many further mailboxes there is room
pub record Contents : Type 0 where
  pub mailboxes : List (Option Mailbox)
  pub room : ℕ
  pub spare : ℕ

-- the mailbox of a number, if that is live
abbrev pub mailbox_at : List (Option Mailbox) → ℕ → Option Mailbox
mailbox_at ms b = unwrap_or (slice_get ms b) None

abbrev pub IsLive : List (Option Mailbox) → ℕ → Type 0
IsLive ms b = (m : Mailbox) × (mailbox_at ms b ≡ Some m)

abbrev pub pending_in : Option Mailbox → List Message
pending_in None = []
pending_in (Some m) = m.pending

-- what is pending in a mailbox
abbrev pub pending_at : List (Option Mailbox) → ℕ → List Message
pending_at ms b = pending_in (mailbox_at ms b)

-- how many messages are pending
abbrev pub all_pending : List (Option Mailbox) → ℕ
all_pending [] = 0
all_pending (o ∷ ms) = length (pending_in o) + all_pending ms

-- in ascending order of number
abbrev pub Ascend : List Message → Type 0
Ascend [] = Unit {0}
Ascend (m ∷ ms) = AllByRecursion (λ n. m.number < n.number) ms × Ascend ms

-- the messages of a mailbox are its own, in order of number
pub record IsInOrder (b : ℕ) (messages : List Message) : Type 0 where
  pub ascend : Ascend messages
  pub own : AllByRecursion (λ m. m.mailbox ≡ b) messages

abbrev pub AreInOrder : List (Option Mailbox) → Type 0
AreInOrder ms = (b : ℕ) → IsInOrder b (pending_at ms b)
