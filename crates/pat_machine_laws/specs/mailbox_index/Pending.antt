-- Pending messages that are kept by mailbox, and the list of all of them.
use Rattle.std.specs.Prelude.{◌≡◌, ℕ, suc, ◌+◌, nat_eq, nat_lt, if◌then◌else◌, List, [], ◌∷◌, ◌++◌, map, length, Option, Some, None, find, slice_get}
use Rattle.std.specs.Option.{unwrap_or}
use Rattle.std.specs.List.{AllByRecursion}
use Rattle.pat_semantics_spec.specs.Configs.{Message}
use Rattle.pat_semantics_spec.specs.Orders.{AscendsFrom}

-- the list with one more message, before the first one of a greater number
abbrev pub insert : Message → List Message → List Message
insert m [] = m ∷ []
insert m (n ∷ ns) = if nat_lt m.number n.number then m ∷ n ∷ ns else n ∷ insert m ns

-- the messages in ascending order of number
abbrev pub in_order : List Message → List Message
in_order [] = []
in_order (m ∷ ms) = insert m (in_order ms)

-- the messages of a mailbox, if it is live
abbrev pub listed : Option (List Message) → List Message
listed None = []
listed (Some ms) = ms

-- the messages of all mailboxes, those of one after those of another
abbrev pub all_of : List (Option (List Message)) → List Message
all_of [] = []
all_of (o ∷ boxes) = listed o ++ all_of boxes

-- the messages of all mailboxes, in ascending order of number: those of a configuration
abbrev pub messages_of : List (Option (List Message)) → List Message
messages_of boxes = in_order (all_of boxes)

-- the numbers of the live mailboxes, where the first one has number n
abbrev pub live_from : ℕ → List (Option (List Message)) → List ℕ
live_from n [] = []
live_from n (None ∷ boxes) = live_from (suc n) boxes
live_from n (Some ms ∷ boxes) = n ∷ live_from (suc n) boxes

-- the numbers of the live mailboxes, in ascending order: those of a configuration
abbrev pub live_of : List (Option (List Message)) → List ℕ
live_of boxes = live_from 0 boxes

-- how many messages are pending
abbrev pub count_of : List (Option (List Message)) → ℕ
count_of [] = 0
count_of (o ∷ boxes) = length (listed o) + count_of boxes

-- the message of a number
abbrev pub found : List Message → ℕ → Option Message
found ms k = find (λ m. nat_eq k m.number) ms

-- the messages of the mailbox of a number, if that is live
abbrev pub box_at : List (Option (List Message)) → ℕ → Option (List Message)
box_at boxes b = unwrap_or (slice_get boxes b) None

-- what is pending in a mailbox
abbrev pub pending_at : List (Option (List Message)) → ℕ → List Message
pending_at boxes b = listed (box_at boxes b)

-- the numbers of the messages ascend
abbrev pub Ascend : List Message → Type 0
Ascend ms = AscendsFrom 0 (map (λ m. m.number) ms)

-- the messages are pending in mailbox b, in ascending order of number
pub record IsOwn (b : ℕ) (ms : List Message) : Type 0 where
  pub ascends : Ascend ms
  pub own : AllByRecursion (λ m. m.mailbox ≡ b) ms

-- each mailbox has its own messages, in ascending order of number
abbrev pub OwnsInOrder : List (Option (List Message)) → Type 0
OwnsInOrder boxes = (b : ℕ) → IsOwn b (pending_at boxes b)

-- no number stands twice among all messages
abbrev pub AreDistinct : List (Option (List Message)) → Type 0
AreDistinct boxes = Ascend (messages_of boxes)

-- mailboxes as a configuration's messages are kept in them
pub record AreKept (boxes : List (Option (List Message))) : Type 0 where
  pub own : OwnsInOrder boxes
  pub distinct : AreDistinct boxes
