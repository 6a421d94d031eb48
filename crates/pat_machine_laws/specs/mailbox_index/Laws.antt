-- Laws of pending messages that are kept by mailbox.
use Rattle.std.specs.Prelude.{◌≡◌, ℕ, ◌<◌, Bool, ◌&&◌, not, nat_eq, List, [], ◌∷◌, ◌++◌, length, Option, Some, None, filter, find, slice_get, slice_set, remove, is_some, IsTrue}
use Rattle.std.specs.List.{AllByRecursion, list_any}
use Rattle.pat_semantics_spec.specs.Programs.{is_among}
use Rattle.pat_semantics_spec.specs.Configs.{Message, has_pending}
use Rattle.pat_semantics_spec.specs.Orders.{AscendsFrom}
use Rattle.pat_machine_laws.specs.mailbox_index.Pending.{listed, messages_of, live_of, count_of, found, box_at, pending_at, OwnsInOrder, AreDistinct, AreKept}

-- none are kept at the start
abbrev pub StartIsKept : Type 0
StartIsKept = AreKept []

-- a further live mailbox with no message changes no messages, and is the last one that is live
pub record IsMade (boxes : List (Option (List Message))) : Type 0 where
  pub messages : messages_of (boxes ++ Some [] ∷ []) ≡ messages_of boxes
  pub live : live_of (boxes ++ Some [] ∷ []) ≡ live_of boxes ++ length boxes ∷ []
  pub kept : AreKept boxes → AreKept (boxes ++ Some [] ∷ [])

abbrev pub MakesLast : Type 0
MakesLast = (boxes : List (Option (List Message))) → IsMade boxes

-- the mailboxes where this one has a further message
abbrev pub sent : List (Option (List Message)) → (b : ℕ) → Message → List (Option (List Message))
sent boxes b m = slice_set boxes b (Some (pending_at boxes b ++ m ∷ []))

-- a message of a number above all others comes last
pub record IsSent (boxes : List (Option (List Message))) (b : ℕ) (m : Message) : Type 0 where
  pub messages : messages_of (sent boxes b m) ≡ messages_of boxes ++ m ∷ []
  pub live : live_of (sent boxes b m) ≡ live_of boxes
  pub kept : m.mailbox ≡ b → AreKept boxes → AreKept (sent boxes b m)

abbrev pub SendsLast : Type 0
SendsLast = (boxes : List (Option (List Message))) (b : ℕ) (m : Message) → IsTrue (is_some (box_at boxes b)) → AllByRecursion (λ n. n.number < m.number) (messages_of boxes) → IsSent boxes b m

-- and so it is the last one, however the list is taken apart
abbrev pub LastIsSent : Type 0
LastIsSent =
    (boxes : List (Option (List Message))) (b : ℕ) (m : Message) → IsTrue (is_some (box_at boxes b)) → AllByRecursion (λ n. n.number < m.number) (messages_of boxes)
    → (ns : List Message) (n : Message) → messages_of (sent boxes b m) ≡ ns ++ n ∷ [] → n ≡ m

-- the mailboxes where this one lacks the message at a place
abbrev pub taken : List (Option (List Message)) → (b i : ℕ) → List (Option (List Message))
taken boxes b i = slice_set boxes b (Some (remove (pending_at boxes b) i))

-- the message that is taken, and no other, goes out of all messages
pub record IsTaken (boxes : List (Option (List Message))) (b i : ℕ) (m : Message) : Type 0 where
  pub messages : messages_of (taken boxes b i) ≡ filter (λ n. not (nat_eq n.number m.number)) (messages_of boxes)
  pub live : live_of (taken boxes b i) ≡ live_of boxes
  pub kept : OwnsInOrder boxes → AreKept (taken boxes b i)

abbrev pub TakesOne : Type 0
TakesOne = (boxes : List (Option (List Message))) (b i : ℕ) (m : Message) → AreDistinct boxes → slice_get (pending_at boxes b) i ≡ Some m → IsTaken boxes b i m

-- a mailbox with no message that is no longer live changes no messages
pub record IsFreed (boxes : List (Option (List Message))) (b : ℕ) : Type 0 where
  pub messages : messages_of (slice_set boxes b None) ≡ messages_of boxes
  pub live : live_of (slice_set boxes b None) ≡ filter (λ a. not (nat_eq a b)) (live_of boxes)
  pub kept : AreKept boxes → AreKept (slice_set boxes b None)

abbrev pub FreesOne : Type 0
FreesOne = (boxes : List (Option (List Message))) (b : ℕ) → pending_at boxes b ≡ [] → IsFreed boxes b

-- a live mailbox with the messages that it has changes nothing
abbrev pub SameStays : Type 0
SameStays = (boxes : List (Option (List Message))) (b : ℕ) → IsTrue (is_some (box_at boxes b)) → slice_set boxes b (Some (pending_at boxes b)) ≡ boxes

-- the messages of a mailbox are those of all messages that are pending in it
abbrev pub OwnArePending : Type 0
OwnArePending = (boxes : List (Option (List Message))) (b : ℕ) → OwnsInOrder boxes → filter (λ m. nat_eq m.mailbox b) (messages_of boxes) ≡ pending_at boxes b

-- the first message of a mailbox that passes a test is the first of its own that does
abbrev pub FirstPendingIsOwn : Type 0
FirstPendingIsOwn =
    (boxes : List (Option (List Message))) (b : ℕ) (test : Message → Bool) → OwnsInOrder boxes → find (λ m. nat_eq m.mailbox b && test m) (messages_of boxes) ≡ find test (pending_at boxes b)

-- and so is the first of all messages, where none of another mailbox passes
abbrev pub FirstIsOwn : Type 0
FirstIsOwn =
    (boxes : List (Option (List Message))) (b : ℕ) (test : Message → Bool) → OwnsInOrder boxes → ((m : Message) → IsTrue (test m) → m.mailbox ≡ b)
    → find test (messages_of boxes) ≡ find test (pending_at boxes b)

-- and so it is where each is tested by its number
abbrev pub FirstByNumberIsOwn : Type 0
FirstByNumberIsOwn =
    (boxes : List (Option (List Message))) (b : ℕ) (test : Option Message → Bool) → AreKept boxes → ((m : Message) → IsTrue (test (Some m)) → m.mailbox ≡ b)
    → find (λ m. test (found (messages_of boxes) m.number)) (messages_of boxes) ≡ find (λ m. test (found (pending_at boxes b) m.number)) (pending_at boxes b)

-- a message is pending in a mailbox where that has one of its own
abbrev pub PendingIsOwn : Type 0
PendingIsOwn = (boxes : List (Option (List Message))) (b : ℕ) → OwnsInOrder boxes → has_pending b (messages_of boxes) ≡ not (nat_eq (length (pending_at boxes b)) 0)

-- a test passes at some message where it does at one of some mailbox
abbrev pub AnyIsOwn : Type 0
AnyIsOwn = (boxes : List (Option (List Message))) (test : Message → Bool) → list_any test (messages_of boxes) ≡ list_any (λ o. list_any test (listed o)) boxes

-- what all numbers are below, those of a mailbox are below
abbrev pub OwnAreBelow : Type 0
OwnAreBelow = (boxes : List (Option (List Message))) (b n : ℕ) → AllByRecursion (λ m. m.number < n) (messages_of boxes) → AllByRecursion (λ m. m.number < n) (pending_at boxes b)

-- the live ones are listed
abbrev pub LiveIsListed : Type 0
LiveIsListed = (boxes : List (Option (List Message))) (b : ℕ) → is_among b (live_of boxes) ≡ is_some (box_at boxes b)

-- in order, and below the next number
abbrev pub LiveAscend : Type 0
LiveAscend = (boxes : List (Option (List Message))) → AscendsFrom 0 (live_of boxes) × AllByRecursion (λ a. a < length boxes) (live_of boxes)

-- each message is counted once
abbrev pub AllAreCounted : Type 0
AllAreCounted = (boxes : List (Option (List Message))) → length (messages_of boxes) ≡ count_of boxes

-- the message of a number in a mailbox is that of the number
abbrev pub OwnIsFound : Type 0
OwnIsFound = (boxes : List (Option (List Message))) (b k : ℕ) (m : Message) → AreDistinct boxes → found (pending_at boxes b) k ≡ Some m → found (messages_of boxes) k ≡ Some m

-- and so is the one at a place
abbrev pub PlaceIsFound : Type 0
PlaceIsFound = (boxes : List (Option (List Message))) (b i : ℕ) (m : Message) → AreDistinct boxes → slice_get (pending_at boxes b) i ≡ Some m → found (messages_of boxes) m.number ≡ Some m

-- the message of a number is one of its mailbox's own
abbrev pub FoundIsOwn : Type 0
FoundIsOwn = (boxes : List (Option (List Message))) (k : ℕ) (m : Message) → OwnsInOrder boxes → found (messages_of boxes) k ≡ Some m → found (pending_at boxes m.mailbox) k ≡ Some m
