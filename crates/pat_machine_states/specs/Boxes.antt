-- A configuration whose messages are kept by mailbox.
use Rattle.std.specs.Prelude.{◌≡◌, ℕ, ◌+◌, ◌<◌, nat_eq, List, [], filter, length, map, Option, Some, is_some}
use Rattle.std.specs.List.{AllByRecursion}
use Rattle.pat_semantics_spec.specs.Programs.{is_among}
use Rattle.pat_semantics_spec.specs.Configs.{Message, Config}
use Rattle.pat_reduce.specs.threads.ThreadViews.{message_view}
use Rattle.pat_machine_laws.specs.mailbox_index.Pending.{messages_of, live_of, AreKept}
use Rattle.pat_machine_indexes.specs.messages.Mailboxes.{Mailbox, all_pending, mailbox_at, pending_at}
use Rattle.pat_machine_indexes.specs.messages.Boxes.{boxes_view}

-- the configuration, with the messages that are kept by mailbox, and the mailboxes that are live
abbrev pub state_view : Config → List (Option Mailbox) → Config
state_view c ms = record c { messages = messages_of (boxes_view ms); live = live_of (boxes_view ms) }

-- the message that was sent last is pending in this mailbox, if it is pending
abbrev pub IsLatest : Option ℕ → Config → Type 0
IsLatest latest c = AllByRecursion (λ m. m.number + 1 ≡ c.next_message → latest ≡ Some m.mailbox) c.messages

-- the mailboxes are those of the configuration
pub record AreOf (c : Config) (latest : Option ℕ) (boxes : List (Option (List Message))) : Type 0 where
  pub numbered : length boxes ≡ c.next_mailbox
  pub kept : AreKept boxes
  pub last : IsLatest latest c

-- what holds of a configuration whose messages are kept by mailbox, and which has no message and live mailbox besides
pub record IsState (c : Config) (latest : Option ℕ) (ms : List (Option Mailbox)) : Type 0 where
  pub messages : c.messages ≡ []
  pub live : c.live ≡ []
  pub boxes : AreOf (state_view c ms) latest (boxes_view ms)

-- what contracts see: the configuration, and how many places there are for pending messages
pub record Indexed : Type 0 where
  pub config : Config
  pub places : ℕ

-- where one more message may be pending, there is a place for it
abbrev pub HasPlace : Indexed → (limit : ℕ) → Type 0
HasPlace s limit = length s.config.messages < limit → length s.config.messages < s.places

-- the mailboxes that are live are those of the configuration, each has its messages that are pending there, in order, and there are no others
pub record AreMailboxesOf (c : Config) (ms : List (Option Mailbox)) : Type 0 where
  pub live : (b : ℕ) → is_some (mailbox_at ms b) ≡ is_among b c.live
  pub pending : (b : ℕ) → map message_view (pending_at ms b) ≡ filter (λ m. nat_eq m.mailbox b) c.messages
  pub all : all_pending ms ≡ length c.messages
