-- Which threads of a configuration are noted: they may go on, are about to send, or sleep at a guard that they can't step from.
use Rattle.std.specs.Prelude.{◌≡◌, ℕ, ◌+◌, List, [], ◌∷◌, ◌++◌, Some, Option, IsTrue, IsFalse, ◌⊎◌}
use Rattle.pat_semantics_spec.specs.Programs.{Program, is_among}
use Rattle.pat_semantics_spec.specs.Configs.{Thread, Message, Config, thread_at, with_thread, thread_refers}
use Rattle.pat_semantics_spec.specs.Orders.{IsOrdered}
use Rattle.pat_semantics_spec.specs.Steps.{Act, ActFree, ActReceive, message_at}
use Rattle.pat_semantics_spec.specs.Runs.{run_from, shared_step}
use Rattle.pat_semantics_laws.specs.Laws.{IsEnabled}
use Rattle.pat_machine_spec.specs.Commits.{locally}
use Rattle.pat_machine_laws.specs.wakeups.Senders.{is_about_to_send}
use Rattle.pat_machine_laws.specs.wakeups.Wakings.{is_named_by, is_brought_by, IsWaiting, LetsGo}
use Rattle.pat_machine_indexes.specs.declared.ready_sets.waits.ReadySets.{ReadySets}
use Rattle.pat_machine_indexes.specs.ready_sets.ReadySets.{sleeper_at, IsAwake, SleepsAt, Ascend, IsInOrder, HasSpace, CanHold, Takes}

-- thread u waits at a mailbox, and sleeps there
pub record IsAsleep (p : Program) (c : Config) (sleepers : List (Option ℕ)) (u : ℕ) : Type 0 where
  pub mailbox : ℕ
  pub waiting : IsWaiting p c u mailbox
  pub asleep : sleeper_at sleepers mailbox ≡ Some u

-- thread u, which is q, is about to send and stands among those that are
pub record IsSender (p : Program) (senders : List ℕ) (u : ℕ) (q : Thread) : Type 0 where
  pub held : IsTrue (is_among u senders)
  pub sends : IsTrue (is_about_to_send p q)

-- thread u, if it is there, may go on, is about to send, or sleeps
abbrev pub IsNotedIn : Program → Config → (awake senders : List ℕ) → List (Option ℕ) → ℕ → Type 0
IsNotedIn p c awake senders sleepers u = (q : Thread) → thread_at c u ≡ Some q → IsTrue (is_among u awake) ⊎ IsSender p senders u q ⊎ IsAsleep p c sleepers u

abbrev pub IsNoted : Program → Config → ReadySets → ℕ → Type 0
IsNoted p c w u = IsNotedIn p c w.awake.numbers.items w.senders.numbers.items w.sleepers.items u

-- each thread does
pub record AreNoted (p : Program) (c : Config) (awake senders : List ℕ) (sleepers : List (Option ℕ)) : Type 0 where
  pub order : Ascend awake senders
  pub all : (u : ℕ) → IsNotedIn p c awake senders sleepers u

-- thread t went on by itself and took the shared act, if there is one
pub record WentOn (p : Program) (t : ℕ) (act : Option Act) (newcomer : ℕ) (d : Config) : Type 0 where
  pub before : Config
  pub kept : Thread
  pub middle : Thread
  pub steps : ℕ
  pub ordered : IsOrdered before
  pub there : thread_at before t ≡ Some kept
  pub local : locally p steps kept ≡ Some middle
  pub run : run_from p (with_thread before t middle) (shared_step t act) ≡ Some d
  pub next : newcomer ≡ before.next_thread

-- each thread was noted before thread t went on; whose names it let go since is in the list, but for what the message that it received had
pub record WereNoted (p : Program) (w : ReadySets) (t : ℕ) (act : Option Act) (newcomer : ℕ) (d : Config) (named : List ℕ) (received : Option Message) : Type 0 where
  pub went : WentOn p t act newcomer d
  pub noted : AreNoted p went.before w.awake.numbers.items w.senders.numbers.items w.sleepers.items
  pub listed : (a : ℕ) → IsTrue (thread_refers a went.kept) → IsFalse (is_named_by a (thread_at d t)) → IsTrue (is_among a named)
  pub brought : (k : ℕ) → act ≡ Some (ActReceive k) → received ≡ message_at went.before k

-- thread u may free the mailbox of its guard
abbrev pub Frees : Program → Config → ℕ → Type 0
Frees p d u = IsEnabled p d (record { thread = u; act = ActFree })

-- thread u may free mailbox a, which is listed or among the values of the message
abbrev pub FreesListed : Program → Config → List ℕ → Option Message → (a u : ℕ) → Type 0
FreesListed p d named received a u = (IsTrue (is_among a named) ⊎ IsTrue (is_brought_by a received)) × Frees p d u

-- each thread was noted before thread t went on, and those that may free a mailbox since it let the name go may go on
pub record WereWoken (p : Program) (w : ReadySets) (t : ℕ) (act : Option Act) (newcomer : ℕ) (d : Config) : Type 0 where
  pub went : WentOn p t act newcomer d
  pub noted : AreNoted p went.before w.awake.numbers.items w.senders.numbers.items w.sleepers.items
  pub woken : (a u : ℕ) → LetsGo p went.before t went.kept act d u a → SleepsAt w a u → IsAwake w u

-- the message that was sent last is pending in mailbox a, and thread u may receive it
pub record IsReady (p : Program) (d : Config) (a u : ℕ) : Type 0 where
  pub front : List Message
  pub message : Message
  pub last : d.messages ≡ front ++ message ∷ []
  pub next : message.number + 1 ≡ d.next_message
  pub mailbox : message.mailbox ≡ a
  pub receives : IsEnabled p d (record { thread = u; act = ActReceive message.number })

-- thread t is noted as it stands now, and all others that were noted are
pub record Settles (p : Program) (d : Config) (w : ReadySets) (t : ℕ) (v : ReadySets) : Type 0 where
  pub order : IsInOrder v
  pub own : IsNoted p d v t
  pub others : (u : ℕ) → (u ≡ t → ⊥) → IsNoted p d w u → IsNoted p d v u
  pub space : Takes 1 w v

-- each thread but t is noted, and there is space for one more that may go on or is about to send
pub record Follows (p : Program) (d : Config) (w : ReadySets) (t : ℕ) : Type 0 where
  pub order : IsInOrder w
  pub others : (u : ℕ) → (t ≡ u → ⊥) → IsNoted p d w u
  pub space : HasSpace w 1
  pub hold : CanHold w 1
