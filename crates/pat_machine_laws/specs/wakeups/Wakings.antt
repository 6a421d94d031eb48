-- What a thread's next step looks at beside the thread itself, and which other threads a step may wake.
use Rattle.std.specs.Prelude.{◌≡◌, ℕ, ◌+◌, Bool, false, ◌&&◌, ◌||◌, not, [], ◌∷◌, ◌++◌, Option, Some, None, IsTrue, IsFalse, ◌⊎◌}
use Rattle.pat_semantics_spec.specs.Values.{Value, Mailbox, value_at}
use Rattle.pat_semantics_spec.specs.Programs.{Program, Guard, Send, is_among}
use Rattle.pat_semantics_spec.specs.Configs.{Thread, Message, Config, thread_at, thread_refers, message_refers, has_pending, is_reached_by_none_but}
use Rattle.pat_semantics_spec.specs.Steps.{Redex, At, redex, Act, ActSend, ActSpawn, ActFree, ActReceive, message_at}
use Rattle.pat_semantics_spec.specs.Runs.{can_step_thread}
use Rattle.pat_semantics_laws.specs.Laws.{IsEnabled}
use Rattle.pat_machine_spec.specs.Opens.{has_space, can_send}

-- the mailbox that the value is, if it is one
abbrev pub mailbox_in : Option Value → Option ℕ
mailbox_in (Some (Mailbox a)) = Some a
mailbox_in _ = None

-- the mailbox of the guard that stands there
abbrev pub guarded_at : Redex → Option ℕ
guarded_at (At (Guard x e free cs) env) = mailbox_in (value_at env x)
guarded_at _ = None

-- the mailbox whose guard the thread stands at
abbrev pub guarded : Program → Thread → Option ℕ
guarded p s = guarded_at (redex p s.control)

-- the mailbox of the send that stands there
abbrev pub target_at : Redex → Option ℕ
target_at (At (Send x m args) env) = mailbox_in (value_at env x)
target_at _ = None

-- the mailbox that the thread is to send to
abbrev pub target : Program → Thread → Option ℕ
target p s = target_at (redex p s.control)

-- thread u stands at a guard on mailbox a
abbrev pub Guards : Program → Config → (u a : ℕ) → Type 0
Guards p c u a = (s : Thread) × (thread_at c u ≡ Some s) × (guarded p s ≡ Some a)

-- whether thread u may free mailbox a, where it stands at a guard on it that has a clause for that
abbrev pub may_free : Config → (a u : ℕ) → Bool
may_free c a u = is_among a c.live && (not (has_pending a c.messages) && is_reached_by_none_but c a u)

-- to thread u, at a guard on mailbox a, configuration d offers nothing that c doesn't
pub record OffersNoMore (c d : Config) (u a : ℕ) : Type 0 where
  pub messages : (k : ℕ) (m : Message) → message_at d k ≡ Some m → m.mailbox ≡ a → message_at c k ≡ Some m
  pub free : IsTrue (may_free d a u) → IsTrue (may_free c a u)

-- whether the thread, if it is there, refers to the mailbox
abbrev pub is_named_by : ℕ → Option Thread → Bool
is_named_by a None = false
is_named_by a (Some s) = thread_refers a s

-- whether the message, if it is there, refers to the mailbox
abbrev pub is_brought_by : ℕ → Option Message → Bool
is_brought_by a None = false
is_brought_by a (Some m) = message_refers a m

-- whether the message that the act receives refers to the mailbox
abbrev pub brings : Config → Option Act → ℕ → Bool
brings c (Some (ActReceive k)) a = is_brought_by a (message_at c k)
brings c _ a = false

-- why thread u may be able to step in d and not in c, where thread t, which was r, came to be s by itself, and then took the shared act, if there is one:
-- it was spawned, its guard's mailbox got a message, or thread t let that mailbox's name go, which it or the message that it received had
pub data IsWoken (p : Program) (c : Config) (t : ℕ) (r s : Thread) (act : Option Act) (d : Config) (u : ℕ) : Type 0 where
  spawned : act ≡ Some ActSpawn → u ≡ c.next_thread → IsWoken p c t r s act d u
  sent_to : (m : Message) → act ≡ Some ActSend → target p s ≡ Some m.mailbox → d.messages ≡ c.messages ++ m ∷ [] → Guards p c u m.mailbox → IsWoken p c t r s act d u
  let_go : (a : ℕ) → Guards p c u a → IsTrue (thread_refers a r || (thread_refers a s || brings c act a)) → IsFalse (is_named_by a (thread_at d t)) → IsWoken p c t r s act d u

-- thread u stands at a send, for which a receive made space
pub record GotSpace (p : Program) (limit : ℕ) (c : Config) (act : Option Act) (d : Config) (u : ℕ) : Type 0 where
  pub message : ℕ
  pub received : act ≡ Some (ActReceive message)
  pub none : IsFalse (has_space c limit)
  pub some : IsTrue (has_space d limit)
  pub sends : IsTrue (can_send p c u)

-- thread u waits at the guard of mailbox a, and has no enabled step
pub record IsWaiting (p : Program) (c : Config) (u a : ℕ) : Type 0 where
  pub thread : Thread
  pub there : thread_at c u ≡ Some thread
  pub awaits : guarded p thread ≡ Some a
  pub still : IsFalse (can_step_thread p c u)

-- the act sent a message to mailbox a, and thread u may receive that now
pub record SendsTo (p : Program) (c : Config) (act : Option Act) (d : Config) (u a : ℕ) : Type 0 where
  pub sent : act ≡ Some ActSend
  pub message : Message
  pub last : d.messages ≡ c.messages ++ message ∷ []
  pub next : message.number + 1 ≡ d.next_message
  pub mailbox : message.mailbox ≡ a
  pub receives : IsEnabled p d (record { thread = u; act = ActReceive message.number })

-- thread t, which was r, let go the name of mailbox a, which it had or the act's message brought; and thread u may free that now
pub record LetsGo (p : Program) (c : Config) (t : ℕ) (r : Thread) (act : Option Act) (d : Config) (u a : ℕ) : Type 0 where
  pub had : IsTrue (thread_refers a r) ⊎ IsTrue (brings c act a)
  pub gone : IsFalse (is_named_by a (thread_at d t))
  pub free : IsEnabled p d (record { thread = u; act = ActFree })
