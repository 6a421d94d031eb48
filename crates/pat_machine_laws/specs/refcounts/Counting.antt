-- Mailboxes that are counted by how often they are named, and what a guard that may free one hangs on.
use Rattle.std.specs.Prelude.{◌≡◌, ℕ, ◌+◌, Bool, true, false, List, [], ◌∷◌, length, get_or, Option, Some, None, nat_eq}
use Rattle.pat_semantics_spec.specs.Values.{value_at}
use Rattle.pat_semantics_spec.specs.Programs.{Program, Guard, is_among}
use Rattle.pat_semantics_spec.specs.Configs.{Thread, Message, Config, thread_at, has_pending, is_reached_by_none_but}
use Rattle.pat_semantics_spec.specs.Steps.{Act, ActSend, ActSpawn, ActReceive, Redex, At, redex, message_at}
use Rattle.pat_machine_spec.specs.Tops.{top_of}
use Rattle.pat_machine_laws.specs.wakeups.Wakings.{mailbox_in}
use Rattle.pat_machine_laws.specs.refcounts.Naming.{times_in_control, times_in_thread, times_in_message, times_in}

-- how often the list says that a mailbox is named
abbrev pub count_at : List ℕ → ℕ → ℕ
count_at ns a = get_or ns a 0

-- the list says of each mailbox that was made how often it is named, but for what these names are
pub record AreCountedBut (but : ℕ → ℕ) (ns : List ℕ) (c : Config) : Type 0 where
  pub whole : length ns ≡ c.next_mailbox
  pub times : (a : ℕ) → count_at ns a + but a ≡ times_in a c

-- the list says of each mailbox that was made how often it is named
abbrev pub AreCounted : List ℕ → Config → Type 0
AreCounted ns c = AreCountedBut (λ a. 0) ns c

-- the mailbox of the guard that stands there, where it has a clause for freeing it
abbrev pub freed_at : Redex → Option ℕ
freed_at (At (Guard x e (Some n) cs) env) = mailbox_in (value_at env x)
freed_at _ = None

-- the mailbox that the thread frees as soon as it may
abbrev pub freed : Program → Thread → Option ℕ
freed p s = freed_at (redex p s.control)

-- the answer says whether nothing but thread t, which is s, reaches the mailbox that it may free, where that is live and has no message
abbrev pub TellsAlone : Program → Config → (t : ℕ) → Thread → Bool → Type 0
TellsAlone p c t s alone = (a : ℕ) → freed p s ≡ Some a → is_among a c.live ≡ true → has_pending a c.messages ≡ false → is_reached_by_none_but c a t ≡ alone

-- whether the mailbox, if there is one, is named so often, and not more often
abbrev pub is_named_just : List ℕ → (ℕ → ℕ) → Option ℕ → Bool
is_named_just ns times None = false
is_named_just ns times (Some a) = nat_eq (count_at ns a) (times a)

-- whether the thread's control alone names the mailbox that it may free
abbrev pub is_named_by_control : Program → List ℕ → Thread → Bool
is_named_by_control p ns s = is_named_just ns (λ a. times_in_control a s.control) (freed p s)

-- whether nothing that is counted names the mailbox that it may free
abbrev pub is_unnamed : Program → List ℕ → Thread → Bool
is_unnamed p ns s = is_named_just ns (λ a. 0) (freed p s)

-- the counts tell of each thread whether it may free its mailbox
abbrev pub TellOfEach : Program → Config → List ℕ → Type 0
TellOfEach p c ns = (t : ℕ) (s : Thread) → thread_at c t ≡ Some s → TellsAlone p c t s (is_named_by_control p ns s)

-- how often a message names a mailbox, if it is there
abbrev pub times_if_message : ℕ → Option Message → ℕ
times_if_message a None = 0
times_if_message a (Some m) = times_in_message a m

-- how often a thread names it, if it is there
abbrev pub times_if_thread : ℕ → Option Thread → ℕ
times_if_thread a None = 0
times_if_thread a (Some s) = times_in_thread a s

-- how often the top of a thread names it, if it is there
abbrev pub times_if_top : (n a : ℕ) → Option Thread → ℕ
times_if_top n a None = 0
times_if_top n a (Some s) = times_in_thread a (top_of n s)

-- the message that was sent last, if one is pending
abbrev pub last_message : List Message → Option Message
last_message [] = None
last_message (m ∷ []) = Some m
last_message (m ∷ n ∷ ms) = last_message (n ∷ ms)

-- how often what an act takes out of the configuration besides its thread names the mailbox: the message that is received
abbrev pub times_gone : Config → Option Act → ℕ → ℕ
times_gone c (Some (ActReceive k)) a = times_if_message a (message_at c k)
times_gone c _ a = 0

-- how often what an act from c to d puts there besides its thread names it: the message that is sent, or the thread that is spawned
abbrev pub times_come : Config → Config → Option Act → ℕ → ℕ
times_come c d (Some ActSend) a = times_if_message a (last_message d.messages)
times_come c d (Some ActSpawn) a = times_if_thread a (thread_at d c.next_thread)
times_come c d _ a = 0
