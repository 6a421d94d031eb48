-- Laws of how often mailboxes are named: what the number decides, what changes of a configuration do to it, what typed configurations name, and how often at most.
use Rattle.std.specs.Prelude.{◌≡◌, ℕ, ◌+◌, ◌<◌, ◌≤◌, true, false, Option, List, [], ◌∷◌, ◌++◌, length, Some, nat_eq, IsTrue, ◌↔◌}
use Rattle.pat_semantics_spec.specs.Values.{Value, Env}
use Rattle.pat_semantics_spec.specs.Programs.{Program, is_among}
use Rattle.pat_semantics_spec.specs.WellFormed.{WellFormed}
use Rattle.pat_semantics_spec.specs.Configs.{Frame, Thread, Message, Config, thread_at, with_thread, start, thread_refers, message_refers, has_pending, is_reached_by_none_but}
use Rattle.pat_semantics_spec.specs.Orders.{IsOrdered}
use Rattle.pat_semantics_spec.specs.Steps.{Act, message_at, without_message, without_thread, Step}
use Rattle.pat_semantics_spec.specs.Runs.{Entry, IsSharedOrNone, run_from, shared_step, replay, step_count}
use Rattle.pat_machine_spec.specs.Tops.{top_of, below, over}
use Rattle.pat_machine_spec.specs.Lendings.{Out}
use Rattle.pat_machine_spec.specs.Machines.{IsTypedBySome, MachineInvariant}
use Rattle.pat_machine_laws.specs.refcounts.Naming.{times_in_values, times_in_env, times_in_frames, times_in_thread, times_in_message, times_in, parts_in}
use Rattle.pat_machine_laws.specs.refcounts.Counting.{count_at, AreCounted, AreCountedBut, freed, TellsAlone, TellOfEach, is_unnamed, times_if_thread, times_if_top, times_gone, times_come}

-- a thread refers to a mailbox exactly where it names it at least once
abbrev pub ThreadRefersIsNamed : Type 0
ThreadRefersIsNamed = (a : ℕ) (s : Thread) → IsTrue (thread_refers a s) ↔ (0 < times_in_thread a s)

-- and so does a message
abbrev pub MessageRefersIsNamed : Type 0
MessageRefersIsNamed = (a : ℕ) (m : Message) → IsTrue (message_refers a m) ↔ (0 < times_in_message a m)

-- nothing but thread t reaches a mailbox exactly where it is named as often as this thread names it
abbrev pub ReachedAloneIsCounted : Type 0
ReachedAloneIsCounted =
    (c : Config) (a t : ℕ) (s : Thread) → IsOrdered c → thread_at c t ≡ Some s → IsTrue (is_reached_by_none_but c a t) ↔ (times_in a c ≡ times_in_thread a s)

-- and the tests say the same
abbrev pub ReachedAloneTest : Type 0
ReachedAloneTest = (c : Config) (a t : ℕ) (s : Thread) → IsOrdered c → thread_at c t ≡ Some s → is_reached_by_none_but c a t ≡ nat_eq (times_in a c) (times_in_thread a s)

-- where one thread is exchanged, what it named goes, and what the new one names comes
abbrev pub ExchangedThreadCounts : Type 0
ExchangedThreadCounts =
    (c : Config) (a t : ℕ) (s r : Thread) → thread_at c t ≡ Some s → times_in a (with_thread c t r) + times_in_thread a s ≡ times_in a c + times_in_thread a r

-- of values, environments and frames that are joined, both parts count
abbrev pub JoinedValuesCount : Type 0
JoinedValuesCount = (a : ℕ) (vs ws : List Value) → times_in_values a (vs ++ ws) ≡ times_in_values a vs + times_in_values a ws

abbrev pub JoinedEnvsCount : Type 0
JoinedEnvsCount = (a : ℕ) (env more : Env) → times_in_env a (env ++ more) ≡ times_in_env a env + times_in_env a more

abbrev pub JoinedFramesCount : Type 0
JoinedFramesCount = (a : ℕ) (fs gs : List Frame) → times_in_frames a (fs ++ gs) ≡ times_in_frames a fs + times_in_frames a gs

-- what lies below a thread is named besides
abbrev pub OverCounts : Type 0
OverCounts = (a : ℕ) (r : Thread) (rest : List Frame) → times_in_thread a (over r rest) ≡ times_in_thread a r + times_in_frames a rest

-- a thread names what its top and the frames below it name
abbrev pub TopCounts : Type 0
TopCounts = (a n : ℕ) (s : Thread) → times_in_thread a s ≡ times_in_thread a (top_of n s) + times_in_frames a (below n s)

-- where the top of a thread is exchanged, what the tops name is all that matters
abbrev pub ExchangedTopCounts : Type 0
ExchangedTopCounts =
    (c : Config) (a t n : ℕ) (s r : Thread) → thread_at c t ≡ Some s → times_in a (with_thread c t (over r (below n s))) + times_in_thread a (top_of n s) ≡ times_in a c + times_in_thread a r

-- one more message
abbrev pub AppendedMessageCounts : Type 0
AppendedMessageCounts = (c : Config) (a : ℕ) (m : Message) → times_in a (record c { messages = c.messages ++ m ∷ [] }) ≡ times_in a c + times_in_message a m

-- one message less
abbrev pub TakenMessageCounts : Type 0
TakenMessageCounts =
    (c : Config) (a k : ℕ) (m : Message) → IsOrdered c → message_at c k ≡ Some m → times_in a (without_message c k) + times_in_message a m ≡ times_in a c

-- one more thread
abbrev pub AppendedThreadCounts : Type 0
AppendedThreadCounts = (c : Config) (a t : ℕ) (s : Thread) → times_in a (record c { threads = c.threads ++ (t, s) ∷ [] }) ≡ times_in a c + times_in_thread a s

-- one thread less
abbrev pub TakenThreadCounts : Type 0
TakenThreadCounts = (c : Config) (a t : ℕ) (s : Thread) → thread_at c t ≡ Some s → times_in a (without_thread c t) + times_in_thread a s ≡ times_in a c

-- at the start no mailbox is named
abbrev pub StartNamesNone : Type 0
StartNamesNone = (p : Program) (a : ℕ) → times_in a (start p) ≡ 0

-- a mailbox that is named in a typed configuration is live
abbrev pub NamedIsLive : Type 0
NamedIsLive = (p : Program) (c : Config) (a : ℕ) → IsTypedBySome p c → 0 < times_in a c → IsTrue (is_among a c.live)

-- and none from the next free number on is named
abbrev pub NextIsNotNamed : Type 0
NextIsNotNamed = (p : Program) (c : Config) (a : ℕ) → IsTypedBySome p c → c.next_mailbox ≤ a → times_in a c ≡ 0

-- a typed configuration names a mailbox at most as often as it has parts that keep values
abbrev pub TypedNamesOnce : Type 0
TypedNamesOnce = (p : Program) (c : Config) (a : ℕ) → IsTypedBySome p c → times_in a c ≤ parts_in c

-- a run adds at most one part for each of its steps
abbrev pub RunAddsParts : Type 0
RunAddsParts = (p : Program) (ks : List Step) (c d : Config) → run_from p c ks ≡ Some d → parts_in d ≤ parts_in c + length ks

-- so after a history there are at most as many as it has steps, and one
abbrev pub ReplayHasParts : Type 0
ReplayHasParts = (p : Program) (es : List Entry) (c : Config) → replay p es ≡ Some c → parts_in c ≤ step_count es + 1

-- and a machine's configuration names a mailbox at most once more than its budget has steps
abbrev pub MachineNamesFew : Type 0
MachineNamesFew =
    (p : Program) (budget limit : ℕ) (c : Config) (es : List Entry) (left : ℕ) (out : Out) (a : ℕ) → MachineInvariant p budget limit c es left out → times_in a c ≤ budget + 1

-- a mailbox that a thread may free is in none of its frames
abbrev pub FreedIsInNoFrame : Type 0
FreedIsInNoFrame =
    (p : Program) (c : Config) (t : ℕ) (s : Thread) (a : ℕ) → WellFormed p → IsTypedBySome p c → thread_at c t ≡ Some s → freed p s ≡ Some a
    → is_among a c.live ≡ true → has_pending a c.messages ≡ false → is_reached_by_none_but c a t ≡ true → times_in_frames a s.frames ≡ 0

-- so counts tell of each thread of a typed configuration whether it may free its mailbox: just where its control alone names that
abbrev pub CountsTell : Type 0
CountsTell = (p : Program) (c : Config) (ns : List ℕ) → WellFormed p → IsOrdered c → IsTypedBySome p c → AreCounted ns c → TellOfEach p c ns

-- and where a thread's top was exchanged, they tell it of that thread without counting the old top: just where nothing else names the mailbox
abbrev pub CountsTellWithoutTop : Type 0
CountsTellWithoutTop =
    (p : Program) (c : Config) (ns : List ℕ) (t n : ℕ) (kept end : Thread) → WellFormed p → IsOrdered c → thread_at c t ≡ Some kept
    → IsTypedBySome p (with_thread c t (over end (below n kept))) → AreCountedBut (λ a. times_in_thread a (top_of n kept)) ns c
    → TellsAlone p (with_thread c t (over end (below n kept))) t (over end (below n kept)) (is_unnamed p ns end)

-- what a step of a thread leaves to be named: what was, without what the thread named before and what it took, with what it names now and what it put there
abbrev pub StepCounts : Type 0
StepCounts =
    (p : Program) (c d : Config) (t : ℕ) (s : Thread) (act : Option Act) (a : ℕ) → IsOrdered c → thread_at c t ≡ Some s → run_from p c (shared_step t act) ≡ Some d
    → times_in a d + (times_in_thread a s + times_gone c act a) ≡ times_in a c + (times_if_thread a (thread_at d t) + times_come c d act a)

-- a shared step leaves the frames of its thread
abbrev pub SharedStepKeepsFrames : Type 0
SharedStepKeepsFrames =
    (p : Program) (c d : Config) (t : ℕ) (s r : Thread) (act : Option Act) → IsOrdered c → IsSharedOrNone act → thread_at c t ≡ Some s → run_from p c (shared_step t act) ≡ Some d → thread_at d t ≡ Some r → r.frames ≡ s.frames

-- the end of a commit: what is counted without the old top of its thread, without the message that it took, with its new top and what it put there, is all that is named
pub record CommitNames (c d : Config) (t n : ℕ) (act : Option Act) (ns : List ℕ) (a : ℕ) : Type 0 where
  pub gone : times_gone c act a ≤ count_at ns a
  pub all : times_in a d + times_gone c act a ≡ count_at ns a + (times_if_top n a (thread_at d t) + times_come c d act a)

abbrev pub CommitCounts : Type 0
CommitCounts =
    (p : Program) (c d : Config) (ns : List ℕ) (t n : ℕ) (kept end : Thread) (act : Option Act) (a : ℕ) → IsOrdered c → IsSharedOrNone act → thread_at c t ≡ Some kept
    → AreCountedBut (λ b. times_in_thread b (top_of n kept)) ns c → run_from p (with_thread c t (over end (below n kept))) (shared_step t act) ≡ Some d
    → CommitNames (with_thread c t (over end (below n kept))) d t (length end.frames) act ns a
