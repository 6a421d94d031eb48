-- Laws of configurations in order.
use Rattle.std.specs.Prelude.{◌≡◌, ℕ, ◌≤◌, Bool, Some, IsTrue, List, option_map, is_some, find}
use Rattle.pat_semantics_spec.specs.Programs.{Program}
use Rattle.pat_semantics_spec.specs.Configs.{Thread, Message, Config, thread_at, start}
use Rattle.pat_semantics_spec.specs.Orders.{IsOrdered}
use Rattle.pat_semantics_spec.specs.Steps.{ActReceive, Step, step, message_at}
use Rattle.pat_semantics_spec.specs.Runs.{run_from, run, Entry, replay_from}
use Rattle.pat_semantics_spec.specs.Faults.{IsIn}
use Rattle.pat_semantics_laws.specs.Laws.{IsEnabled}

-- the start of any program, well formed or not, is in order
abbrev pub StartIsOrdered : Type 0
StartIsOrdered = (p : Program) → IsOrdered (start p)

-- each step of any program leads from order to order
abbrev pub StepKeepsOrder : Type 0
StepKeepsOrder = (p : Program) (c d : Config) (k : Step) → IsOrdered c → step p c k ≡ Some d → IsOrdered d

-- and so do steps one after another
abbrev pub RunKeepsOrder : Type 0
RunKeepsOrder = (p : Program) (ks : List Step) (c d : Config) → IsOrdered c → run_from p c ks ≡ Some d → IsOrdered d

-- and so does the replay of a history
abbrev pub ReplayKeepsOrder : Type 0
ReplayKeepsOrder = (p : Program) (es : List Entry) (c d : Config) → IsOrdered c → replay_from p c es ≡ Some d → IsOrdered d

-- so what a run of any program leads to is in order
abbrev pub RunIsOrdered : Type 0
RunIsOrdered = (p : Program) (ks : List Step) (d : Config) → run p ks ≡ Some d → IsOrdered d

-- a thread that stands in the list is the one that its number stands for
abbrev pub ThreadIsFound : Type 0
ThreadIsFound = (c : Config) (t : ℕ) (s : Thread) → IsOrdered c → IsIn (t, s) c.threads → thread_at c t ≡ Some s

-- a message that is pending is the one that its number stands for
abbrev pub MessageIsFound : Type 0
MessageIsFound = (c : Config) (m : Message) → IsOrdered c → IsIn m c.messages → message_at c m.number ≡ Some m

-- the first thread whose number passes a test has the least number of those that do
abbrev pub FirstThreadIsLeast : Type 0
FirstThreadIsLeast =
    (c : Config) (test : ℕ → Bool) (t u : ℕ) (s : Thread) → IsOrdered c → option_map (λ e. e.0) (find (λ e. test e.0) c.threads) ≡ Some t → thread_at c u ≡ Some s → IsTrue (test u) → t ≤ u

-- the first pending message that passes a test has the least number of those that do
abbrev pub FirstMessageIsLeast : Type 0
FirstMessageIsLeast =
    (c : Config) (test : Message → Bool) (k : ℕ) (m : Message) → IsOrdered c → option_map (λ m. m.number) (find test c.messages) ≡ Some k → IsIn m c.messages → IsTrue (test m) → k ≤ m.number

-- the first pending message that a thread may receive is the least that it may receive
abbrev pub FirstReceiveIsLeast : Type 0
FirstReceiveIsLeast =
    (p : Program) (c : Config) (t k m : ℕ) → IsOrdered c → option_map (λ m. m.number) (find (λ m. is_some (step p c (record { thread = t; act = ActReceive m.number }))) c.messages) ≡ Some k
    → IsEnabled p c (record { thread = t; act = ActReceive m }) → k ≤ m
