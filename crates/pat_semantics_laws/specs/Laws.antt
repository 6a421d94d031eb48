-- Laws of steps, runs and outcomes.
use Rattle.std.specs.Prelude.{◌≡◌, ℕ, List, [], ◌∷◌, ◌++◌, length, Option, Some, None, option_and_then, IsTrue, ◌↔◌}
use Rattle.std.specs.List.{AllByRecursion}
use Rattle.pat_semantics_spec.specs.Programs.{Program, core_at, core_uses, is_free, Core}
use Rattle.pat_semantics_spec.specs.Configs.{Config}
use Rattle.pat_semantics_spec.specs.WellFormed.{WellFormed}
use Rattle.pat_semantics_spec.specs.Steps.{Act, ActSend, Step, step}
use Rattle.pat_semantics_spec.specs.Runs.{run_from, Entry, entry_steps, replay_from, can_step_thread, can_step, can_step_without_sending, Outcome, EndDone, EndWaiting, EndFull, EndBudget, outcome}

-- the step is enabled
abbrev pub IsEnabled : Program → Config → Step → Type 0
IsEnabled p c k = (d : Config) × (step p c k ≡ Some d)

-- the test of a thread says yes exactly where an act of it is enabled
abbrev pub ThreadTestIsExact : Type 0
ThreadTestIsExact =
    (p : Program) (c : Config) (t : ℕ) → IsTrue (can_step_thread p c t) ↔ ((a : Act) × IsEnabled p c (record { thread = t; act = a }))

-- the test of a configuration says yes exactly where a step is enabled
abbrev pub StepTestIsExact : Type 0
StepTestIsExact = (p : Program) (c : Config) → IsTrue (can_step p c) ↔ ((k : Step) × IsEnabled p c k)

-- the test of a step that is no send says yes exactly where one is enabled
abbrev pub OtherTestIsExact : Type 0
OtherTestIsExact =
    (p : Program) (c : Config) → IsTrue (can_step_without_sending p c) ↔ ((k : Step) × IsEnabled p c k × (k.act ≡ ActSend → ⊥))

-- just as many messages are pending as the limit allows, and each enabled step is a send
abbrev pub IsFull : Program → Config → Option ℕ → Type 0
IsFull p c limit = (limit ≡ Some (length c.messages)) × ((k : Step) → IsEnabled p c k → k.act ≡ ActSend)

-- how a run ends: done where no thread is left; waiting where threads are left and no step is enabled;
-- full where a step is enabled and the limit is met; budget where a step is enabled, the limit isn't met and the steps are spent
abbrev pub Ends : Program → Config → (steps budget : ℕ) → (limit : Option ℕ) → Outcome → Type 0
Ends p c steps budget limit EndDone = c.threads ≡ []
Ends p c steps budget limit EndWaiting = (c.threads ≡ [] → ⊥) × ((k : Step) → step p c k ≡ None)
Ends p c steps budget limit EndFull = ((k : Step) × IsEnabled p c k) × IsFull p c limit
Ends p c steps budget limit EndBudget = ((k : Step) × IsEnabled p c k) × (IsFull p c limit → ⊥) × (steps ≡ budget)

-- the outcome is the one way in which the run ends, and there is none where it goes on
abbrev pub OutcomeIsExact : Type 0
OutcomeIsExact =
    (p : Program) (c : Config) (steps budget : ℕ) (limit : Option ℕ) (o : Outcome) → (outcome p c steps budget limit ≡ Some o) ↔ Ends p c steps budget limit o

-- a run of joined lists of steps is one run after the other
abbrev pub RunsJoin : Type 0
RunsJoin =
    (p : Program) (c : Config) (ks ls : List Step) → run_from p c (ks ++ ls) ≡ option_and_then (λ d. run_from p d ls) (run_from p c ks)

-- the steps of a history, entry after entry
abbrev pub history_steps : List Entry → List Step
history_steps [] = []
history_steps (e ∷ es) = entry_steps e ++ history_steps es

-- a replay from any configuration is a run of all steps of the history, each of whose entries has one
abbrev pub ReplayIsRun : Type 0
ReplayIsRun =
    (p : Program) (c d : Config) (es : List Entry) → (replay_from p c es ≡ Some d) ↔ (AllByRecursion (λ e. entry_steps e ≡ [] → ⊥) es × (run_from p c (history_steps es) ≡ Some d))

-- a replay of joined histories is one replay after the other
abbrev pub ReplaysJoin : Type 0
ReplaysJoin =
    (p : Program) (c : Config) (es fs : List Entry) → replay_from p c (es ++ fs) ≡ option_and_then (λ d. replay_from p d fs) (replay_from p c es)

-- a variable is free in a node of a well-formed program where it is free in its term
abbrev pub FreeUnfolds : Type 0
FreeUnfolds =
    (p : Program) (x n : ℕ) (core : Core) → WellFormed p → core_at p n ≡ Some core → is_free p x n ≡ core_uses (λ k. is_free p x k) x core
