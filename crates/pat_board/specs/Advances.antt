-- What the calls of a board give.
use Rattle.std.specs.Prelude.{◌≡◌, ℕ, ◌<◌, List, length, map, Option, Some, None, Result, Ok, Err, ◌↔◌}
use Rattle.pat_semantics_spec.specs.Programs.{Program}
use Rattle.pat_semantics_spec.specs.Configs.{Config}
use Rattle.pat_semantics_spec.specs.Steps.{Act, Step}
use Rattle.pat_semantics_spec.specs.Runs.{step_count, outcome}
use Rattle.pat_core.specs.Views.{program_view}
use Rattle.pat_reduce.specs.declared.history.Entry.{Entry}
use Rattle.pat_reduce.specs.Views.{entry_view}
use Rattle.pat_machine_spec.specs.Opens.{IsOpen}
use Rattle.pat_machine.specs.declared.job.Named.{Named}
use Rattle.pat_machine.specs.declared.job.Outcome.{Outcome}
use Rattle.pat_machine.specs.Gives.{outcome_view}
use Rattle.pat_board.specs.declared.answers.Advance.{Advance}
use Rattle.pat_board.specs.declared.answers.AdvanceRefused.{AdvanceRefused}
use Rattle.pat_board.specs.declared.answers.AdvanceRefused.TheVariants as refusal
use Rattle.pat_board.specs.Seats.{Looked, Advanced, LeadsTo}

-- a step of the thread is open, or of any where none is named
abbrev pub HasOpen : Program → Config → (limit : ℕ) → Option ℕ → Type 0
HasOpen p c limit None = (k : Step) × IsOpen p c limit k
HasOpen p c limit (Some t) = (a : Act) × IsOpen p c limit (record { thread = t; act = a })

-- it is the thread that was named, if one was
abbrev pub IsWanted : Option ℕ → ℕ → Type 0
IsWanted None t = Unit {0}
IsWanted (Some named) t = t ≡ named

-- the steps of a history
abbrev pub steps_of : List Entry → ℕ
steps_of seen = step_count (map entry_view seen)

-- there is none exactly where a step is open and not all are spent; else it is how the configuration ends the run
pub record EndsSo (n : Named) (seen : List Entry) (c : Config) (o : Option Outcome) : Type 0 where
  pub goes_on : (o ≡ None) ↔ (HasOpen (program_view n.program) c n.limit None × (steps_of seen < n.budget))
  pub ends : (x : Outcome) → o ≡ Some x → outcome (program_view n.program) c (steps_of seen) n.budget (Some n.limit) ≡ Some (outcome_view x)

-- what was seen leads to where a step of the thread is open, or of any where none is named, and not all steps are spent
pub record MayGoOn (n : Named) (thread : Option ℕ) (seen : List Entry) : Type 0 where
  pub config : Config
  pub leads : LeadsTo n seen config
  pub opens : HasOpen (program_view n.program) config n.limit thread
  pub left : steps_of seen < n.budget

-- an entry of the seat's number was added, of the thread that was named, where a step of it was open and not all were spent; the receipt has
-- its place; and so it stands afterwards
pub record AddsOne (n : Named) (number : ℕ) (thread : Option ℕ) (old new : List Entry) (a : Advance) : Type 0 where
  pub advanced : Advanced number old new a.receipt.entry
  pub place : a.receipt.index ≡ Some (length advanced.before)
  pub may : MayGoOn n thread advanced.before
  pub wanted : IsWanted thread a.receipt.entry.thread
  pub config : Config
  pub leads : LeadsTo n new config
  pub ends : EndsSo n new config a.outcome

-- an entry was added; or no step is open; or one is and all steps are spent; or memory ran out. Where it is refused the seat has seen
-- more, but no further entry of its own
abbrev pub AdvanceGives : Named → (number : ℕ) → (thread : Option ℕ) → (old : List Entry) → Result Advance AdvanceRefused → (new : List Entry)
    → Type 0
AdvanceGives n number thread old (Ok a) new = AddsOne n number thread old new a
AdvanceGives n number thread old (Err refusal.NotReady) new =
    Looked number old new × ((c : Config) × LeadsTo n new c × (HasOpen (program_view n.program) c n.limit thread → ⊥))
AdvanceGives n number thread old (Err refusal.Spent) new =
    Looked number old new × ((c : Config) × LeadsTo n new c × HasOpen (program_view n.program) c n.limit thread × (steps_of new ≡ n.budget))
AdvanceGives n number thread old (Err refusal.NoMemory) new = Looked number old new
