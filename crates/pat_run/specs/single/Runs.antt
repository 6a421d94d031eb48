-- What a run by one worker comes to.
use Rattle.std.specs.Prelude.{◌≡◌, ℕ, ◌-◌, ◌<◌, min, List, [], ◌∷◌, length, Option, Some, None}
use Rattle.std.specs.List.{AllByRecursion}
use Rattle.pat_semantics_spec.specs.Programs.{Program}
use Rattle.pat_semantics_spec.specs.Configs.{Config, start}
use Rattle.pat_semantics_spec.specs.Runs.{Entry, Outcome, entry_steps, step_count, outcome}
use Rattle.pat_core.specs.declared.program.Program.{Program as CodeProgram}
use Rattle.pat_core.specs.Views.{program_view}
use Rattle.pat_machine_spec.specs.Commits.{IsCommit}
use Rattle.pat_machine_spec.specs.Turns.{IsTurn}
use Rattle.pat_machine.specs.Shown.{entries_of}
use Rattle.pat_machine.specs.Gives.{IsOver, outcome_view}
use Rattle.pat_run.specs.declared.single.running.Finished.{Finished}

-- nobody else is out: the entries are jobs one after another, from c to d, with so many steps left before them; each is taken while
-- steps are left, is of the thread whose turn it is, and may take 256 steps, or what is left
abbrev pub Served : Program → (limit left : ℕ) → (last : Option ℕ) → Config → List Entry → Config → Type 0
Served p limit left last c [] d = c ≡ d
Served p limit left last c (e ∷ es) d =
    (0 < left)
    × IsTurn p c limit [] last e.thread
    × ((m : Config) × IsCommit p (min left 256) limit c e m × Served p limit (left - length (entry_steps e)) (Some e.thread) m es d)

-- a history of jobs of worker 0, from the start of the program to a configuration with this outcome
pub record IsRun (p : Program) (budget limit : ℕ) (es : List Entry) (c : Config) (o : Outcome) : Type 0 where
  pub workers : AllByRecursion (λ e. e.worker ≡ 0) es
  pub served : Served p limit budget None (start p) es c
  pub ends : outcome p c (step_count es) budget (Some limit) ≡ Some o

-- the machine is one of the program, and was driven to this outcome, so nothing is left to do
pub record RunGives (program : CodeProgram) (steps messages : ℕ) (f : Finished) : Type 0 where
  pub named : f.machine.named ≡ record { program = program; budget = steps; limit = messages }
  pub over : IsOver f.machine
  pub run : IsRun (program_view program) steps messages (entries_of f.machine) f.machine.config (outcome_view f.outcome)
