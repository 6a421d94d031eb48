-- What contracts see of a machine.
use Rattle.std.specs.Prelude.{◌≡◌, ℕ, List, [], ◌∷◌, ◌++◌, min, length, map, Option, Some, None, nat_eq, if◌then◌else◌}
use Rattle.pat_semantics_spec.specs.Programs.{Program}
use Rattle.pat_semantics_spec.specs.Configs.{Config, start}
use Rattle.pat_semantics_spec.specs.Runs.{Entry, entry_steps}
use Rattle.pat_core.specs.declared.program.Program.{Program as CodeProgram}
use Rattle.pat_core.specs.Views.{program_view}
use Rattle.pat_reduce.specs.declared.history.Entry.{Entry as CodeEntry}
use Rattle.pat_reduce.specs.Views.{entry_view}
use Rattle.pat_machine_spec.specs.Lendings.{Out}
use Rattle.pat_machine_spec.specs.Machines.{MachineFacts}
use Rattle.pat_machine_spec.specs.Lendings.{NoneOut}
use Rattle.pat_machine.specs.declared.job.Named.{Named}

-- what stays the same, the configuration, the history, the steps left, the allowances that are out by thread number, and the thread last taken
pub record Shown : Type 0 where
  pub named : Named
  pub config : Config
  pub history : List CodeEntry
  pub left : ℕ
  pub out : Out
  pub last : Option ℕ

abbrev pub program_of : Shown → Program
program_of m = program_view m.named.program

abbrev pub entries_of : Shown → List Entry
entries_of m = map entry_view m.history

-- how many places for pending messages are enough: no more are pending than the limit allows, nor than steps are taken
abbrev pub places_for : (budget limit : ℕ) → ℕ
places_for budget limit = min budget limit

-- the facts in a machine's type
abbrev pub IsMachine : Shown → Type 0
IsMachine m = MachineFacts (program_of m) m.named.budget m.named.limit m.config (entries_of m) m.left m.out

-- a machine at the start of its program
pub record IsNew (program : CodeProgram) (steps messages : ℕ) (m : Shown) : Type 0 where
  pub named : m.named ≡ record { program = program; budget = steps; limit = messages }
  pub config : m.config ≡ start (program_view program)
  pub history : m.history ≡ []
  pub left : m.left ≡ steps
  pub out : NoneOut m.out
  pub last : m.last ≡ None

-- the number of steps of an entry
abbrev pub steps_in : CodeEntry → ℕ
steps_in e = length (entry_steps (entry_view e))

-- the history with the entry, if it has a step
abbrev pub noted_in : List CodeEntry → CodeEntry → List CodeEntry
noted_in es e = if nat_eq (steps_in e) 0 then es else es ++ e ∷ []

-- the place of the entry in the history, if it has a step
abbrev pub place_of : List CodeEntry → CodeEntry → Option ℕ
place_of es e = if nat_eq (steps_in e) 0 then None else Some (length es)
