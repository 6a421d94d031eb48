-- What a run by workers comes to.
use Rattle.std.specs.Prelude.{◌≡◌, ℕ, ◌<◌, ◌==◌, if◌then◌else◌, suc, List, ◌++◌, length, Some, slice_get, Vec}
use Rattle.std.specs.Global.{Global}
use Rattle.std.specs.List.{All}
use Rattle.pat_semantics_spec.specs.Runs.{step_count, outcome}
use Rattle.pat_core.specs.declared.program.Program.{Program}
use Rattle.pat_core.specs.Views.{program_view}
use Rattle.pat_reduce.specs.declared.history.Entry.{Entry}
use Rattle.pat_machine.specs.declared.job.Receipt.{Receipt}
use Rattle.pat_machine.specs.Shown.{Shown, entries_of}
use Rattle.pat_machine.specs.Gives.{IsOver, OutcomeGives, outcome_view}
use Rattle.pat_machine.specs.Driving.{IsDriven}
use Rattle.pat_workers.specs.declared.finishing.Finished.{Finished}
use Rattle.pat_workers.specs.Receipts.{AreReceiptsOf, StandIn, receipts_at}

-- the receipts of each worker
abbrev pub Rows : Type 0
Rows = List (Vec Receipt Global)

-- the first row has more behind what it had, and the others are as before
pub record GrewFirst (old : Rows) (more : List Receipt) (new : Rows) : Type 0 where
  pub lengths : length new ≡ length old
  pub first : (row : Vec Receipt Global) → slice_get new 0 ≡ Some row → (was : Vec Receipt Global) × (slice_get old 0 ≡ Some was) × (row.items ≡ was.items ++ more)
  pub others : (i : ℕ) → slice_get new (suc i) ≡ slice_get old (suc i)

-- what was left was driven to an outcome by worker 0, and its receipts are behind the others
pub record IsFinished (machine : Shown) (rows : Rows) (f : Finished) : Type 0 where
  pub more : List Receipt
  pub driven : IsDriven machine 0 more f.machine
  pub grew : GrewFirst rows more f.receipts.items
  pub ends : OutcomeGives f.machine (Some f.outcome)

-- each row has the receipts of the worker of its number: those with a place tell of just its entries, in order
abbrev pub AreReceipts : List Entry → Rows → Type 0
AreReceipts history rows = (i : ℕ) (row : Vec Receipt Global) → slice_get rows i ≡ Some row → AreReceiptsOf i history row.items

-- each receipt with a place has its entry there
abbrev pub AllStand : List Entry → Rows → Type 0
AllStand history rows = (i : ℕ) (row : Vec Receipt Global) → slice_get rows i ≡ Some row → StandIn history row.items

-- each entry of the history has exactly one receipt, in the row of the worker that it names
abbrev pub EachHasOne : List Entry → Rows → Type 0
EachHasOne history rows =
    (k : ℕ) (e : Entry) → slice_get history k ≡ Some e
    → (i : ℕ) (row : Vec Receipt Global) → slice_get rows i ≡ Some row → receipts_at k row.items ≡ (if e.worker == i then 1 else 0)

-- the machine is one of the program with these steps and this limit; each entry names one of the workers; each entry has exactly one receipt,
-- in the row of its worker, and each receipt with a place has its entry there; nothing is left to do, and this is how the configuration ends
-- the run
pub record RunGives (program : Program) (workers steps messages : ℕ) (f : Finished) : Type 0 where
  pub named : f.machine.named ≡ record { program = program; budget = steps; limit = messages }
  pub workers_are : All (λ (e : Entry). e.worker < workers) f.machine.history
  pub rows : length f.receipts.items ≡ workers
  pub receipts : AreReceipts f.machine.history f.receipts.items
  pub stand : AllStand f.machine.history f.receipts.items
  pub once : EachHasOne f.machine.history f.receipts.items
  pub over : IsOver f.machine
  pub ends : outcome (program_view program) f.machine.config (step_count (entries_of f.machine)) steps (Some messages) ≡ Some (outcome_view f.outcome)
