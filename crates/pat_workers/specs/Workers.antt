-- Workers, before and after.
use Rattle.std.specs.Prelude.{◌≡◌, Bool, true, false, List, [], Option, Some, Result, Ok, Err}
use Rattle.atomic_table.specs.Seated.{TableId}
use Rattle.pat_core.specs.declared.program.Program.{Program}
use Rattle.pat_core.specs.Views.{program_view}
use Rattle.pat_reduce.specs.declared.history.Entry.{Entry}
use Rattle.pat_reduce.specs.threads.ThreadViews.{thread_view}
use Rattle.pat_machine_spec.specs.Commits.{IsLocalRun}
use Rattle.pat_machine.specs.declared.job.Named.{Named}
use Rattle.pat_machine.specs.declared.job.Job.{Job}
use Rattle.pat_machine.specs.declared.job.Receipt.{Receipt}
use Rattle.pat_machine.specs.declared.job.CommitRefused.{CommitRefused}
use Rattle.pat_machine.specs.declared.job.CommitRefused.TheVariants as refusal
use Rattle.pat_machine.specs.Shown.{Shown}
use Rattle.pat_machine.specs.Gives.{GivesBack}
use Rattle.pat_machine_threads.specs.declared.run.LocalRun.{LocalRun}
use Rattle.pat_turn.specs.Shown.{ShownPass}
use Rattle.pat_workers.specs.declared.turns.machines.Taken.{Taken}
use Rattle.pat_workers.specs.declared.turns.machines.Taken.TheVariants as given
use Rattle.pat_workers.specs.turns.Holds.{IsHold, TakingGives, CommittingGives}
use Rattle.pat_workers.specs.declared.serving.Worker.{Worker}
use Rattle.pat_workers.specs.Receipts.{AreReceiptsOf}

-- the code is of the program of the machine with this name
abbrev pub IsOfProgram : Option Named → Program → Type 0
IsOfProgram name code = (named : Named) → name ≡ Some named → program_view named.program ≡ program_view code

-- the run has the local steps that the job makes of its start, in the program of the machine with this name
abbrev pub IsRunOf : Option Named → Job → LocalRun → Type 0
IsRunOf name j r = (named : Named) → name ≡ Some named → IsLocalRun (program_view named.program) j.allowance (thread_view r.start) r.steps (thread_view r.end)

-- the pass is one of the turn, it has seen nothing and doesn't hold, and the code is of its machine's program
pub record IsReady (turn : TableId) (code : Program) (pass : ShownPass Named Entry) : Type 0 where
  pub turn_is : pass.turn ≡ turn
  pub free : pass.holds ≡ false
  pub new : pass.seen ≡ []
  pub of_program : IsOfProgram pass.name code

-- the receipts are just those of the worker's entries in what its pass has seen
abbrev pub HasReceipts : Worker → Type 0
HasReceipts w = AreReceiptsOf w.pass.number w.pass.seen w.receipts.items

-- in one hold of the turn the job went back
abbrev pub WentBack : ShownPass Named Entry → (now : List Entry) → Job → Type 0
WentBack pass now j = (found left : Shown) × IsHold pass now found left × GivesBack found j left

-- memory didn't run out
abbrev pub IsDone : Result Receipt CommitRefused → Type 0
IsDone (Ok r) = Unit {0}
IsDone (Err (refusal.NotOut j)) = Unit {0}
IsDone (Err (refusal.NoMemory j)) = ⊥

-- in one hold of the turn the job was committed, unless it wasn't out
abbrev pub WasCommitted : ShownPass Named Entry → (now : List Entry) → Job → Type 0
WasCommitted pass now j = (found left : Shown) × (r : Result Receipt CommitRefused) × IsHold pass now found left × CommittingGives found pass.number j r left × IsDone r

-- what became of what a worker was given, and whether it goes on: a job was committed, and it does; a job went back since memory ran out, and it
-- doesn't; nothing could be taken, and it does; the run is over, or memory ran out as the job was taken, and it doesn't
abbrev pub Became : (goes_on : Bool) → Taken → ShownPass Named Entry → (now : List Entry) → Type 0
Became true (given.Job j s) pass now = WasCommitted pass now j
Became true given.Nothing pass now = now ≡ pass.seen
Became true given.Over pass now = ⊥
Became true given.NoMemory pass now = ⊥
Became false (given.Job j s) pass now = WentBack pass now j
Became false given.Nothing pass now = ⊥
Became false given.Over pass now = now ≡ pass.seen
Became false given.NoMemory pass now = now ≡ pass.seen

-- a worker looked for a job in one hold of the turn, and this became of what it was given
pub record IsRound (pass : ShownPass Named Entry) (now : List Entry) (goes_on : Bool) : Type 0 where
  pub between : List Entry
  pub found : Shown
  pub left : Shown
  pub taken : Taken
  pub hold : IsHold pass between found left
  pub gives : TakingGives found taken left
  pub became : Became goes_on taken (record pass { seen = between }) now

-- the pass has seen more, and these are the receipts of it; in its last round the worker found the run over, or memory ran out
pub record IsWorked (pass : ShownPass Named Entry) (w : Worker) : Type 0 where
  pub same : w.pass ≡ record pass { seen = w.pass.seen }
  pub receipts : HasReceipts w
  pub before : List Entry
  pub last : IsRound (record pass { seen = before }) w.pass.seen false
