-- What one hold of the turn does to the machine behind it.
use Rattle.std.specs.Prelude.{◌≡◌, ℕ, List, Some, None, Result, Ok, Err}
use mathlib.Core.List.{IsPrefix}
use Rattle.pat_reduce.specs.declared.history.Entry.{Entry}
use Rattle.pat_machine.specs.declared.job.Named.{Named}
use Rattle.pat_machine.specs.declared.job.Job.{Job}
use Rattle.pat_machine.specs.declared.job.Receipt.{Receipt}
use Rattle.pat_machine.specs.declared.job.Outcome.{Outcome}
use Rattle.pat_machine.specs.declared.job.CommitRefused.{CommitRefused}
use Rattle.pat_machine.specs.declared.job.CommitRefused.TheVariants as refusal
use Rattle.pat_machine.specs.Shown.{Shown, IsMachine}
use Rattle.pat_machine.specs.Gives.{IsLent, TakeGives, StateGives, CommitGives, GivesBack, OutcomeGives}
use Rattle.pat_turn.specs.Rule.{entries_naming}
use Rattle.pat_turn.specs.Shown.{ShownPass}
use Rattle.pat_workers.specs.declared.turns.machines.Taken.{Taken}
use Rattle.pat_workers.specs.declared.turns.machines.Taken.TheVariants as given

abbrev pub worker_of : Entry → ℕ
worker_of e = e.worker

-- in a hold of the turn the machine was found so and was left so: what was found is a machine, with all that is always true of one; it has
-- the name that the pass has, its history begins with what the pass had seen and has no further entry of the pass, and the pass has now
-- seen the history as it was left
pub record IsHold (pass : ShownPass Named Entry) (now : List Entry) (found left : Shown) : Type 0 where
  pub facts : IsMachine found
  pub named : pass.name ≡ Some found.named
  pub prefix : IsPrefix pass.seen found.history
  pub own : entries_naming worker_of pass.number found.history ≡ entries_naming worker_of pass.number pass.seen
  pub saw : now ≡ left.history

-- a job was taken, and this is the state that it begins with; or nothing can be taken, and the run goes on or is at an outcome;
-- or memory ran out, and the job that was taken went back
abbrev pub TakingGives : (found : Shown) → Taken → (left : Shown) → Type 0
TakingGives found (given.Job j s) left = TakeGives found (Some j) left × StateGives left j (Ok s)
TakingGives found given.Nothing left = TakeGives found None left × OutcomeGives left None
TakingGives found given.Over left = TakeGives found None left × ((o : Outcome) × OutcomeGives left (Some o))
TakingGives found given.NoMemory left = (j : Job) × (lent : Shown) × TakeGives found (Some j) lent × GivesBack lent j left

-- as a commit, but that the job goes back where memory ran out
abbrev pub CommittingGives : (found : Shown) → (worker : ℕ) → Job → Result Receipt CommitRefused → (left : Shown) → Type 0
CommittingGives found worker j (Ok r) left = CommitGives found worker j (Ok r) left
CommittingGives found worker j (Err (refusal.NotOut k)) left = CommitGives found worker j (Err (refusal.NotOut k)) left
CommittingGives found worker j (Err (refusal.NoMemory k)) left = (k ≡ j) × IsLent found j × GivesBack found j left
