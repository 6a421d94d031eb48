-- What `resume` may answer.
use Rattle.std.specs.Prelude.{◌≡◌, ℕ, List, Some}
use Rattle.pat_semantics_spec.specs.Programs.{Program}
use Rattle.pat_semantics_spec.specs.Configs.{Config}
use Rattle.pat_semantics_spec.specs.Steps.{Step}
use Rattle.pat_semantics_spec.specs.Faults.{Fault}
use Rattle.pat_semantics_spec.specs.Runs.{Entry, Outcome, EndDone, EndWaiting, EndFull, EndBudget, run_from}
use Rattle.pat_derivation_spec.specs.Derivations.{Derivation}
use Rattle.pat_checkpoint_spec.specs.Checkpoints.{Checkpoint}
use Rattle.pat_checkpoint_spec.specs.Resumed.{IsResumed}
use Rattle.pat_checkpoint_input.specs.CheckedTexts.{HasCheckedParts, IsCheckpointRefusal}
use Rattle.pat_history.specs.run_reports.RunText.{run_text}
use Rattle.pat_front.specs.Lines.{line_of_verdict}
use Rattle.pat_front.specs.declared.exit_answers.status.Status.{Status}
use Rattle.pat_front.specs.declared.exit_answers.status.Status.TheVariants.{Ok, Refused, Budget, Waiting}

-- the run that goes on from the checkpoint with so many steps ends so, and this is its text: its history, the lines printed from there on,
-- and how it ended. No steps from the checkpoint reach a fault
pub record GoesOn (p : Program) (d : Derivation) (x : Checkpoint) (steps : ℕ) (o : Outcome) (out : List ℕ) : Type 0 where
  pub safe : (ks : List Step) (c : Config) → run_from p x.config ks ≡ Some c → Fault p c → ⊥
  pub entries : List Entry
  pub config : Config
  pub interfaces : List ℕ
  pub resumed : IsResumed p d x steps entries config interfaces o
  pub shown : out ≡ run_text entries config o

-- the status of a run that ended so; without a limit on messages none is full
abbrev pub EndsWith : Outcome → Status → Type 0
EndsWith EndDone status = status ≡ Ok
EndsWith EndBudget status = status ≡ Budget
EndsWith EndWaiting status = status ≡ Waiting
EndsWith EndFull status = ⊥

-- the bytes are the texts of a program, of a valid derivation of it and of a checkpoint that it checks, and these are the text and the status
-- of a run that goes on from there
pub record IsResumption (steps : ℕ) (bytes out : List ℕ) (status : Status) : Type 0 where
  pub program : Program
  pub shown : Derivation
  pub from : Checkpoint
  pub parts : HasCheckedParts bytes program shown from
  pub outcome : Outcome
  pub ends : EndsWith outcome status
  pub goes : GoesOn program shown from steps outcome out

-- the text and the status of `resume` with so many steps on these bytes
abbrev pub AllowedResume : ℕ → List ℕ → List ℕ → Status → Type 0
AllowedResume steps bytes out Ok = IsResumption steps bytes out Ok
AllowedResume steps bytes out Budget = IsResumption steps bytes out Budget
AllowedResume steps bytes out Waiting = IsResumption steps bytes out Waiting
AllowedResume steps bytes out (Refused v) = IsCheckpointRefusal bytes v × (out ≡ line_of_verdict v)
AllowedResume steps bytes out _ = ⊥
