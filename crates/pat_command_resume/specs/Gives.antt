-- What parts of an answer come to.
use Rattle.std.specs.Prelude.{◌≡◌, ℕ, List, map}
use Rattle.pat_semantics_spec.specs.Programs.{Program}
use Rattle.pat_semantics_spec.specs.Configs.{Config}
use Rattle.pat_semantics_spec.specs.Runs.{Entry, Outcome}
use Rattle.pat_derivation_spec.specs.Derivations.{Derivation}
use Rattle.pat_reduce.specs.Views.{config_view, entry_view}
use Rattle.pat_history.specs.run_reports.Gives.{outcome_view}
use Rattle.pat_checkpoint_spec.specs.Checkpoints.{Checkpoint}
use Rattle.pat_checkpoint_spec.specs.Resumed.{IsResumed}
use Rattle.pat_checkpoint_run.specs.declared.resumed.Resumed.{Resumed}
use Rattle.pat_history.specs.run_reports.RunText.{run_text}
use Rattle.pat_front.specs.declared.exit_answers.answer.Answer.{Answer}
use Rattle.pat_front.specs.declared.exit_answers.status.Status.{Status}
use Rattle.pat_command_resume.specs.Allowed.{EndsWith}

-- the text and the status of what went on
abbrev pub TellsOf : Resumed → Answer → Type 0
TellsOf r a =
    EndsWith (outcome_view r.outcome) a.status × (a.text.items ≡ run_text (map entry_view r.entries) (config_view r.config) (outcome_view r.outcome))

-- the text and the status of the run that goes on from a checkpoint
pub record ShowsFrom (p : Program) (d : Derivation) (x : Checkpoint) (steps : ℕ) (out : List ℕ) (status : Status) : Type 0 where
  pub outcome : Outcome
  pub ends : EndsWith outcome status
  pub entries : List Entry
  pub config : Config
  pub interfaces : List ℕ
  pub resumed : IsResumed p d x steps entries config interfaces outcome
  pub shown : out ≡ run_text entries config outcome
