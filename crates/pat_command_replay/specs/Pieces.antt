-- Inputs whose history goes on from a checkpoint, or from the start of the program.
use Rattle.std.specs.Prelude.{◌≡◌, ◌⊎◌, ℕ, List, Some}
use Rattle.pat_semantics_spec.specs.Programs.{Program}
use Rattle.pat_semantics_spec.specs.Configs.{Config}
use Rattle.pat_semantics_spec.specs.Steps.{Step}
use Rattle.pat_semantics_spec.specs.Faults.{Fault}
use Rattle.pat_semantics_spec.specs.Runs.{Entry, run_from}
use Rattle.pat_derivation_spec.specs.Derivations.{Derivation}
use Rattle.pat_checkpoint_spec.specs.Checkpoints.{Checkpoint}
use Rattle.pat_front.specs.declared.verdict.Verdict.{Verdict}
use Rattle.pat_checkpoint_input.specs.Pieces.{IsNoPiece, ReplaysPiece, RefusesPiece}
use Rattle.pat_replay_input.specs.Histories.{Replays, IsReplayRefusal}

-- so of some derivation and checkpoint; and no steps from the checkpoint reach a fault
pub record GoesOnFrom (bytes : List ℕ) (p : Program) (es : List Entry) (c : Config) : Type 0 where
  pub shown : Derivation
  pub from : Checkpoint
  pub replays : ReplaysPiece bytes p shown from es c
  pub safe : (ks : List Step) (last : Config) → run_from p from.config ks ≡ Some last → Fault p last → ⊥

-- the bytes are the texts of the program and of the history, which leads to the configuration: from the start of the program, or from a
-- checkpoint that stands between them
abbrev pub ReplaysInput : List ℕ → Program → List Entry → Config → Type 0
ReplaysInput bytes p es c = Replays bytes p es c ⊎ GoesOnFrom bytes p es c

-- why the bytes are refused: where no marks of a checkpoint stand before the history, as a history from the program's start is
abbrev pub IsInputRefusal : List ℕ → Verdict → Type 0
IsInputRefusal bytes v = (IsNoPiece bytes × IsReplayRefusal bytes v) ⊎ RefusesPiece bytes v
