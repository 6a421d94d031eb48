-- Bytes have one answer.
use Rattle.std.specs.Prelude.{◌≡◌, ℕ, List}
use Rattle.pat_semantics_spec.specs.Programs.{Program}
use Rattle.pat_semantics_spec.specs.Configs.{Config}
use Rattle.pat_semantics_spec.specs.Runs.{Entry}
use Rattle.pat_derivation_spec.specs.Derivations.{Derivation}
use Rattle.pat_checkpoint_spec.specs.Checkpoints.{Checkpoint}
use Rattle.pat_front.specs.declared.verdict.Verdict.{Verdict}
use Rattle.pat_replay_input.specs.Histories.{Replays}
use Rattle.pat_checkpoint_input.specs.Pieces.{ReplaysPiece}
use Rattle.pat_command_replay.specs.Pieces.{IsInputRefusal}
use Rattle.pat_command_replay.specs.Allowed.{IsReplayed}

-- they are replayed, with one output, or refused, in one way, and not both: so each answer comes exactly where it is said to come. A history
-- that replays is never refused, from the program's start or from a checked checkpoint
pub record OneAnswer (bytes : List ℕ) : Type 0 where
  pub one_output : (out other : List ℕ) → IsReplayed bytes out → IsReplayed bytes other → out ≡ other
  pub not_both : (out : List ℕ) (v : Verdict) → IsReplayed bytes out → IsInputRefusal bytes v → ⊥
  pub not_refused : (p : Program) (es : List Entry) (c : Config) (v : Verdict) → Replays bytes p es c → IsInputRefusal bytes v → ⊥
  pub piece_stands :
      (p : Program) (d : Derivation) (x : Checkpoint) (es : List Entry) (c : Config) (v : Verdict)
      → ReplaysPiece bytes p d x es c
      → IsInputRefusal bytes v
      → ⊥
  pub one_refusal : (v w : Verdict) → IsInputRefusal bytes v → IsInputRefusal bytes w → v ≡ w
