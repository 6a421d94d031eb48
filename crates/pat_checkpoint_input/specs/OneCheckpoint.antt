-- Bytes are those of one checked checkpoint, or of one history behind it, or there is one reason why they aren't.
use Rattle.std.specs.Prelude.{◌≡◌, ℕ, List}
use Rattle.pat_semantics_spec.specs.Programs.{Program}
use Rattle.pat_semantics_spec.specs.Configs.{Config}
use Rattle.pat_semantics_spec.specs.Runs.{Entry}
use Rattle.pat_derivation_spec.specs.Derivations.{Derivation}
use Rattle.pat_checkpoint_spec.specs.Checkpoints.{Checkpoint}
use Rattle.pat_front.specs.declared.verdict.Verdict.{Verdict}
use Rattle.pat_checkpoint_input.specs.CheckedTexts.{HasCheckedParts, IsCheckpointRefusal}
use Rattle.pat_checkpoint_input.specs.Pieces.{ReplaysPiece, RefusesPiece}

pub record OneCheckpoint (bytes : List ℕ) : Type 0 where
  pub same : (p q : Program) (d e : Derivation) (x y : Checkpoint) → HasCheckedParts bytes p d x → HasCheckedParts bytes q e y → (p ≡ q) × (d ≡ e) × (x ≡ y)
  pub not_both : (p : Program) (d : Derivation) (x : Checkpoint) (v : Verdict) → HasCheckedParts bytes p d x → IsCheckpointRefusal bytes v → ⊥
  pub one_refusal : (v w : Verdict) → IsCheckpointRefusal bytes v → IsCheckpointRefusal bytes w → v ≡ w

-- a history behind a checkpoint
pub record OnePiece (bytes : List ℕ) : Type 0 where
  pub same :
      (p q : Program) (d e : Derivation) (x y : Checkpoint) (es fs : List Entry) (c k : Config)
      → ReplaysPiece bytes p d x es c
      → ReplaysPiece bytes q e y fs k
      → (p ≡ q) × (d ≡ e) × (x ≡ y) × (es ≡ fs) × (c ≡ k)
  pub not_both :
      (p : Program) (d : Derivation) (x : Checkpoint) (es : List Entry) (c : Config) (v : Verdict)
      → ReplaysPiece bytes p d x es c
      → RefusesPiece bytes v
      → ⊥
  pub one_refusal : (v w : Verdict) → RefusesPiece bytes v → RefusesPiece bytes w → v ≡ w
