-- Bytes have one answer.
use Rattle.std.specs.Prelude.{◌≡◌, ℕ, List}
use Rattle.pat_semantics_spec.specs.Programs.{Program}
use Rattle.pat_semantics_spec.specs.Configs.{Config}
use Rattle.pat_semantics_spec.specs.Runs.{Entry}
use Rattle.pat_parser_spec.specs.Trees.{Tree}
use Rattle.pat_derivation_spec.specs.Derivations.{Derivation}
use Rattle.pat_checkpoint_spec.specs.Checkpoints.{Checkpoint}
use Rattle.pat_front.specs.Texts.{IsProgramText}
use Rattle.pat_front.specs.declared.verdict.Verdict.{Verdict}
use Rattle.pat_typecheck.specs.Inputs.{IsCheckRefusal}
use Rattle.pat_checkpoint_input.specs.Pieces.{ReplaysPiece}
use Rattle.pat_command_checkpoint.specs.Allowed.{IsWritten, IsUnshown, IsCheckpointRefusal}

-- a checkpoint is written or the bytes are refused, not both, and they are refused by one verdict, whichever derivation is found: so each answer
-- comes exactly where it is said to come. Where each line can be shown, neither the text of a program is refused that is accepted, nor a history
-- that replays from a checked checkpoint
pub record OneAnswer (steps : ℕ) (bytes : List ℕ) : Type 0 where
  pub not_both : (out line : List ℕ) (v : Verdict) → IsWritten steps bytes out → IsCheckpointRefusal steps bytes v line → ⊥
  pub one_verdict : (v w : Verdict) (l m : List ℕ) → IsCheckpointRefusal steps bytes v l → IsCheckpointRefusal steps bytes w m → v ≡ w
  pub not_refused :
      (t : Tree) (p : Program) (line : List ℕ) (v : Verdict)
      → IsProgramText bytes t p
      → ((other : List ℕ) → IsCheckRefusal bytes v other → ⊥)
      → ((n : ℕ) → IsUnshown steps bytes n → ⊥)
      → IsCheckpointRefusal steps bytes v line
      → ⊥
  pub piece_stands :
      (p : Program) (d : Derivation) (x : Checkpoint) (es : List Entry) (c : Config) (line : List ℕ) (v : Verdict)
      → ReplaysPiece bytes p d x es c
      → ((n : ℕ) → IsUnshown steps bytes n → ⊥)
      → IsCheckpointRefusal steps bytes v line
      → ⊥
