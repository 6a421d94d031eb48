-- Bytes have one answer.
use Rattle.std.specs.Prelude.{◌≡◌, ℕ, List}
use Rattle.pat_front.specs.declared.verdict.Verdict.{Verdict}
use Rattle.pat_front.specs.declared.exit_answers.status.Status.{Status}
use Rattle.pat_checkpoint_input.specs.CheckedTexts.{IsCheckedInput, IsCheckpointRefusal}
use Rattle.pat_command_resume.specs.Allowed.{IsResumption}

-- a run goes on or the bytes are refused, not both, and they are refused in one way: so each answer comes exactly where it is said to come. A
-- checked checkpoint is never refused. The run that goes on has one text and one status
pub record OneAnswer (bytes : List ℕ) : Type 0 where
  pub not_both : (steps : ℕ) (out : List ℕ) (status : Status) (v : Verdict) → IsResumption steps bytes out status → IsCheckpointRefusal bytes v → ⊥
  pub not_refused : (v : Verdict) → IsCheckedInput bytes → IsCheckpointRefusal bytes v → ⊥
  pub one_refusal : (v w : Verdict) → IsCheckpointRefusal bytes v → IsCheckpointRefusal bytes w → v ≡ w
  pub one_run :
      (steps : ℕ) (out other : List ℕ) (status second : Status)
      → IsResumption steps bytes out status
      → IsResumption steps bytes other second
      → (out ≡ other) × (status ≡ second)
