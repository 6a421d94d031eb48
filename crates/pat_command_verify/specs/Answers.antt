-- Bytes have one answer.
use Rattle.std.specs.Prelude.{◌≡◌, ℕ, List}
use Rattle.pat_semantics_spec.specs.Programs.{Program}
use Rattle.pat_derivation_spec.specs.Derivations.{Derivation}
use Rattle.pat_derivation_spec.specs.Validity.{IsValid}
use Rattle.pat_derivation_text_spec.specs.DerivationText.{marker}
use Rattle.pat_derivation_text_spec.specs.Reading.{ReadsAs}
use Rattle.pat_input_split.specs.program_with_text.MarkedPrograms.{HasProgram}
use Rattle.pat_front.specs.declared.verdict.Verdict.{Verdict}
use Rattle.pat_command_verify.specs.Allowed.{IsVerified, IsVerifyRefusal}

-- the bytes are the text of a program, and behind it that of a derivation which is valid; that the program is then safe isn't asked
pub record HasValidDerivation (bytes : List ℕ) : Type 0 where
  pub front : List ℕ
  pub text : List ℕ
  pub program : Program
  pub has : HasProgram marker bytes front text program
  pub derivation : Derivation
  pub read : ReadsAs program text derivation
  pub valid : IsValid program derivation

-- they are accepted or refused, not both, and refused in one way: so each answer comes exactly where it is said to come. A valid derivation
-- is never refused
pub record OneAnswer (bytes : List ℕ) : Type 0 where
  pub not_both : (v : Verdict) → IsVerified bytes → IsVerifyRefusal bytes v → ⊥
  pub not_refused : (v : Verdict) → HasValidDerivation bytes → IsVerifyRefusal bytes v → ⊥
  pub one_refusal : (v w : Verdict) → IsVerifyRefusal bytes v → IsVerifyRefusal bytes w → v ≡ w
