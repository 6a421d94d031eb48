-- What `derive` may answer.
use Rattle.std.specs.Prelude.{◌≡◌, ℕ, List}
use Rattle.pat_semantics_spec.specs.Programs.{Program}
use Rattle.pat_derivation_spec.specs.Derivations.{Derivation}
use Rattle.pat_derivation_text_spec.specs.DerivationText.{derivation_text}
use Rattle.pat_front.specs.declared.exit_answers.status.Status.{Status}
use Rattle.pat_front.specs.declared.exit_answers.status.Status.TheVariants.{Ok, Refused}
use Rattle.pat_typecheck.specs.Inputs.{IsAcceptedText, IsCheckRefusal}

-- the text and the status of a derivation
abbrev pub SaysDerivation : Program → Derivation → List ℕ → Status → Type 0
SaysDerivation p d text status = (status ≡ Ok) × (text ≡ derivation_text p d)

-- the bytes are the text of a program with a valid derivation, and this is its text
abbrev pub ShowsDerivation : List ℕ → List ℕ → Type 0
ShowsDerivation bytes text = (a : IsAcceptedText bytes) × (text ≡ derivation_text a.program a.derivation)

-- the text and the status of `derive` on these bytes
abbrev pub AllowedDerive : List ℕ → List ℕ → Status → Type 0
AllowedDerive bytes text Ok = ShowsDerivation bytes text
AllowedDerive bytes text (Refused v) = IsCheckRefusal bytes v text
AllowedDerive bytes text _ = ⊥
