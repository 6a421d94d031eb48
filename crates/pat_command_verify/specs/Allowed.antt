-- What `verify` may answer.
use Rattle.std.specs.Prelude.{◌≡◌, ◌⊎◌, ◌+◌, ℕ, List, length, Some}
use Rattle.pat_semantics_spec.specs.Programs.{Program}
use Rattle.pat_semantics_spec.specs.Faults.{IsSafe}
use Rattle.pat_derivation_spec.specs.Derivations.{Derivation}
use Rattle.pat_derivation_spec.specs.Validity.{first_bad, IsValid}
use Rattle.pat_derivation_text_spec.specs.DerivationText.{marker}
use Rattle.pat_derivation_text_spec.specs.Reading.{ReadsAs, Unread}
use Rattle.pat_input_split.specs.program_with_text.MarkedPrograms.{HasProgram, IsMarkedRefusal}
use Rattle.pat_judge.specs.Views.{rule_view}
use Rattle.pat_front.specs.Lines.{line_of_verdict}
use Rattle.pat_front.specs.declared.verdict.Verdict.{Verdict}
use Rattle.pat_front.specs.declared.verdict.Verdict.TheVariants as verdict
use Rattle.pat_front.specs.exit_answers.Answers.{accepted_line}
use Rattle.pat_front.specs.declared.exit_answers.status.Status.{Status}
use Rattle.pat_front.specs.declared.exit_answers.status.Status.TheVariants.{Ok, Refused}

-- ---- behind a program

-- the text spells a derivation of the program, which is valid, so the program is safe
pub record HasValid (p : Program) (text : List ℕ) : Type 0 where
  pub derivation : Derivation
  pub read : ReadsAs p text derivation
  pub valid : IsValid p derivation
  pub safe : IsSafe p

-- why the text, of which the first byte has this offset, isn't accepted
abbrev pub Unaccepted : Program → ℕ → List ℕ → Verdict → Type 0
Unaccepted p from text (verdict.BadText o) = (offset : ℕ) × (o ≡ from + offset) × Unread p text offset
Unaccepted p from text (verdict.Rejected n r) = (d : Derivation) × ReadsAs p text d × (first_bad p d ≡ Some (n, rule_view r))
Unaccepted p from text _ = ⊥

-- ---- whole inputs

-- the text behind the program isn't accepted
pub record RefusesText (bytes : List ℕ) (v : Verdict) : Type 0 where
  pub front : List ℕ
  pub text : List ℕ
  pub program : Program
  pub has : HasProgram marker bytes front text program
  pub unaccepted : Unaccepted program (length front) text v

-- why the bytes are refused
abbrev pub IsVerifyRefusal : List ℕ → Verdict → Type 0
IsVerifyRefusal bytes v = IsMarkedRefusal marker bytes v ⊎ RefusesText bytes v

-- the bytes are the text of a program, and behind it that of a derivation which is valid
pub record IsVerified (bytes : List ℕ) : Type 0 where
  pub front : List ℕ
  pub text : List ℕ
  pub program : Program
  pub has : HasProgram marker bytes front text program
  pub valid : HasValid program text

-- the text and the status of `verify` on these bytes
abbrev pub AllowedVerify : List ℕ → List ℕ → Status → Type 0
AllowedVerify bytes text Ok = IsVerified bytes × (text ≡ accepted_line)
AllowedVerify bytes text (Refused v) = IsVerifyRefusal bytes v × (text ≡ line_of_verdict v)
AllowedVerify bytes text _ = ⊥

-- ---- parts of an answer

-- what is answered of a text behind a program
abbrev pub AnswersText : Program → ℕ → List ℕ → List ℕ → Status → Type 0
AnswersText p from text out Ok = HasValid p text × (out ≡ accepted_line)
AnswersText p from text out (Refused v) = Unaccepted p from text v × (out ≡ line_of_verdict v)
AnswersText p from text out _ = ⊥

-- what is answered of a derivation
abbrev pub AnswersJudged : Program → Derivation → List ℕ → Status → Type 0
AnswersJudged p d out Ok = IsValid p d × IsSafe p × (out ≡ accepted_line)
AnswersJudged p d out (Refused (verdict.Rejected n r)) = (first_bad p d ≡ Some (n, rule_view r)) × (out ≡ line_of_verdict (verdict.Rejected n r))
AnswersJudged p d out _ = ⊥
