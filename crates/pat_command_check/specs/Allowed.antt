-- What `check` may answer.
use Rattle.std.specs.Prelude.{◌≡◌, ℕ, List}
use Rattle.pat_front.specs.exit_answers.Answers.{accepted_line}
use Rattle.pat_front.specs.declared.exit_answers.status.Status.{Status}
use Rattle.pat_front.specs.declared.exit_answers.status.Status.TheVariants.{Ok, Refused}
use Rattle.pat_typecheck.specs.Inputs.{IsAcceptedText, IsCheckRefusal}

-- the text and the status of `check` on these bytes
abbrev pub AllowedCheck : List ℕ → List ℕ → Status → Type 0
AllowedCheck bytes text Ok = IsAcceptedText bytes × (text ≡ accepted_line)
AllowedCheck bytes text (Refused v) = IsCheckRefusal bytes v text
AllowedCheck bytes text _ = ⊥
