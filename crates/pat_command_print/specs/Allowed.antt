-- What `print` may answer.
use Rattle.std.specs.Prelude.{◌≡◌, ℕ, List}
use Rattle.pat_semantics_spec.specs.Programs.{Program}
use Rattle.pat_parser_spec.specs.Trees.{Tree}
use Rattle.pat_print_spec.specs.Text.{canonical_text}
use Rattle.pat_front.specs.Lines.{line_of_verdict}
use Rattle.pat_front.specs.Texts.{IsProgramText, IsRefusal}
use Rattle.pat_front.specs.declared.exit_answers.status.Status.{Status}
use Rattle.pat_front.specs.declared.exit_answers.status.Status.TheVariants.{Ok, Refused}

-- the text and the status of `print` on these bytes: the canonical text of the tree that they spell
abbrev pub AllowedPrint : List ℕ → List ℕ → Status → Type 0
AllowedPrint bytes text Ok = (t : Tree) × (p : Program) × IsProgramText bytes t p × (text ≡ canonical_text t)
AllowedPrint bytes text (Refused v) = IsRefusal bytes v × (text ≡ line_of_verdict v)
AllowedPrint bytes text _ = ⊥
