-- Texts whose programs are accepted, and texts that are refused.
use Rattle.std.specs.Prelude.{◌≡◌, ◌⊎◌, List, ℕ}
use Rattle.pat_semantics_spec.specs.Programs.{Program}
use Rattle.pat_semantics_spec.specs.Faults.{IsSafe}
use Rattle.pat_type_system_spec.specs.Typings.{IsTypable}
use Rattle.pat_parser_spec.specs.Trees.{Tree}
use Rattle.pat_resolver_spec.specs.Places.{places}
use Rattle.pat_derivation_spec.specs.Derivations.{Derivation}
use Rattle.pat_front.specs.Lines.{line_of_verdict, line_with}
use Rattle.pat_front.specs.Texts.{IsProgramText, IsRefusal}
use Rattle.pat_front.specs.declared.reason.Reason.{Reason}
use Rattle.pat_front.specs.declared.verdict.Verdict.{Verdict}
use Rattle.pat_front.specs.declared.verdict.Verdict.TheVariants.{Unaccepted}
use Rattle.pat_typecheck.specs.Reasons.{IsMade, IsUnaccepted}

-- the bytes are the text of a program with a valid derivation, so it can be typed and is safe
pub record IsAcceptedText (bytes : List ℕ) : Type 0 where
  pub tree : Tree
  pub program : Program
  pub spelled : IsProgramText bytes tree program
  pub derivation : Derivation
  pub made : IsMade program derivation
  pub typable : IsTypable program
  pub safe : IsSafe program

-- the bytes are the text of a program that isn't accepted, for this reason, with these words behind it
pub record RefusesProgram (bytes : List ℕ) (r : Reason) (more : List ℕ) : Type 0 where
  pub tree : Tree
  pub program : Program
  pub spelled : IsProgramText bytes tree program
  pub unaccepted : IsUnaccepted program (places tree) r more

-- the line says why the bytes are refused: they are no text of a program, or it isn't accepted
abbrev pub IsCheckRefusal : List ℕ → Verdict → List ℕ → Type 0
IsCheckRefusal bytes v line =
    (IsRefusal bytes v × (line ≡ line_of_verdict v))
    ⊎ ((r : Reason) × (more : List ℕ) × (v ≡ Unaccepted r) × RefusesProgram bytes r more × (line ≡ line_with v more))
