-- A text has one answer: it is that of one program, or it is refused, and in one way.
use Rattle.std.specs.Prelude.{◌≡◌, ℕ, List}
use Rattle.pat_semantics_spec.specs.Programs.{Program}
use Rattle.pat_parser_spec.specs.Trees.{Tree}
use Rattle.pat_front.specs.declared.verdict.Verdict.{Verdict}
use Rattle.pat_front.specs.Texts.{IsTreeText, IsProgramText, IsRefusal}

-- so each verdict comes exactly where it is said to come, and a program exactly where there is one
pub record OneAnswer (bytes : List ℕ) : Type 0 where
  pub one_tree : (t u : Tree) → IsTreeText bytes t → IsTreeText bytes u → t ≡ u
  pub one_program : (t u : Tree) (p q : Program) → IsProgramText bytes t p → IsProgramText bytes u q → p ≡ q
  pub one_refusal : (v w : Verdict) → IsRefusal bytes v → IsRefusal bytes w → v ≡ w
  pub not_both : (v : Verdict) (t : Tree) (p : Program) → IsRefusal bytes v → IsProgramText bytes t p → ⊥
