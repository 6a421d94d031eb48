-- Bytes are those of one program at most, or there is one reason why they aren't.
use Rattle.std.specs.Prelude.{◌≡◌, ℕ, List}
use Rattle.pat_semantics_spec.specs.Programs.{Program}
use Rattle.pat_front.specs.declared.verdict.Verdict.{Verdict}
use Rattle.pat_input_split.specs.program_with_text.MarkedPrograms.{HasProgram, IsMarkedRefusal}

pub record OneProgram (mark bytes : List ℕ) : Type 0 where
  pub same : (f g t u : List ℕ) (p q : Program) → HasProgram mark bytes f t p → HasProgram mark bytes g u q → (f ≡ g) × (t ≡ u) × (p ≡ q)
  pub not_both : (f t : List ℕ) (p : Program) (v : Verdict) → HasProgram mark bytes f t p → IsMarkedRefusal mark bytes v → ⊥
  pub one_refusal : (v w : Verdict) → IsMarkedRefusal mark bytes v → IsMarkedRefusal mark bytes w → v ≡ w
