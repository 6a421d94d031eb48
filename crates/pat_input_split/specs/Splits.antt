-- Bytes are in two parts in one way at most, or no line of them is the mark.
use Rattle.std.specs.Prelude.{◌≡◌, ℕ, List}
use Rattle.pat_input_split.specs.Marked.{IsMarked, IsUnmarked}

pub record OneSplit (mark bytes : List ℕ) : Type 0 where
  pub same : (f g t u : List ℕ) → IsMarked mark bytes f t → IsMarked mark bytes g u → (f ≡ g) × (t ≡ u)
  pub not_both : (f t : List ℕ) → IsMarked mark bytes f t → IsUnmarked mark bytes → ⊥
