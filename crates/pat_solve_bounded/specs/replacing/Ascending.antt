-- Variables in ascending order, each with a value.
use Rattle.std.specs.Prelude.{ℕ, ◌<◌, List, [], ◌∷◌, length, get_or}
use Rattle.pat_words_spec.specs.Patterns.{Pat}
use Rattle.pat_solve_spec.specs.Assignments.{Values}

abbrev pub IsAscending : List ℕ → Type 0
IsAscending ks = (i j : ℕ) → i < j → j < length ks → get_or ks i 0 < get_or ks j 0

-- each variable with the value at the same place
abbrev pub paired : List ℕ → List Pat → Values
paired [] vs = []
paired (k ∷ ks) [] = []
paired (k ∷ ks) (v ∷ vs) = (k, v) ∷ paired ks vs
