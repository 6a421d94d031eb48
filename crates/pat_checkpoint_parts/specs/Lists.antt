-- Lists of numbers by number, and lists of numbers that are the same.
use Rattle.std.specs.Prelude.{◌≡◌, ℕ, Bool, true, false, not, ◌&&◌, nat_eq, List, [], ◌∷◌, Option, Some, None, slice_get, filter}
use Rattle.pat_semantics_spec.specs.Programs.{Program, is_among, is_free, option_list}
use Rattle.pat_checkpoint_spec.specs.Numbers.{ascends}

abbrev pub list_or_none : Option (List ℕ) → List ℕ
list_or_none None = []
list_or_none (Some xs) = xs

-- the list with this number, if there is one, and otherwise the empty one
abbrev pub numbers_at : List (List ℕ) → ℕ → List ℕ
numbers_at lists n = list_or_none (slice_get lists n)

-- whether x is in the list with number n
abbrev pub is_listed : List (List ℕ) → ℕ → ℕ → Bool
is_listed lists n x = is_among x (numbers_at lists n)

-- the lists have the free variables of each node, in ascending order
pub record AreFree (p : Program) (lists : List (List ℕ)) : Type 0 where
  pub listed : (x n : ℕ) → is_listed lists n x ≡ is_free p x n
  pub ascend : (n : ℕ) → ascends 0 (numbers_at lists n) ≡ true

-- whether the lists are the same
abbrev pub are_same : List ℕ → List ℕ → Bool
are_same [] [] = true
are_same (x ∷ xs) (y ∷ ys) = nat_eq x y && are_same xs ys
are_same _ _ = false

-- the numbers but that one, if there is one
abbrev pub all_but : Option ℕ → List ℕ → List ℕ
all_but but xs = filter (λ x. not (is_among x (option_list but))) xs

-- whether x is the first of them
abbrev pub is_first : ℕ → List ℕ → Bool
is_first x [] = false
is_first x (y ∷ ys) = nat_eq x y
