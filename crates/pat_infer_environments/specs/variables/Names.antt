-- The variables that several parts need.
use Rattle.std.specs.Prelude.{◌≡◌, ℕ, ◌<◌, Bool, false, List, [], ◌∷◌, nat_eq, nat_lt}
use Rattle.std.specs.List.{AllByRecursion}
use Rattle.std.specs.Map.{keys_of}
use Rattle.pat_type_schemes_spec.specs.NodeTypes.{Needs}
use Rattle.pat_infer_spec.specs.Needs.{add_all}

-- the variables that some branch needs
abbrev pub names_of_outer : List Needs → List ℕ
names_of_outer [] = []
names_of_outer (needs ∷ rest) = add_all (keys_of needs) (names_of_outer rest)

-- ---- names on a stack, the least on top

-- whether the name on top is lesser
abbrev pub has_lesser : ℕ → List ℕ → Bool
has_lesser x [] = false
has_lesser x (z ∷ zs) = nat_lt z x

-- whether the name on top is this
abbrev pub first_is_name : ℕ → List ℕ → Bool
first_is_name x [] = false
first_is_name x (z ∷ zs) = nat_eq x z

-- names that are put on others one by one
abbrev pub put_on : List ℕ → List ℕ → List ℕ
put_on [] zs = zs
put_on (y ∷ ys) zs = put_on ys (y ∷ zs)

-- all lesser names are taken off
pub record IsLifted (x : ℕ) (all lesser left : List ℕ) : Type 0 where
  pub whole : put_on lesser left ≡ all
  pub below : AllByRecursion (λ z. z < x) lesser
  pub rest : has_lesser x left ≡ false
