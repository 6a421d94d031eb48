-- Lists of sets one behind another in one list.
use Rattle.std.specs.Prelude.{◌≡◌, ℕ, ◌≤◌, List, [], ◌∷◌, ◌++◌, length, take, drop}
use Rattle.pat_linear.specs.declared.set.LinearSet.{LinearSet}

-- the lists that start at these places, the last one first
abbrev pub lists_on : List LinearSet → List ℕ → List (List LinearSet)
lists_on sets [] = []
lists_on sets (s ∷ ss) = drop s sets ∷ lists_on (take s sets) ss

-- the places go down to 0 from so many sets
abbrev pub GoDown : ℕ → List ℕ → Type 0
GoDown n [] = n ≡ 0
GoDown n (s ∷ ss) = (s ≤ n) × GoDown s ss

-- the list on top
abbrev pub top_of : List (List LinearSet) → List LinearSet
top_of [] = []
top_of (a ∷ rest) = a

-- the two lists on top give way to one with the sets of both, and the number is that of the lower one's sets
pub record Unites (n : ℕ) (old new : List (List LinearSet)) : Type 0 where
  pub lower : List LinearSet
  pub upper : List LinearSet
  pub rest : List (List LinearSet)
  pub was : old ≡ upper ∷ lower ∷ rest
  pub is : new ≡ (lower ++ upper) ∷ rest
  pub count : n ≡ length lower

-- the list on top has lost its first set
pub record TakesFirst (set : LinearSet) (old new : List (List LinearSet)) : Type 0 where
  pub others : List LinearSet
  pub rest : List (List LinearSet)
  pub was : old ≡ (set ∷ others) ∷ rest
  pub is : new ≡ others ∷ rest
