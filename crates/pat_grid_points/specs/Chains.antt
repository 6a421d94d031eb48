-- Many lists in one place: links, each with a number and the link behind it.
use Rattle.std.specs.Prelude.{ℕ, zero, suc, ◌≤◌, List, [], ◌∷◌, length, get_or, set, map, nat_le, if◌then◌else◌}

-- from the link on, at most so many numbers
abbrev pub chain : ℕ → List (ℕ × ℕ) → ℕ → List ℕ
chain zero links link = []
chain (suc most) links zero = []
chain (suc most) links (suc p) = (get_or links p (0, 0)).0 ∷ chain most links (get_or links p (0, 0)).1

-- the lists that begin with these links; there are no more links in a list than its first one says
abbrev pub chains : List (ℕ × ℕ) → List ℕ → List (List ℕ)
chains links firsts = map (λ link. chain link links link) firsts

-- each list begins at a link that is there, and goes down
pub record AreChains (links : List (ℕ × ℕ)) (firsts : List ℕ) : Type 0 where
  pub within : (a : ℕ) → get_or firsts a 0 ≤ length links
  pub down : (p : ℕ) → (get_or links p (0, 0)).1 ≤ p

-- the number is noted in front of the list at the place, if there is one
abbrev pub noted : List (List ℕ) → ℕ → ℕ → List (List ℕ)
noted lists place number = set lists place (number ∷ get_or lists place [])

-- those that are no lower
abbrev pub from_on : ℕ → List ℕ → List ℕ
from_on from [] = []
from_on from (x ∷ xs) = if nat_le from x then x ∷ from_on from xs else from_on from xs
