-- Ascending lists, and where a variable stands in one.
use Rattle.std.specs.Prelude.{◌≡◌, ℕ, ◌<◌, ◌≤◌, List, length, get_or}

-- each is less than those behind it
abbrev pub Ascends : List ℕ → Type 0
Ascends xs = (i j d : ℕ) → i < j → j < length xs → get_or xs i d < get_or xs j d

-- the variable stands there
abbrev pub StandsAt : List ℕ → (variable place : ℕ) → Type 0
StandsAt xs x i = (i < length xs) × ((d : ℕ) → get_or xs i d ≡ x)

-- those in front of the place are less than the variable, and those from it on are greater
pub record FitsAt (xs : List ℕ) (x i : ℕ) : Type 0 where
  pub within : i ≤ length xs
  pub front : (k d : ℕ) → k < length xs → k < i → get_or xs k d < x
  pub behind : (k d : ℕ) → k < length xs → i ≤ k → x < get_or xs k d
