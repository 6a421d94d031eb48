-- Marks at the variables that a pattern needs.
use Rattle.std.specs.Prelude.{◌≡◌, ℕ, suc, ◌≤◌, ◌<◌, Bool, true, false, List, length, get_or}
use Rattle.pat_words_spec.specs.Patterns.{Pat, Zero}
use Rattle.pat_solve_bounded.specs.Variables.{has_var}

abbrev pub is_marked : List Bool → ℕ → Bool
is_marked marks i = get_or marks i false

-- the marks before the place stay, and none goes
pub record MarksMore (from : ℕ) (old new : List Bool) : Type 0 where
  pub many : length new ≡ length old
  pub front : (i : ℕ) → i < from → is_marked new i ≡ is_marked old i
  pub stay : (i : ℕ) → is_marked old i ≡ true → is_marked new i ≡ true

-- each variable from the place on that occurs in the pattern is marked
abbrev pub Marks : List ℕ → ℕ → Pat → List Bool → Type 0
Marks ks from e marks = (i : ℕ) → from ≤ i → i < length ks → has_var (get_or ks i 0) e ≡ true → is_marked marks i ≡ true

-- so is, for each marked variable before the end, each later one that occurs in its value
abbrev pub AreClosed : List ℕ → List Pat → ℕ → List Bool → Type 0
AreClosed ks es end marks = (i : ℕ) → i < end → is_marked marks i ≡ true → Marks ks (suc i) (get_or es i Zero) marks
