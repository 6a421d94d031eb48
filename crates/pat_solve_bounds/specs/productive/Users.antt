-- Which constraints name which variables.
use Rattle.std.specs.Prelude.{◌≡◌, ℕ, ◌<◌, List, [], ◌∷◌, ◌++◌, length, Some, slice_get, get_or, set, IsTrue}
use Rattle.pat_words_spec.specs.Patterns.{Pat}
use Rattle.pat_semantics_spec.specs.Programs.{is_among}
use Rattle.pat_inclusion_spec.specs.bounds.Assignments.{Constraint}
use Rattle.pat_solve_elimination.specs.Variables.{has_var}

-- the number is noted for variable k, if there is such a variable
abbrev pub noted : List (List ℕ) → ℕ → ℕ → List (List ℕ)
noted users k n = set users k (get_or users k [] ++ (n ∷ []))

-- the number is noted for each variable of the pattern, and what was noted stays
pub record Notes (e : Pat) (n : ℕ) (old new : List (List ℕ)) : Type 0 where
  pub as_many : length new ≡ length old
  pub kept : (k m : ℕ) → IsTrue (is_among m (get_or old k [])) → IsTrue (is_among m (get_or new k []))
  pub noted : (k : ℕ) → k < length old → IsTrue (has_var k e) → IsTrue (is_among n (get_or new k []))

-- the same for the left side of the constraint with the number
abbrev pub NotesAt : List Constraint → ℕ → List (List ℕ) → List (List ℕ) → Type 0
NotesAt cs n old new = (c : Constraint) × (slice_get cs n ≡ Some c) × Notes c.left n old new

-- of each variable the first m constraints that name it on their left are noted
pub record HasUsersBefore (cs : List Constraint) (count m : ℕ) (users : List (List ℕ)) : Type 0 where
  pub as_many : length users ≡ count
  pub all : (n k : ℕ) (c : Constraint) → n < m → k < count → slice_get cs n ≡ Some c → IsTrue (has_var k c.left) → IsTrue (is_among n (get_or users k []))

abbrev pub HasUsers : List Constraint → ℕ → List (List ℕ) → Type 0
HasUsers cs count users = HasUsersBefore cs count (length cs) users
