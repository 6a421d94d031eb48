-- Variables that are found to have a derivable word, one after another.
use Rattle.std.specs.Prelude.{◌≡◌, ℕ, zero, suc, ◌+◌, ◌<◌, ◌⊎◌, Bool, true, false, not, ◌&&◌, List, [], ◌∷◌, ◌++◌, length, Option, Some, None, slice_get, set, IsTrue, IsFalse}
use Rattle.pat_words_spec.specs.Words.{Word}
use Rattle.pat_semantics_spec.specs.Programs.{is_among}
use Rattle.pat_inclusion_spec.specs.Under.{inhabited_under}
use Rattle.pat_inclusion_spec.specs.bounds.Trees.{derivable}
use Rattle.pat_inclusion_spec.specs.bounds.Assignments.{VarRight, Constraint, lower_of}
use Rattle.pat_solve_bounds.specs.productive.Flags.{flag_of}

-- the variable has a word, and the constraints that name it have been looked at since that was found
abbrev pub is_passed : List Bool → List ℕ → ℕ → Bool
is_passed flags waiting k = flag_of flags k && not (is_among k waiting)

-- each variable with a flag has a derivable word; and each constraint but the rest has been looked at since the variables that it
-- names were passed
pub record IsSpread (cs : List Constraint) (rest : List ℕ) (flags : List Bool) (waiting : List ℕ) : Type 0 where
  pub sound : (k : ℕ) → IsTrue (flag_of flags k) → (w : Word) × derivable (lower_of cs) k w
  pub closed : (n k : ℕ) (c : Constraint) → slice_get cs n ≡ Some c → c.right ≡ VarRight k → k < length flags → IsFalse (is_among n rest) → IsTrue (inhabited_under (is_passed flags waiting) c.left) → IsTrue (flag_of flags k)

-- the variable of the constraint's right side gets its flag, since the left side has a word, and waits
pub record IsMarked (c : Constraint) (flags : List Bool) (waiting : List ℕ) (new : List Bool) (later : List ℕ) : Type 0 where
  pub variable : ℕ
  pub right : c.right ≡ VarRight variable
  pub there : variable < length flags
  pub word : IsTrue (inhabited_under (flag_of flags) c.left)
  pub open_before : IsFalse (flag_of flags variable)
  pub flags_are : new ≡ set flags variable true
  pub waiting_are : later ≡ variable ∷ waiting

-- the constraint has been looked at: all is as it was, or its variable is marked
pub record IsLookedAt (c : Constraint) (flags : List Bool) (waiting : List ℕ) (new : List Bool) (later : List ℕ) : Type 0 where
  pub step : ((new ≡ flags) × (later ≡ waiting)) ⊎ IsMarked c flags waiting new later
  pub closed : (k : ℕ) → c.right ≡ VarRight k → k < length flags → IsTrue (inhabited_under (flag_of flags) c.left) → IsTrue (flag_of new k)

-- the same, if there is a constraint
abbrev pub LookedIf : Option Constraint → List Bool → List ℕ → List Bool → List ℕ → Type 0
LookedIf None flags waiting new later = (new ≡ flags) × (later ≡ waiting)
LookedIf (Some c) flags waiting new later = IsLookedAt c flags waiting new later

-- the numbers below this one, ascending
abbrev pub numbers_below : ℕ → List ℕ
numbers_below zero = []
numbers_below (suc n) = numbers_below n ++ n ∷ []

-- the variables without a flag
abbrev pub unset : List Bool → ℕ
unset [] = 0
unset (true ∷ flags) = unset flags
unset (false ∷ flags) = suc (unset flags)

-- what is left to do at most: each variable without a flag may wait once
abbrev pub weight : List Bool → List ℕ → ℕ
weight flags waiting = unset flags + (unset flags + length waiting)
