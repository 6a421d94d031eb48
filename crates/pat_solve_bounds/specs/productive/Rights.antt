-- Constraints whose right sides are variables with small numbers.
use Rattle.std.specs.Prelude.{◌≡◌, ℕ, ◌<◌, List, Some, slice_get}
use Rattle.pat_inclusion_spec.specs.bounds.Assignments.{VarRight, Constraint}

-- each variable on a right side has a number below the count
abbrev pub RightsBelow : ℕ → List Constraint → Type 0
RightsBelow count cs = (n k : ℕ) (c : Constraint) → slice_get cs n ≡ Some c → c.right ≡ VarRight k → k < count
