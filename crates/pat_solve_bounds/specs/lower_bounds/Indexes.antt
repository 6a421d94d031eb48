-- What an index says of a problem.
use Rattle.std.specs.Prelude.{◌≡◌, ℕ, ◌<◌, ◌≤◌, [], nat_eq, length, get_or, Option, Some, None}
use Rattle.pat_types.specs.declared.types.Right.{Right}
use Rattle.pat_types.specs.declared.types.Right.TheVariants as right
use Rattle.pat_infer_problems.specs.declared.problem.Problem.{Problem}
use Rattle.pat_solve_bounds.specs.declared.lower_bounds.indexing.Index.{Index}
use Rattle.pat_solve_bounds.specs.lower_bounds.Rows.{numbers, is_key}

-- the variable that a right side is
abbrev pub right_variable : Right → Option ℕ
right_variable (right.Var k) = Some k
right_variable (right.Pattern e) = None

-- the constraints and the variables of each interface, and the constraints with each variable on the right, by their numbers
pub record IsIndexOf (q : Problem) (x : Index) : Type 0 where
  pub as_many : length x.variables ≡ length x.constraints
  pub constraints : (i : ℕ) → i < length x.constraints → get_or x.constraints i [] ≡ numbers (λ c. nat_eq c.interface i) 0 q.constraints
  pub variables : (i : ℕ) → i < length x.constraints → get_or x.variables i [] ≡ numbers (λ v. nat_eq v.interface i) 1 q.vars
  pub each : length q.vars < length x.lefts
  pub lefts : (k : ℕ) → k ≤ length q.vars → get_or x.lefts k [] ≡ numbers (λ c. is_key k (right_variable c.right)) 0 q.constraints
