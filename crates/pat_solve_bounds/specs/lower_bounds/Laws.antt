-- What an index says of the constraints and the variables that inference finds of a program.
use Rattle.std.specs.Prelude.{◌≡◌, ℕ, ◌<◌, [], nat_eq, map, length, get_or}
use Rattle.pat_core.specs.declared.program.Program.{Program}
use Rattle.pat_core.specs.Views.{program_view}
use Rattle.pat_infer_spec.specs.Walk.{inferred, all_vars}
use Rattle.pat_infer_problems.specs.Problems.{IsProblemOf}
use Rattle.pat_infer_problems.specs.declared.problem.Problem.{Problem}
use Rattle.pat_solve_spec.specs.LowerBounds.{sides_of}
use Rattle.pat_solve_spec.specs.Assignments.{vars_in}
use Rattle.pat_solve_bounds.specs.declared.lower_bounds.indexing.Index.{Index}
use Rattle.pat_solve_bounds.specs.lower_bounds.Rows.{numbers}
use Rattle.pat_solve_bounds.specs.lower_bounds.Sides.{sides_list}
use Rattle.pat_solve_bounds.specs.lower_bounds.Indexes.{IsIndexOf}

-- the numbers of the program's constraints and variables of interface i, and the sides of all constraints
pub record IsIndexed (p : Program) (q : Problem) (x : Index) : Type 0 where
  pub constraints : (i : ℕ) → i < length x.constraints → get_or x.constraints i [] ≡ numbers (λ c. nat_eq c.interface i) 0 (inferred (program_view p)).constraints
  pub variables : (i : ℕ) → i < length x.constraints → get_or x.variables i [] ≡ vars_in i 1 (all_vars (program_view p))
  pub sides : sides_list q.constraints ≡ map sides_of (inferred (program_view p)).constraints

abbrev pub IndexLaw : Type 0
IndexLaw = (p : Program) (q : Problem) (x : Index) → IsProblemOf p q → IsIndexOf q x → IsIndexed p q x
