-- What the constraints of a program say, and that they are its own.
use Rattle.std.specs.Prelude.{◌≡◌, ℕ, nat_eq, [], length, map, Some, slice_get}
use Rattle.std.specs.Map.{lookup}
use Rattle.std.specs.List.{AllByRecursion}
use Rattle.pat_words_spec.specs.Patterns.{Pat}
use Rattle.pat_semantics_spec.specs.Programs as core
use Rattle.pat_semantics_spec.specs.Programs.{node_at}
use Rattle.pat_infer_spec.specs.Typings.{IsTyping}
use Rattle.pat_type_schemes_spec.specs.Signatures.{signature_vars}
use Rattle.pat_infer_spec.specs.Walk.{inferred, all_vars}
use Rattle.pat_infer_spec.specs.Shapes.{ConstraintFits, NodeTypeFits}
use Rattle.pat_infer_spec.specs.Solutions.{IsPatternSolution, SendersHaveWords, typing_found}
use Rattle.pat_core.specs.declared.program.Program.{Program}
use Rattle.pat_core.specs.Views.{program_view}
use Rattle.pat_types.specs.Views.{node_type_view}
use Rattle.pat_infer_problems.specs.Views.{placed_variable, placed_variable_of, placed_constraint, constraint_view}
use Rattle.pat_infer_problems.specs.declared.problem.Problem.{Problem}

-- the problem has the variables and the constraints that are found of the program, in order, with their places in the text, and
-- each node's type
pub record IsProblemOf (p : Program) (q : Problem) : Type 0 where
  pub vars : map placed_variable_of q.vars ≡ map (placed_variable p) (all_vars (program_view p))
  pub constraints : map constraint_view q.constraints ≡ map (placed_constraint p) (inferred (program_view p)).constraints
  pub count : length q.nodes ≡ length p.nodes
  pub nodes : (n : ℕ) (d : core.Node) → node_at (program_view p) n ≡ Some d → slice_get (map node_type_view q.nodes) n ≡ lookup (nat_eq n) (inferred (program_view p)).nodes

-- no rule is broken; patterns keep to their interfaces, and right sides are one variable or have none; and what meets the
-- constraints and gives words to the sending variables of signatures is a typing
pub record IsEnough (p : core.Program) : Type 0 where
  pub clean : (inferred p).findings ≡ []
  pub sides : AllByRecursion (ConstraintFits p (all_vars p)) (inferred p).constraints
  pub types : AllByRecursion (λ e. NodeTypeFits p (all_vars p) e.1) (inferred p).nodes
  pub typing : (s : ℕ → Pat) → IsPatternSolution p s → SendersHaveWords s 1 (signature_vars p) → IsTyping p (typing_found p s)
