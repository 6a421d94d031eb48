-- The sides of a problem's constraints, with their variables replaced.
use Rattle.std.specs.Prelude.{ℕ, List, map, get_or}
use Rattle.pat_words_spec.specs.Patterns.{Pat, Zero, Var, subst_of}
use Rattle.pat_types.specs.Views.{RightForm, OneVariable, OtherPattern, right_view}
use Rattle.pat_infer_problems.specs.declared.problem.Constraint.{Constraint}
use Rattle.pat_solve_bounds.specs.lower_bounds.Sides.{left_at}

-- a right side as a pattern
abbrev pub right_pattern : RightForm → Pat
right_pattern (OneVariable k) = Var k
right_pattern (OtherPattern e) = e

-- the right side of the constraint with this number
abbrev pub right_at : List Constraint → ℕ → Pat
right_at cs n = get_or (map (λ c. right_pattern (right_view c.right)) cs) n Zero

-- both sides, replaced
abbrev pub left_under : (ℕ → Pat) → List Constraint → ℕ → Pat
left_under values cs n = subst_of values (left_at cs n)

abbrev pub right_under : (ℕ → Pat) → List Constraint → ℕ → Pat
right_under values cs n = subst_of values (right_at cs n)
