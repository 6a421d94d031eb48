-- The sides of a problem's constraints, as the definitions see them.
use Rattle.std.specs.Prelude.{ℕ, List, map, get_or}
use Rattle.pat_words_spec.specs.Patterns.{Pat, Zero}
use Rattle.pat_inclusion_spec.specs.bounds.Assignments as bounds
use Rattle.pat_inclusion_spec.specs.bounds.Assignments.{PatternRight, VarRight}
use Rattle.pat_patterns.specs.Views.{pattern_view}
use Rattle.pat_types.specs.Views.{RightForm, OneVariable, OtherPattern, right_view}
use Rattle.pat_infer_problems.specs.declared.problem.Constraint.{Constraint}

abbrev pub form_side : RightForm → bounds.Right
form_side (OneVariable k) = VarRight k
form_side (OtherPattern e) = PatternRight e

-- both sides of a constraint
abbrev pub sides_view : Constraint → bounds.Constraint
sides_view c = record { left = pattern_view c.left; right = form_side (right_view c.right) }

abbrev pub sides_list : List Constraint → List bounds.Constraint
sides_list cs = map sides_view cs

-- the left side of the constraint with this number
abbrev pub left_at : List Constraint → ℕ → Pat
left_at cs n = get_or (map (λ c. pattern_view c.left) cs) n Zero
