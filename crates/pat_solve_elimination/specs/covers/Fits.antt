-- When a closed-form assignment isn't too large.
use Rattle.std.specs.Prelude.{◌≡◌, ℕ, ◌&&◌, List, is_some}
use Rattle.std.specs.List.{list_all}
use Rattle.pat_inclusion_spec.specs.ClosedForms.{closed_form}
use Rattle.pat_infer_spec.specs.Constraints.{Constraint}
use Rattle.pat_solve_spec.specs.Assignments.{value_in, assigned, sides_under, assignment_fits}
use Rattle.pat_solve_elimination.specs.assignment.Results.{rounds_fit}

-- the closed-form assignment of an interface of n tags isn't too large where both rounds are within the limits, and each side of a
-- constraint has a closed form once its variables are replaced
abbrev pub FitsLaw : Type 0
FitsLaw =
    (n : ℕ) (cs : List Constraint) (ks : List ℕ)
    → assignment_fits n cs ks ≡ (rounds_fit cs ks && list_all (λ e. is_some (closed_form n e)) (sides_under (value_in (assigned cs ks)) cs))
