use Rattle.std.proofs.Common.{◌≡◌, ◌++◌, map, drop}
use Rattle.pat_inclusion_spec.specs.bounds.Assignments.{lower_of}
use Rattle.pat_solve_bounded.specs.Views.{measured_list}
use Rattle.pat_solve_bounds.specs.lower_bounds.Sides.{sides_list}
use Rattle.pat_solve_closed_forms.proofs.lowers.lower_bounds.Given as goal

-- the lower bounds so far and those of the variables that are left make all of them
abbrev pub invariant-loop-variable : goal.invariant-loop-variable
invariant-loop-variable l =
    measured_list l.lowers ++ map (lower_of (sides_list l.problem.constraints)) (drop l.variable-index l.variables)
    ≡ map (lower_of (sides_list l.problem.constraints)) l.variables
