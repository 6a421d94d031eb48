use Rattle.std.proofs.Common.{◌≡◌, [], length}
use Rattle.pat_solve_bounds.specs.lower_bounds.Sides.{sides_list}
use Rattle.pat_solve_bounds.specs.productive.Spreading.{IsSpread, weight}
use Rattle.pat_solve_bounds.proofs.productive.spreading.usable_variables.Given as goal

abbrev pub invariant-loop-variable : goal.invariant-loop-variable
invariant-loop-variable l =
    IsSpread (sides_list l.constraints) [] l.flags.items l.waiting × (length l.flags.items ≡ l.count)

abbrev pub decreases-loop-variable : goal.decreases-loop-variable
decreases-loop-variable l = weight l.flags.items l.waiting
