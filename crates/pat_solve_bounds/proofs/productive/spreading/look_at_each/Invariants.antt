use Rattle.std.proofs.Common.{◌≤◌, drop}
use Rattle.pat_solve_bounds.specs.lower_bounds.Sides.{sides_list}
use Rattle.pat_solve_bounds.specs.productive.Spreading.{IsSpread, weight}
use Rattle.pat_solve_bounds.proofs.productive.spreading.look_at_each.Given as goal

abbrev pub invariant-loop-number : goal.invariant-loop-number
invariant-loop-number l =
    IsSpread (sides_list l.constraints) (drop l.number-index l.numbers) l.flags l.waiting
    × (weight l.flags l.waiting ≤ weight l.initial.flags l.initial.waiting)
