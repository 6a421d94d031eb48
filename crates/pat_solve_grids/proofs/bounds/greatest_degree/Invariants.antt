use Rattle.std.proofs.Common.{◌≡◌, ◌≤◌, ◌-◌, ◌^◌, min, drop}
use Rattle.std.specs.Prelude.{max}
use Rattle.pat_solve_bounds.specs.lower_bounds.Sides.{sides_list}
use Rattle.pat_solve_bounds.specs.renumbered.Systems.{picked}
use Rattle.pat_solve_grids.specs.Rights.{greatest}
use Rattle.pat_solve_grids.proofs.bounds.greatest_degree.Given as goal

abbrev pub invariant-loop-number : goal.invariant-loop-number
invariant-loop-number l =
    (l.most ≤ 2 ^ 32 - 1)
    × (min (max l.most (greatest (picked (sides_list l.constraints) (drop l.number-index l.numbers)))) (2 ^ 32 - 1)
    ≡ min (greatest (picked (sides_list l.constraints) l.numbers)) (2 ^ 32 - 1))
