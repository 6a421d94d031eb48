use Rattle.std.proofs.Common.{◌≡◌, ◌&&◌, drop}
use Rattle.pat_solve_bounds.specs.lower_bounds.Sides.{sides_list}
use Rattle.pat_solve_bounds.specs.renumbered.Systems.{picked}
use Rattle.pat_solve_grids.specs.Rights.{all_flat}
use Rattle.pat_solve_grids.proofs.bounds.are_flat.Given as goal

abbrev pub invariant-loop-number : goal.invariant-loop-number
invariant-loop-number l =
    (l.flat && all_flat (picked (sides_list l.constraints) (drop l.number-index l.numbers))) ≡ all_flat (picked (sides_list l.constraints) l.numbers)
