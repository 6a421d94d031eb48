use Rattle.std.proofs.Common.{◌≡◌, ◌+◌, ◌≤◌, length}
use Rattle.pat_grid_points.specs.symbols.Views.{symbols_view}
use Rattle.pat_solve_bounds.specs.lower_bounds.Sides.{sides_list}
use Rattle.pat_solve_bounds.specs.renumbered.Renaming.{place_in}
use Rattle.pat_solve_grids.specs.Laying.{AreSidesLaid}
use Rattle.pat_solve_grids.proofs.laying.lay_some.Given as goal

abbrev pub invariant-loop-place : goal.invariant-loop-place
invariant-loop-place l =
    (l.from + length l.sides ≡ l.place)
    × (l.place ≤ length l.numbers)
    × AreSidesLaid (place_in l.variables) (sides_list l.constraints) l.numbers l.from (symbols_view l.initial.shared.symbols) (symbols_view l.shared.symbols) l.sides
