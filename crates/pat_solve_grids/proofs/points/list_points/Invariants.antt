use Rattle.std.proofs.Common.{take}
use Rattle.pat_solve_grids.specs.Points.{AreListed}
use Rattle.pat_solve_grids.proofs.points.list_points.Given as goal

abbrev pub invariant-loop-grid : goal.invariant-loop-grid
invariant-loop-grid l = AreListed (take l.grid-index l.grids) l.lists
