use Rattle.std.proofs.Common.{length}
use Rattle.pat_grid_points.proofs.Ascending.{Holding}
use Rattle.pat_grid_points.proofs.grid.Grid.from_points.Given as goal

abbrev pub invariant-loop-rest : goal.invariant-loop-rest
invariant-loop-rest l = Holding l.k l.tags l.points l.rest l.held

abbrev pub decreases-loop-rest : goal.decreases-loop-rest
decreases-loop-rest l = length l.rest
