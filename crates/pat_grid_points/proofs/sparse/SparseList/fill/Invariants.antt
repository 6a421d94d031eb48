use Rattle.std.proofs.Common.{◌≤◌, ◌-◌}
use Rattle.pat_grid_points.specs.Sparse.{IsFilled}
use Rattle.pat_grid_points.proofs.sparse.SparseList.fill.Given as goal

abbrev pub invariant-loop-done : goal.invariant-loop-done
invariant-loop-done g l = (l.done ≤ l.count) × IsFilled l.from l.done l.item l.initial.self l.self

abbrev pub decreases-loop-done : goal.decreases-loop-done
decreases-loop-done g l = l.count - l.done
