use Rattle.std.proofs.Common.{[], ◌∷◌}
use Rattle.pat_grid_sums.specs.Shapes.{AreMoved}
use Rattle.pat_grid_sums.proofs.moving.moved_by_each.Given as goal

abbrev pub invariant-loop-place : goal.invariant-loop-place
invariant-loop-place l =
    AreMoved (l.used ∷ []) l.others l.shape l.place l.all
