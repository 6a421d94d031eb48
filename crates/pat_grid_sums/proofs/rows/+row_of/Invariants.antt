use Rattle.std.proofs.Common.{◌≡◌, ◌+◌, ◌*◌, length}
use Rattle.pat_grid_sums.specs.Shapes.{FilledTo}
use Rattle.pat_grid_sums.proofs.rows.+row_of.Given as goal

abbrev pub invariant-loop-made : goal.invariant-loop-made
invariant-loop-made l =
    (length l.row ≡ l.count * (l.k + 1)) × FilledTo l.k l.tags l.point (l.made * (l.k + 1)) l.row

abbrev pub decreases-row_of : goal.decreases-row_of
decreases-row_of l = l.tags
