use Rattle.std.proofs.Common.{◌≡◌, ◌+◌, ◌-◌, ◌<◌, ◌≤◌, length, get_or}
use Rattle.pat_grid_points.specs.Views.{numbers_of}
use Rattle.pat_grid_points.proofs.making.run_at.Given as goal

abbrev pub invariant-loop-run : goal.invariant-loop-run
invariant-loop-run l =
    (0 < l.run)
    × (l.run ≤ length l.points)
    × (get_or (numbers_of l.k l.tags l.points) (l.run - 1) 0 ≡ l.number + (l.run - 1))

abbrev pub decreases-loop-run : goal.decreases-loop-run
decreases-loop-run l = length l.points - l.run
