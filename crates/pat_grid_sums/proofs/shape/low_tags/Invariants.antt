use Rattle.std.proofs.Common.{◌≡◌, ◌+◌, ◌-◌, ◌≤◌}
use Rattle.pat_inclusion_spec.specs.bounds.Numbers.{points_in}
use Rattle.pat_grid_sums.proofs.shape.low_tags.Given as goal

abbrev pub invariant-loop-low : goal.invariant-loop-low
invariant-loop-low l = (l.low ≤ l.tags) × (points_in l.k l.low ≤ 64) × (l.width ≡ points_in l.k (l.low + 1))

abbrev pub decreases-loop-low : goal.decreases-loop-low
decreases-loop-low l = l.tags - l.low
