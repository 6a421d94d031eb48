use Rattle.std.proofs.Common.{◌≡◌, ◌≤◌, ◌-◌}
use Rattle.pat_inclusion_spec.specs.bounds.Numbers.{points_in}
use Rattle.pat_grid_certificates.proofs.bounds.has_few_points.Given as goal
use Rattle.pat_limits.specs.Limits.{most_points}

abbrev pub invariant-loop-counted : goal.invariant-loop-counted
invariant-loop-counted l = record {
  number : l.points ≡ points_in l.k l.counted;
  few : l.points ≤ most_points;
  within : l.counted ≤ l.tags;
}

abbrev pub decreases-loop-counted : goal.decreases-loop-counted
decreases-loop-counted l = l.tags - l.counted
