use Rattle.std.proofs.Common.{◌≤◌, ◌-◌}
use Rattle.pat_solve_grids.proofs.batches.settled_sizes.Given as goal
use Rattle.pat_limits.specs.Limits.{most_tree_nodes}

abbrev pub invariant-loop-entries : goal.invariant-loop-entries
invariant-loop-entries l = l.limit ≤ most_tree_nodes

abbrev pub decreases-loop-entries : goal.decreases-loop-entries
decreases-loop-entries l = most_tree_nodes - l.limit
