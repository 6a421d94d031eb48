use Rattle.std.proofs.Common.{◌≡◌, ◌≤◌, ◌++◌, length}
use Rattle.pat_grid_points.specs.Chains.{chain, from_on}
use Rattle.pat_grid_points.proofs.chains.walk.Given as goal

abbrev pub invariant-loop-link : goal.invariant-loop-link
invariant-loop-link l =
    (l.link ≤ length l.links)
    × (l.numbers ++ from_on l.from (chain l.link l.links l.link) ≡ l.initial.numbers ++ from_on l.from (chain l.first l.links l.first))

abbrev pub decreases-loop-link : goal.decreases-loop-link
decreases-loop-link l = l.link
