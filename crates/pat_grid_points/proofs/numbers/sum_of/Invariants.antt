use Rattle.pat_grid_points.proofs.Digits.{Adding}
use Rattle.pat_grid_points.proofs.numbers.sum_of.Given as goal

abbrev pub invariant-loop-left : goal.invariant-loop-left
invariant-loop-left l = Adding l.k l.tags l.first l.second l.left l.one l.other l.number l.worth

abbrev pub decreases-loop-left : goal.decreases-loop-left
decreases-loop-left l = l.left
