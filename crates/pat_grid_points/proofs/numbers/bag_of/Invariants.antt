use Rattle.pat_grid_points.proofs.Digits.{Written}
use Rattle.pat_grid_points.proofs.numbers.bag_of.Given as goal

abbrev pub invariant-loop-tag : goal.invariant-loop-tag
invariant-loop-tag l = Written l.k l.tags l.number l.counts l.tag l.rest

abbrev pub decreases-loop-tag : goal.decreases-loop-tag
decreases-loop-tag l = l.tag
