use Rattle.std.proofs.Common.{map}
use Rattle.pat_reduce.specs.Views.{entry_view}
use Rattle.pat_causal.proofs.Turns.{IsOnWay}
use Rattle.pat_causal.proofs.ordering.place_of.Given as goal

abbrev pub invariant-loop-place : goal.invariant-loop-place
invariant-loop-place l = IsOnWay (map entry_view l.ordered) (entry_view l.entry) l.place l.counts

abbrev pub decreases-loop-place : goal.decreases-loop-place
decreases-loop-place l = l.place
