use Rattle.std.proofs.Common.{◌≡◌, ◌≤◌, ◌-◌, ◌++◌, length, drop}
use Rattle.pat_patterns.specs.Views.{patterns_view}
use Rattle.pat_checkpoint_spec.specs.Balances.{paired}
use Rattle.pat_checkpoint_balances.proofs.products.paired.Given as goal

abbrev pub invariant-loop-place : goal.invariant-loop-place
invariant-loop-place l =
    (l.place ≤ length l.factors) × (patterns_view l.joined ++ paired (patterns_view (drop l.place l.factors)) ≡ paired (patterns_view l.factors))

abbrev pub decreases-loop-place : goal.decreases-loop-place
decreases-loop-place l = length l.factors - l.place
