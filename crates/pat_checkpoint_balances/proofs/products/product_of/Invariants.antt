use Rattle.std.proofs.Common.{◌≡◌, length}
use Rattle.pat_patterns.specs.Views.{patterns_view}
use Rattle.pat_checkpoint_spec.specs.Balances.{product_of}
use Rattle.pat_checkpoint_balances.proofs.products.product_of.Given as goal

abbrev pub invariant-loop-alloc : goal.invariant-loop-alloc
invariant-loop-alloc l = product_of (patterns_view l.joined) ≡ product_of (patterns_view l.factors)

abbrev pub decreases-loop-alloc : goal.decreases-loop-alloc
decreases-loop-alloc l = length l.joined
