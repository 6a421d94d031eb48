use Rattle.std.proofs.Common.{ap, ◌∙◌, arith}
use Rattle.pat_patterns.specs.Views.{patterns_view}
use Rattle.pat_checkpoint_spec.specs.Balances.{paired, product_of}
use Rattle.pat_checkpoint_balances.proofs.Joining.{same_product, fewer_patterns}
use Rattle.pat_checkpoint_balances.proofs.products.product_of.Goals as goal

pub loop-alloc-init : goal.loop-alloc-init
loop-alloc-init c = ap product_of c.in_ok-joined.ensures ∙ same_product (patterns_view c.args.factors.now)

pub loop-alloc-smaller : goal.loop-alloc-smaller
loop-alloc-smaller c =
    fewer_patterns c.loop-alloc.joined c.in_ok-joined-2.joined (c.in_ok-joined-2.ensures ∙ ap (λ l. paired (patterns_view l)) c.as_slice.ensures) (let n = c.len.ensures in let more = c.loop-alloc-test.true in omega arith)

pub loop-alloc-preserved : goal.loop-alloc-preserved
loop-alloc-preserved c =
    ap product_of (c.in_ok-joined-2.ensures ∙ ap (λ l. paired (patterns_view l)) c.as_slice.ensures) ∙ same_product (patterns_view c.loop-alloc.joined) ∙ c.loop-alloc.invariant
