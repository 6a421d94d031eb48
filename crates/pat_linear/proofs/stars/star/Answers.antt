use Rattle.std.proofs.lemmas.Result.{err_from_is_err_and}
use Rattle.pat_inclusion_spec.specs.Counts.{most_tags}
use Rattle.pat_linear.proofs.StarSteps.{star_room, star_turn, star_refused}
use Rattle.pat_linear.proofs.stars.star.Goals as goal

pub product-requires : goal.product-requires
product-requires c =
    star_room c.args.sets.now c.loop-set.set-index c.set-item.result c.loop-set.made c.in_ok-factor.factor c.requires.within c.requires.clean c.loop-set.invariant c.loop-set-test.true c.set-item.is c.in_ok-factor.ensures

pub returns-in_err-made-2 : goal.returns-in_err-made-2
returns-in_err-made-2 c =
    let q = err_from_is_err_and c.from_residual-in_err-made-2.result c.from_residual-in_err-made-2.ensures.1 in
    rw (q.1, q.2)
    (star_refused most_tags c.args.sets.now c.loop-set.set-index c.set-item.result c.loop-set.made c.in_ok-factor.factor c.in_err-made-2.field-0.0 c.loop-set.invariant c.loop-set-test.true c.set-item.is c.in_ok-factor.ensures c.in_err-made-2.ensures)

pub loop-set-preserved : goal.loop-set-preserved
loop-set-preserved c =
    star_turn most_tags c.args.sets.now c.loop-set.set-index c.set-item.result c.loop-set.made c.in_ok-factor.factor c.in_ok-made-2.made c.loop-set.invariant c.loop-set-test.true c.set-item.is c.in_ok-factor.ensures c.in_ok-made-2.ensures
