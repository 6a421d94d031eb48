use Rattle.std.proofs.Common.{◌≡◌, length, subst, arith}
use Rattle.pat_grid_sums.specs.Sets.{Puts, AnyBefore}
use Rattle.pat_grid_sums.specs.Systems.{IsHeldAt}
use Rattle.pat_grid_sums.proofs.Stepping.{held_begun, held_more}
use Rattle.pat_grid_sums.proofs.steps.put_held.Goals as goal

pub loop-number-init : goal.loop-number-init
loop-number-init c =
    let first = c.next_held-number.ensures in
    (first.within, first.there, held_begun c.args.width c.next_held-number.result c.args.held.now c.args.words.now first.before)

pub loop-number-preserved : goal.loop-number-preserved
loop-number-preserved c =
    let next = c.next_held-number-in-loop-number.ensures in
    let many = c.len.ensures in
    let test = c.loop-number-test.true in (
      next.within,
      next.there,
      held_more c.args.width c.loop-number.number c.next_held-number-in-loop-number.result c.args.held.now c.args.words.now c.loop-number.words c.put.new.words (c.loop-number.invariant.1 (omega arith)) c.loop-number.invariant.2 c.put.ensures next.from next.before,
    )

pub returns : goal.returns
returns c =
    let past = c.loop-number-test.false in
    let within = c.loop-number.invariant.0 in
    let end : c.loop-number.number ≡ length c.args.held.now = omega arith in
    subst (λ m. Puts (AnyBefore (IsHeldAt c.args.width c.args.held.now) m) c.args.words.now c.loop-number.words) end c.loop-number.invariant.2
