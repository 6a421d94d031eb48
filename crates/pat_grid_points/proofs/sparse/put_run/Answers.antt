use Rattle.std.proofs.Common.{◌≡◌, ◌+◌, ◌*◌, ◌-◌, subst, arith}
use Rattle.pat_grid_points.specs.Sparse.{IsFilled}
use Rattle.pat_grid_points.proofs.InBlocks.{filled_none, filled_one, filled_more}
use Rattle.pat_grid_points.proofs.sparse.put_run.Goals as goal

pub loop-place-init : goal.loop-place-init
loop-place-init g c =
    let from = c.args.start * 16 + c.args.first in
    subst (λ n. IsFilled from n c.args.item c.args.blocks.now c.args.blocks.now) (let e : 0 ≡ from - from = omega arith in e) (filled_none from c.args.item c.args.blocks.now)

pub loop-place-preserved : goal.loop-place-preserved
loop-place-preserved g c =
    let from = c.args.start * 16 + c.args.first in
    let place = c.loop-place.place in
    let past = c.loop-place.auto.place in
    let within = c.loop-place-test.true in
    let long = c.loop-place.invariant.as_long in
    let room = c.requires in
    let one = filled_one place c.args.item c.loop-place.blocks c.put.new.items (omega arith) c.put.ensures in
    subst (λ n. IsFilled from n c.args.item c.args.blocks.now c.put.new.items) (let e : (place - from) + 1 ≡ place + 1 - from = omega arith in e)
    (filled_more from (place - from) 1 c.args.item c.args.blocks.now c.loop-place.blocks c.put.new.items c.loop-place.invariant
    (subst (λ p. IsFilled p 1 c.args.item c.loop-place.blocks c.put.new.items) (let e : place ≡ from + (place - from) = omega arith in e) one))

pub returns : goal.returns
returns g c =
    let from = c.args.start * 16 + c.args.first in
    let past = c.loop-place-test.false in
    let end = c.loop-place.auto.place-end in
    subst (λ n. IsFilled from n c.args.item c.args.blocks.now c.loop-place.blocks) (let e : c.loop-place.place - from ≡ c.args.count = omega arith in e) c.loop-place.invariant
