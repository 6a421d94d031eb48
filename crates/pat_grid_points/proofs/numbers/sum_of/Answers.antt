use Rattle.std.proofs.Common.{arith}
use Rattle.pat_grid_points.proofs.Digits.{added_none, added_next, added_all, adding_room, adding_small}
use Rattle.pat_grid_points.proofs.numbers.sum_of.Goals as goal

pub overflow_mul-number : goal.overflow_mul-number
overflow_mul-number c =
    let a = c.args in
    let l = c.loop-left in
    let room = adding_room a.k a.tags a.first a.second l.left l.one l.other l.number l.worth l.invariant c.loop-left-test.true in
    let small = adding_small a.k a.tags a.first a.second l.left l.one l.other l.number l.worth l.invariant c.min.result (omega (arith, c.min.ensures)) in
    let few = c.requires in
    omega arith

pub overflow_add-number : goal.overflow_add-number
overflow_add-number c =
    let a = c.args in
    let l = c.loop-left in
    let room = adding_room a.k a.tags a.first a.second l.left l.one l.other l.number l.worth l.invariant c.loop-left-test.true in
    let small = adding_small a.k a.tags a.first a.second l.left l.one l.other l.number l.worth l.invariant c.min.result (omega (arith, c.min.ensures)) in
    let few = c.requires in
    omega arith

pub overflow_mul-worth : goal.overflow_mul-worth
overflow_mul-worth c =
    let a = c.args in
    let l = c.loop-left in
    let room = adding_room a.k a.tags a.first a.second l.left l.one l.other l.number l.worth l.invariant c.loop-left-test.true in
    let few = c.requires in
    omega arith

pub loop-left-init : goal.loop-left-init
loop-left-init c = added_none c.args.k c.args.tags c.args.first c.args.second

pub loop-left-preserved : goal.loop-left-preserved
loop-left-preserved c =
    let a = c.args in
    let l = c.loop-left in
    added_next a.k a.tags a.first a.second l.left l.one l.other l.number l.worth l.invariant c.min.result c.loop-left-test.true c.min.ensures

pub returns : goal.returns
returns c =
    let a = c.args in
    let l = c.loop-left in
    let done = c.loop-left-test.false in
    added_all a.k a.tags a.first a.second l.left l.one l.other l.number l.worth l.invariant (omega arith)
