use Rattle.std.proofs.Common.{◌≡◌, ◌+◌, ◌-◌, ◌/◌, ◌%◌, length, ap, sym, subst, arith}
use Rattle.std.proofs.Math.Nat.{one-le-pow}
use Rattle.pat_grid_points.proofs.Digits.{fewer_points}
use Rattle.pat_grid_sums.specs.Shapes.{IsRow}
use Rattle.pat_grid_sums.proofs.Adding.{block_ends, base_fits, sum_within, block_added, all_added}
use Rattle.pat_grid_sums.proofs.rows.add_sums.Goals as goal

pub pow-width-requires : goal.pow-width-requires
pow-width-requires c =
    let few = c.requires.few in
    let fewer = fewer_points c.args.k (c.args.tags / 2) c.args.tags (omega arith) in
    omega arith

pub nonzero_div-point : goal.nonzero_div-point
nonzero_div-point c =
    let some = one-le-pow (c.args.tags / 2) (c.args.k + 1) (omega arith) in
    let is = c.pow-width.ensures in
    omega arith

pub nonzero_rem-point : goal.nonzero_rem-point
nonzero_rem-point c =
    let some = one-le-pow (c.args.tags / 2) (c.args.k + 1) (omega arith) in
    let is = c.pow-width.ensures in
    omega arith

pub row_of-requires : goal.row_of-requires
row_of-requires c =
    let few = c.requires.few in
    let fewer = fewer_points c.args.k (c.args.tags - c.args.tags / 2) c.args.tags (omega arith) in
    omega arith

pub row_of-requires-2 : goal.row_of-requires-2
row_of-requires-2 c =
    let few = c.requires.few in
    let fewer = fewer_points c.args.k (c.args.tags / 2) c.args.tags (omega arith) in
    omega arith

pub overflow_mul-base : goal.overflow_mul-base
overflow_mul-base c =
    let a = c.args in
    let width = c.pow-width.result in
    let last = a.tags / 2 in
    let firsts = c.as_slice.result.now in
    let first = subst (IsRow a.k (a.tags - last) (a.point / width)) (sym c.as_slice.ensures) c.in_ok-firsts.ensures in
    let test = c.loop-block-test.true in
    let long = ap length c.as_slice.ensures in
    let fits = base_fits a.k a.tags last a.point width firsts c.in_ok-lasts.lasts (omega arith) c.pow-width.ensures first c.in_ok-lasts.ensures c.loop-block.block (omega arith) in
    let few = c.requires.few in
    omega arith

pub overflow_mul-block : goal.overflow_mul-block
overflow_mul-block c =
    let a = c.args in
    let width = c.pow-width.result in
    let test = c.loop-block-test.true in
    let ends = block_ends a.k a.tags (a.tags / 2) a.point width c.in_ok-firsts.firsts c.in_ok-lasts.lasts (omega arith) c.pow-width.ensures c.in_ok-firsts.ensures c.in_ok-lasts.ensures c.loop-block.block (omega arith) in
    let few = c.requires.few in
    omega arith

pub add_block-requires-clause-long : goal.add_block-requires-clause-long
add_block-requires-clause-long c =
    let a = c.args in
    let width = c.pow-width.result in
    let test = c.loop-block-test.true in
    let ends = block_ends a.k a.tags (a.tags / 2) a.point width c.in_ok-firsts.firsts c.in_ok-lasts.lasts (omega arith) c.pow-width.ensures c.in_ok-firsts.ensures c.in_ok-lasts.ensures c.loop-block.block (omega arith) in
    let long = ap length c.as_slice-in-loop-block.ensures in
    let words = c.requires.words in
    omega arith

pub add_block-requires-clause-row : goal.add_block-requires-clause-row
add_block-requires-clause-row c =
    let a = c.args in
    let width = c.pow-width.result in
    let last = a.tags / 2 in
    let test = c.loop-block-test.true in
    let many = ap length c.as_slice.ensures in
    let first = subst (IsRow a.k (a.tags - last) (a.point / width)) (sym c.as_slice.ensures) c.in_ok-firsts.ensures in
    let second = subst (IsRow a.k last (a.point % width)) (sym c.as_slice-in-loop-block.ensures) c.in_ok-lasts.ensures in
    let long = c.loop-block.invariant.as_long in
    let sums = c.requires.sums in
    λ p l.
    let within = sum_within a.k a.tags last a.point width c.as_slice.result.now c.as_slice-in-loop-block.result.now (omega arith) c.pow-width.ensures first second c.loop-block.block p (omega arith) l in
    omega arith

pub loop-block-preserved : goal.loop-block-preserved
loop-block-preserved c =
    let a = c.args in
    let width = c.pow-width.result in
    let last = a.tags / 2 in
    let test = c.loop-block-test.true in
    let many = ap length c.as_slice.ensures in
    let first = subst (IsRow a.k (a.tags - last) (a.point / width)) (sym c.as_slice.ensures) c.in_ok-firsts.ensures in
    let second = subst (IsRow a.k last (a.point % width)) (sym c.as_slice-in-loop-block.ensures) c.in_ok-lasts.ensures in
    block_added a.k a.tags last a.point width c.as_slice.result.now c.as_slice-in-loop-block.result.now (omega arith) c.pow-width.ensures first second a.words.now a.sums.now c.loop-block.sums c.add_block.new.sums c.loop-block.block (omega arith) c.loop-block.invariant c.add_block.ensures

pub returns : goal.returns
returns c =
    let a = c.args in
    let e : c.loop-block.block ≡ length c.in_ok-firsts.firsts = (let past = c.loop-block-test.false in let end = c.loop-block.auto.block-end in omega arith) in
    all_added a.k a.tags (a.tags / 2) a.point c.pow-width.result c.in_ok-firsts.firsts c.in_ok-lasts.lasts (omega arith) c.pow-width.ensures c.in_ok-firsts.ensures c.in_ok-lasts.ensures a.words.now a.sums.now c.loop-block.sums c.loop-block.block e c.loop-block.invariant
