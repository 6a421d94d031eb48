use Rattle.std.proofs.Common.{◌≡◌, ◌+◌, ◌*◌, ◌≤◌, length, subst, arith, mul-le-mul_right}
use Rattle.std.proofs.Math.Nat.{add-mul}
use Rattle.pat_grid_sums.specs.Systems.{setting_in, Stands}
use Rattle.pat_grid_sums.proofs.Looking.{all_begin, pass_settled}
use Rattle.pat_grid_sums.proofs.least.least_sets.Goals as goal

pub loop-number-init : goal.loop-number-init
loop-number-init c =
    let y = c.args.system.now in
    let n = length y.symbols.now in
    subst (λ i. Stands (setting_in y) c.args.shape.width c.args.shape.words n i c.in_ok-sets.sets c.in_ok-marks.marks.looked c.in_ok-marks.marks.changed) (let e : 1 ≡ 0 * n + 1 = omega arith in e)
    (all_begin y c.args.shape.width c.args.shape.words n c.in_ok-sets.sets c.in_ok-marks.marks.looked c.in_ok-marks.marks.changed c.in_ok-sets.ensures c.in_ok-marks.ensures.0 c.in_ok-marks.ensures.1)

pub overflow_mul-before : goal.overflow_mul-before
overflow_mul-before c =
    let n = length c.args.system.now.symbols.now in
    let few = c.is_large.ensures c.if-is_large.false in
    let test = c.loop-number-test.true in
    let grown : c.loop-number.number * n ≤ 65536 * n = mul-le-mul_right n (omega arith) in
    omega arith

pub pass-requires-clause-room : goal.pass-requires-clause-room
pass-requires-clause-room c =
    let n = length c.args.system.now.symbols.now in
    let few = c.is_large.ensures c.if-is_large.false in
    let test = c.loop-number-test.true in
    let grown : c.loop-number.number * n ≤ 65536 * n = mul-le-mul_right n (omega arith) in
    omega arith

pub pass-requires-clause-stands : goal.pass-requires-clause-stands
pass-requires-clause-stands c = c.loop-number.invariant

pub loop-number-preserved : goal.loop-number-preserved
loop-number-preserved c =
    let y = c.args.system.now in
    let n = length y.symbols.now in
    let more = add-mul c.loop-number.number 1 n in
    subst (λ i. Stands (setting_in y) c.args.shape.width c.args.shape.words n i c.pass.new.sets c.pass.new.marks.looked c.pass.new.marks.changed) (let e : c.loop-number.number * n + n + 1 ≡ (c.loop-number.number + 1) * n + 1 = omega arith in e)
    c.in_ok-changed.ensures.stands

pub returns-then-not-changed : goal.returns-then-not-changed
returns-then-not-changed c =
    let y = c.args.system.now in
    pass_settled y c.args.shape.width c.args.shape.words (c.loop-number.number * length y.symbols.now) c.pass.new.sets c.pass.new.marks.looked c.pass.new.marks.changed c.in_ok-changed.changed (c.is_large.ensures c.if-is_large.false) c.if-not-changed.true c.in_ok-changed.ensures
