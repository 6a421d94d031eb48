use Rattle.std.proofs.Common.{◌≡◌, ◌+◌, ◌*◌, ◌≤◌, inr, length, subst, ◌∙◌, arith, mul-le-mul_right}
use Rattle.std.proofs.Math.Nat.{add-mul}
use Rattle.pat_grid_sums.specs.Systems.{Written}
use Rattle.pat_grid_sums.proofs.Writing.{set_begun, set_more}
use Rattle.pat_grid_sums.proofs.reached.put_entries.Goals as goal

pub loop-word-init : goal.loop-word-init
loop-word-init c =
    subst (λ m. Written c.args.words.now c.args.width c.args.from m c.args.entries.now c.args.entries.now) (let e : 0 ≡ 0 * c.args.width = omega arith in e) (set_begun c.args.words.now c.args.width c.args.from c.args.entries.now)

pub overflow_mul-word : goal.overflow_mul-word
overflow_mul-word c =
    let l = c.loop-word-test.true in
    let end = c.loop-word.auto.word-end in
    let more = add-mul c.loop-word.word 1 c.args.width in
    let grown : (c.loop-word.word + 1) * c.args.width ≤ length c.args.words.now * c.args.width = mul-le-mul_right c.args.width (omega arith) in
    let fits = c.requires.fits in
    omega arith

pub overflow_add-from : goal.overflow_add-from
overflow_add-from c =
    let l = c.loop-word-test.true in
    let more = add-mul c.loop-word.word 1 c.args.width in
    let grown : (c.loop-word.word + 1) * c.args.width ≤ length c.args.words.now * c.args.width = mul-le-mul_right c.args.width (omega arith) in
    let fits = c.requires.fits in
    omega arith

pub put_word-requires-clause-room : goal.put_word-requires-clause-room
put_word-requires-clause-room c =
    let l = c.loop-word-test.true in
    let more = add-mul c.loop-word.word 1 c.args.width in
    let grown : (c.loop-word.word + 1) * c.args.width ≤ length c.args.words.now * c.args.width = mul-le-mul_right c.args.width (omega arith) in
    let long = c.loop-word.invariant.as_long in
    let room = c.requires.room in
    omega arith

pub put_word-requires-clause-fits : goal.put_word-requires-clause-fits
put_word-requires-clause-fits c =
    let l = c.loop-word-test.true in
    let more = add-mul c.loop-word.word 1 c.args.width in
    let grown : (c.loop-word.word + 1) * c.args.width ≤ length c.args.words.now * c.args.width = mul-le-mul_right c.args.width (omega arith) in
    let fits = c.requires.fits in
    omega arith

pub put_word-requires-clause-none : goal.put_word-requires-clause-none
put_word-requires-clause-none c = λ i from upto.
    let l = c.loop-word-test.true in
    let more = add-mul c.loop-word.word 1 c.args.width in
    let grown : (c.loop-word.word + 1) * c.args.width ≤ length c.args.words.now * c.args.width = mul-le-mul_right c.args.width (omega arith) in
    c.loop-word.invariant.elsewhere i (inr (omega arith)) ∙ c.requires.none i (omega arith) (omega arith)

pub loop-word-preserved : goal.loop-word-preserved
loop-word-preserved c =
    let a = c.args in
    set_more a.words.now a.width a.from c.loop-word.word a.entries.now c.loop-word.entries c.put_word.new.entries c.loop-word.invariant c.in_ok-put_word.ensures

pub returns : goal.returns
returns c =
    let a = c.args in
    let e : c.loop-word.word ≡ length a.words.now = (let past = c.loop-word-test.false in let end = c.loop-word.auto.word-end in omega arith) in
    subst (λ m. Written a.words.now a.width a.from (m * a.width) a.entries.now c.loop-word.entries) e c.loop-word.invariant
