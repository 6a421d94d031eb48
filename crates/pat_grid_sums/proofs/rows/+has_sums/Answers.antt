use Rattle.std.proofs.Common.{◌≡◌, ◌+◌, ◌-◌, ◌*◌, ◌/◌, ◌<◌, ◌≤◌, ⊎_elim, length, subst, arith}
use Rattle.std.proofs.lemmas.Bool.{cases_lt}
use Rattle.pat_limits.specs.Limits.{most_points}
use Rattle.pat_grid_sums.specs.Shapes.{HasSums}
use Rattle.pat_grid_sums.proofs.Holding.{few_at, scale_at, digit_at, room_at, place_at, all_digits}
use Rattle.pat_grid_sums.proofs.rows.+has_sums.Goals as goal

pub overflow_mul-next : goal.overflow_mul-next
overflow_mul-next t c =
    let a = c.args in
    let some = c.if-tags-eq0.false in
    let test = c.loop-digit-test.true in
    let small = digit_at a.k a.tags a.scale most_points (omega arith) c.requires.few c.loop-digit.digit test in
    omega arith

pub overflow_add-next : goal.overflow_add-next
overflow_add-next t c =
    let a = c.args in
    let some = c.if-tags-eq0.false in
    let test = c.loop-digit-test.true in
    let long = c.requires.long in
    let place = place_at a.k a.tags a.from a.scale a.point c.loop-digit.digit (length a.words.now) (omega arith) c.requires.room c.loop-digit.invariant.0 test in
    omega arith

pub overflow_mul-scale : goal.overflow_mul-scale
overflow_mul-scale t c =
    let a = c.args in
    let some = c.if-tags-eq0.false in
    let small = scale_at a.k a.tags a.scale most_points (omega arith) c.requires.few in
    omega arith

pub has_sums-requires : goal.has_sums-requires
has_sums-requires t c =
    let a = c.args in
    let d = c.decreases in
    let some = c.if-tags-eq0.false in
    let test = c.loop-digit-test.true in
    let room = room_at a.k a.tags a.from a.scale a.point c.loop-digit.digit (length a.words.now) (omega arith) c.requires.room c.loop-digit.invariant.0 test in
    (omega arith, (few_at a.k a.tags a.scale most_points (omega arith) c.requires.few, (c.requires.long, room)))

pub loop-digit-preserved : goal.loop-digit-preserved
loop-digit-preserved t c = (
  (let l = c.loop-digit.invariant.0 in omega arith),
  λ o low less.
      let a = c.args in
      ⊎_elim
      (λ (below : o < c.loop-digit.digit). c.loop-digit.invariant.1 o low below)
      (λ (past : c.loop-digit.digit ≤ o).
      let e : c.loop-digit.digit ≡ o = omega arith in
      subst (λ i. HasSums a.k (a.tags - 1) (a.point / (a.k + 1)) a.words.now a.bits (a.from + i * a.scale) (a.scale * (a.k + 1))) e
      (c.has_sums.ensures c.if-not-has_sums.false))
      (cases_lt o c.loop-digit.digit),
)

pub returns : goal.returns
returns t c = λ yes.
    let a = c.args in
    let some = c.if-tags-eq0.false in
    let past = c.loop-digit-test.false in
    let e : a.tags - 1 + 1 ≡ a.tags = omega arith in
    subst (λ m. HasSums a.k m a.point a.words.now a.bits a.from a.scale) e
    (all_digits a.k (a.tags - 1) a.point a.bits a.from a.scale a.words.now (λ o low less. c.loop-digit.invariant.1 o low (omega arith)))
