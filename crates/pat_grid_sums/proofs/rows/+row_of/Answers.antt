use Rattle.std.proofs.Common.{◌≡◌, ◌+◌, ◌-◌, ◌*◌, ◌/◌, ◌≤◌, length, ap, ◌∙◌, refl, sym, subst, arith, mul-le-mul_right}
use Rattle.std.proofs.Math.Nat.{add-mul}
use Rattle.std.proofs.lemmas.List.{length-replicate}
use Rattle.pat_inclusion_spec.specs.bounds.Numbers.{points_in}
use Rattle.pat_grid_points.proofs.Digits.{fewer_points}
use Rattle.pat_grid_sums.specs.Shapes.{FilledTo, IsRow}
use Rattle.pat_grid_sums.proofs.Splitting.{row_room, points_more}
use Rattle.pat_grid_sums.proofs.rows.+row_of.Goals as goal

pub row_of-requires : goal.row_of-requires
row_of-requires t c =
    let d = c.decreases in
    let some = c.if-tags-eq0.false in
    let few = c.requires in
    let fewer = fewer_points c.args.k (c.args.tags - 1) c.args.tags (omega arith) in
    (omega arith, omega arith)

pub overflow_mul-count : goal.overflow_mul-count
overflow_mul-count t c =
    let k = c.args.k in
    let some = c.if-tags-eq0.false in
    let few = c.requires in
    let e : c.len-count.result * (k + 1) ≡ points_in k c.args.tags = ap (λ i. i * (k + 1)) (c.len-count.ensures ∙ c.in_ok-above.ensures.0) ∙ points_more k c.args.tags (omega arith) in
    omega arith

pub loop-made-init : goal.loop-made-init
loop-made-init t c = (ap length c.in_ok-row.ensures ∙ length-replicate (c.len-count.result * (c.args.k + 1)) 0, λ w l. absurd (omega arith))

pub overflow_mul-made : goal.overflow_mul-made
overflow_mul-made t c =
    let k = c.args.k in
    let some = c.if-tags-eq0.false in
    let few = c.requires in
    let test = c.loop-made-test.true in
    let e : c.len-count.result * (k + 1) ≡ points_in k c.args.tags = ap (λ i. i * (k + 1)) (c.len-count.ensures ∙ c.in_ok-above.ensures.0) ∙ points_more k c.args.tags (omega arith) in
    let grown : c.loop-made.made * (k + 1) ≤ c.len-count.result * (k + 1) = mul-le-mul_right (k + 1) (omega arith) in
    omega arith

pub put_digits-requires-clause-room : goal.put_digits-requires-clause-room
put_digits-requires-clause-room t c =
    let some = c.if-tags-eq0.false in
    let k = c.args.k in
    let test = c.loop-made-test.true in
    let many = c.len-count.ensures in
    let same = ap length c.as_slice.ensures in
    row_room k c.args.tags (c.args.point / (k + 1)) c.loop-made.made c.as_slice.result.now (omega arith) c.requires
    (subst (IsRow k (c.args.tags - 1) (c.args.point / (k + 1))) (sym c.as_slice.ensures) c.in_ok-above.ensures)
    (omega arith)

pub put_digits-requires-clause-places : goal.put_digits-requires-clause-places
put_digits-requires-clause-places t c =
    let k = c.args.k in
    let test = c.loop-made-test.true in
    let long = c.loop-made.invariant.0 in
    let more = add-mul c.loop-made.made 1 (k + 1) in
    let grown : (c.loop-made.made + 1) * (k + 1) ≤ c.len-count.result * (k + 1) = mul-le-mul_right (k + 1) (omega arith) in
    omega arith

pub put_digits-requires-clause-few : goal.put_digits-requires-clause-few
put_digits-requires-clause-few t c =
    let k = c.args.k in
    let some = c.if-tags-eq0.false in
    let few = c.requires in
    let test = c.loop-made-test.true in
    let e : c.len-count.result * (k + 1) ≡ points_in k c.args.tags = ap (λ i. i * (k + 1)) (c.len-count.ensures ∙ c.in_ok-above.ensures.0) ∙ points_more k c.args.tags (omega arith) in
    let grown : c.loop-made.made * (k + 1) ≤ c.len-count.result * (k + 1) = mul-le-mul_right (k + 1) (omega arith) in
    omega arith

pub loop-made-preserved : goal.loop-made-preserved
loop-made-preserved t c =
    let some = c.if-tags-eq0.false in
    let k = c.args.k in
    let i = c.loop-made.made in
    let test = c.loop-made-test.true in
    let many = c.len-count.ensures in
    let row = subst (IsRow k (c.args.tags - 1) (c.args.point / (k + 1))) (sym c.as_slice.ensures) c.in_ok-above.ensures in
    let all = c.in_ok-above.ensures.0 in
    let e : c.args.tags - 1 + 1 ≡ c.args.tags = omega arith in (
      c.put_digits.ensures.long ∙ c.loop-made.invariant.0,
      subst (λ n. FilledTo k n c.args.point ((i + 1) * (k + 1)) c.put_digits.new.row) e
          (c.put_digits.ensures.filled (c.args.tags - 1) c.args.point i (row.1 i (omega arith)) refl refl
          (subst (λ n. FilledTo k n c.args.point (i * (k + 1)) c.loop-made.row) (sym e) c.loop-made.invariant.1)),
    )

pub returns : goal.returns
returns t c =
    let some = c.if-tags-eq0.false in
    let k = c.args.k in
    let past = c.loop-made-test.false in
    let end = c.loop-made.auto.made-end in
    let e : c.len-count.result * (k + 1) ≡ points_in k c.args.tags = ap (λ i. i * (k + 1)) (c.len-count.ensures ∙ c.in_ok-above.ensures.0) ∙ points_more k c.args.tags (omega arith) in
    let all : c.loop-made.made ≡ c.len-count.result = omega arith in (
      c.loop-made.invariant.0 ∙ e,
      subst (λ m. FilledTo k c.args.tags c.args.point m c.loop-made.row) (ap (λ i. i * (k + 1)) all ∙ e) c.loop-made.invariant.1,
    )
