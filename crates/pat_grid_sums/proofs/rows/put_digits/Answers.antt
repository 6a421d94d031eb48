use Rattle.std.proofs.Common.{◌≡◌, ◌+◌, ◌*◌, min, length, length-set, ap, ◌∙◌, sym, subst, arith}
use Rattle.pat_grid_sums.specs.Shapes.{FilledTo}
use Rattle.pat_grid_sums.proofs.Splitting.{filled_more, digit_sum}
use Rattle.pat_grid_sums.proofs.rows.put_digits.Goals as goal

pub put_number-requires : goal.put_number-requires
put_number-requires c =
    let long = c.loop-other.invariant.0 in
    let places = c.requires.places in
    let test = c.loop-other-test.true in
    omega arith

pub loop-other-preserved : goal.loop-other-preserved
loop-other-preserved c = (
  ap length c.put_number.ensures ∙ length-set c.loop-other.row _ _ ∙ c.loop-other.invariant.0,
  λ n v made high low at h.
      let a = c.args in
      let k = a.k in
      let count = made * (k + 1) + c.loop-other.other in
      let test = c.loop-other-test.true in
      let long = c.loop-other.invariant.0 in
      let places = c.requires.places in
      let e : count + 1 ≡ made * (k + 1) + (c.loop-other.other + 1) = omega arith in
      let is : a.above * (k + 1) + c.min.result ≡ a.above * (k + 1) + min (a.digit + c.loop-other.other) k = omega (arith, c.min.ensures) in
      subst (λ m. FilledTo k (n + 1) v m c.put_number.new.numbers) e
      (subst (FilledTo k (n + 1) v (count + 1)) (sym c.put_number.ensures)
      (filled_more k (n + 1) v count _ _ c.loop-other.row (c.loop-other.invariant.1 n v made high low at h) (omega arith) (omega arith)
      (digit_sum k n v a.above a.digit made c.loop-other.other (a.above * (k + 1) + c.min.result) high low (omega arith) is))),
)
