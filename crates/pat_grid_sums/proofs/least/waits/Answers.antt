use Rattle.std.proofs.Common.{◌≡◌, ◌<◌, get_or, ⊎_elim, ap, subst, arith}
use Rattle.pat_grid_sums.proofs.least.waits.Goals as goal

pub returns-then-looked-eq0 : goal.returns-then-looked-eq0
returns-then-looked-eq0 c = λ f. absurd (cc)

pub returns-then-has_changed : goal.returns-then-has_changed
returns-then-has_changed c = λ f. absurd (cc)

pub returns : goal.returns
returns c = λ f.
    let at : get_or c.as_slice.result.now c.args.s 0 ≡ get_or c.args.marks.now.looked c.args.s 0 = ap (λ xs. get_or xs c.args.s 0) c.as_slice.ensures in
    let some = c.if-looked-eq0.false in
    let first = c.has_changed.ensures c.if-has_changed.false in
    let second = c.has_changed-2.ensures f in (
      omega arith,
      λ a part. ⊎_elim
          (λ e. subst (λ i. get_or c.args.marks.now.changed i 0 < get_or c.args.marks.now.looked c.args.s 0) e (omega arith))
          (λ e. subst (λ i. get_or c.args.marks.now.changed i 0 < get_or c.args.marks.now.looked c.args.s 0) e (omega arith))
          (c.parts_of-parts.ensures a part),
    )
