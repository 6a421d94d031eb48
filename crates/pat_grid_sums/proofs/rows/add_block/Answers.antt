use Rattle.std.proofs.Common.{◌≡◌, length, subst, arith}
use Rattle.pat_grid_sums.specs.Sets.{Puts, AnyBefore, IsJoined}
use Rattle.pat_grid_sums.proofs.rows.add_block.Goals as goal

pub returns : goal.returns
returns c =
    let a = c.args in
    let e : c.loop-place.place ≡ length a.row.now = (let past = c.loop-place-test.false in let end = c.loop-place.auto.place-end in omega arith) in
    subst (λ m. Puts (AnyBefore (IsJoined a.words.now a.from a.base a.row.now) m) a.sums.now c.loop-place.sums) e c.loop-place.invariant
