use Rattle.std.proofs.Common.{◌≡◌, ◌+◌, [], ◌∷◌, ◌++◌, sym, subst, arith}
use Rattle.pat_grid_sums.specs.Shapes.{AreMoved}
use Rattle.pat_grid_sums.proofs.Summing.{moved_for}
use Rattle.pat_grid_sums.proofs.moving.moved_by_each.Goals as goal

pub moved_if-requires-clause-before : goal.moved_if-requires-clause-before
moved_if-requires-clause-before c =
    subst (AreMoved (c.all_bits-used.result ∷ []) c.args.others.now c.args.shape c.loop-place.place) (sym c.as_slice.ensures) c.loop-place.invariant

pub loop-place-preserved : goal.loop-place-preserved
loop-place-preserved c =
    let m = c.loop-place.place + 1 in
    let ones = c.all_bits-used.result ∷ [] in
    subst (AreMoved ones c.args.others.now c.args.shape m) (sym c.in_ok-push.ensures.ok)
    (subst (λ xs. AreMoved ones c.args.others.now c.args.shape m (xs ++ c.in_ok-moved.moved ∷ [])) c.as_slice.ensures c.in_ok-moved.ensures)

pub returns : goal.returns
returns c =
    let a = c.args in
    let used = c.all_bits-used.result in
    let e : c.loop-place.place ≡ a.shape.width = (let past = c.loop-place-test.false in let end = c.loop-place.auto.place-end in omega arith) in
    moved_for a.ones.now a.others.now a.shape a.shape.width used c.loop-place.all c.all_bits-used.ensures
    (subst (λ m. AreMoved (used ∷ []) a.others.now a.shape m c.loop-place.all) e c.loop-place.invariant)
