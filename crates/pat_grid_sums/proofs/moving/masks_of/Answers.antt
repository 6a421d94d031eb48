use Rattle.std.proofs.Common.{◌≡◌, replicate, length, subst, arith}
use Rattle.pat_grid_sums.specs.Sets.{Puts, AnyBefore, GoesBy}
use Rattle.pat_grid_sums.proofs.Putting.{has_all}
use Rattle.pat_grid_sums.proofs.moving.masks_of.Goals as goal

pub returns : goal.returns
returns c =
    let row = c.args.row.now in
    let e : c.loop-place.place ≡ length row = (let past = c.loop-place-test.false in let end = c.loop-place.auto.place-end in omega arith) in
    has_all (AnyBefore (GoesBy row) (length row)) 64 c.loop-place.masks
    (subst (λ m. Puts (AnyBefore (GoesBy row) m) (replicate 64 0) c.loop-place.masks) e c.loop-place.invariant)
