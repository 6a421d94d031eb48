use Rattle.std.proofs.Common.{length, sym, subst}
use Rattle.pat_grid_sums.specs.Sets.{Puts, AnyBefore, GoesBy, IsShiftedAny}
use Rattle.pat_grid_sums.specs.Shapes.{IsRow, Has}
use Rattle.pat_grid_sums.proofs.Putting.{has_all}
use Rattle.pat_grid_sums.proofs.Shifting.{all_shifted, mask_room}
use Rattle.pat_grid_sums.proofs.Splitting.{row_places, row_rises, width_is}
use Rattle.pat_grid_sums.proofs.Summing.{moved_sums}
use Rattle.pat_grid_sums.proofs.moving.moved_by.Goals as goal

pub masks_of-requires-clause-row : goal.masks_of-requires-clause-row
masks_of-requires-clause-row c =
    let s = c.args.shape in
    let row = c.as_slice.result.now in
    let is = subst (IsRow s.k s.low c.args.place) (sym c.as_slice.ensures) c.in_ok-row.ensures in
    λ p l. (row_rises s.k s.low c.args.place row is p l, row_places s.k c.requires.0 s c.requires.1 c.args.place row is p l)

pub move_all-requires-clause-room : goal.move_all-requires-clause-room
move_all-requires-clause-room c =
    let s = c.args.shape in
    let row = c.as_slice.result.now in
    let is = subst (IsRow s.k s.low c.args.place) (sym c.as_slice.ensures) c.in_ok-row.ensures in
    mask_room row c.as_slice-2.result.now
    (λ p l. (row_rises s.k s.low c.args.place row is p l, row_places s.k c.requires.0 s c.requires.1 c.args.place row is p l))
    (subst (Has (AnyBefore (GoesBy row) (length row)) 64) (sym c.as_slice-2.ensures) c.in_ok-masks.ensures)

pub returns : goal.returns
returns c =
    let s = c.args.shape in
    let others = c.args.others.now in
    let row = c.as_slice.result.now in
    let masks = c.as_slice-2.result.now in
    let is = subst (IsRow s.k s.low c.args.place) (sym c.as_slice.ensures) c.in_ok-row.ensures in
    moved_sums s others row c.move_all.new.moved c.args.place (width_is s.k c.requires.0 s c.requires.1) is
    (all_shifted others row masks c.move_all.new.moved
    (row_rises s.k s.low c.args.place row is)
    (subst (Has (AnyBefore (GoesBy row) (length row)) 64) (sym c.as_slice-2.ensures) c.in_ok-masks.ensures)
    (row_places s.k c.requires.0 s c.requires.1 c.args.place row is)
    (has_all (AnyBefore (IsShiftedAny others masks) 64) (length others) c.move_all.new.moved
    (subst (λ xs. Puts (AnyBefore (IsShiftedAny others masks) 64) xs c.move_all.new.moved) c.in_ok-moved.ensures c.move_all.ensures)))
