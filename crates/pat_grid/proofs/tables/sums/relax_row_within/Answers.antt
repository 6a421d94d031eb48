use Rattle.std.proofs.Common.{get_or, ◌<◌, ◌+◌, subst, arith}
use Rattle.pat_grid.specs.tables.Views.{setting_of}
use Rattle.pat_grid.specs.tables.Moves.{AreOthers, WithinAt, RowWithin}
use Rattle.pat_grid.proofs.Relaxing.{moved_both, before_more}
use Rattle.pat_grid.proofs.Summing.{row_within_kept}
use Rattle.pat_grid.proofs.tables.sums.relax_row_within.Goals as goal

-- What a loop over rows of any kind owes is `moved_both`; what is left names this loop's steps.
pub loop-second-preserved : goal.loop-second-preserved
loop-second-preserved c =
    let g = setting_of c.args.board.now in
    let s = c.args.s in
    let a = c.args.parts.0 in
    let b = c.args.parts.1 in
    let v = c.args.first in
    let seconds = c.args.seconds.now in
    let j = c.loop-second.second-index in
    let points = c.requires.board.points in
    moved_both g s (AreOthers a b s) (RowWithin g s a b v seconds j) (WithinAt g s a b v (get_or seconds j 0)) (RowWithin g s a b v seconds (j + 1)) c.args.sizes.now c.loop-second.sizes c.relax_pair_within.new.sizes c.args.changed.now c.loop-second.changed c.relax_pair_within.new.changed c.loop-second.invariant c.in_ok-relax_pair_within.ensures
    (λ apart lowers before. row_within_kept g s a b v j seconds c.loop-second.sizes.entries c.relax_pair_within.new.sizes.entries
    (subst (λ n. v < n) points c.requires.place.1)
    (λ i l. subst (λ n. get_or seconds i 0 < n) points (c.requires.seconds i (let m = c.loop-second-test.true in omega arith)))
    apart lowers before)
    (λ before here. before_more (λ i. WithinAt g s a b v (get_or seconds i 0) c.relax_pair_within.new.sizes.entries) j before here)
