use Rattle.std.proofs.Common.{get_or, ◌<◌, ◌+◌, subst, arith}
use Rattle.pat_grid.specs.tables.Views.{setting_of}
use Rattle.pat_grid.specs.tables.Moves.{AreOthers, PairAt, RowBefore}
use Rattle.pat_grid.proofs.Relaxing.{moved_both, before_more, row_kept}
use Rattle.pat_grid.proofs.tables.steps.relax_row.Goals as goal

pub loop-second-preserved : goal.loop-second-preserved
loop-second-preserved c =
    let g = setting_of c.args.board.now in
    let s = c.args.s in
    let a = c.args.parts.0 in
    let b = c.args.parts.1 in
    let v = c.args.first in
    let seconds = c.args.seconds.now in
    let j = c.loop-second.second-index in
    let points = c.requires.board.points in
    moved_both g s (AreOthers a b s) (RowBefore g s a b v seconds j) (PairAt g s a b v (get_or seconds j 0)) (RowBefore g s a b v seconds (j + 1)) c.args.sizes.now c.loop-second.sizes c.relax_pair.new.sizes c.args.changed.now c.loop-second.changed c.relax_pair.new.changed c.loop-second.invariant c.in_ok-relax_pair.ensures
    (λ apart lowers before. row_kept g s a b v j seconds c.loop-second.sizes.entries c.relax_pair.new.sizes.entries
    (subst (λ n. v < n) points c.requires.place.1)
    (λ i l. subst (λ n. get_or seconds i 0 < n) points (c.requires.seconds i (let m = c.loop-second-test.true in omega arith)))
    apart lowers before)
    (λ before here. before_more (λ i. PairAt g s a b v (get_or seconds i 0) c.relax_pair.new.sizes.entries) j before here)
