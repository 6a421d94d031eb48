use Rattle.std.proofs.Common.{get_or, length, ◌<◌, ◌+◌, subst, arith}
use Rattle.pat_grid.specs.tables.Views.{setting_of}
use Rattle.pat_grid.specs.tables.Moves.{AreOthers, RowWithin, RowsWithin}
use Rattle.pat_grid.proofs.Relaxing.{moved_both, before_more}
use Rattle.pat_grid.proofs.Summing.{rows_within_kept}
use Rattle.pat_grid.proofs.tables.sums.relax_rows_within.Goals as goal

-- What a loop over rows of any kind owes is `moved_both`, as for the products of parts; what is left names this loop's steps.
pub relax_row_within-requires-clause-takes : goal.relax_row_within-requires-clause-takes
relax_row_within-requires-clause-takes c = (c.requires.firsts c.loop-first.first-index c.loop-first-test.true).1

pub loop-first-preserved : goal.loop-first-preserved
loop-first-preserved c =
    let g = setting_of c.args.board.now in
    let s = c.args.s in
    let a = c.args.parts.0 in
    let b = c.args.parts.1 in
    let firsts = c.args.firsts.now in
    let seconds = c.args.seconds.now in
    let i = c.loop-first.first-index in
    let points = c.requires.board.points in
    moved_both g s (AreOthers a b s) (RowsWithin g s a b firsts seconds i) (RowWithin g s a b (get_or firsts i 0) seconds (length seconds)) (RowsWithin g s a b firsts seconds (i + 1)) c.args.sizes.now c.loop-first.sizes c.relax_row_within.new.sizes c.args.changed.now c.loop-first.changed c.relax_row_within.new.changed c.loop-first.invariant c.in_ok-relax_row_within.ensures
    (λ apart lowers before. rows_within_kept g s a b i firsts seconds c.loop-first.sizes.entries c.relax_row_within.new.sizes.entries
    (λ i2 l. subst (λ n. get_or firsts i2 0 < n) points (c.requires.firsts i2 (let m = c.loop-first-test.true in omega arith)).0)
    (λ j l. subst (λ n. get_or seconds j 0 < n) points (c.requires.seconds j l))
    apart lowers before)
    (λ before here. before_more (λ i2. RowWithin g s a b (get_or firsts i2 0) seconds (length seconds) c.relax_row_within.new.sizes.entries) i before here)
