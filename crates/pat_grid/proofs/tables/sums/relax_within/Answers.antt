use Rattle.std.proofs.Common.{◌<◌, get_or, length, sym, subst, arith}
use Rattle.pat_grid.specs.tables.Views.{setting_of}
use Rattle.pat_grid.specs.tables.Moves.{TakesParts, AreOthers, RowsWithin, KeptBefore}
use Rattle.pat_grid.proofs.Relaxing.{moved_none}
use Rattle.pat_grid.proofs.Summing.{within_moved}
use Rattle.pat_grid.proofs.Waiting.{on_ok}
use Rattle.pat_grid.proofs.tables.sums.relax_within.Goals as goal

pub returns-then-board-eq0 : goal.returns-then-board-eq0
returns-then-board-eq0 c =
    let a = c.args in
    let g = setting_of a.board.now in
    moved_none g a.s (AreOthers a.parts.0 a.parts.1 a.s) (RowsWithin g a.s a.parts.0 a.parts.1 a.firsts.now a.seconds.now (length a.firsts.now)) a.sizes.now a.changed.now
    (λ i l j m few. let none = c.if-board-eq0.true in absurd (omega arith))

pub kept_below-requires-clause-numbers : goal.kept_below-requires-clause-numbers
kept_below-requires-clause-numbers c = λ i l. (c.requires.firsts i l).0

pub relax_rows_within-requires-clause-firsts : goal.relax_rows_within-requires-clause-firsts
relax_rows_within-requires-clause-firsts c = λ i l.
    let a = c.args in
    let g = setting_of a.board.now in
    let kept = subst (KeptBefore g a.parts.0 a.board.now.limit a.sizes.now.entries a.firsts.now (length a.firsts.now)) (sym c.as_slice.ensures) c.in_ok-ones.ensures in
    let t = kept.among i l in
    subst (λ v. (v < a.board.now.points) × TakesParts g a.s a.parts.0 a.parts.1 v) t.2 (c.requires.firsts t.0 t.1)

pub relax_rows_within-requires-clause-seconds : goal.relax_rows_within-requires-clause-seconds
relax_rows_within-requires-clause-seconds c = λ j l.
    let a = c.args in
    let g = setting_of a.board.now in
    let kept = subst (KeptBefore g a.parts.1 a.board.now.limit a.sizes.now.entries a.seconds.now (length a.seconds.now)) (sym c.as_slice-2.ensures) c.in_ok-others.ensures in
    let t = kept.among j l in
    subst (λ v. v < a.board.now.points) t.2 (c.requires.seconds t.0 t.1)

pub returns : goal.returns
returns c =
    let a = c.args in
    let g = setting_of a.board.now in
    let points = c.requires.board.points in
    let ones = subst (KeptBefore g a.parts.0 a.board.now.limit a.sizes.now.entries a.firsts.now (length a.firsts.now)) (sym c.as_slice.ensures) c.in_ok-ones.ensures in
    let others = subst (KeptBefore g a.parts.1 a.board.now.limit a.sizes.now.entries a.seconds.now (length a.seconds.now)) (sym c.as_slice-2.ensures) c.in_ok-others.ensures in
    on_ok _ _ _
    (λ m. within_moved g a.s a.parts.0 a.parts.1 a.firsts.now a.seconds.now c.as_slice.result.now c.as_slice-2.result.now a.sizes.now c.relax_rows_within.new.sizes a.changed.now c.relax_rows_within.new.changed
    (λ i l. subst (λ n. get_or a.firsts.now i 0 < n) points (c.requires.firsts i l).0)
    (λ j l. subst (λ n. get_or a.seconds.now j 0 < n) points (c.requires.seconds j l))
    ones.all others.all m)
    c.relax_rows_within.ensures
