use Rattle.std.proofs.Common.{◌<◌, ◌+◌, get_or, length, sym, subst}
use Rattle.pat_grid.specs.tables.Views.{setting_of}
use Rattle.pat_grid.specs.tables.Moves.{TakesParts, KeptBefore, AreOthers}
use Rattle.pat_grid.proofs.Summing.{known_moved}
use Rattle.pat_grid.proofs.Waiting.{on_ok}
use Rattle.pat_grid.proofs.tables.sums.relax_either.Goals as goal

pub relax_many-requires-clause-firsts : goal.relax_many-requires-clause-firsts
relax_many-requires-clause-firsts c = λ i l.
    let a = c.args in
    let g = setting_of a.board.now in
    let kept = subst (KeptBefore g a.parts.0 (a.board.now.limit + 2) a.sizes.now.entries a.firsts.now (length a.firsts.now)) (sym c.as_slice.ensures) c.in_ok-ones.ensures in
    let t = kept.among i l in
    subst (λ v. (v < a.board.now.points) × TakesParts g a.s a.parts.0 a.parts.1 v) t.2 (c.requires.firsts t.0 t.1)

pub relax_many-requires-clause-seconds : goal.relax_many-requires-clause-seconds
relax_many-requires-clause-seconds c = λ j l.
    let a = c.args in
    let g = setting_of a.board.now in
    let kept = subst (KeptBefore g a.parts.1 (a.board.now.limit + 2) a.sizes.now.entries a.seconds.now (length a.seconds.now)) (sym c.as_slice-2.ensures) c.in_ok-others.ensures in
    let t = kept.among j l in
    subst (λ v. v < a.board.now.points) t.2 (c.requires.seconds t.0 t.1)

pub returns : goal.returns
returns c =
    let a = c.args in
    let g = setting_of a.board.now in
    let points = c.requires.board.points in
    let ones = subst (KeptBefore g a.parts.0 (a.board.now.limit + 2) a.sizes.now.entries a.firsts.now (length a.firsts.now)) (sym c.as_slice.ensures) c.in_ok-ones.ensures in
    let others = subst (KeptBefore g a.parts.1 (a.board.now.limit + 2) a.sizes.now.entries a.seconds.now (length a.seconds.now)) (sym c.as_slice-2.ensures) c.in_ok-others.ensures in
    on_ok _ _ _
    (λ m. known_moved g (AreOthers a.parts.0 a.parts.1 a.s) a.s a.parts.0 a.parts.1 a.firsts.now a.seconds.now c.as_slice.result.now c.as_slice-2.result.now a.sizes.now c.relax_many.new.sizes a.changed.now c.relax_many.new.changed
    (λ d. d)
    (λ i l. subst (λ n. get_or a.firsts.now i 0 < n) points (c.requires.firsts i l).0)
    (λ j l. subst (λ n. get_or a.seconds.now j 0 < n) points (c.requires.seconds j l))
    ones.all others.all m)
    c.relax_many.ensures
