use Rattle.std.proofs.Common.{◌<◌, ◌+◌, get_or, length, sym, subst}
use Rattle.pat_inclusion_spec.specs.bounds.Tables.{IsKnown}
use Rattle.pat_grid.specs.tables.Views.{setting_of}
use Rattle.pat_grid.specs.tables.Moves.{entry_at, TakesParts, KeptBefore, Lists}
use Rattle.pat_grid.proofs.Summing.{known_moved}
use Rattle.pat_grid.proofs.Turns.{round_whole}
use Rattle.pat_grid.proofs.Waiting.{on_ok}
use Rattle.pat_grid.proofs.tables.sums.relax_round.Goals as goal

pub relax_again-requires-clause-firsts : goal.relax_again-requires-clause-firsts
relax_again-requires-clause-firsts c = λ i l.
    let a = c.args in
    let g = setting_of a.board.now in
    let kept = subst (KeptBefore g a.part (a.board.now.limit + 2) a.sizes.now.entries a.firsts.now (length a.firsts.now)) (sym c.as_slice-2.ensures) c.in_ok-ones.ensures in
    let t = kept.among i l in
    subst (λ v. (v < a.board.now.points) × TakesParts g a.s a.part a.s v) t.2 (c.requires.firsts t.0 t.1)

pub relax_again-requires-clause-seconds : goal.relax_again-requires-clause-seconds
relax_again-requires-clause-seconds c = λ j l.
    let a = c.args in
    let b = a.board.now in
    let g = setting_of b in
    let seconds = c.as_slice.result.now in
    let lists = subst (Lists (λ i. IsKnown g.limit (entry_at g a.sizes.now.entries a.s i)) 0 b.points) (sym c.as_slice.ensures) c.in_ok-known.ensures in
    let kept = subst (KeptBefore g a.s (b.limit + 2) a.sizes.now.entries seconds (length seconds)) (sym c.as_slice-3.ensures) c.in_ok-others.ensures in
    let t = kept.among j l in
    subst (λ v. v < b.points) t.2 (lists.within t.0 t.1).1

pub returns : goal.returns
returns c =
    let a = c.args in
    let b = a.board.now in
    let g = setting_of b in
    let points = c.requires.board.points in
    let seconds = c.as_slice.result.now in
    let lists = subst (Lists (λ i. IsKnown g.limit (entry_at g a.sizes.now.entries a.s i)) 0 b.points) (sym c.as_slice.ensures) c.in_ok-known.ensures in
    let ones = subst (KeptBefore g a.part (b.limit + 2) a.sizes.now.entries a.firsts.now (length a.firsts.now)) (sym c.as_slice-2.ensures) c.in_ok-ones.ensures in
    let others = subst (KeptBefore g a.s (b.limit + 2) a.sizes.now.entries seconds (length seconds)) (sym c.as_slice-3.ensures) c.in_ok-others.ensures in
    on_ok _ _ _
    (λ m. round_whole b c.requires.board a.s a.sizes.now a.changed.now a.part a.firsts.now seconds c.relax_again.new.sizes c.relax_again.new.changed lists
    (known_moved g ⊥ a.s a.part a.s a.firsts.now seconds c.as_slice-2.result.now c.as_slice-3.result.now a.sizes.now c.relax_again.new.sizes a.changed.now c.relax_again.new.changed
    (λ n. absurd n)
    (λ i l. subst (λ n. get_or a.firsts.now i 0 < n) points (c.requires.firsts i l).0)
    (λ j l. subst (λ n. get_or seconds j 0 < n) points (lists.within j l).1)
    ones.all others.all m))
    c.relax_again.ensures
