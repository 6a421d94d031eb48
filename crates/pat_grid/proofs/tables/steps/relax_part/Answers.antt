use Rattle.std.proofs.Common.{◌≡◌, get_or, length, ◌<◌, ◌+◌, sym, subst, arith}
use Rattle.pat_inclusion_spec.specs.bounds.Tables.{IsKnown}
use Rattle.pat_grid.specs.tables.Views.{setting_of}
use Rattle.pat_grid.specs.tables.Moves.{entry_at, Moved, PartAt, ListedBefore, Lists}
use Rattle.pat_grid.proofs.Relaxing.{moved_both, before_more, listed_kept, listed_whole}
use Rattle.pat_grid.proofs.tables.steps.relax_part.Goals as goal

pub relax_part_at-requires-clause-place : goal.relax_part_at-requires-clause-place
relax_part_at-requires-clause-place c =
    let b = c.args.board.now in
    let g = setting_of b in
    let lists = subst (Lists (λ i. IsKnown g.limit (entry_at g c.args.sizes.now.entries c.args.part i)) 0 b.points) (sym c.as_slice-numbers.ensures) c.in_ok-known.ensures in
    (c.requires.symbol, (lists.within c.loop-number.number-index c.loop-number-test.true).1)

pub loop-number-preserved : goal.loop-number-preserved
loop-number-preserved c =
    let b = c.args.board.now in
    let g = setting_of b in
    let s = c.args.s in
    let a = c.args.part in
    let numbers = c.as_slice-numbers.result.now in
    let i = c.loop-number.number-index in
    let lists = subst (Lists (λ i. IsKnown g.limit (entry_at g c.args.sizes.now.entries c.args.part i)) 0 b.points) (sym c.as_slice-numbers.ensures) c.in_ok-known.ensures in
    moved_both g s (a ≡ s → ⊥) (ListedBefore g s a numbers i) (PartAt g s a (get_or numbers i 0)) (ListedBefore g s a numbers (i + 1)) c.args.sizes.now c.loop-number.sizes c.relax_part_at.new.sizes c.args.changed.now c.loop-number.changed c.relax_part_at.new.changed c.loop-number.invariant c.in_ok-relax_part_at.ensures
    (λ apart lowers before. listed_kept g s a i numbers c.loop-number.sizes.entries c.relax_part_at.new.sizes.entries
    (λ j l. subst (λ n. get_or numbers j 0 < n) c.requires.board.points (lists.within j (let m = c.loop-number-test.true in omega arith)).1)
    apart lowers before)
    (λ before here. before_more (λ j. PartAt g s a (get_or numbers j 0) c.relax_part_at.new.sizes.entries) i before here)

pub returns : goal.returns
returns c =
    let b = c.args.board.now in
    let g = setting_of b in
    let s = c.args.s in
    let a = c.args.part in
    let numbers = c.as_slice-numbers.result.now in
    listed_whole b s a numbers c.args.sizes.now c.loop-number.sizes c.args.changed.now c.loop-number.changed c.requires.board
    (subst (Lists (λ i. IsKnown g.limit (entry_at g c.args.sizes.now.entries a i)) 0 b.points) (sym c.as_slice-numbers.ensures) c.in_ok-known.ensures)
    (subst (λ n. Moved g s (a ≡ s → ⊥) (ListedBefore g s a numbers n) c.args.sizes.now c.args.changed.now c.loop-number.sizes c.loop-number.changed) (let e : c.loop-number.number-index ≡ length numbers = omega arith in e) c.loop-number.invariant)
