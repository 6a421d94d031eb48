use Rattle.std.proofs.Common.{ℕ, ◌<◌, ◌∙◌, length, get_or, refl, sym, subst}
use Rattle.pat_inclusion_spec.specs.bounds.Tables.{IsKnown}
use Rattle.pat_grid.specs.tables.Views.{setting_of}
use Rattle.pat_grid.specs.tables.Moves.{entry_at, AreOthers, Lists, RowBefore}
use Rattle.pat_grid.proofs.Relaxing.{moved_from, moved_as, moved_both}
use Rattle.pat_grid.proofs.Turns.{turn_moved}
use Rattle.pat_grid.proofs.tables.symbols.relax_turn.Goals as goal

pub relax_row-requires-in-loop-sizes-clause-seconds : goal.relax_row-requires-in-loop-sizes-clause-seconds
relax_row-requires-in-loop-sizes-clause-seconds c =
    let b = c.args.board.now in
    let news = c.loop-sizes.sizes.news in
    let lists = c.loop-sizes.invariant.lists (c.in_ok-relax_row.ensures.lists c.requires.lists) in
    subst (λ ns. (j : ℕ) → j < length ns → get_or ns j 0 < b.points) (sym (c.as_slice-lowered.ensures ∙ c.take.ensures.old))
    (λ j l. subst (λ n. get_or news j 0 < n) (sym c.requires.board.points) (lists.news j l))

pub loop-sizes-preserved : goal.loop-sizes-preserved
loop-sizes-preserved c =
    let g = setting_of c.args.board.now in
    let s = c.args.s in
    let a = c.args.part in
    let turn = moved_as g s (AreOthers a s s) ⊥ (RowBefore g s a s c.args.first c.as_slice-lowered.result.now (length c.as_slice-lowered.result.now)) (λ es. Unit {0}) _ c.relax_row-in-loop-sizes.new.sizes c.loop-sizes.changed c.relax_row-in-loop-sizes.new.changed c.in_ok-relax_row-2.ensures (λ n. absurd n) (λ o h. tt) in
    moved_both g s ⊥ (λ es. Unit {0}) (λ es. Unit {0}) (λ es. Unit {0}) c.relax_row.new.sizes c.loop-sizes.sizes c.relax_row-in-loop-sizes.new.sizes c.relax_row.new.changed c.loop-sizes.changed c.relax_row-in-loop-sizes.new.changed c.loop-sizes.invariant
    (moved_from g s ⊥ (λ es. Unit {0}) c.loop-sizes.sizes _ c.relax_row-in-loop-sizes.new.sizes c.loop-sizes.changed c.relax_row-in-loop-sizes.new.changed refl refl c.take.ensures.now turn)
    (λ n lowers h. tt)
    (λ h k. tt)

pub returns : goal.returns
returns c =
    let b = c.args.board.now in
    let g = setting_of b in
    turn_moved b c.requires.board c.args.s c.args.sizes.now c.args.changed.now c.args.part c.args.first c.as_slice-seconds.result.now c.relax_row.new.sizes c.loop-sizes.sizes c.relax_row.new.changed c.loop-sizes.changed
    (subst (Lists (λ i. IsKnown g.limit (entry_at g c.args.sizes.now.entries c.args.s i)) 0 b.points) (sym c.as_slice-seconds.ensures) c.in_ok-known.ensures)
    c.in_ok-relax_row.ensures
    c.loop-sizes.invariant
