use Rattle.std.proofs.Common.{◌≡◌, length, refl, subst, sym, arith}
use Rattle.pat_inclusion_spec.specs.bounds.Tables.{IsKnown}
use Rattle.pat_inclusion_spec.specs.bounds.Numbers.{table_of}
use Rattle.pat_grid.specs.tables.Views.{setting_of}
use Rattle.pat_grid.specs.tables.Moves.{entry_at, Lists}
use Rattle.pat_grid.proofs.Closing.{some_points, step_end}
use Rattle.pat_grid.proofs.Turns.{star_begins, star_goes_on, star_moved, star_takes}
use Rattle.pat_grid.proofs.Waiting.{on_ok}
use Rattle.pat_grid.proofs.tables.symbols.relax_star.Goals as goal

pub lower-requires-clause-place : goal.lower-requires-clause-place
lower-requires-clause-place c =
    let b = c.args.board.now in
    let p = c.requires.board.points in
    let l = some_points b.k b.tags in
    (c.requires.there, omega arith)

pub lower-requires-clause-step : goal.lower-requires-clause-step
lower-requires-clause-step c =
    let g = setting_of c.args.board.now in
    step_end g c.args.s c.args.part (table_of g c.args.sizes.now.entries) c.requires.symbol

pub loop-first-init : goal.loop-first-init
loop-first-init c =
    star_begins c.args.board.now c.requires.board c.args.s c.lower.new.sizes c.lower.new.changed c.args.part c.as_slice-firsts.result.now

pub relax_turn-requires-clause-lists : goal.relax_turn-requires-clause-lists
relax_turn-requires-clause-lists c = c.loop-first.invariant.lists (c.in_ok-lower.ensures.lists c.requires.lists)

pub relax_turn-requires-clause-place : goal.relax_turn-requires-clause-place
relax_turn-requires-clause-place c =
    let b = c.args.board.now in
    let g = setting_of b in
    let lists = subst (Lists (λ i. IsKnown g.limit (entry_at g c.args.sizes.now.entries c.args.part i)) 1 b.points) (sym c.as_slice-firsts.ensures) c.in_ok-known.ensures in
    (c.requires.there, (lists.within c.loop-first.first-index c.loop-first-test.true).1)

pub relax_turn-requires-clause-takes : goal.relax_turn-requires-clause-takes
relax_turn-requires-clause-takes c =
    let b = c.args.board.now in
    let g = setting_of b in
    (star_takes b c.requires.board c.args.s c.args.sizes.now c.args.changed.now c.args.part c.as_slice-firsts.result.now c.requires.symbol
    (subst (Lists (λ i. IsKnown g.limit (entry_at g c.args.sizes.now.entries c.args.part i)) 1 b.points) (sym c.as_slice-firsts.ensures) c.in_ok-known.ensures)
    c.loop-first.first-index c.loop-first-test.true).1

pub loop-first-preserved : goal.loop-first-preserved
loop-first-preserved c =
    star_goes_on c.args.board.now c.requires.board c.args.s c.lower.new.sizes c.lower.new.changed c.args.part c.loop-first.first-index c.as_slice-firsts.result.now c.loop-first.sizes c.relax_turn.new.sizes c.loop-first.changed c.relax_turn.new.changed c.loop-first.invariant c.in_ok-relax_turn.ensures

pub returns : goal.returns
returns c =
    let b = c.args.board.now in
    let g = setting_of b in
    star_moved b c.requires.board c.args.s c.args.sizes.now c.args.changed.now c.args.part c.loop-first.first-index c.as_slice-firsts.result.now c.lower.new.sizes c.loop-first.sizes c.lower.new.changed c.loop-first.changed c.requires.symbol
    (subst (Lists (λ i. IsKnown g.limit (entry_at g c.args.sizes.now.entries c.args.part i)) 1 b.points) (sym c.as_slice-firsts.ensures) c.in_ok-known.ensures)
    (let e : c.loop-first.first-index ≡ length c.as_slice-firsts.result.now = omega arith in e)
    c.in_ok-lower.ensures c.loop-first.invariant

pub relax_round-requires-clause-firsts : goal.relax_round-requires-clause-firsts
relax_round-requires-clause-firsts c =
    let b = c.args.board.now in
    let g = setting_of b in
    star_takes b c.requires.board c.args.s c.args.sizes.now c.args.changed.now c.args.part c.as_slice-firsts.result.now c.requires.symbol
    (subst (Lists (λ i. IsKnown g.limit (entry_at g c.args.sizes.now.entries c.args.part i)) 1 b.points) (sym c.as_slice-firsts.ensures) c.in_ok-known.ensures)

pub returns-then-goes_at_once : goal.returns-then-goes_at_once
returns-then-goes_at_once c =
    let b = c.args.board.now in
    let g = setting_of b in
    let firsts = c.as_slice-firsts.result.now in
    on_ok _ _ _
    (λ m. star_moved b c.requires.board c.args.s c.args.sizes.now c.args.changed.now c.args.part (length firsts) firsts c.lower.new.sizes c.relax_round.new.sizes c.lower.new.changed c.relax_round.new.changed c.requires.symbol
    (subst (Lists (λ i. IsKnown g.limit (entry_at g c.args.sizes.now.entries c.args.part i)) 1 b.points) (sym c.as_slice-firsts.ensures) c.in_ok-known.ensures)
    refl c.in_ok-lower.ensures m)
    c.relax_round.ensures
