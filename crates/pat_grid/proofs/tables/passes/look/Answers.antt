use Rattle.std.proofs.Common.{◌<◌, List, [], Bool, false, get_or, refl, set, sym, ap, subst, ◌∙◌}
use Rattle.pat_grid.specs.tables.Views.{setting_of}
use Rattle.pat_grid.specs.tables.Moves.{ClosedAt}
use Rattle.pat_grid.specs.tables.Waiting.{IsNoPart, with_waits, Waits, Looked}
use Rattle.pat_grid.proofs.Relaxing.{symbol_within, moved_from}
use Rattle.pat_grid.proofs.Reached.{lists_forgotten, from_all}
use Rattle.pat_grid.proofs.Waiting.{not_looked, looked_in_vain, looked_and_lowered, waits_all}
use Rattle.pat_grid.proofs.tables.passes.look.Goals as goal

pub stop_waiting-waited-requires : goal.stop_waiting-waited-requires
stop_waiting-waited-requires c =
    let b = c.args.board.now in
    subst (λ n. c.args.s < n) (sym c.requires.stands.as_many) (symbol_within b c.args.s c.requires.there)

pub relax_symbol-requires-clause-lists : goal.relax_symbol-requires-clause-lists
relax_symbol-requires-clause-lists c =
    lists_forgotten (setting_of c.args.board.now) c.args.sizes.now _ refl refl c.forget.ensures c.requires.stands.lists

pub returns-then-not-waited : goal.returns-then-not-waited
returns-then-not-waited c =
    not_looked (setting_of c.args.board.now) c.args.s c.args.sizes.now c.args.waits.now c.stop_waiting-waited.new.waits c.args.changed.now c.requires.stands
    (sym c.stop_waiting-waited.ensures.was ∙ c.if-not-waited.true) c.stop_waiting-waited.ensures.now

pub returns-in_ok-list_from : goal.returns-in_ok-list_from
returns-in_ok-list_from c =
    let b = c.args.board.now in
    let g = setting_of b in
    let numbers = c.as_slice.result.now in
    let off = set c.args.waits.now c.args.s false in
    looked_and_lowered g c.args.s c.args.sizes.now c.args.waits.now c.relax_symbol.new.sizes c.relax_symbol.new.changed c.requires.stands (symbol_within b c.args.s c.requires.there)
    (moved_from g c.args.s (IsNoPart g c.args.s) (ClosedAt g c.args.s) c.args.sizes.now _ c.relax_symbol.new.sizes false c.relax_symbol.new.changed refl refl c.forget.ensures c.in_ok-relax_symbol.ensures)
    c.args.users.now numbers c.let_wait.new.waits c.args.changed.now c.requires.users (c.as_slice.ensures ∙ c.in_ok-list_from.ensures ∙ from_all (get_or c.args.users.now c.args.s [])) c.if-lowered.true
    (subst (λ (ws : List Bool). Waits numbers off ws) (sym (c.let_wait.ensures ∙ ap (with_waits numbers) c.stop_waiting-waited.ensures.now)) (waits_all numbers off))

pub returns-else-lowered : goal.returns-else-lowered
returns-else-lowered c =
    let b = c.args.board.now in
    let g = setting_of b in
    subst (λ (ws : List Bool). Looked g c.args.s c.args.sizes.now.entries c.args.waits.now c.args.changed.now c.relax_symbol.new.sizes ws c.args.changed.now) (sym c.stop_waiting-waited.ensures.now)
    (looked_in_vain g c.args.s c.args.sizes.now c.args.waits.now c.relax_symbol.new.sizes c.relax_symbol.new.changed c.requires.stands (symbol_within b c.args.s c.requires.there)
    (moved_from g c.args.s (IsNoPart g c.args.s) (ClosedAt g c.args.s) c.args.sizes.now _ c.relax_symbol.new.sizes false c.relax_symbol.new.changed refl refl c.forget.ensures c.in_ok-relax_symbol.ensures)
    c.args.changed.now c.if-lowered.false)
