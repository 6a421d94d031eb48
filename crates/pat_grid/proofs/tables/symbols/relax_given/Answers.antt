use Rattle.std.proofs.Common.{ap, sym, get_or}
use Rattle.pat_grid_points.specs.declared.grid.Grid.{Grid}
use Rattle.pat_grid.proofs.Turns.{past_given, given_takes, given_moved}
use Rattle.pat_grid.proofs.Waiting.{on_ok}
use Rattle.pat_grid.proofs.tables.symbols.relax_given.Goals as goal

pub relax_held-requires-clause-takes : goal.relax_held-requires-clause-takes
relax_held-requires-clause-takes c =
    given_takes c.args.board.now c.requires.board c.args.s c.args.sizes.now c.args.changed.now c.args.variable c.requires.symbol c.index-board-variable.result (get_or c.args.board.now.given.now c.args.variable c.index-board-variable.result).held c.if-variable-board.true c.index-board-variable.is (ap (λ (y : Grid). y.held) (sym c.index-board-variable.is))

pub returns-then-variable-board : goal.returns-then-variable-board
returns-then-variable-board c =
    on_ok _ _ _
    (λ m. given_moved c.args.board.now c.requires.board c.args.s c.args.sizes.now c.args.changed.now c.args.variable c.requires.symbol c.index-board-variable.result (get_or c.args.board.now.given.now c.args.variable c.index-board-variable.result).held c.if-variable-board.true c.index-board-variable.is (ap (λ (y : Grid). y.held) (sym c.index-board-variable.is)) c.relax_held.new.sizes c.relax_held.new.changed m)
    c.relax_held.ensures

pub returns-else-variable-board : goal.returns-else-variable-board
returns-else-variable-board c =
    past_given c.args.board.now c.requires.board c.args.s c.args.sizes.now c.args.changed.now c.args.variable c.requires.symbol c.if-variable-board.false
