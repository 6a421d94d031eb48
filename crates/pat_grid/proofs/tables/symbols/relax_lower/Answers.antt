use Rattle.pat_grid.proofs.Turns.{lower_moved}
use Rattle.pat_grid.proofs.Waiting.{on_ok}
use Rattle.pat_grid.proofs.tables.symbols.relax_lower.Goals as goal

pub returns : goal.returns
returns c =
    on_ok _ _ _
    (λ m. lower_moved c.args.board.now c.requires.board c.args.s c.args.sizes.now c.args.changed.now c.args.variable c.root_of.result c.relax_part.new.sizes c.relax_part.new.changed c.requires.symbol c.root_of.ensures m)
    c.relax_part.ensures
