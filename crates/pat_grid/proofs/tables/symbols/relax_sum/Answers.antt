use Rattle.pat_grid.proofs.Turns.{sum_moved}
use Rattle.pat_grid.proofs.Waiting.{on_ok}
use Rattle.pat_grid.proofs.tables.symbols.relax_sum.Goals as goal

pub returns : goal.returns
returns c =
    on_ok _ _ _
    (λ m. sum_moved c.args.board.now c.requires.board c.args.s c.args.sizes.now c.args.changed.now c.args.left c.args.right c.relax_part.new.sizes c.relax_part-2.new.sizes c.relax_part.new.changed c.relax_part-2.new.changed c.requires.symbol c.in_ok-relax_part.ensures m)
    c.relax_part-2.ensures
