use Rattle.pat_grid.proofs.Listing.{rows_turn}
use Rattle.pat_grid.proofs.rows.row_grids.Goals as goal

pub loop-number-preserved : goal.loop-number-preserved
loop-number-preserved c =
    rows_turn c.args.board.now c.args.entries.now c.args.numbers.now c.loop-number.number-index c.loop-number.grids c.push.new.self c.in_ok-grid.grid c.loop-number-test.true c.loop-number.invariant c.in_ok-grid.ensures c.in_ok-push.ensures.ok
