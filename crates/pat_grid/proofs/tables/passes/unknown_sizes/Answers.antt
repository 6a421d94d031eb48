use Rattle.pat_grid.proofs.Waiting.{begins}
use Rattle.pat_grid.proofs.tables.passes.unknown_sizes.Goals as goal

pub returns : goal.returns
returns c = begins c.args.board.now _ c.requires c.in_ok-entries.ensures c.in_ok-reached.ensures c.new.ensures
