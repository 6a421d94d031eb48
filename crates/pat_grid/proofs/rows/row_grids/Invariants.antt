use Rattle.std.proofs.Common.{take}
use Rattle.pat_grid.specs.Rows.{AreRows}
use Rattle.pat_grid.proofs.rows.row_grids.Given as goal

abbrev pub invariant-loop-number : goal.invariant-loop-number
invariant-loop-number l = AreRows l.board l.entries (take l.number-index l.numbers) l.grids
