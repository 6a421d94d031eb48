use Rattle.std.proofs.Common.{◌<◌, ◌≤◌, ◌-◌}
use Rattle.pat_inclusion_spec.specs.bounds.Tables.{IsKnown}
use Rattle.pat_grid.specs.tables.Views.{setting_of}
use Rattle.pat_grid.specs.tables.Moves.{entry_at}
use Rattle.pat_grid.proofs.Listing.{Tested}
use Rattle.pat_grid.proofs.rows.row.Given as goal

abbrev pub invariant-loop-number : goal.invariant-loop-number
invariant-loop-number l =
    (l.number ≤ l.board.points)
    × (l.number < l.board.points → IsKnown l.board.limit (entry_at (setting_of l.board) l.entries l.s l.number))
    × Tested l.board l.entries l.s l.held l.number

abbrev pub decreases-loop-number : goal.decreases-loop-number
decreases-loop-number l = l.board.points - l.number
