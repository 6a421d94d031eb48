use Rattle.std.proofs.Common.{◌<◌, ◌≤◌, ◌-◌, ℕ}
use Rattle.pat_inclusion_spec.specs.bounds.Tables.{IsKnown}
use Rattle.pat_grid.specs.tables.Views.{setting_of}
use Rattle.pat_grid.specs.tables.Moves.{entry_at}
use Rattle.pat_grid.proofs.tables.entries.next_known.Given as goal

abbrev pub invariant-loop-number : goal.invariant-loop-number
invariant-loop-number l =
    (l.from ≤ l.number)
    × (l.number ≤ l.board.points)
    × ((c : ℕ) → l.from ≤ c → c < l.number → IsKnown l.board.limit (entry_at (setting_of l.board) l.entries l.s c) → ⊥)

abbrev pub decreases-loop-number : goal.decreases-loop-number
decreases-loop-number l = l.board.points - l.number
