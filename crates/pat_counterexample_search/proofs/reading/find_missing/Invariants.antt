use Rattle.std.proofs.Common.{◌≤◌, ◌+◌, ◌-◌}
use Rattle.pat_grid.specs.tables.Views.{setting_of}
use Rattle.pat_counterexample_search.specs.Readings.{IsBest}
use Rattle.pat_counterexample_search.proofs.reading.find_missing.Given as goal

abbrev pub invariant-loop-number : goal.invariant-loop-number
invariant-loop-number l =
    (l.number ≤ l.board.points)
    × IsBest (setting_of l.board) l.entries l.left l.right (l.board.limit + 1) l.number l.best.found l.best.above

abbrev pub decreases-loop-number : goal.decreases-loop-number
decreases-loop-number l = l.board.points - l.number
