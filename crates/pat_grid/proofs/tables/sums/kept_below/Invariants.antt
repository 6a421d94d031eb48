use Rattle.pat_grid.specs.tables.Views.{setting_of}
use Rattle.pat_grid.specs.tables.Moves.{KeptBefore}
use Rattle.pat_grid.proofs.tables.sums.kept_below.Given as goal

abbrev pub invariant-loop-number : goal.invariant-loop-number
invariant-loop-number l = KeptBefore (setting_of l.board) l.s l.most l.entries l.numbers l.number-index l.kept
