use Rattle.pat_grid.specs.tables.Views.{setting_of}
use Rattle.pat_grid.specs.tables.Waiting.{HasUsersBefore}
use Rattle.pat_grid.proofs.tables.users.users_of.Given as goal

abbrev pub invariant-loop-s : goal.invariant-loop-s
invariant-loop-s l = HasUsersBefore (setting_of l.board) l.s l.users
