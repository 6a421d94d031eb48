use Rattle.pat_grid.specs.tables.Views.{setting_of}
use Rattle.pat_grid.specs.tables.Waiting.{Passed}
use Rattle.pat_grid.proofs.tables.passes.pass.Given as goal

abbrev pub invariant-loop-s : goal.invariant-loop-s
invariant-loop-s l = Passed (setting_of l.board) l.s l.initial.sizes.entries l.sizes l.waits l.changed
