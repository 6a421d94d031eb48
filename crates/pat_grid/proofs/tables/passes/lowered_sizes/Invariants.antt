use Rattle.pat_grid.specs.tables.Views.{setting_of}
use Rattle.pat_grid.specs.tables.Moves.{total}
use Rattle.pat_grid.specs.tables.Waiting.{Stands}
use Rattle.pat_grid.proofs.tables.passes.lowered_sizes.Given as goal

abbrev pub invariant-loop-waits : goal.invariant-loop-waits
invariant-loop-waits l = Stands (setting_of l.board) l.sizes l.waits.items

abbrev pub decreases-loop-waits : goal.decreases-loop-waits
decreases-loop-waits l = total l.sizes.entries
