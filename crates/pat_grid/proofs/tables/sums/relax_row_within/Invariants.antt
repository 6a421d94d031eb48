use Rattle.pat_grid.specs.tables.Views.{setting_of}
use Rattle.pat_grid.specs.tables.Moves.{Moved, AreOthers, RowWithin}
use Rattle.pat_grid.proofs.tables.sums.relax_row_within.Given as goal

abbrev pub invariant-loop-second : goal.invariant-loop-second
invariant-loop-second l =
    let g = setting_of l.board in
    Moved g l.s (AreOthers l.parts.0 l.parts.1 l.s) (RowWithin g l.s l.parts.0 l.parts.1 l.first l.seconds l.second-index) l.initial.sizes l.initial.changed l.sizes l.changed
