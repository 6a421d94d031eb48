use Rattle.pat_grid.specs.tables.Views.{setting_of}
use Rattle.pat_grid.specs.tables.Moves.{Moved, AreOthers, RowBefore}
use Rattle.pat_grid.proofs.tables.steps.relax_row.Given as goal

abbrev pub invariant-loop-second : goal.invariant-loop-second
invariant-loop-second l =
    let g = setting_of l.board in
    Moved g l.s (AreOthers l.parts.0 l.parts.1 l.s) (RowBefore g l.s l.parts.0 l.parts.1 l.first l.seconds l.second-index) l.initial.sizes l.initial.changed l.sizes l.changed
