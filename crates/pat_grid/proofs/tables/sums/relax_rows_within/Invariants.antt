use Rattle.pat_grid.specs.tables.Views.{setting_of}
use Rattle.pat_grid.specs.tables.Moves.{Moved, AreOthers, RowsWithin}
use Rattle.pat_grid.proofs.tables.sums.relax_rows_within.Given as goal

abbrev pub invariant-loop-first : goal.invariant-loop-first
invariant-loop-first l =
    let g = setting_of l.board in
    Moved g l.s (AreOthers l.parts.0 l.parts.1 l.s) (RowsWithin g l.s l.parts.0 l.parts.1 l.firsts l.seconds l.first-index) l.initial.sizes l.initial.changed l.sizes l.changed
