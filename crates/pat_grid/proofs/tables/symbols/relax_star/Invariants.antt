use Rattle.pat_grid.specs.tables.Views.{setting_of}
use Rattle.pat_grid.specs.tables.Moves.{Moved, WholeRows}
use Rattle.pat_grid.proofs.tables.symbols.relax_star.Given as goal

abbrev pub invariant-loop-first : goal.invariant-loop-first
invariant-loop-first l =
    let g = setting_of l.board in
    Moved g l.s ⊥ (WholeRows g l.s l.part l.s l.firsts l.first-index) l.initial.sizes l.initial.changed l.sizes l.changed
