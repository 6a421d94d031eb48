use Rattle.std.proofs.Common.{◌≡◌}
use Rattle.pat_grid.specs.tables.Views.{setting_of}
use Rattle.pat_grid.specs.tables.Moves.{Moved, ListedBefore}
use Rattle.pat_grid.proofs.tables.steps.relax_part.Given as goal

abbrev pub invariant-loop-number : goal.invariant-loop-number
invariant-loop-number l =
    let g = setting_of l.board in
    Moved g l.s (l.part ≡ l.s → ⊥) (ListedBefore g l.s l.part l.numbers l.number-index) l.initial.sizes l.initial.changed l.sizes l.changed
