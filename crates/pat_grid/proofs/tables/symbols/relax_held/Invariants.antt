use Rattle.std.proofs.Common.{◌≡◌, ◌<◌, ◌≤◌, ◌-◌, true, false, get_or}
use Rattle.pat_grid.specs.tables.Views.{setting_of}
use Rattle.pat_grid.specs.tables.Moves.{Moved, HeldBefore}
use Rattle.pat_grid.proofs.tables.symbols.relax_held.Given as goal

abbrev pub invariant-loop-number : goal.invariant-loop-number
invariant-loop-number l =
    let g = setting_of l.board in
    (l.number ≤ l.board.points)
    × (l.number < l.board.points → get_or l.held l.number false ≡ true)
    × Moved g l.s (Unit {0}) (HeldBefore g l.s l.held l.number) l.initial.sizes l.initial.changed l.sizes l.changed

abbrev pub decreases-loop-number : goal.decreases-loop-number
decreases-loop-number l = l.board.points - l.number
