use Rattle.std.proofs.Common.{◌+◌, length}
use Rattle.pat_grid.specs.tables.Views.{setting_of}
use Rattle.pat_grid.specs.tables.Moves.{total, Moved}
use Rattle.pat_grid.proofs.tables.symbols.relax_turn.Given as goal

abbrev pub invariant-loop-sizes : goal.invariant-loop-sizes
invariant-loop-sizes l = Moved (setting_of l.board) l.s ⊥ (λ es. Unit {0}) l.initial.sizes l.initial.changed l.sizes l.changed

abbrev pub decreases-loop-sizes : goal.decreases-loop-sizes
decreases-loop-sizes l = total l.sizes.entries + length l.sizes.news
