use Rattle.std.proofs.Common.{ℕ, ◌+◌, ◌<◌, ◌≤◌, get_or}
use Rattle.pat_grid.specs.tables.Views.{setting_of}
use Rattle.pat_grid.specs.tables.Moves.{entry_at, Moved, KeepsKnown}
use Rattle.pat_grid.proofs.tables.sums.reach_sums.Given as goal

abbrev pub invariant-loop-number : goal.invariant-loop-number
invariant-loop-number l =
    let g = setting_of l.board in
    Moved g l.s (Unit {0}) (λ es. (t : ℕ) → t < l.number-index → entry_at g es l.s (get_or l.number-items t 0) ≤ g.limit + 1) l.initial.sizes l.initial.changed l.sizes l.changed
    × KeepsKnown g l.initial.sizes.entries l.sizes.entries
