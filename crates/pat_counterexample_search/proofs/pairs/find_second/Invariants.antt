use Rattle.std.proofs.Common.{ℕ, ◌<◌}
use Rattle.pat_grid.specs.tables.Views.{setting_of}
use Rattle.pat_counterexample_search.specs.Choices.{ArePair}
use Rattle.pat_counterexample_search.proofs.pairs.find_second.Given as goal

abbrev pub invariant-loop-second : goal.invariant-loop-second
invariant-loop-second l =
    (j : ℕ) → j < l.second → ArePair (setting_of l.board) l.entries l.number l.size l.parts.0 l.first l.parts.1 j → ⊥
