use Rattle.std.proofs.Common.{ℕ, ◌<◌, ◌≤◌}
use Rattle.pat_grid.specs.tables.Views.{setting_of}
use Rattle.pat_counterexample_search.specs.Choices.{ArePair}
use Rattle.pat_counterexample_search.proofs.pairs.find_pair.Given as goal

abbrev pub invariant-loop-first : goal.invariant-loop-first
invariant-loop-first l =
    (i j : ℕ) → l.from ≤ i → i < l.first → ArePair (setting_of l.board) l.entries l.number l.size l.parts.0 i l.parts.1 j → ⊥
