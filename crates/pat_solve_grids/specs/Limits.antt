-- Limits that rise until a table tells what is asked.
use Rattle.std.specs.Prelude.{◌≡◌, ℕ, ◌<◌, List, length, get_or, Option, Some, None}
use Rattle.pat_inclusion_spec.specs.bounds.Searches.{LargeAnswer}
use Rattle.pat_grid.specs.declared.tables.board.Board.{Board}
use Rattle.pat_counterexample_search.specs.Readings.{IsReading}
use Rattle.pat_limits.specs.Limits.{most_tree_nodes}

-- the board with another limit
abbrev pub limited : Board → ℕ → Board
limited b limit = record {
  k = b.k;
  tags = b.tags;
  points = b.points;
  limit = limit;
  symbols = b.symbols;
  roots = b.roots;
  given = b.given;
}

-- the table doesn't say of both sides that larger trees alone refute
abbrev pub IsTold : Board → List ℕ → Option (ℕ × ℕ) → Type 0
IsTold b entries None = Unit {0}
IsTold b entries (Some side) = IsReading b entries side.0 side.1 LargeAnswer → ⊥

-- so of each of the sides, unless the limit is the greatest one
abbrev pub IsSettled : Board → List ℕ → List (Option (ℕ × ℕ)) → Type 0
IsSettled b entries sides =
    (j : ℕ) → j < length sides → (b.limit ≡ most_tree_nodes → ⊥) → IsTold b entries (get_or sides j None)
