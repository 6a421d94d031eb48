-- Boards as the definitions see them.
use Rattle.std.specs.Prelude.{◌≡◌, ℕ, ◌≤◌, List, [], Option, Some, None, slice_get, IsTrue}
use Rattle.pat_words_spec.specs.Words.{Word}
use Rattle.pat_inclusion_spec.specs.Points.{grid_fits}
use Rattle.pat_inclusion_spec.specs.bounds.Symbols.{Flat, TagsAreBelow}
use Rattle.pat_inclusion_spec.specs.bounds.Tables.{Setting}
use Rattle.pat_inclusion_spec.specs.bounds.Numbers.{points_in}
use Rattle.pat_grid_points.specs.declared.grid.Grid.{Grid}
use Rattle.pat_grid_points.specs.Views.{points_of}
use Rattle.pat_grid_points.specs.declared.symbols.symbol.Symbol.{Symbol}
use Rattle.pat_grid_points.specs.symbols.Views.{symbols_view}
use Rattle.pat_grid.specs.declared.tables.board.Board.{Board}
pub use Rattle.pat_grid_sums.specs.Systems.{points_in_grid, given_words, AreGrids}
use Rattle.pat_limits.specs.Limits.{most_tree_nodes}

-- the symbols and roots as the definitions have them
abbrev pub flat_view : List Symbol → List ℕ → Flat
flat_view symbols roots = record { symbols = symbols_view symbols; roots = roots }

-- the setting of a table
abbrev pub setting_of : Board → Setting
setting_of b = record {
  bound = b.k;
  tags = b.tags;
  limit = b.limit;
  flat = flat_view b.symbols.now b.roots.now;
  given = given_words b.given.now;
}

-- the board is one that a table can be made for
pub record IsBoard (b : Board) : Type 0 where
  pub fits : IsTrue (grid_fits b.k b.tags)
  pub points : b.points ≡ points_in b.k b.tags
  pub limit : b.limit ≤ most_tree_nodes
  pub tags : TagsAreBelow b.tags (flat_view b.symbols.now b.roots.now)
  pub given : AreGrids b.k b.tags b.given.now
