-- Rows of a table as grids.
use Rattle.std.specs.Prelude.{◌≡◌, ℕ, ◌<◌, ◌↔◌, Bool, true, false, List, [], ◌∷◌, get_or}
use Rattle.pat_inclusion_spec.specs.bounds.Tables.{IsKnown}
use Rattle.pat_grid_points.specs.declared.grid.Grid.{Grid}
use Rattle.pat_grid.specs.declared.tables.board.Board.{Board}
use Rattle.pat_grid.specs.tables.Views.{setting_of}
use Rattle.pat_grid.specs.tables.Moves.{entry_at}

-- at each number before m the test says just whether there is a tree
abbrev pub TestsBefore : Board → List ℕ → ℕ → List Bool → ℕ → Type 0
TestsBefore b entries s held m =
    (c : ℕ) → c < m → (get_or held c false ≡ true) ↔ IsKnown b.limit (entry_at (setting_of b) entries s c)

-- the grid has just the points at which the symbol has a tree
pub record IsRow (b : Board) (entries : List ℕ) (s : ℕ) (g : Grid) : Type 0 where
  pub bound : g.k ≡ b.k
  pub tags : g.tags ≡ b.tags
  pub tests : TestsBefore b entries s g.held b.points

-- so it is of each symbol and grid
abbrev pub AreRows : Board → List ℕ → List ℕ → List Grid → Type 0
AreRows b entries [] [] = Unit {0}
AreRows b entries (s ∷ numbers) (g ∷ grids) = IsRow b entries s g × AreRows b entries numbers grids
AreRows b entries _ _ = ⊥
