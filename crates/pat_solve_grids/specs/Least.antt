-- The least grids of a system.
use Rattle.std.specs.Prelude.{◌≡◌, ◌↔◌, ℕ, List, length, Some, slice_get}
use Rattle.pat_words_spec.specs.Words.{Word}
use Rattle.pat_words_spec.specs.Patterns.{Pat}
use Rattle.pat_words_spec.specs.Cuts.{CutOf}
use Rattle.pat_inclusion_spec.specs.bounds.Trees.{bounds_of, derivable}
use Rattle.pat_inclusion_spec.specs.bounds.CutSets.{IsPoint}
use Rattle.pat_grid_points.specs.declared.grid.Grid.{Grid}
use Rattle.pat_grid_points.specs.Views.{HasPoint}
use Rattle.pat_grid.specs.tables.Views.{AreGrids}

-- a grid for each variable, with its derivable words, each cut at k
pub record AreLeastOf (k tags : ℕ) (system : List Pat) (grids : List Grid) : Type 0 where
  pub count : length grids ≡ length system
  pub like : AreGrids k tags grids
  pub points : (j : ℕ) (g : Grid) (u : Word) → slice_get grids j ≡ Some g → IsPoint k tags u → HasPoint g u ↔ CutOf k (derivable (bounds_of system) j) u
