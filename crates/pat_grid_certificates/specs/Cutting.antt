-- Values, cut, as grids.
use Rattle.std.specs.Prelude.{◌≡◌, ℕ, ◌⊎◌, ◌↔◌, List, [], ◌∷◌}
use Rattle.pat_words_spec.specs.Words.{Word}
use Rattle.pat_words_spec.specs.Patterns.{In}
use Rattle.pat_words_spec.specs.Cuts.{cut_at, CutOf}
use Rattle.pat_bags.specs.declared.Bag.{Bag}
use Rattle.pat_bags.specs.Views.{word_of}
use Rattle.pat_inclusion_spec.specs.Values.{VarValue, value_pattern}
use Rattle.pat_inclusion_spec.specs.bounds.CutSets.{IsPoint}
use Rattle.pat_grid_points.specs.declared.grid.Grid.{Grid}
use Rattle.pat_grid_points.specs.Views.{HasPoint}

-- u is one of the words, cut
abbrev pub IsCutMember : ℕ → List Bag → Word → Type 0
IsCutMember k [] u = ⊥
IsCutMember k (b ∷ bs) u = (u ≡ cut_at k (word_of b)) ⊎ IsCutMember k bs u

-- the grid has just the words of the value, cut
pub record IsValueGrid (k n : ℕ) (value : VarValue) (g : Grid) : Type 0 where
  pub bound : g.k ≡ k
  pub tags : g.tags ≡ n
  pub points : (u : Word) → IsPoint k n u → HasPoint g u ↔ CutOf k (In (value_pattern n value)) u

-- so it is of each value and grid
abbrev pub AreValueGrids : ℕ → ℕ → List VarValue → List Grid → Type 0
AreValueGrids k n [] [] = Unit {0}
AreValueGrids k n (v ∷ values) (g ∷ grids) = IsValueGrid k n v g × AreValueGrids k n values grids
AreValueGrids k n _ _ = ⊥
