-- Points of grids, listed.
use Rattle.std.specs.Prelude.{◌≡◌, ℕ, List, [], ◌∷◌, map, Option, Some, None, slice_get, IsTrue}
use Rattle.pat_bags.specs.declared.Bag.{Bag}
use Rattle.pat_bags.specs.Views.{word_of}
use Rattle.pat_inclusion_spec.specs.Points.{points_fit}
use Rattle.pat_grid_points.specs.declared.grid.Grid.{Grid}
use Rattle.pat_grid_points.specs.Views.{points_of}
use Rattle.pat_solve_bounds.specs.renumbered.Renaming.{place_in}

-- the points of the grid, ascending
pub record IsListing (g : Grid) (points : List Bag) : Type 0 where
  pub all : map word_of points ≡ points_of g
  pub ascend : IsTrue (points_fit g.k g.tags (map (λ b. b.counts) points))

-- of each grid
abbrev pub AreListed : List Grid → List (List Bag) → Type 0
AreListed [] [] = Unit {0}
AreListed (g ∷ grids) (p ∷ points) = IsListing g p × AreListed grids points
AreListed _ _ = ⊥

abbrev pub counts_in : Option (List Bag) → List (List ℕ)
counts_in None = []
counts_in (Some points) = map (λ b. b.counts) points

-- the points of each variable of a list, which are listed in the same order; none for others
abbrev pub points_by : List ℕ → List (List Bag) → ℕ → List (List ℕ)
points_by variables points k = counts_in (slice_get points (place_in variables k))
