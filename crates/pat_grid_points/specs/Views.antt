-- Grids as the definitions see them.
use Rattle.std.specs.Prelude.{◌≡◌, ◌-◌, ℕ, zero, suc, Bool, true, false, List, [], ◌∷◌, map, IsTrue, slice_index_or}
use Rattle.pat_words_spec.specs.Words.{Word, plus}
use Rattle.pat_words_spec.specs.Cuts.{cut_at}
use Rattle.pat_bags.specs.declared.Bag.{Bag}
use Rattle.pat_bags.specs.Views.{word_of}
use Rattle.pat_inclusion_spec.specs.bounds.CutSets.{IsPoint}
use Rattle.pat_inclusion_spec.specs.bounds.Numbers.{number_of, point_of}
use Rattle.pat_grid_points.specs.declared.grid.Grid.{Grid}

-- the grid has this point
abbrev pub HasPoint : Grid → Word → Type 0
HasPoint g u = IsPoint g.k g.tags u × IsTrue (slice_index_or g.held (number_of g.k g.tags u) false)

-- both grids are of the same number of tags and the same greatest count
abbrev pub IsLike : Grid → Grid → Type 0
IsLike g h = (g.k ≡ h.k) × (g.tags ≡ h.tags)

-- from number c on, the points whose entry says that they are there
abbrev pub held_from : ℕ → ℕ → ℕ → List Bool → List Word
held_from k n c [] = []
held_from k n c (true ∷ held) = point_of k n c ∷ held_from k n (suc c) held
held_from k n c (false ∷ held) = held_from k n (suc c) held

-- the points of the grid, ascending
abbrev pub points_of : Grid → List Word
points_of g = held_from g.k g.tags 0 g.held

-- so many points, from that with number c on
abbrev pub points_from : ℕ → ℕ → ℕ → ℕ → List Word
points_from k n c zero = []
points_from k n c (suc count) = point_of k n c ∷ points_from k n (suc c) count

-- the points with the numbers from one on, up to another that isn't of them
abbrev pub points_between : ℕ → ℕ → ℕ → ℕ → List Word
points_between k n from to = points_from k n from (to - from)

-- the numbers of the points
abbrev pub numbers_of : ℕ → ℕ → List Bag → List ℕ
numbers_of k n bags = map (λ b. number_of k n (cut_at k (word_of b))) bags

-- the number of the sum of the points with these numbers
abbrev pub summed : ℕ → ℕ → ℕ → ℕ → ℕ
summed k n v w = number_of k n (cut_at k (plus (point_of k n v) (point_of k n w)))
