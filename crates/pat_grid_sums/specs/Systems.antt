-- Sets of points of all symbols of a system.
use Rattle.std.specs.Prelude.{◌≡◌, ℕ, ◌+◌, ◌-◌, ◌*◌, ◌/◌, ◌%◌, ◌<◌, ◌≤◌, ◌⊎◌, Bool, true, false, List, [], Option, Some, None, slice_get, length, get_or, IsTrue}
use Rattle.std.specs.Int.{bit_at}
use Rattle.pat_words_spec.specs.Words.{Word}
use Rattle.pat_inclusion_spec.specs.Points.{grid_fits}
use Rattle.pat_inclusion_spec.specs.bounds.CutSets.{IsPoint}
use Rattle.pat_inclusion_spec.specs.bounds.Symbols.{Symbol, SumSymbol, ProdSymbol, StarSymbol, LowerSymbol, Flat, TagsAreBelow, symbol_at, root_at}
use Rattle.pat_inclusion_spec.specs.bounds.Tables.{Setting, Table, Step, IsClosed, IsSound}
use Rattle.pat_inclusion_spec.specs.bounds.Numbers.{points_in, number_of, table_of, HasAllEntries}
use Rattle.pat_grid_points.specs.declared.grid.Grid.{Grid}
use Rattle.pat_grid_points.specs.Views.{points_of, summed}
use Rattle.pat_grid_points.specs.symbols.Views.{symbols_view}
use Rattle.pat_grid_sums.specs.declared.shape.Shape.{Shape}
use Rattle.pat_grid_sums.specs.declared.system.System.{System}
use Rattle.pat_grid_sums.specs.Sets.{In, AnyBefore}

-- the points of a grid, if there is one
abbrev pub points_in_grid : Option Grid → List Word
points_in_grid None = []
points_in_grid (Some g) = points_of g

-- the words that are given for a variable: none past the last grid
abbrev pub given_words : List Grid → ℕ → List Word
given_words grids j = points_in_grid (slice_get grids j)

-- each grid is of so many tags and has this greatest count
abbrev pub AreGrids : ℕ → ℕ → List Grid → Type 0
AreGrids k n grids = (j : ℕ) (g : Grid) → slice_get grids j ≡ Some g → (g.k ≡ k) × (g.tags ≡ n)

-- what a table of the system is about, where no size is told
abbrev pub setting_in : System → Setting
setting_in y = record {
  bound = y.k;
  tags = y.tags;
  limit = 0;
  flat = record { symbols = symbols_view y.symbols.now; roots = y.roots.now };
  given = given_words y.given.now;
}

-- the system is one whose sets can be made
pub record IsSystem (y : System) : Type 0 where
  pub fits : IsTrue (grid_fits y.k y.tags)
  pub tags : TagsAreBelow y.tags (record { symbols = symbols_view y.symbols.now; roots = y.roots.now })
  pub given : AreGrids y.k y.tags y.given.now

-- the symbol is made of the one with number a; a star is also made of itself
abbrev pub IsPartOf : Flat → ℕ → Symbol → ℕ → Type 0
IsPartOf f s (SumSymbol l r) a = (l ≡ a) ⊎ (r ≡ a)
IsPartOf f s (ProdSymbol l r) a = (l ≡ a) ⊎ (r ≡ a)
IsPartOf f s (StarSymbol p) a = (p ≡ a) ⊎ (s ≡ a)
IsPartOf f s (LowerSymbol k) a = root_at f k ≡ a
IsPartOf f s _ a = ⊥

-- so the symbol with number s is
abbrev pub IsPart : Setting → ℕ → ℕ → Type 0
IsPart g s a = IsPartOf g.flat s (symbol_at g.flat s) a

-- the words have the point with the number
abbrev pub Holds : ℕ → List ℕ → ℕ → Type 0
Holds width words c = In words (c / width) (c % width)

-- the set of the symbol
abbrev pub set_at : List (List ℕ) → ℕ → List ℕ
set_at sets s = get_or sets s []

-- the table of sets: 1 where the symbol has a tree, 2 where none is known
abbrev pub table_in : Setting → ℕ → List (List ℕ) → Table
table_in g width sets s u =
    2 - bit_at (get_or (set_at sets s) (number_of g.bound g.tags u / width) 0) (number_of g.bound g.tags u % width)

-- so many sets of so many words each
pub record AreSets (n count : ℕ) (sets : List (List ℕ)) : Type 0 where
  pub as_many : length sets ≡ n
  pub as_long : (a : ℕ) → a < n → length (set_at sets a) ≡ count

-- sums of a point of the one set with one of the other
abbrev pub IsSumOf : Shape → ℕ → List ℕ → List ℕ → ℕ → ℕ → Type 0
IsSumOf s n ones others h q =
    (v w : ℕ)
    × (v < points_in s.k n)
    × (w < points_in s.k n)
    × Holds s.width ones v
    × Holds s.width others w
    × (h ≡ summed s.k n v w / s.width)
    × (q ≡ summed s.k n v w % s.width)

-- the point with the number is held
abbrev pub IsHeldAt : ℕ → List Bool → ℕ → ℕ → ℕ → Type 0
IsHeldAt width held c h q = (get_or held c false ≡ true) × (h ≡ c / width) × (q ≡ c % width)

-- a point of the grid that is given for the variable
abbrev pub IsGivenAt : ℕ → List Grid → ℕ → ℕ → ℕ → Type 0
IsGivenAt width grids j h q = (g : Grid) × (slice_get grids j ≡ Some g) × AnyBefore (IsHeldAt width g.held) (length g.held) h q

-- no step at the symbol gives less than the table has
abbrev pub IsClosedAt : Setting → Table → ℕ → Type 0
IsClosedAt g table s = (u : Word) (size : ℕ) → IsPoint g.bound g.tags u → Step g table s u size → table s u ≤ size

-- the words have what the steps of the symbol give, and nothing else that its set hasn't
pub record IsStepped (g : Setting) (width count : ℕ) (sets : List (List ℕ)) (s : ℕ) (words : List ℕ) : Type 0 where
  pub as_many : length words ≡ count
  pub steps : (u : Word) → IsPoint g.bound g.tags u → Holds width words (number_of g.bound g.tags u)
      → Holds width (set_at sets s) (number_of g.bound g.tags u) ⊎ Step g (table_in g width sets) s u 1
  pub covers : (u : Word) (size : ℕ) → IsPoint g.bound g.tags u → Step g (table_in g width sets) s u size
      → Holds width words (number_of g.bound g.tags u)

-- so, and they have all of its set
pub record IsGrown (g : Setting) (width count : ℕ) (sets : List (List ℕ)) (s : ℕ) (words : List ℕ) : Type 0 where
  pub stepped : IsStepped g width count sets s words
  pub kept : (h q : ℕ) → In (set_at sets s) h q → In words h q

-- before look number `now`: where a symbol was looked at, and none of its parts has changed since, it is closed
pub record Stands (g : Setting) (width count n now : ℕ) (sets : List (List ℕ)) (looked changed : List ℕ) : Type 0 where
  pub are : AreSets n count sets
  pub many_looked : length looked ≡ n
  pub many_changed : length changed ≡ n
  pub before_looked : (t : ℕ) → get_or looked t 0 < now
  pub before_changed : (t : ℕ) → get_or changed t 0 < now
  pub sound : IsSound g (table_in g width sets)
  pub closed : (t : ℕ) → t < n → 1 ≤ get_or looked t 0 → ((a : ℕ) → IsPart g t a → get_or changed a 0 < get_or looked t 0)
      → IsClosedAt g (table_in g width sets) t

-- one look: the mark number goes on, and where the set didn't grow the symbol is closed
pub record Looked (g : Setting) (width count n now s : ℕ) (old new : List (List ℕ)) (looked changed : List ℕ) (grew : Bool) : Type 0 where
  pub stands : Stands g width count n (now + 1) new looked changed
  pub rests : grew ≡ false → (new ≡ old) × IsClosedAt g (table_in g width new) s

-- so many looks of a pass
pub record Passed (g : Setting) (width count n m before : ℕ) (new : List (List ℕ)) (looked changed : List ℕ) (grew : Bool) : Type 0 where
  pub stands : Stands g width count n (before + m + 1) new looked changed
  pub rests : grew ≡ false → (t : ℕ) → t < m → IsClosedAt g (table_in g width new) t

-- no set has a point
abbrev pub NoPoints : List (List ℕ) → Type 0
NoPoints sets = (a h q : ℕ) → In (set_at sets a) h q → ⊥

-- sets that are settled: each has what the steps of its symbol give, and at each of its points there is a tree
pub record IsSettled (g : Setting) (width count n : ℕ) (sets : List (List ℕ)) : Type 0 where
  pub few : n < 2097152
  pub are : AreSets n count sets
  pub closed : IsClosed g (table_in g width sets)
  pub sound : IsSound g (table_in g width sets)

-- the entries of a table that is closed and sound
pub record AreReached (g : Setting) (entries : List ℕ) : Type 0 where
  pub all : HasAllEntries g entries
  pub closed : IsClosed g (table_of g entries)
  pub sound : IsSound g (table_of g entries)

-- at the first m places from `from` on stand the entries of the set, and elsewhere what stood there
pub record Written (words : List ℕ) (width from m : ℕ) (old new : List ℕ) : Type 0 where
  pub as_long : length new ≡ length old
  pub here : (c : ℕ) → c < m → get_or new (from + c) 2 ≡ 2 - bit_at (get_or words (c / width) 0) (c % width)
  pub elsewhere : (i : ℕ) → (i < from) ⊎ (from + m ≤ i) → get_or new i 2 ≡ get_or old i 2

-- of one word
abbrev pub WordWritten : List ℕ → ℕ → ℕ → ℕ → List ℕ → List ℕ → Type 0
WordWritten words word from m old new =
    (length new ≡ length old)
    × ((q : ℕ) → q < m → get_or new (from + q) 2 ≡ 2 - bit_at (get_or words word 0) q)
    × ((i : ℕ) → (i < from) ⊎ (from + m ≤ i) → get_or new i 2 ≡ get_or old i 2)

-- the entries of the first m sets, of so many points each
pub record EntriesTo (sets : List (List ℕ)) (width points m : ℕ) (entries : List ℕ) : Type 0 where
  pub as_long : length entries ≡ length sets * points
  pub here : (s c : ℕ) → s < m → c < points → get_or entries (s * points + c) 2 ≡ 2 - bit_at (get_or (set_at sets s) (c / width) 0) (c % width)
  pub later : (i : ℕ) → m * points ≤ i → get_or entries i 2 ≡ 2
