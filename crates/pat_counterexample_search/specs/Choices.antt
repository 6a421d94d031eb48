-- What a tree has at its root by a table, and what a tree is that is rebuilt.
use Rattle.std.specs.Prelude.{◌≡◌, ℕ, suc, ◌+◌, ◌<◌, ◌≤◌, List, []}
use Rattle.pat_words_spec.specs.Words.{Word, no_word, one, plus}
use Rattle.pat_words_spec.specs.Cuts.{cut_at}
use Rattle.pat_inclusion_spec.specs.bounds.Trees.{Bound, tree_size}
use Rattle.pat_inclusion_spec.specs.bounds.Symbols.{OneSymbol, TagSymbol, SumSymbol, ProdSymbol, StarSymbol, LowerSymbol, symbol_at, root_at, ShowsAt}
use Rattle.pat_inclusion_spec.specs.bounds.Tables.{Setting, Step, IsDone}
use Rattle.pat_inclusion_spec.specs.bounds.Numbers.{points_in, point_of, table_of, HasAllEntries}
use Rattle.pat_grid_points.specs.Views.{summed}
use Rattle.pat_grid.specs.declared.tables.board.Board.{Board}
use Rattle.pat_grid.specs.tables.Views.{setting_of, IsBoard}
use Rattle.pat_grid.specs.tables.Moves.{entry_at}
use Rattle.pat_counterexample_search.specs.declared.choice.Place.{Place}
use Rattle.pat_counterexample_search.specs.declared.choice.Choice.{Choice}
use Rattle.pat_counterexample_search.specs.declared.choice.Choice.TheVariants.{Empty, Tag, Left, Right, Both, StarEnd, StarMore, Lower}
use Rattle.pat_limits.specs.Limits.{most_tree_nodes}

-- the entry at the place
abbrev pub entry_of : Setting → List ℕ → Place → ℕ
entry_of g entries p = entry_at g entries p.symbol p.number

-- the point of the place
abbrev pub point_at : Setting → Place → Word
point_at g p = point_of g.bound g.tags p.number

-- a table that is done, without given words
pub record IsReady (b : Board) (entries : List ℕ) : Type 0 where
  pub board : IsBoard b
  pub all : HasAllEntries (setting_of b) entries
  pub done : IsDone (setting_of b) (table_of (setting_of b) entries)
  pub none : b.given.now ≡ []

-- the place has a point; its entry is within the limit, and as many messages more are still counted
pub record HasRoom (b : Board) (entries : List ℕ) (p : Place) (had : Word) : Type 0 where
  pub number : p.number < b.points
  pub within : entry_of (setting_of b) entries p ≤ b.limit
  pub room : (t : ℕ) → had t + entry_of (setting_of b) entries p ≤ most_tree_nodes

-- the place has a point; its entry is within the limit, and is what a step gives
pub record HasStep (b : Board) (entries : List ℕ) (p : Place) : Type 0 where
  pub number : p.number < b.points
  pub within : entry_of (setting_of b) entries p ≤ b.limit
  pub step : Step (setting_of b) (table_of (setting_of b) entries) p.symbol (point_at (setting_of b) p) (entry_of (setting_of b) entries p)

-- at numbers i and j the parts are at points that add up to that with number c, and their entries make one of this size
abbrev pub ArePair : Setting → List ℕ → ℕ → ℕ → ℕ → ℕ → ℕ → ℕ → Type 0
ArePair g entries c size a i b j =
    (i < points_in g.bound g.tags)
    × (j < points_in g.bound g.tags)
    × (summed g.bound g.tags i j ≡ c)
    × (size ≡ suc (entry_at g entries a i + entry_at g entries b j))

-- the place of a part at the same point, whose entry is one less
abbrev pub IsPart : Setting → List ℕ → Place → Place → Type 0
IsPart g entries p q = (q.number ≡ p.number) × (entry_of g entries p ≡ suc (entry_of g entries q))

-- the places of two parts
abbrev pub AreParts : Setting → List ℕ → Place → Place → Place → Type 0
AreParts g entries p q r = ArePair g entries p.number (entry_of g entries p) q.symbol q.number r.symbol r.number

-- a tree with this root, and least trees of its parts, is one of the entry's size at the place
abbrev pub IsChoice : Setting → List ℕ → Place → Choice → Type 0
IsChoice g entries p Empty =
    (symbol_at g.flat p.symbol ≡ OneSymbol) × (point_at g p ≡ no_word) × (entry_of g entries p ≡ 1)
IsChoice g entries p (Tag m) =
    (symbol_at g.flat p.symbol ≡ TagSymbol m) × (point_at g p ≡ cut_at g.bound (one m)) × (entry_of g entries p ≡ 1)
IsChoice g entries p (Left q) = (b : ℕ) × (symbol_at g.flat p.symbol ≡ SumSymbol q.symbol b) × IsPart g entries p q
IsChoice g entries p (Right q) = (a : ℕ) × (symbol_at g.flat p.symbol ≡ SumSymbol a q.symbol) × IsPart g entries p q
IsChoice g entries p (Both q r) =
    (symbol_at g.flat p.symbol ≡ ProdSymbol q.symbol r.symbol) × AreParts g entries p q r
IsChoice g entries p StarEnd =
    (a : ℕ) × (symbol_at g.flat p.symbol ≡ StarSymbol a) × (point_at g p ≡ no_word) × (entry_of g entries p ≡ 1)
IsChoice g entries p (StarMore q r) =
    (symbol_at g.flat p.symbol ≡ StarSymbol q.symbol)
    × (r.symbol ≡ p.symbol)
    × AreParts g entries p q r
    × (point_at g q ≡ no_word → ⊥)
IsChoice g entries p (Lower q) =
    (k : ℕ) × (symbol_at g.flat p.symbol ≡ LowerSymbol k) × (q.symbol ≡ root_at g.flat k) × IsPart g entries p q

-- the tree is one of this size for the place, and its word was added
pub record Rebuilt (g : Setting) (p : Place) (size : ℕ) (had : Word) (tree : Bound) (has : Word) : Type 0 where
  pub word : Word
  pub shows : ShowsAt g.flat g.given tree (symbol_at g.flat p.symbol) word
  pub cut : point_at g p ≡ cut_at g.bound word
  pub sized : tree_size tree ≡ size
  pub small : (t : ℕ) → word t ≤ size
  pub words : has ≡ plus had word
