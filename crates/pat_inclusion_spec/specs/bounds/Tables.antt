-- Tables of least trees: for each symbol and point the size of a least tree, up to a limit.
use Rattle.std.specs.Prelude.{◌≡◌, ℕ, suc, ◌+◌, ◌≤◌, min, ◌⊎◌, List}
use Rattle.pat_words_spec.specs.Words.{Word, no_word, one, plus}
use Rattle.pat_words_spec.specs.Cuts.{cut_at, CutOf}
use Rattle.pat_words_spec.specs.Languages.{MemberOf}
use Rattle.pat_inclusion_spec.specs.bounds.Trees.{Bound, tree_size}
use Rattle.pat_inclusion_spec.specs.bounds.CutSets.{IsPoint}
use Rattle.pat_inclusion_spec.specs.bounds.Symbols.{Symbol, NoSymbol, OneSymbol, TagSymbol, SumSymbol, ProdSymbol, StarSymbol, LowerSymbol, GivenSymbol, Flat, symbol_at, root_at, TagsAreBelow, GivenAreBelow, ShowsAt}

-- an entry for each symbol and point: up to the limit the size of a tree, one more where there is a larger one, and above that nothing is known
abbrev pub Table : Type 0
Table = ℕ → Word → ℕ

-- a size, or one more than the limit where it is larger
abbrev pub capped : ℕ → ℕ → ℕ
capped limit size = min size (suc limit)

-- the entry says that there is a tree
abbrev pub IsKnown : ℕ → ℕ → Type 0
IsKnown limit entry = entry ≤ suc limit

-- what a table is about: the bound and the number of tags of the grid, the limit, the symbols and the words that are given
pub record Setting : Type 0 where
  pub bound : ℕ
  pub tags : ℕ
  pub limit : ℕ
  pub flat : Flat
  pub given : ℕ → List Word

-- by a part: its entry and one more
abbrev pub StepByOne : Setting → Table → ℕ → Word → ℕ → Type 0
StepByOne g table s u size = IsKnown g.limit (table s u) × (size ≡ capped g.limit (suc (table s u)))

-- by two parts, at points that add up to this one: both entries and one more
abbrev pub StepByTwo : Setting → Table → ℕ → ℕ → Word → Word → Word → ℕ → Type 0
StepByTwo g table s t v w u size =
    IsPoint g.bound g.tags v
    × IsPoint g.bound g.tags w
    × IsKnown g.limit (table s v)
    × IsKnown g.limit (table t w)
    × (u ≡ cut_at g.bound (plus v w))
    × (size ≡ capped g.limit (suc (table s v + table t w)))

-- the table's entries give a tree of this size for symbol y, whose number is s, at this point
abbrev pub StepAt : Setting → Table → ℕ → Symbol → Word → ℕ → Type 0
StepAt g table s NoSymbol u size = ⊥
StepAt g table s OneSymbol u size = (u ≡ no_word) × (size ≡ 1)
StepAt g table s (TagSymbol m) u size = (u ≡ cut_at g.bound (one m)) × (size ≡ 1)
StepAt g table s (SumSymbol a b) u size = StepByOne g table a u size ⊎ StepByOne g table b u size
StepAt g table s (ProdSymbol a b) u size = (v w : Word) × StepByTwo g table a b v w u size
StepAt g table s (StarSymbol a) u size =
    ((u ≡ no_word) × (size ≡ 1)) ⊎ ((v w : Word) × StepByTwo g table a s v w u size × (v ≡ no_word → ⊥))
StepAt g table s (LowerSymbol k) u size = StepByOne g table (root_at g.flat k) u size
StepAt g table s (GivenSymbol k) u size = CutOf g.bound (MemberOf (g.given k)) u × (size ≡ 1)

abbrev pub Step : Setting → Table → ℕ → Word → ℕ → Type 0
Step g table s u size = StepAt g table s (symbol_at g.flat s) u size

-- no step gives less than the table has
abbrev pub IsClosed : Setting → Table → Type 0
IsClosed g table = (s : ℕ) (u : Word) (size : ℕ) → IsPoint g.bound g.tags u → Step g table s u size → table s u ≤ size

-- the tree shows a word for the symbol, which is cut to the point
abbrev pub ShowsCut : Setting → Bound → ℕ → Word → Type 0
ShowsCut g b s u = (w : Word) × ShowsAt g.flat g.given b (symbol_at g.flat s) w × (u ≡ cut_at g.bound w)

-- some tree of this size, or where it is past the limit of any size past it, does so
abbrev pub HasTree : Setting → ℕ → Word → ℕ → Type 0
HasTree g s u size = (b : Bound) × ShowsCut g b s u × (capped g.limit (tree_size b) ≡ size)

-- each entry that says so has a tree of its size
abbrev pub IsSound : Setting → Table → Type 0
IsSound g table = (s : ℕ) (u : Word) → IsPoint g.bound g.tags u → IsKnown g.limit (table s u) → HasTree g s u (table s u)

-- no tree is smaller than the table says, and where it says that there is none there is none
abbrev pub IsLeast : Setting → Table → Type 0
IsLeast g table =
    (s : ℕ) (u : Word) (b : Bound) → IsPoint g.bound g.tags u → ShowsCut g b s u → table s u ≤ capped g.limit (tree_size b)

-- each entry of the new table is that of the old one, or what a step from the old one gives
abbrev pub IsStepFrom : Setting → Table → Table → Type 0
IsStepFrom g old new =
    (s : ℕ) (u : Word) → IsPoint g.bound g.tags u → (new s u ≡ old s u) ⊎ Step g old s u (new s u)

-- each entry that says that there is a tree is what a step gives
abbrev pub IsGrounded : Setting → Table → Type 0
IsGrounded g table = (s : ℕ) (u : Word) → IsPoint g.bound g.tags u → IsKnown g.limit (table s u) → Step g table s u (table s u)

-- the setting is one that a table can be made for: a bound, and tags below the number of tags alone
pub record IsFit (g : Setting) : Type 0 where
  pub bound : 1 ≤ g.bound
  pub tags : TagsAreBelow g.tags g.flat
  pub given : GivenAreBelow g.tags g.given

-- a table that is done: nothing is left to lower, and each entry has its tree
pub record IsDone (g : Setting) (table : Table) : Type 0 where
  pub fit : IsFit g
  pub closed : IsClosed g table
  pub sound : IsSound g table
