-- What relaxing does to the entries of a table.
use Rattle.std.specs.Prelude.{◌≡◌, ℕ, suc, ◌+◌, ◌*◌, ◌<◌, ◌≤◌, ◌⊎◌, Bool, true, false, List, [], length, get_or}
use Rattle.std.specs.List.{sum_by}
use Rattle.pat_words_spec.specs.Words.{Word}
use Rattle.pat_inclusion_spec.specs.bounds.CutSets.{IsPoint}
use Rattle.pat_inclusion_spec.specs.bounds.Tables.{Setting, Table, IsKnown, IsSound, Step, StepByOne, StepByTwo, capped}
use Rattle.pat_inclusion_spec.specs.bounds.Numbers.{points_in, point_of, table_of, unknown}
use Rattle.pat_grid_points.specs.Views.{summed}
use Rattle.pat_grid.specs.declared.tables.board.Board.{Board}
use Rattle.pat_grid.specs.declared.tables.sizes.Sizes.{Sizes}

-- the entry of the symbol at the point with the number
abbrev pub entry_at : Setting → List ℕ → ℕ → ℕ → ℕ
entry_at g entries s c = get_or entries (s * points_in g.bound g.tags + c) (unknown g.limit)

-- there are such a symbol and such a number
abbrev pub IsPlace : Board → ℕ → ℕ → Type 0
IsPlace b s c = (s < length b.symbols.now) × (c < b.points)

-- the sum of all entries
abbrev pub total : List ℕ → ℕ
total entries = sum_by (λ x. x) entries

-- of all rows that of symbol s alone was written, and no entry rose
pub record Lowers (g : Setting) (s : ℕ) (old new : List ℕ) : Type 0 where
  pub elsewhere : (a c : ℕ) → (a ≡ s → ⊥) → c < points_in g.bound g.tags → entry_at g new a c ≡ entry_at g old a c
  pub here : (c : ℕ) → c < points_in g.bound g.tags → entry_at g new s c ≤ entry_at g old s c

-- the number is in the list
abbrev pub Among : ℕ → List ℕ → Type 0
Among t numbers = (i : ℕ) × (i < length numbers) × (get_or numbers i 0 ≡ t)

-- all of the list are numbers of points
abbrev pub ArePoints : Setting → List ℕ → Type 0
ArePoints g numbers = (i : ℕ) → i < length numbers → get_or numbers i 0 < points_in g.bound g.tags

-- of each symbol the numbers at which it has a tree are listed, and what is listed are numbers of points
pub record HasLists (g : Setting) (z : Sizes) : Type 0 where
  pub as_many : length z.reached ≡ length g.flat.symbols
  pub within : (a : ℕ) → ArePoints g (get_or z.reached a [])
  pub all : (a c : ℕ) → a < length g.flat.symbols → c < points_in g.bound g.tags → IsKnown g.limit (entry_at g z.entries a c) → Among c (get_or z.reached a [])
  pub news : ArePoints g z.news

-- entries of symbol s were lowered, each to what a step gives; what is claimed holds then where none was, or where the parts are apart
pub record Moved (g : Setting) (s : ℕ) (Apart : Type 0) (Claim : List ℕ → Type 0) (old : Sizes) (was : Bool) (new : Sizes) (is : Bool) : Type 0 where
  pub as_long : length new.entries ≡ length old.entries
  pub sound : IsSound g (table_of g old.entries) → IsSound g (table_of g new.entries)
  pub at_most : total new.entries ≤ total old.entries
  pub falls : is ≡ true → (was ≡ true) ⊎ (total new.entries < total old.entries)
  pub stays : is ≡ false → (was ≡ false) × (new.entries ≡ old.entries)
  pub lowers : Lowers g s old.entries new.entries
  pub claim : (is ≡ false) ⊎ Apart → Claim new.entries
  pub lists : HasLists g old → HasLists g new
  pub news : total new.entries + length new.news ≤ total old.entries + length old.news

-- no step at the symbol gives less than the table has
abbrev pub ClosedAt : Setting → ℕ → List ℕ → Type 0
ClosedAt g s entries =
    (u : Word) (size : ℕ) → IsPoint g.bound g.tags u → Step g (table_of g entries) s u size → table_of g entries s u ≤ size

-- ---- by a part

-- what a part gives is a step at the symbol
abbrev pub TakesPart : Setting → ℕ → ℕ → Type 0
TakesPart g s a = (table : Table) (u : Word) (size : ℕ) → StepByOne g table a u size → Step g table s u size

-- at the number the part gives no less than the table has
abbrev pub PartAt : Setting → ℕ → ℕ → ℕ → List ℕ → Type 0
PartAt g s a c entries =
    IsKnown g.limit (entry_at g entries a c) → entry_at g entries s c ≤ capped g.limit (suc (entry_at g entries a c))

-- so it is at each number below m
abbrev pub PartBefore : Setting → ℕ → ℕ → ℕ → List ℕ → Type 0
PartBefore g s a m entries = (c : ℕ) → c < m → PartAt g s a c entries

-- so it is at each of the first m numbers of the list
abbrev pub ListedBefore : Setting → ℕ → ℕ → List ℕ → ℕ → List ℕ → Type 0
ListedBefore g s a numbers m entries = (i : ℕ) → i < m → PartAt g s a (get_or numbers i 0) entries

-- ---- by two parts

-- both parts are other symbols
abbrev pub AreOthers : ℕ → ℕ → ℕ → Type 0
AreOthers a b s = (a ≡ s → ⊥) × (b ≡ s → ⊥)

-- what the first part gives at number v, with the second, is a step at the symbol
abbrev pub TakesParts : Setting → ℕ → ℕ → ℕ → ℕ → Type 0
TakesParts g s a b v =
    (table : Table) (w u : Word) (size : ℕ)
    → StepByTwo g table a b (point_of g.bound g.tags v) w u size
    → Step g table s u size

-- the parts at both numbers give no less than the table has
abbrev pub PairAt : Setting → ℕ → ℕ → ℕ → ℕ → ℕ → List ℕ → Type 0
PairAt g s a b v w entries =
    IsKnown g.limit (entry_at g entries a v)
    → IsKnown g.limit (entry_at g entries b w)
    → entry_at g entries s (summed g.bound g.tags v w)
    ≤ capped g.limit (suc (entry_at g entries a v + entry_at g entries b w))

-- so it is for v and each of the first j numbers of the list
abbrev pub RowBefore : Setting → ℕ → ℕ → ℕ → ℕ → List ℕ → ℕ → List ℕ → Type 0
RowBefore g s a b v seconds m entries = (j : ℕ) → j < m → PairAt g s a b v (get_or seconds j 0) entries

-- and for each of the first m numbers of the one list and each of the other
abbrev pub RowsBefore : Setting → ℕ → ℕ → ℕ → List ℕ → List ℕ → ℕ → List ℕ → Type 0
RowsBefore g s a b firsts seconds m entries =
    (i : ℕ) → i < m → RowBefore g s a b (get_or firsts i 0) seconds (length seconds) entries

-- so it is for v and each number of a point
abbrev pub WholeRow : Setting → ℕ → ℕ → ℕ → ℕ → List ℕ → Type 0
WholeRow g s a b v entries = (w : ℕ) → w < points_in g.bound g.tags → PairAt g s a b v w entries

-- and for each of the first m numbers of the list and each number of a point
abbrev pub WholeRows : Setting → ℕ → ℕ → ℕ → List ℕ → ℕ → List ℕ → Type 0
WholeRows g s a b firsts m entries = (i : ℕ) → i < m → WholeRow g s a b (get_or firsts i 0) entries

-- ---- by sums of sets

-- where there was a tree the entry is what it was
abbrev pub KeepsKnown : Setting → List ℕ → List ℕ → Type 0
KeepsKnown g old new =
    (a c : ℕ) → c < points_in g.bound g.tags → IsKnown g.limit (entry_at g old a c) → entry_at g new a c ≡ entry_at g old a c

-- at each number of the list the symbol has a tree
abbrev pub AreKnown : Setting → ℕ → List ℕ → List ℕ → Type 0
AreKnown g a numbers entries = (i : ℕ) → i < length numbers → IsKnown g.limit (entry_at g entries a (get_or numbers i 0))

-- where both trees together are within the limit, the parts give no less than the table has
abbrev pub WithinAt : Setting → ℕ → ℕ → ℕ → ℕ → ℕ → List ℕ → Type 0
WithinAt g s a b v w entries = entry_at g entries a v + entry_at g entries b w < g.limit → PairAt g s a b v w entries

-- so it is for v and each of the first m numbers of the list
abbrev pub RowWithin : Setting → ℕ → ℕ → ℕ → ℕ → List ℕ → ℕ → List ℕ → Type 0
RowWithin g s a b v seconds m entries = (j : ℕ) → j < m → WithinAt g s a b v (get_or seconds j 0) entries

-- and for each of the first m numbers of the one list and each of the other
abbrev pub RowsWithin : Setting → ℕ → ℕ → ℕ → List ℕ → List ℕ → ℕ → List ℕ → Type 0
RowsWithin g s a b firsts seconds m entries =
    (i : ℕ) → i < m → RowWithin g s a b (get_or firsts i 0) seconds (length seconds) entries

-- of the first m numbers those at which the entry is below `most` were kept
pub record KeptBefore (g : Setting) (a most : ℕ) (entries numbers : List ℕ) (m : ℕ) (kept : List ℕ) : Type 0 where
  pub among : (i : ℕ) → i < length kept → Among (get_or kept i 0) numbers
  pub less : (i : ℕ) → i < length kept → entry_at g entries a (get_or kept i 0) < most
  pub all : (i : ℕ) → i < m → entry_at g entries a (get_or numbers i 0) < most → Among (get_or numbers i 0) kept

-- at each sum of numbers of both lists the symbol has a tree
abbrev pub HasSums : Setting → ℕ → List ℕ → List ℕ → List ℕ → Type 0
HasSums g s firsts seconds entries =
    (i j : ℕ) → i < length firsts → j < length seconds → IsKnown g.limit (entry_at g entries s (summed g.bound g.tags (get_or firsts i 0) (get_or seconds j 0)))

-- ---- lists of numbers

-- the numbers lie between both, and those that have what is asked are all there
pub record Lists (P : ℕ → Type 0) (from upto : ℕ) (numbers : List ℕ) : Type 0 where
  pub within : (i : ℕ) → i < length numbers → (from ≤ get_or numbers i 0) × (get_or numbers i 0 < upto)
  pub all : (c : ℕ) → from ≤ c → c < upto → P c → Among c numbers

-- ---- given points

-- the entry is 1 at most, if the point is held
abbrev pub HeldAt : Setting → ℕ → Bool → ℕ → List ℕ → Type 0
HeldAt g s held c entries = held ≡ true → entry_at g entries s c ≤ 1

abbrev pub HeldBefore : Setting → ℕ → List Bool → ℕ → List ℕ → Type 0
HeldBefore g s held m entries = (c : ℕ) → c < m → HeldAt g s (get_or held c false) c entries
