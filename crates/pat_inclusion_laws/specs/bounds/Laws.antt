-- The laws of derivable words, of their cuts and of tables of least trees.
use Rattle.std.specs.Prelude.{◌≡◌, ℕ, ◌≤◌, ◌<◌, Bool, List, Some, slice_get, get_or, set, length, ◌++◌, ◌↔◌, IsTrue}
use Rattle.std.specs.List.{AllByRecursion, sum_by, list_any}
use Rattle.pat_words_spec.specs.Words.{Word}
use Rattle.pat_words_spec.specs.Patterns.{Pat, Language, In, InUnder, is_closed, subst_of}
use Rattle.pat_words_spec.specs.Flats.{is_flat, degree_of}
use Rattle.pat_words_spec.specs.Cuts.{cut_at, CutOf}
use Rattle.pat_words_spec.specs.Tags.{tags_below}
use Rattle.pat_words_spec.specs.Languages.{MemberOf}
use Rattle.pat_inclusion_spec.specs.Counts.{same_below, counted}
use Rattle.pat_inclusion_spec.specs.CutWords.{cuts_lie}
use Rattle.pat_inclusion_spec.specs.Under.{inhabited_under}
use Rattle.pat_inclusion_spec.specs.Points.{grid_fits, points_fit, point_fits, comes_before, points_pattern}
use Rattle.pat_inclusion_spec.specs.bounds.Trees.{Bound, bounds_of, tree_size, Shows, Derivable, derivable, tree_word}
use Rattle.pat_inclusion_spec.specs.bounds.Assignments.{Constraint, PatternRight, lower_of, Solves, MeetsBelow, Meets, PatternsSolve}
use Rattle.pat_inclusion_spec.specs.bounds.CutSets.{IsPoint, CutUnder, CutMeets}
use Rattle.pat_inclusion_spec.specs.bounds.Symbols.{Symbol, LowerSymbol, GivenSymbol, symbol_at, Stands, IsFlatOf, TagsAreBelow, ShowsAt}
use Rattle.pat_inclusion_spec.specs.bounds.Layouts.{last_of, flat_of, flat_given}
use Rattle.pat_inclusion_spec.specs.bounds.Tables.{Setting, Table, IsKnown, Step, IsClosed, IsSound, IsLeast, IsStepFrom, IsGrounded, IsDone, ShowsCut, IsFit}
use Rattle.pat_inclusion_spec.specs.bounds.Searches.{Refutes, IsInside, IsFound, IsLarge, Search, InsideAnswer, FoundAnswer, LargeAnswer, IsAnswer, says_inside, says_large}
use Rattle.pat_inclusion_spec.specs.bounds.Numbers.{points_in, number_of, point_of, place_of, unknown, table_of, HasAllEntries, IsClosedBefore, IsClosedOver, points_where}
use Rattle.pat_inclusion_spec.specs.bounds.LeastGrids.{AreLeastPoints, FitGrid, AreInBounds, AreUnbroken}

-- ---- derivable words

-- a derivable word is a word in each assignment that meets the lower bounds
abbrev pub LeastLaw : (ℕ → Language) → Type 0
LeastLaw values =
    (lower : ℕ → Pat) (e : Pat) (w : Word) → Meets lower values → Derivable lower e w → InUnder values e w

-- the derivable words are such an assignment, and under it a pattern has just those that are derivable for it
abbrev pub DerivableMeetsLaw : Type 0
DerivableMeetsLaw =
    (lower : ℕ → Pat)
    → Meets lower (derivable lower)
    × ((e : Pat) (w : Word) → InUnder (derivable lower) e w ↔ Derivable lower e w)
    × ((k : ℕ) (w : Word) → Derivable lower (lower k) w ↔ derivable lower k w)

-- an assignment meets the lower bounds just where each constraint holds that bounds a variable from below
abbrev pub BelowLaw : (ℕ → Language) → Type 0
BelowLaw values = (cs : List Constraint) → Meets (lower_of cs) values ↔ MeetsBelow values cs

-- where the constraints have a solution, no tree refutes one
abbrev pub NoRefutationLaw : (ℕ → Language) → Type 0
NoRefutationLaw values =
    (cs : List Constraint) (i : ℕ) (c : Constraint) (f : Pat) (w : Word) (b : Bound)
    → Solves values cs
    → slice_get cs i ≡ Some c
    → c.right ≡ PatternRight f
    → Refutes (lower_of cs) c.left f w b
    → ⊥

-- patterns whose inclusions all hold are a solution
abbrev pub PatternsLaw : Type 0
PatternsLaw = (cs : List Constraint) (patterns : ℕ → Pat) → PatternsSolve patterns cs → Solves (λ k. In (patterns k)) cs

-- the tree shows just the word that is computed
abbrev pub TreeWordLaw : Type 0
TreeWordLaw = (lower : ℕ → Pat) (b : Bound) (e : Pat) (w : Word) → (tree_word lower b e ≡ Some w) ↔ Shows lower b e w

-- ---- cuts

-- cutting goes through a pattern: its words, cut, are made of the words of its variables, cut
abbrev pub ThroughLaw : (ℕ → Language) → Type 0
ThroughLaw values =
    (k : ℕ) (e : Pat) (u : Word) → CutOf k (InUnder values e) u ↔ CutUnder k (λ j. CutOf k (values j)) e u

-- the cuts of derivable words meet the lower bounds, cut, and under them a pattern has just the cuts of its derivable words
abbrev pub CutMeetsLaw : Type 0
CutMeetsLaw =
    (k : ℕ) (lower : ℕ → Pat)
    → CutMeets k lower (λ j. CutOf k (derivable lower j))
    × ((e : Pat) (u : Word) → CutOf k (Derivable lower e) u ↔ CutUnder k (λ j. CutOf k (derivable lower j)) e u)

-- all sets of points that meet the lower bounds, cut, have them
abbrev pub CutLeastLaw : (ℕ → Language) → Type 0
CutLeastLaw points =
    (k : ℕ) (lower : ℕ → Pat) (e : Pat) (u : Word)
    → CutMeets k lower points
    → CutOf k (Derivable lower e) u
    → CutUnder k points e u

-- all derivable words are in a flat pattern just where all their cuts are cuts of its words
abbrev pub InsideByCutsLaw : Type 0
InsideByCutsLaw =
    (k : ℕ) (lower : ℕ → Pat) (left right : Pat)
    → IsTrue (is_flat right)
    → degree_of right < k
    → IsInside lower left right ↔ ((u : Word) → CutOf k (Derivable lower left) u → CutOf k (In right) u)

-- a word is outside a flat pattern just where its cut is no cut of the pattern's words
abbrev pub OutsideByCutsLaw : Type 0
OutsideByCutsLaw =
    (k : ℕ) (right : Pat) (w : Word)
    → IsTrue (is_flat right)
    → degree_of right < k
    → (In right w → ⊥) ↔ (CutOf k (In right) (cut_at k w) → ⊥)

-- ---- tables

-- a table that knows nothing has nothing wrong in it
abbrev pub StartLaw : Type 0
StartLaw =
    (g : Setting) (table : Table)
    → ((s : ℕ) (u : Word) → IsPoint g.bound g.tags u → IsKnown g.limit (table s u) → ⊥)
    → IsSound g table

-- steps keep each entry's tree, whether one entry is changed or many at once
abbrev pub GrowLaw : Type 0
GrowLaw = (g : Setting) (old new : Table) → IsSound g old → IsStepFrom g old new → IsSound g new

-- in a table that is done each entry is what a step gives
abbrev pub GroundLaw : Type 0
GroundLaw = (g : Setting) (table : Table) → IsDone g table → IsGrounded g table

-- where each entry is what some step gives, whichever is taken, an entry within the limit has a tree of just its size
abbrev pub RebuildLaw : Type 0
RebuildLaw =
    (g : Setting) (table : Table) (s : ℕ) (u : Word)
    → IsGrounded g table
    → IsPoint g.bound g.tags u
    → table s u ≤ g.limit
    → (b : Bound) × ShowsCut g b s u × (tree_size b ≡ table s u)

-- in a table that is done no entry is above the size of a tree, so an entry that knows of no tree has none
abbrev pub LeastSizeLaw : Type 0
LeastSizeLaw = (g : Setting) (table : Table) → IsDone g table → IsLeast g table

-- a symbol has the trees of the pattern that it stands for
abbrev pub FlatTreesLaw : Type 0
FlatTreesLaw =
    (g : Setting) (lower : ℕ → Pat) (e : Pat) (s : ℕ) (b : Bound) (w : Word)
    → IsFlatOf lower g.flat
    → Stands g.flat.symbols LowerSymbol e s
    → ShowsAt g.flat g.given b (symbol_at g.flat s) w ↔ Shows lower b e w

-- ---- what a table that is done says

-- the points at which it knows of a tree are the cuts of derivable words
abbrev pub DerivableByTableLaw : Type 0
DerivableByTableLaw =
    (g : Setting) (table : Table) (lower : ℕ → Pat) (e : Pat) (s : ℕ) (u : Word)
    → IsDone g table
    → IsFlatOf lower g.flat
    → Stands g.flat.symbols LowerSymbol e s
    → IsPoint g.bound g.tags u
    → IsKnown g.limit (table s u) ↔ CutOf g.bound (Derivable lower e) u

-- where variables have given words, they are the pattern's words, cut
abbrev pub GivenByTableLaw : Type 0
GivenByTableLaw =
    (g : Setting) (table : Table) (e : Pat) (s : ℕ) (u : Word)
    → IsDone g table
    → Stands g.flat.symbols GivenSymbol e s
    → IsPoint g.bound g.tags u
    → IsKnown g.limit (table s u) ↔ CutOf g.bound (InUnder (λ k. MemberOf (g.given k)) e) u

-- all derivable words are in the right side just where all known points are cuts of its words
abbrev pub InsideByTableLaw : Type 0
InsideByTableLaw =
    (g : Setting) (table : Table) (lower : ℕ → Pat) (left right : Pat) (s : ℕ)
    → IsDone g table
    → IsFlatOf lower g.flat
    → Stands g.flat.symbols LowerSymbol left s
    → IsTrue (is_flat right)
    → degree_of right < g.bound
    → IsInside lower left right
    ↔ ((u : Word) → IsPoint g.bound g.tags u → IsKnown g.limit (table s u) → CutOf g.bound (In right) u)

-- at a known point within the limit that is no cut of the right side's words each least tree refutes
abbrev pub FoundByTableLaw : Type 0
FoundByTableLaw =
    (g : Setting) (table : Table) (lower : ℕ → Pat) (left right : Pat) (s : ℕ) (u : Word) (b : Bound)
    → IsFlatOf lower g.flat
    → Stands g.flat.symbols LowerSymbol left s
    → (CutOf g.bound (In right) u → ⊥)
    → table s u ≤ g.limit
    → ShowsCut g b s u
    → tree_size b ≡ table s u
    → (w : Word) × IsFound g.limit lower left right w b

-- a tree refutes, but only larger ones, just where a known point is no cut of the right side's words, but each such point is above the limit
abbrev pub LargeByTableLaw : Type 0
LargeByTableLaw =
    (g : Setting) (table : Table) (lower : ℕ → Pat) (left right : Pat) (s : ℕ)
    → IsDone g table
    → IsFlatOf lower g.flat
    → Stands g.flat.symbols LowerSymbol left s
    → IsTrue (is_flat right)
    → degree_of right < g.bound
    → IsLarge g.limit lower left right
    ↔ (((u : Word) × IsPoint g.bound g.tags u × IsKnown g.limit (table s u) × (CutOf g.bound (In right) u → ⊥))
    × ((u : Word) → IsPoint g.bound g.tags u → (CutOf g.bound (In right) u → ⊥) → g.limit < table s u))

-- ---- least grids as values

-- the grids of derivable words solve all constraints, if each right side without variables is flat and no derivable word is outside it
abbrev pub GridSolvesLaw : Type 0
GridSolvesLaw =
    (k n : ℕ) (points : ℕ → List (List ℕ)) (cs : List Constraint)
    → AreLeastPoints k n (lower_of cs) points
    → FitGrid k n cs
    → PatternsSolve (λ j. points_pattern k n (points j)) cs

-- ---- laying out

-- a system and a pattern over it, laid out: each symbol stands for what it should, and tags stay below n
abbrev pub LayoutLaw : Type 0
LayoutLaw =
    (system : List Pat) (left : Pat)
    → IsFlatOf (bounds_of system) (flat_of system left)
    × Stands (flat_of system left).symbols LowerSymbol left (last_of (flat_of system left).symbols)
    × ((n : ℕ) → AllByRecursion (λ e. IsTrue (tags_below n e)) system → IsTrue (tags_below n left) → TagsAreBelow n (flat_of system left))

-- a pattern whose variables have given words
abbrev pub GivenLayoutLaw : Type 0
GivenLayoutLaw =
    (e : Pat)
    → Stands (flat_given e).symbols GivenSymbol e (last_of (flat_given e).symbols)
    × ((n : ℕ) → IsTrue (tags_below n e) → TagsAreBelow n (flat_given e))

-- what stands for a pattern stands for it when more is laid out
abbrev pub KeptLaw : Type 0
KeptLaw =
    (symbols more : List Symbol) (var : ℕ → Symbol) (e : Pat) (s : ℕ)
    → Stands symbols var e s
    → Stands (symbols ++ more) var e s

-- ---- points as numbers, and a table as a list

-- each point has a number, and each number below the number of points has a point
abbrev pub NumbersLaw : Type 0
NumbersLaw =
    (k n : ℕ)
    → ((u : Word) → IsPoint k n u → (number_of k n u < points_in k n) × (point_of k n (number_of k n u) ≡ u))
    × ((c : ℕ) → c < points_in k n → IsPoint k n (point_of k n c) × (number_of k n (point_of k n c) ≡ c))

-- the entry at a place is that of one symbol and point alone, and a symbol that isn't there has no known entry
abbrev pub PlacesLaw : Type 0
PlacesLaw =
    (g : Setting) (entries : List ℕ)
    → HasAllEntries g entries
    → ((s : ℕ) (u : Word) → IsPoint g.bound g.tags u → s < length g.flat.symbols → place_of g s u < length entries)
    × ((s : ℕ) (u : Word) → IsPoint g.bound g.tags u → length g.flat.symbols ≤ s → table_of g entries s u ≡ unknown g.limit)
    × ((s t : ℕ) (u v : Word)
    → IsPoint g.bound g.tags u
    → IsPoint g.bound g.tags v
    → place_of g s u ≡ place_of g t v
    → (s ≡ t) × (u ≡ v))

-- to write what a step gives at its place is to step from the one table to the other
abbrev pub WriteLaw : Type 0
WriteLaw =
    (g : Setting) (entries : List ℕ) (s : ℕ) (u : Word) (size : ℕ)
    → IsPoint g.bound g.tags u
    → place_of g s u < length entries
    → Step g (table_of g entries) s u size
    → IsStepFrom g (table_of g entries) (table_of g (set entries (place_of g s u) size))

-- to write less makes the sum of the entries fall, which no list does without end
abbrev pub FallLaw : Type 0
FallLaw = (entries : List ℕ) (i size : ℕ) → i < length entries → size < get_or entries i 0 → sum_by (λ x. x) (set entries i size) < sum_by (λ x. x) entries

-- a table that is closed for all symbols that are there is closed
abbrev pub PassLaw : Type 0
PassLaw = (g : Setting) (table : Table) → IsClosedBefore g table (length g.flat.symbols) → IsClosed g table

-- ---- answers

-- of the three answers just one kind is right, so a right answer of one kind comes just where it should
abbrev pub AnswersLaw : Type 0
AnswersLaw =
    (limit : ℕ) (lower : ℕ → Pat) (left right : Pat) (a : Search)
    → IsAnswer limit lower left right a
    → (IsInside lower left right ↔ IsTrue (says_inside a)) × (IsLarge limit lower left right ↔ IsTrue (says_large a))

-- tests of the variables that have a derivable word: where each that says yes is right, so is the test of a pattern; and where none is left to add, they are exact
abbrev pub UsableLaw : Type 0
UsableLaw =
    (lower : ℕ → Pat) (tests : ℕ → Bool)
    → ((k : ℕ) → IsTrue (tests k) → (w : Word) × derivable lower k w)
    → ((e : Pat) → IsTrue (inhabited_under tests e) → (w : Word) × Derivable lower e w)
    × (((k : ℕ) → IsTrue (inhabited_under tests (lower k)) → IsTrue (tests k))
    → (k : ℕ)
    → IsTrue (tests k) ↔ ((w : Word) × derivable lower k w))

-- ---- patterns without variables

-- a pattern without variables has just its words as derivable ones
abbrev pub ClosedLaw : Type 0
ClosedLaw = (lower : ℕ → Pat) (e : Pat) (w : Word) → IsTrue (is_closed e) → Derivable lower e w ↔ In e w

-- a flat pattern has no variable
abbrev pub FlatClosedLaw : Type 0
FlatClosedLaw = (e : Pat) → IsTrue (is_flat e) → IsTrue (is_closed e)

-- where the lower bounds have no variables, a pattern's derivable words are those that it has with them put in
abbrev pub ValuesLaw : Type 0
ValuesLaw =
    (lower : ℕ → Pat) (e : Pat) (w : Word)
    → ((k : ℕ) → IsTrue (is_closed (lower k)))
    → Derivable lower e w ↔ In (subst_of lower e) w

-- so the same table tells the cuts of a right side without variables
abbrev pub RightByTableLaw : Type 0
RightByTableLaw =
    (g : Setting) (table : Table) (lower : ℕ → Pat) (right : Pat) (r : ℕ) (u : Word)
    → IsDone g table
    → IsFlatOf lower g.flat
    → Stands g.flat.symbols LowerSymbol right r
    → IsTrue (is_closed right)
    → IsPoint g.bound g.tags u
    → IsKnown g.limit (table r u) ↔ CutOf g.bound (In right) u

-- ---- a work list

-- where each step from entries that were passed on gives no less than the table has, and all have been passed on, the table is closed
abbrev pub PassedOnLaw : Type 0
PassedOnLaw =
    (g : Setting) (passed table : Table)
    → IsClosedOver g passed table
    → ((s : ℕ) (u : Word) → IsPoint g.bound g.tags u → passed s u ≡ table s u)
    → IsClosed g table

-- ---- a search

-- what to answer by a table that is done, in which the left side has number s and the right side number r
abbrev pub SearchLaw : Type 0
SearchLaw =
    (g : Setting) (table : Table) (lower : ℕ → Pat) (left right : Pat) (s r : ℕ)
    → IsDone g table
    → IsFlatOf lower g.flat
    → Stands g.flat.symbols LowerSymbol left s
    → Stands g.flat.symbols LowerSymbol right r
    → IsTrue (is_flat right)
    → degree_of right < g.bound
    → (((u : Word) → IsPoint g.bound g.tags u → IsKnown g.limit (table s u) → IsKnown g.limit (table r u))
    → IsAnswer g.limit lower left right InsideAnswer)
    × ((u w : Word) (b : Bound)
    → IsPoint g.bound g.tags u
    → table s u ≤ g.limit
    → (IsKnown g.limit (table r u) → ⊥)
    → Shows lower b left w
    → u ≡ cut_at g.bound w
    → tree_size b ≡ table s u
    → IsAnswer g.limit lower left right (FoundAnswer w b))
    × (((u : Word) × IsPoint g.bound g.tags u × IsKnown g.limit (table s u) × (IsKnown g.limit (table r u) → ⊥))
    → ((u : Word) → IsPoint g.bound g.tags u → (IsKnown g.limit (table r u) → ⊥) → g.limit < table s u)
    → IsAnswer g.limit lower left right LargeAnswer)

-- ---- grids as values of variables

-- where each variable's given points are the cuts of its pattern's words, the pattern's words under them have the cuts of what replacing gives
abbrev pub EvalLaw : Type 0
EvalLaw =
    (k : ℕ) (given : ℕ → List Word) (patterns : ℕ → Pat) (e : Pat) (u : Word)
    → ((j : ℕ) (v : Word) → CutOf k (MemberOf (given j)) v ↔ CutOf k (In (patterns j)) v)
    → CutOf k (InUnder (λ j. MemberOf (given j)) e) u ↔ CutOf k (In (subst_of patterns e)) u

-- points ascend as their numbers do
abbrev pub OrderLaw : Type 0
OrderLaw =
    (k n : ℕ) (cs ds : List ℕ)
    → IsTrue (point_fits k n cs)
    → IsTrue (point_fits k n ds)
    → IsTrue (comes_before cs ds) ↔ (number_of k n (counted cs) < number_of k n (counted ds))

-- ---- nothing of this is empty

-- there is a table that is done, for each limit
abbrev pub DoneLaw : Type 0
DoneLaw = (g : Setting) → IsFit g → (entries : List ℕ) × HasAllEntries g entries × IsDone g (table_of g entries)

-- a word that a tree shows has no count above the tree's size
abbrev pub SmallWordLaw : Type 0
SmallWordLaw = (lower : ℕ → Pat) (b : Bound) (e : Pat) (w : Word) (t : ℕ) → Shows lower b e w → w t ≤ tree_size b

-- each search has a right answer
abbrev pub TotalLaw : Type 0
TotalLaw =
    (system : List Pat) (left right : Pat) (k n limit : ℕ)
    → AllByRecursion (λ e. IsTrue (tags_below n e)) system
    → IsTrue (tags_below n left)
    → IsTrue (tags_below n right)
    → IsTrue (is_flat right)
    → degree_of right < k
    → (a : Search) × IsAnswer limit (bounds_of system) left right a

-- the cuts of one pattern lie in those of the other just where each point that is a cut of the one is a cut of the other
abbrev pub PointsLieLaw : Type 0
PointsLieLaw =
    (k n : ℕ) (e f : Pat)
    → IsTrue (tags_below n e)
    → IsTrue (tags_below n f)
    → ((u : Word) → IsPoint k n u → CutOf k (In e) u → CutOf k (In f) u) ↔ IsTrue (cuts_lie k n e f)

-- ---- a grid as a test of numbers

-- the points that a test of numbers says yes to are listed as they should be, and are just these
abbrev pub PointsWhereLaw : Type 0
PointsWhereLaw =
    (k n : ℕ) (test : ℕ → Bool)
    → IsTrue (grid_fits k n)
    → IsTrue (points_fit k n (points_where k n test))
    × ((u : Word)
    → IsPoint k n u
    → IsTrue (list_any (λ p. same_below n u (counted p)) (points_where k n test)) ↔ IsTrue (test (number_of k n u)))

-- ---- an interface in bounds

-- its constraints have a solution in patterns just where no derivable word breaks one
abbrev pub InBoundsLaw : Type 0
InBoundsLaw =
    (k n m : ℕ) (cs : List Constraint)
    → IsTrue (grid_fits k n)
    → AreInBounds k n m cs
    → ((patterns : ℕ → Pat) × PatternsSolve patterns cs) ↔ AreUnbroken cs
