-- Patterns laid out in symbols, of which equal ones may stand once; and what a table says of the sides of constraints.
use Rattle.std.specs.Prelude.{◌≡◌, ℕ, ◌+◌, ◌<◌, length, get_or, slice_get, List, [], ◌∷◌, ◌++◌, Option, Some, None, IsTrue}
use Rattle.std.specs.List.{AllByRecursion}
use Rattle.pat_words_spec.specs.Patterns.{Pat}
use Rattle.pat_words_spec.specs.Tags.{tags_below}
use Rattle.pat_inclusion_spec.specs.bounds.Symbols.{Symbol, TagSymbol, LowerSymbol, Stands}
use Rattle.pat_inclusion_spec.specs.bounds.Assignments.{Right, PatternRight, VarRight, Constraint}
use Rattle.pat_inclusion_spec.specs.bounds.Searches.{Search, IsAnswer}
use Rattle.pat_grid.specs.declared.tables.board.Board.{Board}
use Rattle.pat_counterexample_search.specs.Least.{IsLeastAnswer}
use Rattle.pat_counterexample_search.specs.Readings.{IsReading}
use Rattle.pat_solve_bounds.specs.renumbered.Renaming.{renamed}
use Rattle.pat_solve_bounds.specs.renumbered.Systems.{side_at, picked}
use Rattle.pat_solve_grids.specs.Findings.{Findings, noted, IsSearchable}
use Rattle.pat_limits.specs.Limits.{most_tree_nodes}

-- more symbols behind those that were there
abbrev pub Grows : List Symbol → List Symbol → Type 0
Grows old new = (more : List Symbol) × (new ≡ old ++ more)

-- each tag of a symbol is below n
abbrev pub TagsBelow : ℕ → List Symbol → Type 0
TagsBelow n symbols = (s m : ℕ) → slice_get symbols s ≡ Some (TagSymbol m) → m < n

-- the symbol stands at the number, one that was there or one more
pub record IsPut (old new : List Symbol) (y : Symbol) (s : ℕ) : Type 0 where
  pub goes : Grows old new
  pub at : slice_get new s ≡ Some y
  pub tags : (n : ℕ) → ((m : ℕ) → y ≡ TagSymbol m → m < n) → TagsBelow n old → TagsBelow n new

-- the pattern stands at the number, with symbols that were there and more
pub record IsLaid (old new : List Symbol) (e : Pat) (s : ℕ) : Type 0 where
  pub goes : Grows old new
  pub stands : Stands new LowerSymbol e s
  pub tags : (n : ℕ) → IsTrue (tags_below n e) → TagsBelow n old → TagsBelow n new

-- each pattern stands at its number
abbrev pub StandEach : List Symbol → List Pat → List ℕ → Type 0
StandEach symbols [] [] = Unit {0}
StandEach symbols (e ∷ es) (s ∷ ss) = Stands symbols LowerSymbol e s × StandEach symbols es ss
StandEach symbols _ _ = ⊥

pub record AreLaid (old new : List Symbol) (es : List Pat) (ss : List ℕ) : Type 0 where
  pub goes : Grows old new
  pub stand : StandEach new es ss
  pub tags : (n : ℕ) → AllByRecursion (λ e. IsTrue (tags_below n e)) es → TagsBelow n old → TagsBelow n new

-- ---- sides of constraints

-- both sides stand at these numbers, if the right one has no variable
abbrev pub StandFor : List Symbol → Pat → Right → Option (ℕ × ℕ) → Type 0
StandFor symbols left (PatternRight f) side =
    (s r : ℕ) × (side ≡ Some (s, r)) × Stands symbols LowerSymbol left s × Stands symbols LowerSymbol f r
StandFor symbols left (VarRight k) side = side ≡ None

-- the tags of a right side without variables are below n
abbrev pub RightBelow : ℕ → Right → Type 0
RightBelow n (PatternRight f) = IsTrue (tags_below n f)
RightBelow n (VarRight k) = Unit {0}

pub record SidesStand (old new : List Symbol) (left : Pat) (r : Right) (side : Option (ℕ × ℕ)) : Type 0 where
  pub goes : Grows old new
  pub stand : StandFor new left r side
  pub tags : (n : ℕ) → IsTrue (tags_below n left) → RightBelow n r → TagsBelow n old → TagsBelow n new

-- those of the constraints whose numbers stand from the place on, as many as are listed, their left sides renamed
pub record AreSidesLaid (place : ℕ → ℕ) (zs : List Constraint) (ns : List ℕ) (from : ℕ) (old new : List Symbol) (sides : List (Option (ℕ × ℕ))) : Type 0 where
  pub goes : Grows old new
  pub stand : (j : ℕ) → j < length sides → let c = side_at zs (get_or ns (from + j) 0) in StandFor new (renamed place c.left) c.right (get_or sides j None)
  pub tags : (k n : ℕ) → AllByRecursion (IsSearchable k n) (picked zs ns) → TagsBelow n old → TagsBelow n new

-- ---- by a table

-- what the table says at both numbers is a right answer of the search, and its tree a least one
abbrev pub IsReadyFor : Board → List ℕ → (ℕ → Pat) → Pat → Right → Option (ℕ × ℕ) → Type 0
IsReadyFor b entries lower left (PatternRight f) side =
    (s r : ℕ)
    × (side ≡ Some (s, r))
    × ((a : Search) → IsReading b entries s r a → IsAnswer most_tree_nodes lower left f a × IsLeastAnswer lower left f a)
IsReadyFor b entries lower left (VarRight k) side = side ≡ None

-- so for each of the sides, whose constraints' numbers stand from a place on
abbrev pub AreReady : Board → List ℕ → (ℕ → Pat) → (Pat → Pat) → List Constraint → List ℕ → ℕ → List (Option (ℕ × ℕ)) → Type 0
AreReady b entries lower rename zs ns from sides =
    (j : ℕ) → j < length sides → let c = side_at zs (get_or ns (from + j) 0) in IsReadyFor b entries lower (rename c.left) c.right (get_or sides j None)

-- the answer that the table gives is noted
abbrev pub IsNoted : Board → List ℕ → Option (ℕ × ℕ) → ℕ → Findings → Findings → Type 0
IsNoted b entries None n old new = new ≡ old
IsNoted b entries (Some side) n old new = (a : Search) × IsReading b entries side.0 side.1 a × (new ≡ noted a n old)
