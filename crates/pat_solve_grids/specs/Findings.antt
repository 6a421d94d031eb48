-- What searches of constraints find, one after another.
use Rattle.std.specs.Prelude.{◌≡◌, ℕ, ◌<◌, ◌≤◌, Bool, true, List, get_or, Option, Some, None, IsTrue, IsFalse}
use Rattle.pat_words_spec.specs.Words.{Word}
use Rattle.pat_words_spec.specs.Patterns.{Pat}
use Rattle.pat_words_spec.specs.Flats.{is_flat, degree_of}
use Rattle.pat_words_spec.specs.Tags.{tags_below}
use Rattle.pat_inclusion_spec.specs.bounds.Trees.{Bound, tree_size}
use Rattle.pat_inclusion_spec.specs.bounds.Assignments.{Right, PatternRight, VarRight, Constraint}
use Rattle.pat_inclusion_spec.specs.bounds.Searches.{IsInside, IsFound, IsLarge, Search, InsideAnswer, FoundAnswer, LargeAnswer, IsAnswer}
use Rattle.pat_counterexample_search.specs.Least.{IsLeastAnswer}
use Rattle.pat_solve_bounds.specs.renumbered.Systems.{side_at}
use Rattle.pat_limits.specs.Limits.{most_tree_nodes}

-- the first constraint that is refuted, with the word and the tree, and whether one is oversized
pub record Findings : Type 0 where
  pub refuted : Option (ℕ × Word × Bound)
  pub large : Bool

-- what is there first
abbrev pub first_or : {A : Type 0} → Option A → A → Option A
first_or None x = Some x
first_or (Some y) x = Some y

-- the findings, and an answer of the search of constraint n
abbrev pub noted : Search → ℕ → Findings → Findings
noted InsideAnswer n f = f
noted (FoundAnswer w b) n f = record { refuted = first_or f.refuted (n, w, b); large = f.large }
noted LargeAnswer n f = record { refuted = f.refuted; large = true }

-- ---- one constraint

-- a right side without variables is one that can be searched with this grid
abbrev pub RightSearchable : ℕ → ℕ → Right → Type 0
RightSearchable k n (PatternRight f) = IsTrue (tags_below n f) × IsTrue (is_flat f) × (degree_of f < k)
RightSearchable k n (VarRight j) = Unit {0}

pub record IsSearchable (k n : ℕ) (c : Constraint) : Type 0 where
  pub left : IsTrue (tags_below n c.left)
  pub right : RightSearchable k n c.right

-- the left side, renamed, has been searched for words that the right side lacks, if that has no variable; the tree of one that is found
-- is a least one
abbrev pub SidesSearched : (ℕ → Pat) → Pat → Right → ℕ → Findings → Findings → Type 0
SidesSearched lower left (PatternRight f) n old new =
    (a : Search) × (IsAnswer most_tree_nodes lower left f a × IsLeastAnswer lower left f a) × (new ≡ noted a n old)
SidesSearched lower left (VarRight k) n old new = new ≡ old

abbrev pub IsSearched : (ℕ → Pat) → (Pat → Pat) → Constraint → ℕ → Findings → Findings → Type 0
IsSearched lower rename c n old new = SidesSearched lower (rename c.left) c.right n old new

-- ---- the first m constraints

-- a tree within the limit refutes the constraint
abbrev pub FoundIn : (ℕ → Pat) → Pat → Right → Word → Bound → Type 0
FoundIn lower left (PatternRight f) w b = IsFound most_tree_nodes lower left f w b
FoundIn lower left (VarRight k) w b = ⊥

-- larger ones alone do
abbrev pub LargeIn : (ℕ → Pat) → Pat → Right → Type 0
LargeIn lower left (PatternRight f) = IsLarge most_tree_nodes lower left f
LargeIn lower left (VarRight k) = ⊥

-- none does
abbrev pub InsideIn : (ℕ → Pat) → Pat → Right → Type 0
InsideIn lower left (PatternRight f) = IsInside lower left f
InsideIn lower left (VarRight k) = Unit {0}

module _ (lower : ℕ → Pat) (rename : Pat → Pat) (cs : List Constraint) where
  abbrev pub FoundAt : ℕ → Word → Bound → Type 0
  FoundAt j w b = FoundIn lower (rename (side_at cs j).left) (side_at cs j).right w b

  -- no tree that is found there has fewer nodes
  abbrev pub LeastAt : ℕ → Bound → Type 0
  LeastAt j b = (w : Word) (c : Bound) → FoundAt j w c → tree_size b ≤ tree_size c

  abbrev pub LargeAt : ℕ → Type 0
  LargeAt j = LargeIn lower (rename (side_at cs j).left) (side_at cs j).right

  abbrev pub InsideAt : ℕ → Type 0
  InsideAt j = InsideIn lower (rename (side_at cs j).left) (side_at cs j).right

  -- the first of the constraints that is refuted has this number among ns, and this is a least tree; or there is none
  abbrev pub IsFirst : List ℕ → ℕ → Option (ℕ × Word × Bound) → Type 0
  IsFirst ns m None = (j : ℕ) (w : Word) (b : Bound) → j < m → FoundAt j w b → ⊥
  IsFirst ns m (Some x) =
      (j : ℕ)
      × (j < m)
      × (get_or ns j 0 ≡ x.0)
      × FoundAt j x.1 x.2
      × LeastAt j x.2
      × ((i : ℕ) (w : Word) (b : Bound) → i < j → FoundAt i w b → ⊥)

  pub record AreFound (ns : List ℕ) (m : ℕ) (f : Findings) : Type 0 where
    pub first : IsFirst ns m f.refuted
    pub large : IsTrue f.large → (j : ℕ) × (j < m) × LargeAt j
    pub small : IsFalse f.large → (j : ℕ) → j < m → LargeAt j → ⊥
    pub inside : f.refuted ≡ None → IsFalse f.large → (j : ℕ) → j < m → InsideAt j
