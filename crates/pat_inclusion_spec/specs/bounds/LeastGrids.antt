-- The grids of derivable words as values of the variables.
use Rattle.std.specs.Prelude.{ℕ, ◌<◌, ◌↔◌, IsTrue, List}
use Rattle.std.specs.List.{AllByRecursion, list_any}
use Rattle.pat_words_spec.specs.Words.{Word}
use Rattle.pat_words_spec.specs.Patterns.{Pat}
use Rattle.pat_words_spec.specs.Flats.{is_flat, degree_of}
use Rattle.pat_words_spec.specs.Tags.{tags_below}
use Rattle.pat_words_spec.specs.Cuts.{CutOf}
use Rattle.pat_inclusion_spec.specs.Counts.{same_below, counted}
use Rattle.pat_inclusion_spec.specs.Points.{points_fit}
use Rattle.pat_inclusion_spec.specs.bounds.Trees.{derivable}
use Rattle.pat_inclusion_spec.specs.bounds.Assignments.{Right, PatternRight, VarRight, Constraint, lower_of}
use Rattle.pat_inclusion_spec.specs.bounds.CutSets.{IsPoint}
use Rattle.pat_inclusion_spec.specs.bounds.Searches.{IsInside}

-- the points of each variable are those of a grid, and just the cuts of its derivable words
abbrev pub AreLeastPoints : ℕ → ℕ → (ℕ → Pat) → (ℕ → List (List ℕ)) → Type 0
AreLeastPoints k n lower points =
    (j : ℕ)
    → IsTrue (points_fit k n (points j))
    × ((u : Word)
    → IsPoint k n u
    → IsTrue (list_any (λ p. same_below n u (counted p)) (points j)) ↔ CutOf k (derivable lower j) u)

-- a right side without variables is flat with a degree below k, and each derivable word of the left is one of it
abbrev pub RightFits : ℕ → (ℕ → Pat) → Pat → Right → Type 0
RightFits k lower left (PatternRight f) = IsTrue (is_flat f) × (degree_of f < k) × IsInside lower left f
RightFits k lower left (VarRight j) = Unit {0}

-- so is each constraint's, and the tags of its left are below n
abbrev pub FitGrid : ℕ → ℕ → List Constraint → Type 0
FitGrid k n cs = AllByRecursion (λ c. IsTrue (tags_below n c.left) × RightFits k (lower_of cs) c.left c.right) cs

-- ---- an interface in bounds

-- a right side without variables is flat with a degree below k, and another is one of the first m variables
abbrev pub RightInBounds : ℕ → ℕ → Right → Type 0
RightInBounds k m (PatternRight f) = IsTrue (is_flat f) × (degree_of f < k)
RightInBounds k m (VarRight j) = j < m

-- so is each constraint's, and the tags of its left are below n
abbrev pub AreInBounds : ℕ → ℕ → ℕ → List Constraint → Type 0
AreInBounds k n m cs = AllByRecursion (λ c. IsTrue (tags_below n c.left) × RightInBounds k m c.right) cs

-- no derivable word of the left is outside a right side without variables
abbrev pub IsUnbroken : (ℕ → Pat) → Pat → Right → Type 0
IsUnbroken lower left (PatternRight f) = IsInside lower left f
IsUnbroken lower left (VarRight j) = Unit {0}

abbrev pub AreUnbroken : List Constraint → Type 0
AreUnbroken cs = AllByRecursion (λ c. IsUnbroken (lower_of cs) c.left c.right) cs
