-- Constraints between patterns, the lower bounds that they give, and what solves them.
use Rattle.std.specs.Prelude.{ℕ, nat_eq, if◌then◌else◌, List, [], ◌∷◌}
use Rattle.std.specs.List.{AllByRecursion}
use Rattle.pat_words_spec.specs.Words.{Word}
use Rattle.pat_words_spec.specs.Patterns.{Pat, Zero, Language, In, InUnder, Included, sum_of, subst_of}

-- the right side of a constraint: a pattern without variables, or one variable
pub data Right : Type 0 where
  PatternRight : (pattern : Pat) → Right
  VarRight : (number : ℕ) → Right

-- a constraint: each word of the left is one of the right
pub record Constraint : Type 0 where
  pub left : Pat
  pub right : Right

-- ---- lower bounds

-- the pattern, and the left side where the right side is variable k
abbrev pub with_left : ℕ → Pat → Pat → Right → Pat
with_left k made left (PatternRight f) = made
with_left k made left (VarRight j) = if nat_eq j k then sum_of made left else made

abbrev pub with_lefts : ℕ → Pat → List Constraint → Pat
with_lefts k made [] = made
with_lefts k made (c ∷ cs) = with_lefts k (with_left k made c.left c.right) cs

-- the lower bound of variable k: all left sides with that variable on the right, added up as they come
abbrev pub lower_of : List Constraint → ℕ → Pat
lower_of cs k = with_lefts k Zero cs

-- ---- assignments

-- the words that the right side has, where each variable has the given words
abbrev pub RightWords : (ℕ → Language) → Right → Language
RightWords values (PatternRight f) w = In f w
RightWords values (VarRight j) w = values j w

-- the constraint holds
abbrev pub Holds : (ℕ → Language) → Constraint → Type 0
Holds values c = (w : Word) → InUnder values c.left w → RightWords values c.right w

-- the constraint has no variable on its right, or it holds
abbrev pub HoldsBelow : (ℕ → Language) → Pat → Right → Type 0
HoldsBelow values left (PatternRight f) = Unit {0}
HoldsBelow values left (VarRight j) = (w : Word) → InUnder values left w → values j w

-- all constraints hold: the assignment is a solution
abbrev pub Solves : (ℕ → Language) → List Constraint → Type 0
Solves values cs = AllByRecursion (Holds values) cs

-- each constraint holds that bounds a variable from below
abbrev pub MeetsBelow : (ℕ → Language) → List Constraint → Type 0
MeetsBelow values cs = AllByRecursion (λ c. HoldsBelow values c.left c.right) cs

-- each variable has all words of its lower bound
abbrev pub Meets : (ℕ → Pat) → (ℕ → Language) → Type 0
Meets lower values = (k : ℕ) (w : Word) → InUnder values (lower k) w → values k w

-- ---- patterns for the variables

-- the right side in which a variable is replaced by its pattern
abbrev pub right_pattern : (ℕ → Pat) → Right → Pat
right_pattern patterns (PatternRight f) = f
right_pattern patterns (VarRight j) = patterns j

-- each constraint, with the variables replaced, is an inclusion
abbrev pub PatternsSolve : (ℕ → Pat) → List Constraint → Type 0
PatternsSolve patterns cs = AllByRecursion (λ c. Included (subst_of patterns c.left) (right_pattern patterns c.right)) cs
