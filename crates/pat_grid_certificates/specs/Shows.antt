-- When a bound shows an inclusion by the cuts of its sides.
use Rattle.std.specs.Prelude.{ℕ, Bool, true, false, ◌&&◌, nat_eq, nat_lt, List, Option, Some, None, slice_get, IsTrue}
use Rattle.std.specs.List.{AllByRecursion}
use Rattle.pat_words_spec.specs.Words.{Word}
use Rattle.pat_words_spec.specs.Patterns.{Pat, Zero, In, InUnder}
use Rattle.pat_words_spec.specs.Flats.{is_flat, degree_of}
use Rattle.pat_words_spec.specs.Tags.{tags_below}
use Rattle.pat_words_spec.specs.Cuts.{CutOf}
use Rattle.pat_inclusion_spec.specs.Values.{VarValue, PatternForm, GridForm, value_pattern, value_fits}
use Rattle.pat_inclusion_spec.specs.bounds.Assignments.{Right, PatternRight, VarRight}
use Rattle.pat_inclusion_spec.specs.bounds.CutSets.{IsPoint}
use Rattle.pat_words_spec.specs.Languages.{MemberOf}
use Rattle.pat_grid_points.specs.declared.grid.Grid.{Grid}
use Rattle.pat_grid_points.specs.Views.{HasPoint}
use Rattle.pat_grid.specs.tables.Views.{given_words}

-- the pattern of a value, for an interface of n tags; 0 where there is none
abbrev pub pattern_in : ℕ → Option VarValue → Pat
pattern_in n None = Zero
pattern_in n (Some v) = value_pattern n v

-- the pattern of each variable
abbrev pub patterns_of : ℕ → List VarValue → ℕ → Pat
patterns_of n values j = pattern_in n (slice_get values j)

-- the pattern of the right side
abbrev pub right_of : ℕ → List VarValue → Right → Pat
right_of n values (PatternRight f) = f
right_of n values (VarRight j) = patterns_of n values j

-- the value is a set of points with this bound
abbrev pub has_form : ℕ → VarValue → Bool
has_form k (PatternForm e) = false
has_form k (GridForm b points) = nat_eq b k

abbrev pub form_in : ℕ → Option VarValue → Bool
form_in k None = false
form_in k (Some v) = has_form k v

-- the bound is large enough for the right side as it stands
abbrev pub is_large : ℕ → List VarValue → Right → Bool
is_large k values (PatternRight f) = is_flat f && nat_lt (degree_of f) k
is_large k values (VarRight j) = form_in k (slice_get values j)

-- each word of e, cut, is a word of f, cut
abbrev pub CutsLie : ℕ → ℕ → Pat → Pat → Type 0
CutsLie k n e f = (u : Word) → IsPoint k n u → CutOf k (In e) u → CutOf k (In f) u

-- the tags of a right side are below n
abbrev pub right_tags : ℕ → Right → Bool
right_tags n (PatternRight f) = tags_below n f
right_tags n (VarRight j) = true

-- each value is one that a variable of an interface of n tags may have
abbrev pub ValuesFit : ℕ → List VarValue → Type 0
ValuesFit n values = AllByRecursion (λ v. IsTrue (value_fits n v)) values

-- the words of e under the grids, cut, are points of the grid
abbrev pub WordsLie : List Grid → Pat → Grid → Type 0
WordsLie env e g =
    (u : Word) → IsPoint g.k g.tags u → CutOf g.k (InUnder (λ j. MemberOf (given_words env j)) e) u → HasPoint g u
