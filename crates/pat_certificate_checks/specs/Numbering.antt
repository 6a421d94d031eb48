-- Variables of a pattern, numbered from 0.
use Rattle.std.specs.Prelude.{ℕ, suc, nat_eq, if◌then◌else◌, List, [], ◌∷◌, ◌++◌, map, Option, Some, None}
use Rattle.pat_words_spec.specs.Patterns.{Pat, Zero, One, Tag, Sum, Prod, Star, Var}
use Rattle.pat_semantics_spec.specs.Programs.{is_among}
use Rattle.pat_inclusion_spec.specs.bounds.Assignments.{Right, PatternRight, VarRight}
use Rattle.pat_inclusion_spec.specs.Values.{VarValue, PatternForm, VarLine, var_at}

-- the names, and one more if it isn't there
abbrev pub with_name : List ℕ → ℕ → List ℕ
with_name names k = if is_among k names then names else names ++ k ∷ []

-- the names, and the variables of the pattern
abbrev pub with_names : List ℕ → Pat → List ℕ
with_names names (Var k) = with_name names k
with_names names (Sum e f) = with_names (with_names names e) f
with_names names (Prod e f) = with_names (with_names names e) f
with_names names (Star e) = with_names names e
with_names names _ = names

-- the place of the name, or how many there are
abbrev pub place_of : List ℕ → ℕ → ℕ
place_of [] k = 0
place_of (n ∷ ns) k = if nat_eq k n then 0 else suc (place_of ns k)

-- the pattern in which each variable has the number of its place
abbrev pub renumbered : List ℕ → Pat → Pat
renumbered names (Var k) = Var (place_of names k)
renumbered names (Sum e f) = Sum (renumbered names e) (renumbered names f)
renumbered names (Prod e f) = Prod (renumbered names e) (renumbered names f)
renumbered names (Star e) = Star (renumbered names e)
renumbered names e = e

-- a pattern as a right side: the place of a variable, or the pattern as it stands
abbrev pub right_in : List ℕ → Pat → Right
right_in names (Var k) = VarRight (place_of names k)
right_in names e = PatternRight e

-- the value, or that of no word where there is none
abbrev pub or_none : Option VarLine → VarValue
or_none None = PatternForm Zero
or_none (Some v) = v.value

-- the values of the names
abbrev pub values_of : List VarLine → List ℕ → List VarValue
values_of vars names = map (λ k. or_none (var_at vars k)) names
