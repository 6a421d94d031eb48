-- The values that are patterns, and variables for the others, by numbers.
use Rattle.std.specs.Prelude.{ℕ, suc, List, [], ◌∷◌}
use Rattle.pat_words_spec.specs.Patterns.{Pat, Var}
use Rattle.pat_inclusion_spec.specs.Values.{VarValue, PatternForm, GridForm, VarLine}

-- the value where it is a pattern, and otherwise the variable
abbrev pub plain_value_of : ℕ → VarValue → Pat
plain_value_of k (PatternForm e) = e
plain_value_of k (GridForm b points) = Var k

-- of the variables, the first of which has number k
abbrev pub plain_from : ℕ → List VarLine → List Pat
plain_from k [] = []
plain_from k (v ∷ vs) = plain_value_of k v.value ∷ plain_from (suc k) vs

-- of all numbers from 0 on
abbrev pub all_plain : List VarLine → List Pat
all_plain vs = Var 0 ∷ plain_from 1 vs
