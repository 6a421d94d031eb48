-- Which variables occur in patterns.
use Rattle.std.specs.Prelude.{ℕ, Bool, false, ◌||◌, nat_eq, List, [], ◌∷◌}
use Rattle.pat_words_spec.specs.Patterns.{Pat, Sum, Prod, Star, Var}

-- the variable occurs in the pattern
abbrev pub has_var : ℕ → Pat → Bool
has_var k (Var j) = nat_eq j k
has_var k (Sum e f) = has_var k e || has_var k f
has_var k (Prod e f) = has_var k e || has_var k f
has_var k (Star e) = has_var k e
has_var k _ = false

-- in one of the patterns
abbrev pub any_has : ℕ → List Pat → Bool
any_has k [] = false
any_has k (e ∷ es) = has_var k e || any_has k es
