-- Variables of patterns numbered anew, by their places in a list.
use Rattle.std.specs.Prelude.{ℕ, suc, nat_eq, if◌then◌else◌, List, [], ◌∷◌}
use Rattle.pat_words_spec.specs.Patterns.{Pat, Zero, One, Tag, Sum, Prod, Star, Var}

-- the place of the number in the list, or the list's length where it isn't there
abbrev pub place_in : List ℕ → ℕ → ℕ
place_in [] k = 0
place_in (j ∷ ks) k = if nat_eq j k then 0 else suc (place_in ks k)

-- the pattern with other numbers of its variables
abbrev pub renamed : (ℕ → ℕ) → Pat → Pat
renamed place Zero = Zero
renamed place One = One
renamed place (Tag m) = Tag m
renamed place (Sum e f) = Sum (renamed place e) (renamed place f)
renamed place (Prod e f) = Prod (renamed place e) (renamed place f)
renamed place (Star e) = Star (renamed place e)
renamed place (Var k) = Var (place k)
