-- Flat patterns, and how much of a word they can tell.
use Rattle.std.specs.Prelude.{ℕ, ◌+◌, Bool, true, false, ◌&&◌, max}
use Rattle.pat_words_spec.specs.Patterns.{Pat, Zero, One, Tag, Sum, Prod, Star, Var}

-- no product, no star and no variable: just a choice among single messages, nothing and never
abbrev pub is_choice : Pat → Bool
is_choice Zero = true
is_choice One = true
is_choice (Tag m) = true
is_choice (Sum e f) = is_choice e && is_choice f
is_choice _ = false

-- the pattern has no variable, and each star in it is of a choice
abbrev pub is_flat : Pat → Bool
is_flat (Sum e f) = is_flat e && is_flat f
is_flat (Prod e f) = is_flat e && is_flat f
is_flat (Star e) = is_choice e
is_flat (Var k) = false
is_flat _ = true

-- the most messages that a word can have outside of stars
abbrev pub degree_of : Pat → ℕ
degree_of (Tag m) = 1
degree_of (Sum e f) = max (degree_of e) (degree_of f)
degree_of (Prod e f) = degree_of e + degree_of f
degree_of _ = 0
