-- Tests of a pattern in which variables are replaced, without replacing them: by a test of each variable's value.
use Rattle.std.specs.Prelude.{ℕ, Bool, true, false, ◌&&◌, ◌||◌}
use Rattle.pat_words_spec.specs.Patterns.{Pat, Zero, One, Tag, Sum, Prod, Star, Var}

-- whether the empty word is a word, where `values k` says so of variable k
abbrev pub nullable_under : (ℕ → Bool) → Pat → Bool
nullable_under values Zero = false
nullable_under values One = true
nullable_under values (Tag m) = false
nullable_under values (Sum e f) = nullable_under values e || nullable_under values f
nullable_under values (Prod e f) = nullable_under values e && nullable_under values f
nullable_under values (Star e) = true
nullable_under values (Var k) = values k

-- whether there is a word, where `values k` says so of variable k
abbrev pub inhabited_under : (ℕ → Bool) → Pat → Bool
inhabited_under values Zero = false
inhabited_under values One = true
inhabited_under values (Tag m) = true
inhabited_under values (Sum e f) = inhabited_under values e || inhabited_under values f
inhabited_under values (Prod e f) = inhabited_under values e && inhabited_under values f
inhabited_under values (Star e) = true
inhabited_under values (Var k) = values k
