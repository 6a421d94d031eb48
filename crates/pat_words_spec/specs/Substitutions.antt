-- What the simplifying forms and a substitution do to the words of a pattern.
use Rattle.std.specs.Prelude.{◌≡◌, ℕ, Bool, true, ◌&&◌, nat_lt, ◌↔◌, IsTrue}
use Rattle.pat_words_spec.specs.Words.{Word}
use Rattle.pat_words_spec.specs.Patterns.{Pat, Sum, Prod, Star, Var, In, InUnder, pat_eq, sum_of, prod_of, star_of, subst_of}

-- w is a word of the pattern, where each variable has the words of its value
abbrev pub InWith : (ℕ → Pat) → Pat → Word → Type 0
InWith values e w = InUnder (λ k. In (values k)) e w

-- each variable of the pattern is below the bound
abbrev pub has_values : ℕ → Pat → Bool
has_values bound (Sum e f) = has_values bound e && has_values bound f
has_values bound (Prod e f) = has_values bound e && has_values bound f
has_values bound (Star e) = has_values bound e
has_values bound (Var k) = nat_lt k bound
has_values bound _ = true

-- patterns compare as the same exactly where they are
abbrev pub SameLaw : Type 0
SameLaw = (e f : Pat) → IsTrue (pat_eq e f) ↔ (e ≡ f)

-- the simplified sum has the words of the sum
abbrev pub SumLaw : Type 0
SumLaw = (values : ℕ → Pat) (e f : Pat) (w : Word) → InWith values (sum_of e f) w ↔ InWith values (Sum e f) w

-- the simplified product has the words of the product
abbrev pub ProdLaw : Type 0
ProdLaw = (values : ℕ → Pat) (e f : Pat) (w : Word) → InWith values (prod_of e f) w ↔ InWith values (Prod e f) w

-- the simplified star has the words of the star
abbrev pub StarLaw : Type 0
StarLaw = (values : ℕ → Pat) (e : Pat) (w : Word) → InWith values (star_of e) w ↔ InWith values (Star e) w

-- what a substitution gives has the words of the pattern under the values
abbrev pub SubstitutionLaw : Type 0
SubstitutionLaw = (values : ℕ → Pat) (e : Pat) (w : Word) → In (subst_of values e) w ↔ InWith values e w
