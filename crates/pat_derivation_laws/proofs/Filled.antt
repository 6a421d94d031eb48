-- Patterns into which values are put: their words, and that without variables they stay as they are.
use Rattle.std.proofs.Common.{◌≡◌, ℕ, true}
use Rattle.pat_words_spec.specs.Words.{Word, no_word}
use Rattle.pat_words_spec.specs.Patterns.{Pat, Prod, Language, InUnder, In, no_values, prod_of, is_closed, is_nullable, is_inhabited, subst_of}
use Rattle.pat_words_laws.proofs.PatternLaws.{nullable_to, inhabited_to, prod_of_from}
use Rattle.pat_words_laws.proofs.FormLaws.{subst_to, subst_from}
use Rattle.pat_inclusion_spec.specs.Values.{Scope, pattern_of, filled}
use Rattle.pat_inclusion_laws.proofs.Replaced.{in_to, in_from, closed_same}

-- the words of each variable's value
abbrev pub ValueWords : Scope → ℕ → Language
ValueWords s k = In (pattern_of s k)

pub filled_under : (s : Scope) (e : Pat) (w : Word) → In (filled s e) w → InUnder (ValueWords s) e w
filled_under s e w h = in_to (pattern_of s) e w h

pub under_filled : (s : Scope) (e : Pat) (w : Word) → InUnder (ValueWords s) e w → In (filled s e) w
under_filled s e w h = in_from (pattern_of s) e w h

-- simplified or not, the words are the same
pub filled_to : (s : Scope) (e : Pat) (w : Word) → In (filled s e) w → In (subst_of (pattern_of s) e) w
filled_to s e w h = subst_from (pattern_of s) no_values e w (filled_under s e w h)

pub filled_from : (s : Scope) (e : Pat) (w : Word) → In (subst_of (pattern_of s) e) w → In (filled s e) w
filled_from s e w h = under_filled s e w (subst_to (pattern_of s) no_values e w h)

-- a product with the simplifying forms has the words of the product
pub filled_product : (s : Scope) (e f : Pat) (w : Word) → In (Prod (filled s e) (filled s f)) w → In (subst_of (pattern_of s) (prod_of e f)) w
filled_product s e f w h =
    subst_from (pattern_of s) no_values (prod_of e f) w (prod_of_from (ValueWords s) e f w (filled_under s (Prod e f) w h))

pub filled_nullable : (s : Scope) (e : Pat) → is_nullable (subst_of (pattern_of s) e) ≡ true → In (filled s e) no_word
filled_nullable s e h = filled_from s e no_word (nullable_to (subst_of (pattern_of s) e) h)

pub filled_inhabited : (s : Scope) (e : Pat) → is_inhabited (subst_of (pattern_of s) e) ≡ true → (w : Word) × In (filled s e) w
filled_inhabited s e h = let r = inhabited_to (subst_of (pattern_of s) e) h in (r.0, filled_from s e r.0 r.1)

-- without variables a pattern stays as it is
pub filled_closed : (s : Scope) (e : Pat) → is_closed e ≡ true → filled s e ≡ e
filled_closed s e h = closed_same (pattern_of s) e h
