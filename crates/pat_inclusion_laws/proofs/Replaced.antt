-- Patterns whose variables are replaced, and nothing simplified: their words are the pattern's under the words of these values.
use Rattle.std.proofs.Common.{◌≡◌, ℕ, true, ◌⊎◌, inl, inr, ⊎_elim, refl, ap, ap₂}
use Rattle.std.proofs.lemmas.Bool.{and_parts}
use Rattle.pat_words_spec.specs.Words.{Word}
use Rattle.pat_words_spec.specs.Patterns.{Pat, Zero, One, Tag, Sum, Prod, Star, Var, Language, InUnder, In, is_closed, sum_of, prod_of}
use Rattle.pat_words_laws.proofs.PatternLaws.{sum_of_to, sum_of_from, prod_of_to, prod_of_from}
use Rattle.pat_words_laws.proofs.FormLaws.{times_mono}
use Rattle.pat_inclusion_spec.specs.Values.{replaced}

-- the words that variables have by these patterns
abbrev pub values_of : (ℕ → Pat) → ℕ → Language
values_of s k = In (s k)

pub in_to : (s : ℕ → Pat) (e : Pat) (w : Word) → In (replaced s e) w → InUnder (values_of s) e w
in_to s Zero w h = h
in_to s One w h = h
in_to s (Tag m) w h = h
in_to s (Sum e f) w h = ⊎_elim (λ k. inl (in_to s e w k)) (λ k. inr (in_to s f w k)) h
in_to s (Prod e f) w h = (h.0, h.1, in_to s e h.0 h.2, in_to s f h.1 h.3, h.4)
in_to s (Star e) w h = (h.0, times_mono (In (replaced s e)) (InUnder (values_of s) e) (in_to s e) h.0 w h.1)
in_to s (Var k) w h = h

pub in_from : (s : ℕ → Pat) (e : Pat) (w : Word) → InUnder (values_of s) e w → In (replaced s e) w
in_from s Zero w h = h
in_from s One w h = h
in_from s (Tag m) w h = h
in_from s (Sum e f) w h = ⊎_elim (λ k. inl (in_from s e w k)) (λ k. inr (in_from s f w k)) h
in_from s (Prod e f) w h = (h.0, h.1, in_from s e h.0 h.2, in_from s f h.1 h.3, h.4)
in_from s (Star e) w h = (h.0, times_mono (InUnder (values_of s) e) (In (replaced s e)) (in_from s e) h.0 w h.1)
in_from s (Var k) w h = h

-- the words of a simplified sum and of a simplified product
pub sum_to : (s : ℕ → Pat) (e f : Pat) (w : Word) → In (replaced s (sum_of e f)) w → In (replaced s e) w ⊎ In (replaced s f) w
sum_to s e f w h = in_from s (Sum e f) w (sum_of_to (values_of s) e f w (in_to s (sum_of e f) w h))

pub sum_from : (s : ℕ → Pat) (e f : Pat) (w : Word) → In (replaced s e) w ⊎ In (replaced s f) w → In (replaced s (sum_of e f)) w
sum_from s e f w h = in_from s (sum_of e f) w (sum_of_from (values_of s) e f w (in_to s (Sum e f) w h))

pub prod_to : (s : ℕ → Pat) (e f : Pat) (w : Word) → In (replaced s (prod_of e f)) w → In (Prod (replaced s e) (replaced s f)) w
prod_to s e f w h = in_from s (Prod e f) w (prod_of_to (values_of s) e f w (in_to s (prod_of e f) w h))

pub prod_from : (s : ℕ → Pat) (e f : Pat) (w : Word) → In (Prod (replaced s e) (replaced s f)) w → In (replaced s (prod_of e f)) w
prod_from s e f w h = in_from s (prod_of e f) w (prod_of_from (values_of s) e f w (in_to s (Prod e f) w h))

-- a pattern without variables stays as it is
pub closed_same : (s : ℕ → Pat) (e : Pat) → is_closed e ≡ true → replaced s e ≡ e
closed_same s Zero h = refl
closed_same s One h = refl
closed_same s (Tag m) h = refl
closed_same s (Sum e f) h =
    let both = and_parts (is_closed e) (is_closed f) h in ap₂ Sum (closed_same s e both.0) (closed_same s f both.1)
closed_same s (Prod e f) h =
    let both = and_parts (is_closed e) (is_closed f) h in ap₂ Prod (closed_same s e both.0) (closed_same s f both.1)
closed_same s (Star e) h = ap Star (closed_same s e h)
closed_same s (Var k) h = cc
