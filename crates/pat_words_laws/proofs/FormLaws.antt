-- The simplified star keeps the words, and a substitution gives the words under its values.
use Rattle.std.proofs.Common.{◌≡◌, ℕ, zero, suc, true, ◌||◌, inl, inr, ⊎_elim, refl, ap, ◌∙◌, subst}
use Rattle.std.proofs.lemmas.Bool.{cond_both, or_cases, eq-eqb, and_from}
use Rattle.pat_words_spec.specs.Words.{Word, no_word, plus}
use Rattle.pat_words_spec.specs.Patterns.{Pat, Zero, One, Tag, Sum, Prod, Star, Var, Language, Times, InUnder, pat_eq, is_zero, is_one, star_of, subst_of}
use Rattle.pat_words_laws.proofs.WordLaws.{plus_none}
use Rattle.pat_words_laws.proofs.PatternLaws.{is_zero_same, is_one_same, sum_of_to, sum_of_from, prod_of_to, prod_of_from}

pub pat_eq_refl : (e : Pat) → pat_eq e e ≡ true
pat_eq_refl Zero = refl
pat_eq_refl One = refl
pat_eq_refl (Tag m) = eq-eqb m m refl
pat_eq_refl (Sum e f) = and_from (pat_eq e e) (pat_eq f f) (pat_eq_refl e) (pat_eq_refl f)
pat_eq_refl (Prod e f) = and_from (pat_eq e e) (pat_eq f f) (pat_eq_refl e) (pat_eq_refl f)
pat_eq_refl (Star e) = pat_eq_refl e
pat_eq_refl (Var k) = eq-eqb k k refl

-- patterns that are the same compare so
pub same_pat_eq : (e f : Pat) → e ≡ f → pat_eq e f ≡ true
same_pat_eq e f h = subst (λ x. pat_eq e x ≡ true) h (pat_eq_refl e)

-- a sum of words of a set is one of any larger set
pub times_mono : (L M : Language) → ((w : Word) → L w → M w) → (n : ℕ) (w : Word) → Times n L w → Times n M w
times_mono L M into zero w h = h
times_mono L M into (suc n) w h = (h.0, h.1, into h.0 h.2, times_mono L M into n h.1 h.3, h.4)

-- a sum of words of a set that has at most the empty word is empty
times_none : (L : Language) → ((w : Word) → L w → w ≡ no_word) → (n : ℕ) (w : Word) → Times n L w → w ≡ no_word
times_none L none zero w h = h
times_none L none (suc n) w h =
    h.4 ∙ ap (λ (x : Word). plus x h.1) (none h.0 h.2) ∙ ap (λ (x : Word). plus no_word x) (times_none L none n h.1 h.3) ∙ plus_none no_word

zero_or_one : (vs : ℕ → Language) (e : Pat) → (is_zero e || is_one e) ≡ true → (w : Word) → InUnder vs e w → w ≡ no_word
zero_or_one vs e h w k =
    let P : Pat → Type 0 = λ p. InUnder vs p w in
    ⊎_elim (λ z. absurd (subst P (is_zero_same e z) k)) (λ o. subst P (is_one_same e o) k) (or_cases (is_zero e) (is_one e) h)

-- the simplified star has the words of the star
pub star_of_from : (vs : ℕ → Language) (e : Pat) (w : Word) → InUnder vs (Star e) w → InUnder vs (star_of e) w
star_of_from vs e w h =
    let P : Pat → Type 0 = λ p. InUnder vs p w in
    cond_both (is_zero e || is_one e) One (Star e) P
    (λ o. times_none (InUnder vs e) (zero_or_one vs e o) h.0 w h.1)
    (λ _. h)

pub star_of_to : (vs : ℕ → Language) (e : Pat) (w : Word) → InUnder vs (star_of e) w → InUnder vs (Star e) w
star_of_to vs e w =
    let Q : Pat → Type 0 = λ p. InUnder vs p w → InUnder vs (Star e) w in
    cond_both (is_zero e || is_one e) One (Star e) Q (λ _ h. (0, h)) (λ _ h. h)

-- what a substitution gives has the words of the pattern under the values
pub subst_to : (values : ℕ → Pat) (vs : ℕ → Language) (e : Pat) (w : Word) → InUnder vs (subst_of values e) w → InUnder (λ k. InUnder vs (values k)) e w
subst_to values vs Zero w h = h
subst_to values vs One w h = h
subst_to values vs (Tag m) w h = h
subst_to values vs (Sum e f) w h =
    ⊎_elim (λ k. inl (subst_to values vs e w k)) (λ k. inr (subst_to values vs f w k))
    (sum_of_to vs (subst_of values e) (subst_of values f) w h)
subst_to values vs (Prod e f) w h =
    let p = prod_of_to vs (subst_of values e) (subst_of values f) w h in
    (p.0, p.1, subst_to values vs e p.0 p.2, subst_to values vs f p.1 p.3, p.4)
subst_to values vs (Star e) w h =
    let p = star_of_to vs (subst_of values e) w h in
    (p.0, times_mono (InUnder vs (subst_of values e)) (InUnder (λ k. InUnder vs (values k)) e) (subst_to values vs e) p.0 w p.1)
subst_to values vs (Var k) w h = h

pub subst_from : (values : ℕ → Pat) (vs : ℕ → Language) (e : Pat) (w : Word) → InUnder (λ k. InUnder vs (values k)) e w → InUnder vs (subst_of values e) w
subst_from values vs Zero w h = h
subst_from values vs One w h = h
subst_from values vs (Tag m) w h = h
subst_from values vs (Sum e f) w h =
    sum_of_from vs (subst_of values e) (subst_of values f) w
    (⊎_elim (λ k. inl (subst_from values vs e w k)) (λ k. inr (subst_from values vs f w k)) h)
subst_from values vs (Prod e f) w h =
    prod_of_from vs (subst_of values e) (subst_of values f) w
    (h.0, h.1, subst_from values vs e h.0 h.2, subst_from values vs f h.1 h.3, h.4)
subst_from values vs (Star e) w h =
    star_of_from vs (subst_of values e) w
    (h.0, times_mono (InUnder (λ k. InUnder vs (values k)) e) (InUnder vs (subst_of values e)) (subst_from values vs e) h.0 w h.1)
subst_from values vs (Var k) w h = h
