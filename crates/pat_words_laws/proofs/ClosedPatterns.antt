-- More words for the variables give more words; and patterns without variables: their words don't hang on the values of variables,
-- and neither simplifying forms nor residuals bring a variable in.
use Rattle.std.proofs.Common.{◌≡◌, ℕ, true, ◌||◌, nat_eq, if◌then◌else◌, inl, inr, ⊎_elim, refl}
use Rattle.std.proofs.lemmas.Bool.{and_parts, and_from, cond_both}
use Rattle.pat_words_spec.specs.Words.{Word}
use Rattle.pat_words_spec.specs.Patterns.{Pat, Zero, One, Tag, Sum, Prod, Star, Var, Language, InUnder, is_closed, is_zero, is_one, pat_eq, sum_of, prod_of, residual}
use Rattle.pat_words_spec.specs.Flats.{is_choice, is_flat}
use Rattle.pat_words_laws.proofs.FormLaws.{times_mono}

-- more words for the variables give more words
pub under_mono : (ls ms : ℕ → Language) → ((k : ℕ) (w : Word) → ls k w → ms k w) → (e : Pat) (w : Word) → InUnder ls e w → InUnder ms e w
under_mono ls ms into Zero w h = h
under_mono ls ms into One w h = h
under_mono ls ms into (Tag m) w h = h
under_mono ls ms into (Sum e f) w h = ⊎_elim (λ l. inl (under_mono ls ms into e w l)) (λ r. inr (under_mono ls ms into f w r)) h
under_mono ls ms into (Prod e f) w h = (h.0, h.1, under_mono ls ms into e h.0 h.2, under_mono ls ms into f h.1 h.3, h.4)
under_mono ls ms into (Star e) w h = (h.0, times_mono (InUnder ls e) (InUnder ms e) (under_mono ls ms into e) h.0 w h.1)
under_mono ls ms into (Var k) w h = into k w h

-- the words of a pattern without variables are the same under all values
pub under_closed : (ls ms : ℕ → Language) (e : Pat) → is_closed e ≡ true → (w : Word) → InUnder ls e w → InUnder ms e w
under_closed ls ms Zero c w h = h
under_closed ls ms One c w h = h
under_closed ls ms (Tag m) c w h = h
under_closed ls ms (Sum e f) c w h =
    let both = and_parts (is_closed e) (is_closed f) c in
    ⊎_elim (λ l. inl (under_closed ls ms e both.0 w l)) (λ r. inr (under_closed ls ms f both.1 w r)) h
under_closed ls ms (Prod e f) c w h =
    let both = and_parts (is_closed e) (is_closed f) c in
    (h.0, h.1, under_closed ls ms e both.0 h.0 h.2, under_closed ls ms f both.1 h.1 h.3, h.4)
under_closed ls ms (Star e) c w h = (h.0, times_mono (InUnder ls e) (InUnder ms e) (under_closed ls ms e c) h.0 w h.1)
under_closed ls ms (Var k) c w h = cc

-- ---- what has no variables

choice_closed : (e : Pat) → is_choice e ≡ true → is_closed e ≡ true
choice_closed Zero h = refl
choice_closed One h = refl
choice_closed (Tag m) h = refl
choice_closed (Sum e f) h =
    let both = and_parts (is_choice e) (is_choice f) h in
    and_from (is_closed e) (is_closed f) (choice_closed e both.0) (choice_closed f both.1)
choice_closed (Prod e f) h = cc
choice_closed (Star e) h = cc
choice_closed (Var k) h = cc

pub flat_closed : (e : Pat) → is_flat e ≡ true → is_closed e ≡ true
flat_closed Zero h = refl
flat_closed One h = refl
flat_closed (Tag m) h = refl
flat_closed (Sum e f) h =
    let both = and_parts (is_flat e) (is_flat f) h in
    and_from (is_closed e) (is_closed f) (flat_closed e both.0) (flat_closed f both.1)
flat_closed (Prod e f) h =
    let both = and_parts (is_flat e) (is_flat f) h in
    and_from (is_closed e) (is_closed f) (flat_closed e both.0) (flat_closed f both.1)
flat_closed (Star e) h = choice_closed e h
flat_closed (Var k) h = cc

sum_closed : (e f : Pat) → is_closed e ≡ true → is_closed f ≡ true → is_closed (sum_of e f) ≡ true
sum_closed e f a b =
    let P : Pat → Type 0 = λ g. is_closed g ≡ true in
    cond_both (is_zero e) f (if is_zero f then e else if pat_eq e f then e else Sum e f) P
    (λ _. b)
    (λ _. cond_both (is_zero f) e (if pat_eq e f then e else Sum e f) P
    (λ _. a)
    (λ _. cond_both (pat_eq e f) e (Sum e f) P (λ _. a) (λ _. and_from (is_closed e) (is_closed f) a b)))

prod_closed : (e f : Pat) → is_closed e ≡ true → is_closed f ≡ true → is_closed (prod_of e f) ≡ true
prod_closed e f a b =
    let P : Pat → Type 0 = λ g. is_closed g ≡ true in
    cond_both (is_zero e || is_zero f) Zero (if is_one e then f else if is_one f then e else Prod e f) P
    (λ _. refl)
    (λ _. cond_both (is_one e) f (if is_one f then e else Prod e f) P
    (λ _. b)
    (λ _. cond_both (is_one f) e (Prod e f) P (λ _. a) (λ _. and_from (is_closed e) (is_closed f) a b)))

pub residual_closed : (e : Pat) (m : ℕ) → is_closed e ≡ true → is_closed (residual e m) ≡ true
residual_closed Zero m h = refl
residual_closed One m h = refl
residual_closed (Tag n) m h = cond_both (nat_eq n m) One Zero (λ g. is_closed g ≡ true) (λ _. refl) (λ _. refl)
residual_closed (Sum e f) m h =
    let both = and_parts (is_closed e) (is_closed f) h in
    sum_closed (residual e m) (residual f m) (residual_closed e m both.0) (residual_closed f m both.1)
residual_closed (Prod e f) m h =
    let both = and_parts (is_closed e) (is_closed f) h in
    sum_closed (prod_of (residual e m) f) (prod_of e (residual f m))
    (prod_closed (residual e m) f (residual_closed e m both.0) both.1)
    (prod_closed e (residual f m) both.0 (residual_closed f m both.1))
residual_closed (Star e) m h = prod_closed (residual e m) (Star e) (residual_closed e m h) h
residual_closed (Var k) m h = refl
