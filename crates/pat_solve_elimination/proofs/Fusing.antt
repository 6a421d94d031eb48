-- One replacement after another is one replacement, by the simplifying forms too.
use Rattle.std.proofs.Common.{◌≡◌, ℕ, ◌⊎◌, true, false, ◌||◌, if◌then◌else◌, ⊎_elim, inl, inr, refl, sym, ap, ◌∙◌, subst}
use Rattle.std.proofs.lemmas.Bool.{cond_both, cases_Bool, or_cases, or_left, or_right, eq-eqb}
use Rattle.pat_words_spec.specs.Patterns.{Pat, Zero, One, Tag, Sum, Prod, Star, Var, is_zero, is_one, pat_eq, sum_of, prod_of, star_of, subst_of}
use Rattle.pat_words_laws.proofs.PatternLaws.{is_zero_same, is_one_same, pat_eq_same}
use Rattle.pat_words_laws.proofs.FormLaws.{pat_eq_refl}
use Rattle.pat_solve_bounded.specs.Variables.{has_var}
use Rattle.pat_solve_elimination.proofs.Rebuilt.{both}

-- ---- the simplifying forms with 0, with 1 and with the same

sum_zero : (x : Pat) → sum_of x Zero ≡ x
sum_zero x = cond_both (is_zero x) Zero x (λ p. p ≡ x) (λ z. sym (is_zero_same x z)) (λ _. refl)

sum_same : (x : Pat) → sum_of x x ≡ x
sum_same x =
    cond_both (is_zero x) x (if is_zero x then x else if pat_eq x x then x else Sum x x) (λ p. p ≡ x)
    (λ _. refl)
    (λ z. rw (z, pat_eq_refl x) refl)

prod_zero : (x : Pat) → prod_of x Zero ≡ Zero
prod_zero x = ⊎_elim (λ (z : is_zero x ≡ true). rw z refl) (λ (n : is_zero x ≡ false). rw n refl) (cases_Bool (is_zero x))

one_prod : (x : Pat) → prod_of One x ≡ x
one_prod x = cond_both (is_zero x) Zero x (λ p. p ≡ x) (λ z. sym (is_zero_same x z)) (λ _. refl)

prod_one : (x : Pat) → prod_of x One ≡ x
prod_one x =
    ⊎_elim
    (λ (z : is_zero x ≡ true). rw z (sym (is_zero_same x z)))
    (λ (n : is_zero x ≡ false). rw n (cond_both (is_one x) One x (λ p. p ≡ x) (λ o. sym (is_one_same x o)) (λ _. refl)))
    (cases_Bool (is_zero x))

-- ---- replacing goes through them

module _ (s : ℕ → Pat) where
  fuse_sum : (e f : Pat) → subst_of s (sum_of e f) ≡ sum_of (subst_of s e) (subst_of s f)
  fuse_sum e f =
      let P : Pat → Type 0 = λ p. subst_of s p ≡ sum_of (subst_of s e) (subst_of s f) in
      cond_both (is_zero e) f (if is_zero f then e else if pat_eq e f then e else Sum e f) P
      (λ z. subst (λ x. subst_of s f ≡ sum_of (subst_of s x) (subst_of s f)) (sym (is_zero_same e z)) refl)
      (λ _. cond_both (is_zero f) e (if pat_eq e f then e else Sum e f) P
      (λ z. subst (λ x. subst_of s e ≡ sum_of (subst_of s e) (subst_of s x)) (sym (is_zero_same f z)) (sym (sum_zero (subst_of s e))))
      (λ _. cond_both (pat_eq e f) e (Sum e f) P
      (λ q. subst (λ x. subst_of s e ≡ sum_of (subst_of s e) (subst_of s x)) (pat_eq_same e f q) (sym (sum_same (subst_of s e))))
      (λ _. refl)))

  fuse_prod : (e f : Pat) → subst_of s (prod_of e f) ≡ prod_of (subst_of s e) (subst_of s f)
  fuse_prod e f =
      let P : Pat → Type 0 = λ p. subst_of s p ≡ prod_of (subst_of s e) (subst_of s f) in
      cond_both (is_zero e || is_zero f) Zero (if is_one e then f else if is_one f then e else Prod e f) P
      (λ z. ⊎_elim
      (λ (a : is_zero e ≡ true). subst (λ x. Zero ≡ prod_of (subst_of s x) (subst_of s f)) (sym (is_zero_same e a)) refl)
      (λ (b : is_zero f ≡ true). subst (λ x. Zero ≡ prod_of (subst_of s e) (subst_of s x)) (sym (is_zero_same f b)) (sym (prod_zero (subst_of s e))))
      (or_cases (is_zero e) (is_zero f) z))
      (λ _. cond_both (is_one e) f (if is_one f then e else Prod e f) P
      (λ o. subst (λ x. subst_of s f ≡ prod_of (subst_of s x) (subst_of s f)) (sym (is_one_same e o)) (sym (one_prod (subst_of s f))))
      (λ _. cond_both (is_one f) e (Prod e f) P
      (λ o. subst (λ x. subst_of s e ≡ prod_of (subst_of s e) (subst_of s x)) (sym (is_one_same f o)) (sym (prod_one (subst_of s e))))
      (λ _. refl)))

  fuse_star : (e : Pat) → subst_of s (star_of e) ≡ star_of (subst_of s e)
  fuse_star e =
      let P : Pat → Type 0 = λ p. subst_of s p ≡ star_of (subst_of s e) in
      cond_both (is_zero e || is_one e) One (Star e) P
      (λ z. ⊎_elim
      (λ (a : is_zero e ≡ true). subst (λ x. One ≡ star_of (subst_of s x)) (sym (is_zero_same e a)) refl)
      (λ (b : is_one e ≡ true). subst (λ x. One ≡ star_of (subst_of s x)) (sym (is_one_same e b)) refl)
      (or_cases (is_zero e) (is_one e) z))
      (λ _. refl)

  pub fused : (r : ℕ → Pat) (e : Pat) → subst_of s (subst_of r e) ≡ subst_of (λ k. subst_of s (r k)) e
  fused r Zero = refl
  fused r One = refl
  fused r (Tag m) = refl
  fused r (Var k) = refl
  fused r (Star e) = fuse_star (subst_of r e) ∙ ap star_of (fused r e)
  fused r (Sum e f) = fuse_sum (subst_of r e) (subst_of r f) ∙ both sum_of _ _ _ _ (fused r e) (fused r f)
  fused r (Prod e f) = fuse_prod (subst_of r e) (subst_of r f) ∙ both prod_of _ _ _ _ (fused r e) (fused r f)

-- ---- what occurs

-- only the values of variables that occur matter
pub alike : (s t : ℕ → Pat) (e : Pat) → ((k : ℕ) → has_var k e ≡ true → s k ≡ t k) → subst_of s e ≡ subst_of t e
alike s t Zero h = refl
alike s t One h = refl
alike s t (Tag m) h = refl
alike s t (Var k) h = h k (eq-eqb k k refl)
alike s t (Star e) h = ap star_of (alike s t e h)
alike s t (Sum e f) h =
    both sum_of _ _ _ _ (alike s t e (λ k o. h k (or_left (has_var k e) (has_var k f) o))) (alike s t f (λ k o. h k (or_right (has_var k e) (has_var k f) o)))
alike s t (Prod e f) h =
    both prod_of _ _ _ _ (alike s t e (λ k o. h k (or_left (has_var k e) (has_var k f) o))) (alike s t f (λ k o. h k (or_right (has_var k e) (has_var k f) o)))

-- what occurs in a simplified form occurs in a part
in_sum : (j : ℕ) (e f : Pat) → has_var j (sum_of e f) ≡ true → (has_var j e ≡ true) ⊎ (has_var j f ≡ true)
in_sum j e f =
    let P : Pat → Type 0 = λ p. has_var j p ≡ true → (has_var j e ≡ true) ⊎ (has_var j f ≡ true) in
    cond_both (is_zero e) f (if is_zero f then e else if pat_eq e f then e else Sum e f) P
    (λ _ o. inr o)
    (λ _. cond_both (is_zero f) e (if pat_eq e f then e else Sum e f) P (λ _ o. inl o)
    (λ _. cond_both (pat_eq e f) e (Sum e f) P (λ _ o. inl o) (λ _ o. or_cases (has_var j e) (has_var j f) o)))

in_prod : (j : ℕ) (e f : Pat) → has_var j (prod_of e f) ≡ true → (has_var j e ≡ true) ⊎ (has_var j f ≡ true)
in_prod j e f =
    let P : Pat → Type 0 = λ p. has_var j p ≡ true → (has_var j e ≡ true) ⊎ (has_var j f ≡ true) in
    cond_both (is_zero e || is_zero f) Zero (if is_one e then f else if is_one f then e else Prod e f) P
    (λ _ o. absurd cc)
    (λ _. cond_both (is_one e) f (if is_one f then e else Prod e f) P (λ _ o. inr o)
    (λ _. cond_both (is_one f) e (Prod e f) P (λ _ o. inl o) (λ _ o. or_cases (has_var j e) (has_var j f) o)))

in_star : (j : ℕ) (e : Pat) → has_var j (star_of e) ≡ true → has_var j e ≡ true
in_star j e =
    cond_both (is_zero e || is_one e) One (Star e) (λ p. has_var j p ≡ true → has_var j e ≡ true) (λ _ o. absurd cc) (λ _ o. o)

-- where a variable that occurs comes from
abbrev pub From : (ℕ → Pat) → ℕ → Pat → Type 0
From s j e = (i : ℕ) × (has_var i e ≡ true) × (has_var j (s i) ≡ true)

from_left : (s : ℕ → Pat) (j : ℕ) (e f : Pat) → From s j e → From s j (Sum e f)
from_left s j e f o = (o.0, or_left (has_var o.0 e) (has_var o.0 f) o.1, o.2)

from_right : (s : ℕ → Pat) (j : ℕ) (e f : Pat) → From s j f → From s j (Sum e f)
from_right s j e f o = (o.0, or_right (has_var o.0 e) (has_var o.0 f) o.1, o.2)

pub comes_from : (s : ℕ → Pat) (j : ℕ) (e : Pat) → has_var j (subst_of s e) ≡ true → From s j e
comes_from s j Zero o = absurd cc
comes_from s j One o = absurd cc
comes_from s j (Tag m) o = absurd cc
comes_from s j (Var k) o = (k, eq-eqb k k refl, o)
comes_from s j (Star e) o = comes_from s j e (in_star j (subst_of s e) o)
comes_from s j (Sum e f) o =
    ⊎_elim
    (λ (a : has_var j (subst_of s e) ≡ true). from_left s j e f (comes_from s j e a))
    (λ (b : has_var j (subst_of s f) ≡ true). from_right s j e f (comes_from s j f b))
    (in_sum j (subst_of s e) (subst_of s f) o)
comes_from s j (Prod e f) o =
    ⊎_elim
    (λ (a : has_var j (subst_of s e) ≡ true). from_left s j e f (comes_from s j e a))
    (λ (b : has_var j (subst_of s f) ≡ true). from_right s j e f (comes_from s j f b))
    (in_prod j (subst_of s e) (subst_of s f) o)
