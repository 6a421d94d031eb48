-- Derivatives of parts that may be too large.
use Rattle.std.proofs.Common.{◌≡◌, ℕ, true, false, ◌||◌, if◌then◌else◌, Option, Some, None, ⊎_elim, refl, sym, ap, ◌∙◌}
use Rattle.std.proofs.lemmas.Bool.{cases_Bool, cond_both, or_parts}
use Rattle.pat_words_spec.specs.Patterns.{Pat, Zero, One, Tag, Sum, Prod, Star, Var, is_zero, is_one, prod_of, star_of}
use Rattle.pat_inclusion_spec.specs.ClosedForms.{is_small}
use Rattle.pat_solve_spec.specs.Assignments.{derivative}
use Rattle.pat_solve_bounded.specs.Limits.{within, sum_within, prod_within}
use Rattle.pat_solve_bounded.proofs.Limited.{within_sum, within_prod, within_star}
use Rattle.pat_solve_bounded.specs.replacing.Deriving.{product_slope, star_slope}

-- a product of a pattern that isn't 0 with what is too large is too large
pub lost_first : (f : Pat) → is_zero f ≡ false → prod_within None (within f) ≡ None
lost_first f h =
    ⊎_elim
    (λ (a : is_small f ≡ true). rw (a, h) refl)
    (λ (a : is_small f ≡ false). rw a refl)
    (cases_Bool (is_small f))

pub lost_second : (e : Pat) → is_zero e ≡ false → prod_within (within e) None ≡ None
lost_second e h =
    ⊎_elim
    (λ (a : is_small e ≡ true). rw (a, h) refl)
    (λ (a : is_small e ≡ false). rw a refl)
    (cases_Bool (is_small e))

no_sum : (o : Option Pat) → sum_within o None ≡ None
no_sum None = refl
no_sum (Some e) = refl

pub slope_lost_left : (e f : Pat) (o : Option Pat) → is_zero f ≡ false → product_slope e f None o ≡ None
slope_lost_left e f o h = ap (λ x. sum_within x (prod_within (within e) o)) (lost_first f h)

pub slope_lost_right : (e f : Pat) (o : Option Pat) → is_zero e ≡ false → product_slope e f o None ≡ None
slope_lost_right e f o h =
    ap (λ x. sum_within (prod_within o (within f)) x) (lost_second e h) ∙ no_sum (prod_within o (within f))

-- 0 times anything is 0
pub zero_first : (e : Pat) (o : Option Pat) → is_zero e ≡ true → Some e ≡ prod_within (Some e) o
zero_first Zero None h = refl
zero_first Zero (Some f) h = refl
zero_first One o h = absurd (cc)
zero_first (Tag m) o h = absurd (cc)
zero_first (Sum e f) o h = absurd (cc)
zero_first (Prod e f) o h = absurd (cc)
zero_first (Star e) o h = absurd (cc)
zero_first (Var k) o h = absurd (cc)

prod_zero : (e : Pat) → prod_of e Zero ≡ Zero
prod_zero e =
    cond_both (is_zero e || true) Zero (if is_one e then Zero else Prod e Zero) (λ p. p ≡ Zero)
    (λ _. refl)
    (λ n. let q = (or_parts (is_zero e) true n).1 in cc)

pub zero_last : (x : Option Pat) (e : Pat) → is_zero e ≡ true → Some e ≡ prod_within x (Some e)
zero_last None Zero h = refl
zero_last (Some f) Zero h = sym (ap within (prod_zero f))
zero_last x One h = absurd (cc)
zero_last x (Tag m) h = absurd (cc)
zero_last x (Sum e f) h = absurd (cc)
zero_last x (Prod e f) h = absurd (cc)
zero_last x (Star e) h = absurd (cc)
zero_last x (Var k) h = absurd (cc)

-- the star of a pattern isn't 0
star_some : (e : Pat) → is_zero (star_of e) ≡ false
star_some e = cond_both (is_zero e || is_one e) One (Star e) (λ p. is_zero p ≡ false) (λ _. refl) (λ _. refl)

pub star_lost : (e : Pat) → star_slope e None ≡ None
star_lost e =
    ap (λ x. prod_within x None) (sym (within_star e)) ∙ lost_second (star_of e) (star_some e)

-- ---- what a derivative is made of

pub sum_slope_is : (k : ℕ) (e f : Pat) → within (derivative k (Sum e f)) ≡ sum_within (within (derivative k e)) (within (derivative k f))
sum_slope_is k e f = within_sum (derivative k e) (derivative k f)

pub product_slope_is : (k : ℕ) (e f : Pat) → within (derivative k (Prod e f)) ≡ product_slope e f (within (derivative k e)) (within (derivative k f))
product_slope_is k e f =
    within_sum (prod_of (derivative k e) f) (prod_of e (derivative k f))
    ∙ ap (λ x. sum_within x (within (prod_of e (derivative k f)))) (within_prod (derivative k e) f)
    ∙ ap (λ x. sum_within (prod_within (within (derivative k e)) (within f)) x) (within_prod e (derivative k f))

pub star_slope_is : (k : ℕ) (e : Pat) → within (derivative k (Star e)) ≡ star_slope e (within (derivative k e))
star_slope_is k e =
    within_prod (star_of e) (derivative k e) ∙ ap (λ x. prod_within x (within (derivative k e))) (within_star e)
