-- The limits go through sums, products and stars: a part that is too large makes the whole too large, unless a product takes it
-- away.
use Rattle.std.proofs.Common.{◌≡◌, Bool, true, false, if◌then◌else◌, Some, None, ◌≤◌, ⊎_elim, refl, sym, ◌∙◌, subst, arith}
use Rattle.std.proofs.lemmas.Bool.{cond_both, and_parts, and_from, leb-true, le-leb, cases_Bool}
use Rattle.pat_words_spec.specs.Patterns.{Pat, Sum, Prod, Star, is_zero, is_one, pat_eq, sum_of, prod_of, star_of}
use Rattle.pat_words_spec.specs.Sizes.{size_of, levels_of}
use Rattle.pat_words_laws.proofs.PatternLaws.{is_zero_same, is_one_same, pat_eq_same}
use Rattle.pat_inclusion_spec.specs.ClosedForms.{is_small}
use Rattle.pat_solve_bounded.specs.Limits.{within, sum_within, prod_within, star_within, zero_if}
use Rattle.pat_limits.specs.Limits.{most_levels, most_nodes}

-- ---- sizes of small patterns

pub sizes : (e : Pat) → is_small e ≡ true → (size_of e ≤ most_nodes) × (levels_of e ≤ most_levels)
sizes e h =
    let p = and_parts _ _ h in
    (leb-true (size_of e) most_nodes p.0, leb-true (levels_of e) most_levels p.1)

small : (e : Pat) → size_of e ≤ most_nodes → levels_of e ≤ most_levels → is_small e ≡ true
small e a b = and_from _ _ (le-leb (size_of e) most_nodes a) (le-leb (levels_of e) most_levels b)

differ : {A : Type 0} {b : Bool} → b ≡ true → b ≡ false → A
differ p q = cc

-- where the one is not small, neither is the other
larger : (e f : Pat) → (is_small f ≡ true → is_small e ≡ true) → is_small e ≡ false → is_small f ≡ false
larger e f down h =
    ⊎_elim (λ (t : is_small f ≡ true). differ (down t) h) (λ (n : is_small f ≡ false). n) (cases_Bool (is_small f))

in_sum_left : (e f : Pat) → is_small e ≡ false → is_small (Sum e f) ≡ false
in_sum_left e f = larger e (Sum e f) (λ h. let s = sizes (Sum e f) h in small e (omega arith) (omega arith))

in_sum_right : (e f : Pat) → is_small f ≡ false → is_small (Sum e f) ≡ false
in_sum_right e f = larger f (Sum e f) (λ h. let s = sizes (Sum e f) h in small f (omega arith) (omega arith))

in_star : (e : Pat) → is_small e ≡ false → is_small (Star e) ≡ false
in_star e = larger e (Star e) (λ h. let s = sizes (Star e) h in small e (omega arith) (omega arith))

-- 0 and 1 are small
zero_is_small : (e : Pat) → is_small e ≡ false → is_zero e ≡ false
zero_is_small e h =
    ⊎_elim (λ (z : is_zero e ≡ true). differ (subst (λ x. is_small x ≡ true) (sym (is_zero_same e z)) refl) h) (λ (n : is_zero e ≡ false). n) (cases_Bool (is_zero e))

one_is_small : (e : Pat) → is_small e ≡ false → is_one e ≡ false
one_is_small e h =
    ⊎_elim (λ (z : is_one e ≡ true). differ (subst (λ x. is_small x ≡ true) (sym (is_one_same e z)) refl) h) (λ (n : is_one e ≡ false). n) (cases_Bool (is_one e))

none_within : (e : Pat) → is_small e ≡ false → within e ≡ None
none_within e h = rw h refl

some_within : (e : Pat) → is_small e ≡ true → within e ≡ Some e
some_within e h = rw h refl

-- ---- sums

sum_large_left : (e f : Pat) → is_small e ≡ false → is_small (sum_of e f) ≡ false
sum_large_left e f h =
    let P : Pat → Type 0 = λ p. is_small p ≡ false in
    rw (zero_is_small e h)
    (cond_both (is_zero f) e (if pat_eq e f then e else Sum e f) P (λ _. h)
    (λ _. cond_both (pat_eq e f) e (Sum e f) P (λ _. h) (λ _. in_sum_left e f h)))

sum_large_right : (e f : Pat) → is_small f ≡ false → is_small (sum_of e f) ≡ false
sum_large_right e f h =
    let P : Pat → Type 0 = λ p. is_small p ≡ false in
    rw (zero_is_small f h)
    (cond_both (is_zero e) f (if pat_eq e f then e else Sum e f) P (λ _. h)
    (λ _. cond_both (pat_eq e f) e (Sum e f) P (λ s. subst P (sym (pat_eq_same e f s)) h) (λ _. in_sum_right e f h)))

pub within_sum : (e f : Pat) → within (sum_of e f) ≡ sum_within (within e) (within f)
within_sum e f =
    ⊎_elim
    (λ (a : is_small e ≡ true). ⊎_elim
    (λ (b : is_small f ≡ true). rw (some_within e a, some_within f b) refl)
    (λ (b : is_small f ≡ false). rw (some_within e a, none_within f b) (none_within (sum_of e f) (sum_large_right e f b)))
    (cases_Bool (is_small f)))
    (λ (a : is_small e ≡ false). rw (none_within e a) (none_within (sum_of e f) (sum_large_left e f a)))
    (cases_Bool (is_small e))

-- ---- products

prod_large_left : (e f : Pat) → is_small e ≡ false → within (prod_of e f) ≡ zero_if f
prod_large_left e f h =
    rw (zero_is_small e h, one_is_small e h)
    (⊎_elim
    (λ (z : is_zero f ≡ true). rw z refl)
    (λ (n : is_zero f ≡ false). rw n
    (cond_both (is_one f) e (Prod e f) (λ p. within p ≡ None) (λ _. none_within e h) (λ _. none_within (Prod e f) (in_sum_left e f h))))
    (cases_Bool (is_zero f)))

prod_large_right : (e f : Pat) → is_small f ≡ false → within (prod_of e f) ≡ zero_if e
prod_large_right e f h =
    rw (zero_is_small f h, one_is_small f h)
    (⊎_elim
    (λ (z : is_zero e ≡ true). rw z refl)
    (λ (n : is_zero e ≡ false). rw n
    (cond_both (is_one e) f (Prod e f) (λ p. within p ≡ None) (λ _. none_within f h) (λ _. none_within (Prod e f) (in_sum_right e f h))))
    (cases_Bool (is_zero e)))

pub within_prod : (e f : Pat) → within (prod_of e f) ≡ prod_within (within e) (within f)
within_prod e f =
    ⊎_elim
    (λ (a : is_small e ≡ true). ⊎_elim
    (λ (b : is_small f ≡ true). rw (some_within e a, some_within f b) refl)
    (λ (b : is_small f ≡ false). rw (some_within e a, none_within f b) (prod_large_right e f b))
    (cases_Bool (is_small f)))
    (λ (a : is_small e ≡ false). ⊎_elim
    (λ (b : is_small f ≡ true). rw (none_within e a, some_within f b) (prod_large_left e f a))
    (λ (b : is_small f ≡ false). rw (none_within e a, none_within f b) (prod_large_left e f a ∙ rw (zero_is_small f b) refl))
    (cases_Bool (is_small f)))
    (cases_Bool (is_small e))

-- ---- stars

pub within_star : (e : Pat) → within (star_of e) ≡ star_within (within e)
within_star e =
    ⊎_elim
    (λ (a : is_small e ≡ true). rw (some_within e a) refl)
    (λ (a : is_small e ≡ false). rw (none_within e a)
    (rw (zero_is_small e a, one_is_small e a) (none_within (Star e) (in_star e a))))
    (cases_Bool (is_small e))
