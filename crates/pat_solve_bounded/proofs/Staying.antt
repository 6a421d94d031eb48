-- A pattern stays as it is where its parts do, and the simplifying form of these is the pattern.
use Rattle.std.proofs.Common.{◌≡◌, ℕ, false, ◌||◌, refl, sym, ap, ◌∙◌}
use Rattle.std.proofs.lemmas.Bool.{or_parts}
use Rattle.pat_words_spec.specs.Patterns.{Pat, Sum, Prod, Star, is_zero, is_one, sum_of, prod_of, star_of, subst_of}
use Rattle.pat_solve_bounded.specs.Variables.{has_var}
use Rattle.pat_solve_bounded.specs.replacing.Replacing.{Stays}
use Rattle.pat_solve_bounded.proofs.Sums.{kept_sum_is}

no_var : (e f : Pat) → Stays e → Stays f → (k : ℕ) → (has_var k e || has_var k f) ≡ false
no_var e f h k j = rw (h.1 j, k.1 j) refl

both : (make : Pat → Pat → Pat) (e f g h : Pat) → g ≡ e → h ≡ f → make g h ≡ make e f
both make e f g h p q = ap (λ x. make x h) p ∙ ap (make e) q

pub sum_stays : (e f : Pat) → Stays e → Stays f → is_zero e ≡ false → is_zero f ≡ false → (e ≡ f → ⊥) → Stays (Sum e f)
sum_stays e f h k a b differ =
    (λ values. both sum_of e f (subst_of values e) (subst_of values f) (h.0 values) (k.0 values) ∙ sym (kept_sum_is e f a b differ), no_var e f h k)

kept_prod : (e f : Pat) → (is_zero e || is_one e) ≡ false → (is_zero f || is_one f) ≡ false → prod_of e f ≡ Prod e f
kept_prod e f a b =
    let p = or_parts (is_zero e) (is_one e) a in
    let q = or_parts (is_zero f) (is_one f) b in
    rw (p.0, p.1, q.0, q.1) refl

pub prod_stays : (e f : Pat) → Stays e → Stays f → (is_zero e || is_one e) ≡ false → (is_zero f || is_one f) ≡ false → Stays (Prod e f)
prod_stays e f h k a b =
    (λ values. both prod_of e f (subst_of values e) (subst_of values f) (h.0 values) (k.0 values) ∙ kept_prod e f a b, no_var e f h k)

pub star_stays : (e : Pat) → Stays e → (is_zero e || is_one e) ≡ false → Stays (Star e)
star_stays e h a = (λ values. ap star_of (h.0 values) ∙ rw a refl, h.1)
