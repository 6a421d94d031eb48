-- When a simplified sum is one of its sides.
use Rattle.std.proofs.Common.{◌≡◌, Bool, true, false, if◌then◌else◌, refl, sym}
use Rattle.std.proofs.lemmas.Bool.{cond_both}
use Rattle.pat_words_spec.specs.Patterns.{Pat, Sum, sum_of, is_zero, pat_eq}
use Rattle.pat_words_laws.proofs.PatternLaws.{pat_eq_same}
use Rattle.pat_words_laws.proofs.FormLaws.{same_pat_eq}

-- the right side is 0
pub sum_left : (e f : Pat) → is_zero e ≡ false → is_zero f ≡ true → e ≡ sum_of e f
sum_left e f a b = sym (rw (a, b) refl)

-- both sides are the same
pub sum_same : (e f : Pat) → e ≡ f → e ≡ sum_of e f
sum_same e f same =
    cond_both (is_zero e) f (if is_zero f then e else if pat_eq e f then e else Sum e f) (λ p. e ≡ p)
    (λ _. same)
    (λ _. cond_both (is_zero f) e (if pat_eq e f then e else Sum e f) (λ p. e ≡ p)
    (λ _. refl)
    (λ _. cond_both (pat_eq e f) e (Sum e f) (λ p. e ≡ p) (λ _. refl) (λ d. differ (same_pat_eq e f same) d)))
  where
    differ : {A : Type 0} {b : Bool} → b ≡ true → b ≡ false → A
    differ p q = cc

-- neither side is 0, and they differ
pub sum_both : (e f : Pat) → is_zero e ≡ false → is_zero f ≡ false → (e ≡ f → ⊥) → Sum e f ≡ sum_of e f
sum_both e f a b differ =
    cond_both (is_zero e) f (if is_zero f then e else if pat_eq e f then e else Sum e f) (λ p. Sum e f ≡ p)
    (λ z. clash z a)
    (λ _. cond_both (is_zero f) e (if pat_eq e f then e else Sum e f) (λ p. Sum e f ≡ p)
    (λ z. clash z b)
    (λ _. cond_both (pat_eq e f) e (Sum e f) (λ p. Sum e f ≡ p) (λ s. absurd (differ (pat_eq_same e f s))) (λ _. refl)))
  where
    clash : {A : Type 0} {b : Bool} → b ≡ true → b ≡ false → A
    clash p q = cc
