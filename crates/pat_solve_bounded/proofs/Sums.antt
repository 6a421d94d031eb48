-- When a simplified sum is one of its sides, and when it is the sum as it stands.
use Rattle.std.proofs.Common.{◌≡◌, true, false, Some, refl, sym}
use Rattle.std.proofs.lemmas.Bool.{cond_both}
use Rattle.pat_words_spec.specs.Patterns.{Pat, Sum, sum_of, is_zero, pat_eq}
use Rattle.pat_words_laws.proofs.PatternLaws.{pat_eq_same}
use Rattle.pat_words_laws.proofs.FormLaws.{same_pat_eq}
use Rattle.pat_inclusion_spec.specs.ClosedForms.{is_small}
use Rattle.pat_solve_bounded.specs.Limits.{within}

-- neither side is 0, and they are the same
pub same_sum : (e f : Pat) → is_zero e ≡ false → is_zero f ≡ false → is_small e ≡ true → e ≡ f → Some e ≡ within (sum_of e f)
same_sum e f a b small same = sym (rw (a, b, same_pat_eq e f same, small) refl)

-- neither side is 0, and they differ
pub kept_sum_is : (e f : Pat) → is_zero e ≡ false → is_zero f ≡ false → (e ≡ f → ⊥) → Sum e f ≡ sum_of e f
kept_sum_is e f a b differ =
    sym
    (rw (a, b)
    (cond_both (pat_eq e f) e (Sum e f) (λ p. p ≡ Sum e f) (λ s. absurd (differ (pat_eq_same e f s))) (λ _. refl)))
