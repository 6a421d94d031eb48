-- A type that fits one with the same pattern needs the inclusion of the pattern in itself.
use Rattle.std.proofs.Common.{◌≡◌, ℕ, true, Some, None, refl, sym, ap, ap₂, subst}
use Rattle.std.specs.Prelude.{if◌then◌else◌}
use Rattle.std.proofs.lemmas.Bool.{eq-eqb}
use Rattle.pat_words_spec.specs.Patterns.{Pat, pat_eq}
use Rattle.pat_words_laws.proofs.PatternLaws.{pat_eq_same}
use Rattle.pat_semantics_spec.specs.Programs.{Polarity, Sending, Receiving}
use Rattle.pat_derivation_spec.specs.Demands.{same_interface, inclusion, fit_by}

same_two : (i j : ℕ) → i ≡ j → same_interface i j ≡ Some i
same_two i j same = subst (λ k. same_interface i k ≡ Some i) same (ap (λ b. if b then Some i else None) (eq-eqb i i refl))

pub fit_alike : (q : Polarity) (i j : ℕ) (e f : Pat) → i ≡ j → pat_eq e f ≡ true → inclusion (Some i) e e ≡ fit_by q (same_interface i j) e f
fit_alike Sending i j e f same alike = ap₂ (λ o x. inclusion o x e) (sym (same_two i j same)) (pat_eq_same e f alike)
fit_alike Receiving i j e f same alike = ap₂ (λ o x. inclusion o e x) (sym (same_two i j same)) (pat_eq_same e f alike)
