-- Words that differ at a tag are not the same.
use Rattle.std.proofs.Common.{◌≡◌, ℕ, suc, ◌<◌, ◌+◌, true, false, nat_eq, ⊎_elim, subst, sym, ◌∙◌, arith}
use Rattle.std.proofs.lemmas.Bool.{cases_Bool, and_from, eq-eqb}
use Rattle.pat_words_spec.specs.Words.{Word}
use Rattle.pat_inclusion_spec.specs.Counts.{same_below}
use Rattle.pat_inclusion_spec.specs.Counts.{most_tags}
use Rattle.pat_inclusion_laws.proofs.Spans.{same_counts}
use Rattle.pat_inclusion_laws.proofs.Exact.{tags_are}

pub same_at : (n : ℕ) (u v : Word) (t : ℕ) → t < n → (u t ≡ v t → ⊥) → same_below n u v ≡ false
same_at n u v t l d = ⊎_elim (λ y. absurd (d (same_counts n u v y t l))) (λ z. z) (cases_Bool (same_below n u v))

pub same_step : (t : ℕ) (u v : Word) → same_below t u v ≡ true → u t ≡ v t → same_below (t + 1) u v ≡ true
same_step t u v h e =
    let next : suc t ≡ t + 1 = omega arith in
    subst (λ n. same_below n u v ≡ true) next (and_from (same_below t u v) (nat_eq (u t) (v t)) h (eq-eqb (u t) (v t) e))

pub same_end : (t : ℕ) (u v : Word) → same_below t u v ≡ true → t ≡ 32 → true ≡ same_below most_tags u v
same_end t u v h e = sym (subst (λ n. same_below n u v ≡ true) (e ∙ sym tags_are) h)

pub same_not : (t : ℕ) (u v : Word) → t < 32 → (u t ≡ v t → ⊥) → false ≡ same_below most_tags u v
same_not t u v l d = sym (same_at most_tags u v t (subst (λ n. t < n) (sym tags_are) l) d)
