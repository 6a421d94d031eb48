-- A test of inclusion by residuals. It is sound, and finds what small programs need.
use Rattle.std.proofs.Common.{◌≡◌, ℕ, zero, suc, ◌+◌, Bool, true, false, not, ◌||◌, ◌&&◌, ⊎_elim, sym, ap, ◌∙◌, subst, arith}
use Rattle.std.specs.Prelude.{nat_lt}
use Rattle.std.proofs.lemmas.Bool.{and_parts, or_cases}
use Rattle.pat_words_spec.specs.Words.{Word, plus}
use Rattle.pat_words_spec.specs.Patterns.{Pat, Prod, Star, Language, Times, In, Included, pat_eq, is_zero, residual, is_nullable, covers}
use Rattle.pat_words_laws.proofs.WordLaws.{take_one, plus_assoc, none_plus}
use Rattle.pat_words_laws.proofs.PatternLaws.{pat_eq_same, is_zero_same, residual_to, residual_from, nullable_to, nullable_from}
use Rattle.pat_words_laws.proofs.CoverLaws.{covers_to}
use Rattle.pat_examples.proofs.Tests.{all_upto, upto, below_true, asked}

-- the parts of a product, each in the star
abbrev in_star : (Pat → Pat → Bool) → Pat → Pat → Bool
in_star test (Prod a b) (Star g) = test a (Star g) && test b (Star g)
in_star test _ _ = false

-- whether each word of e is found to be a word of f, looking `depth` messages deep, where tags are below n
abbrev pub includes : (depth n : ℕ) → Pat → Pat → Bool
includes zero n e f = is_zero e || pat_eq e f
includes (suc d) n e f =
    is_zero e || (pat_eq e f || (in_star (includes d n) e f || (covers e (λ t. nat_lt t n) true && ((not (is_nullable e) || is_nullable f) && all_upto n (λ t. includes d n (residual e t) (residual f t))))))

none_in : (e f : Pat) → is_zero e ≡ true → Included e f
none_in e f h w i = absurd (subst (λ k. In k w) (is_zero_same e h) i)

same_in : (e f : Pat) → pat_eq e f ≡ true → Included e f
same_in e f h w i = subst (λ k. In k w) (pat_eq_same e f h) i

-- one message deeper, where each residual is found to be included
residuals_in : (n : ℕ) (e f : Pat) (deeper : ℕ → Bool) → ((t : ℕ) → deeper t ≡ true → Included (residual e t) (residual f t)) → (covers e (λ t. nat_lt t n) true && ((not (is_nullable e) || is_nullable f) && all_upto n deeper)) ≡ true → Included e f
residuals_in n e f deeper ih l w i =
    let all = all_upto n deeper in
    let one_two = and_parts (covers e (λ t. nat_lt t n) true) ((not (is_nullable e) || is_nullable f) && all) l in
    let two = and_parts (not (is_nullable e) || is_nullable f) all one_two.1 in
    ⊎_elim
    (λ empty.
    let nullable : is_nullable f ≡ true = asked (is_nullable e) (is_nullable f) two.0 (nullable_from e (subst (In e) empty.1 i)) in
    subst (In f) (sym empty.1) (nullable_to f nullable))
    (λ tag.
    let t = tag.0 in
    let some = tag.2 in
    let taken = take_one w t (omega arith) in
    let rest : In (residual e t) taken.0 = residual_from e t taken.0 (subst (In e) taken.1 i) in
    let there = ih t (upto n deeper two.1 t (below_true t n tag.1)) taken.0 rest in
    subst (In f) (sym taken.1) (residual_to f t taken.0 there))
    (covers_to e (λ t. nat_lt t n) true one_two.0 w i)

-- sums of words of a star are words of it
times_join : (L : Language) (k n : ℕ) (u v : Word) → Times k L u → Times n L v → Times (k + n) L (plus u v)
times_join L zero n u v h g = subst (λ m. Times m L (plus u v)) (number n) (subst (Times n L) (sym (ap (λ (w : Word). plus w v) h ∙ none_plus v)) g)
  where
    number : (n : ℕ) → n ≡ 0 + n
    number n = omega arith
times_join L (suc k) n u v h g =
    let rest = times_join L k n h.1 v h.3 g in
    subst (λ m. Times m L (plus u v)) (number k n) (h.0, plus h.1 v, h.2, rest, ap (λ (w : Word). plus w v) h.4 ∙ plus_assoc h.0 h.1 v)
  where
    number : (k n : ℕ) → suc (k + n) ≡ suc k + n
    number k n = omega arith

star_in : (test : Pat → Pat → Bool) → ((e f : Pat) → test e f ≡ true → Included e f) → (e f : Pat) → in_star test e f ≡ true → Included e f
star_in test ih (Prod a b) (Star g) h w i =
    let both = and_parts (test a (Star g)) (test b (Star g)) h in
    let u = ih a (Star g) both.0 i.0 i.2 in
    let v = ih b (Star g) both.1 i.1 i.3 in
    subst (In (Star g)) (sym i.4) (u.0 + v.0, times_join (In g) u.0 v.0 i.0 i.1 u.1 v.1)
star_in test ih _ _ h w i = cc

pub includes_to : (d n : ℕ) (e f : Pat) → includes d n e f ≡ true → Included e f
includes_to zero n e f h = ⊎_elim (none_in e f) (same_in e f) (or_cases (is_zero e) (pat_eq e f) h)
includes_to (suc d) n e f h =
    let deeper : ℕ → Bool = λ t. includes d n (residual e t) (residual f t) in
    let deep = covers e (λ t. nat_lt t n) true && ((not (is_nullable e) || is_nullable f) && all_upto n deeper) in
    let starred = in_star (includes d n) e f in
    ⊎_elim (none_in e f)
    (λ k. ⊎_elim (same_in e f)
    (λ l. ⊎_elim (star_in (includes d n) (includes_to d n) e f) (residuals_in n e f deeper (λ t. includes_to d n (residual e t) (residual f t))) (or_cases starred deep l))
    (or_cases (pat_eq e f) (starred || deep) k))
    (or_cases (is_zero e) (pat_eq e f || (starred || deep)) h)
