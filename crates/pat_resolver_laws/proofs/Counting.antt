-- Lists of numbers and of findings, and how often a number is counted.
use Rattle.std.proofs.Common.{◌≡◌, ◌+◌, ◌<◌, ◌≤◌, ℕ, zero, suc, Bool, true, false, ◌||◌, ◌&&◌, not, nat_eq, List, [], ◌∷◌, ◌++◌, length, Some, refl, ap, ◌∙◌, arith, ⊎_elim}
use Rattle.std.specs.Prelude.{slice_get, nat_lt}
use Rattle.std.proofs.lemmas.Bool.{or_cases, eqb-true, eq-eqb, ne_eqb, ltb-true, ltb-false}
use Rattle.pat_semantics_spec.specs.Programs.{Node, is_among}
use Rattle.pat_semantics_spec.specs.WellFormed.{count_if, count_among, uses_as_part, bindings_in}
use Rattle.pat_parser_spec.specs.Trees.{Span}
use Rattle.pat_resolver_spec.specs.Findings.{Rule, unless}

-- ---- findings

-- where two lists together are empty, both are
pub none_first : {A : Type 0} (xs ys : List A) → xs ++ ys ≡ [] → xs ≡ []
none_first [] ys e = refl
none_first (x ∷ xs) ys e = cc

pub none_second : {A : Type 0} (xs ys : List A) → xs ++ ys ≡ [] → ys ≡ []
none_second [] ys e = e
none_second (x ∷ xs) ys e = cc

pub passes : (b : Bool) (r : Rule) (at : Span) → unless b r at ≡ [] → b ≡ true
passes true r at e = refl
passes false r at e = cc

pub not_true : (b : Bool) → not b ≡ true → b ≡ false
not_true true e = cc
not_true false e = refl

pub both_first : (a b : Bool) → (a && b) ≡ true → a ≡ true
both_first true b h = refl
both_first false b h = cc

pub both_second : (a b : Bool) → (a && b) ≡ true → b ≡ true
both_second true b h = h
both_second false b h = cc

-- ---- counts

-- one where the number is from the first up to the last
abbrev pub Counts : ℕ → ℕ → ℕ → ℕ → Type 0
Counts count x from to = (x < from → count ≡ 0) × (from ≤ x → x < to → count ≡ 1) × (to ≤ x → count ≡ 0)

pub one_if : (x y : ℕ) → x ≡ y → count_if (nat_eq x y) ≡ 1
one_if x y e = ap count_if (eq-eqb x y e)

pub none_if : (x y : ℕ) → (x ≡ y → ⊥) → count_if (nat_eq x y) ≡ 0
none_if x y n = ap count_if (ne_eqb x y n)

-- a number below another one, or from it on
pub below_or : (C : Type 0) (x y : ℕ) → (x < y → C) → (y ≤ x → C) → C
below_or C x y low high =
    (elim (nat_lt x y) as (λ t. nat_lt x y ≡ t → C) [
      | true ↦ λ e. low (ltb-true x y e)
      | false ↦ λ e. high (ltb-false x y e)
    ]) refl

pub counts_none : (x n : ℕ) → Counts 0 x n n
counts_none x n = (λ h. refl, λ h l. absurd (omega arith), λ h. refl)

pub counts_one : (x n : ℕ) → Counts (count_if (nat_eq x n)) x n (suc n)
counts_one x n = (λ h. none_if x n (λ e. omega arith), λ h l. one_if x n (omega arith), λ h. none_if x n (λ e. omega arith))

pub counts_both : (a b c x from mid to : ℕ) → from ≤ mid → mid ≤ to → Counts a x from mid → Counts b x mid to → c ≡ a + b → Counts c x from to
counts_both a b c x from mid to first second l r e = (
  λ h. let p = l.0 h in let q = r.0 (omega (arith, first)) in omega (arith, p, q, e),
  λ h k. below_or (c ≡ 1) x mid
      (λ low. let p = l.1 h low in let q = r.0 low in omega (arith, p, q, e))
      (λ high. let p = l.2 high in let q = r.1 high k in omega (arith, p, q, e)),
  λ h. let p = l.2 (omega (arith, second)) in let q = r.2 h in omega (arith, p, q, e),
)

pub counts_as : (a b x from to end : ℕ) → a ≡ b → to ≡ end → Counts b x from to → Counts a x from end
counts_as a b x from to end e f c = (λ h. e ∙ c.0 h, λ h k. e ∙ c.1 h (omega (arith, f)), λ h. e ∙ c.2 (omega (arith, f)))

pub among_append : (m : ℕ) (xs ys : List ℕ) → count_among m (xs ++ ys) ≡ count_among m xs + count_among m ys
among_append m [] ys = omega arith
among_append m (x ∷ xs) ys = let ih = among_append m xs ys in omega (arith, ih)

pub uses_append : (m : ℕ) (xs ys : List Node) → uses_as_part m (xs ++ ys) ≡ uses_as_part m xs + uses_as_part m ys
uses_append m [] ys = omega arith
uses_append m (x ∷ xs) ys = let ih = uses_append m xs ys in omega (arith, ih)

pub bindings_append : (f x : ℕ) (xs ys : List Node) → bindings_in f x (xs ++ ys) ≡ bindings_in f x xs + bindings_in f x ys
bindings_append f x [] ys = omega arith
bindings_append f x (d ∷ xs) ys = let ih = bindings_append f x xs ys in omega (arith, ih)

-- what is among numbers is counted
pub among_counted : (m : ℕ) (xs : List ℕ) → is_among m xs ≡ true → 1 ≤ count_among m xs
among_counted m [] e = cc
among_counted m (x ∷ xs) e =
    ⊎_elim
    (λ l. let c = one_if m x (eqb-true m x l) in omega (arith, c))
    (λ r. let ih = among_counted m xs r in omega (arith, ih))
    (or_cases (nat_eq m x) (is_among m xs) e)

pub counted_among : (m : ℕ) (xs : List ℕ) → 1 ≤ count_among m xs → is_among m xs ≡ true
counted_among m [] h = absurd (omega (arith, h))
counted_among m (x ∷ xs) h =
    (elim (nat_eq m x) as (λ t. nat_eq m x ≡ t → (t || is_among m xs) ≡ true) [
      | true ↦ λ e. refl
      | false ↦ λ e. let c = ap count_if e in counted_among m xs (omega (arith, h, c))
    ]) refl

-- ---- items by their numbers

pub get_front : {A : Type 0} (xs ys : List A) (i : ℕ) (x : A) → slice_get xs i ≡ Some x → slice_get (xs ++ ys) i ≡ Some x
get_front [] ys i x e = cc
get_front (y ∷ xs) ys zero x e = e
get_front (y ∷ xs) ys (suc i) x e = get_front xs ys i x e

pub get_behind : {A : Type 0} (xs ys : List A) (i : ℕ) → slice_get (xs ++ ys) (length xs + i) ≡ slice_get ys i
get_behind [] ys i = let same : 0 + i ≡ i = omega arith in ap (slice_get ys) same
get_behind (x ∷ xs) ys i = let same : suc (length xs) + i ≡ suc (length xs + i) = omega arith in ap (slice_get (x ∷ (xs ++ ys))) same ∙ get_behind xs ys i
