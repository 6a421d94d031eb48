-- Tests on lists and numbers that compute, and what they show.
use Rattle.std.proofs.Common.{◌≡◌, ℕ, zero, suc, ◌+◌, ◌<◌, Bool, true, false, not, ◌||◌, ◌&&◌, nat_eq, List, [], ◌∷◌, Some, refl, sym, ap, ◌∙◌, arith, ⊎_elim}
use Rattle.std.specs.Prelude.{slice_get, nat_lt}
use Rattle.std.specs.List.{AllByRecursion, IsDistinct}
use Rattle.std.proofs.lemmas.Bool.{and_parts, or_cases, eqb-true, eqb-false, ltb-true}
use Rattle.pat_semantics_laws.proofs.Lists.{not_true}

-- the test passes at each number below n
abbrev pub all_upto : ℕ → (ℕ → Bool) → Bool
all_upto zero f = true
all_upto (suc n) f = f n && all_upto n f

pub upto : (n : ℕ) (f : ℕ → Bool) → all_upto n f ≡ true → (k : ℕ) → k < n → f k ≡ true
upto zero f h k l = absurd (omega arith)
upto (suc n) f h k l =
    let both = and_parts (f n) (all_upto n f) h in
    (elim (nat_eq k n) as (λ t. nat_eq k n ≡ t → f k ≡ true) [
      | true ↦ λ q. ap f (eqb-true k n q) ∙ both.0
      | false ↦ λ q. upto n f both.1 k (below k n (eqb-false k n q) l)
    ]) refl
  where
    below : (k n : ℕ) → (k ≡ n → ⊥) → k < suc n → k < n
    below zero zero q l = absurd (q refl)
    below zero (suc n) q l = omega arith
    below (suc k) zero q l = absurd (omega arith)
    below (suc k) (suc n) q l = let r = below k n (λ e. q (ap suc e)) (omega arith) in omega arith

-- the test passes at each element
abbrev pub all_of : {A : Type 0} → (A → Bool) → List A → Bool
all_of f [] = true
all_of f (x ∷ xs) = f x && all_of f xs

pub all_true : {A : Type 0} (f : A → Bool) (P : A → Type 0) → ((x : A) → f x ≡ true → P x) → (xs : List A) → all_of f xs ≡ true → AllByRecursion P xs
all_true f P show [] h = tt
all_true f P show (x ∷ xs) h =
    let both = and_parts (f x) (all_of f xs) h in
    (show x both.0, all_true f P show xs both.1)

-- the test passes at each element and its number, counted from k
abbrev pub all_from : {A : Type 0} → ℕ → (ℕ → A → Bool) → List A → Bool
all_from k f [] = true
all_from k f (x ∷ xs) = f k x && all_from (suc k) f xs

from_true : {A : Type 0} (k : ℕ) (f : ℕ → A → Bool) (xs : List A) → all_from k f xs ≡ true → (j : ℕ) (x : A) → slice_get xs j ≡ Some x → f (k + j) x ≡ true
from_true k f [] h j x at = cc
from_true k f (y ∷ ys) h zero x at =
    let same : y ≡ x = cc in
    ap (λ n. f n x) (number k) ∙ ap (f k) (sym same) ∙ (and_parts (f k y) (all_from (suc k) f ys) h).0
  where
    number : (k : ℕ) → k + 0 ≡ k
    number k = omega arith
from_true k f (y ∷ ys) h (suc j) x at =
    ap (λ n. f n x) (number k j) ∙ from_true (suc k) f ys (and_parts (f k y) (all_from (suc k) f ys) h).1 j x at
  where
    number : (k j : ℕ) → k + suc j ≡ suc k + j
    number k j = omega arith

pub at_each : {A : Type 0} (f : ℕ → A → Bool) (xs : List A) → all_from 0 f xs ≡ true → (j : ℕ) (x : A) → slice_get xs j ≡ Some x → f j x ≡ true
at_each f xs h j x at = ap (λ n. f n x) (number j) ∙ from_true 0 f xs h j x at
  where
    number : (j : ℕ) → j ≡ 0 + j
    number j = omega arith

-- no two elements are the same
abbrev pub all_differ : {A : Type 0} → (A → A → Bool) → List A → Bool
all_differ e [] = true
all_differ e (x ∷ xs) = all_of (λ y. not (e x y)) xs && all_differ e xs

pub differ : {A : Type 0} (e : A → A → Bool) (xs : List A) → all_differ e xs ≡ true → IsDistinct e xs
unfolding IsDistinct
differ e [] h = tt
differ e (x ∷ xs) h =
    let both = and_parts (all_of (λ y. not (e x y)) xs) (all_differ e xs) h in
    (all_true (λ y. not (e x y)) (λ y. e x y ≡ false) (λ y w. not_true (e x y) w) xs both.0, differ e xs both.1)

pub below_true : (m n : ℕ) → nat_lt m n ≡ true → m < n
below_true m n h = ltb-true m n h

-- a test that passes or is not asked
pub asked : (a b : Bool) → (not a || b) ≡ true → a ≡ true → b ≡ true
asked true b h q = ⊎_elim (λ w. cc) (λ w. w) (or_cases false b h)
asked false b h q = cc
