-- Ascending lists of variables: where one stands, and one more of them.
use Rattle.std.proofs.Common.{◌≡◌, ℕ, zero, suc, ◌<◌, ◌≤◌, Bool, true, false, ◌||◌, nat_eq, List, [], ◌∷◌, length, get_or, Result, Ok, Err, IfOk, IfErr, refl, sym, ap, ◌∙◌, subst, ◌⊎◌, inl, inr, ⊎_elim, eq-eqb, eqb-true, arith}
use Rattle.std.specs.Prelude.{◌-◌, nat_lt, IsTrue, OnOk, OnErr, is_ok, insert}
use Rattle.std.specs.List.Sorted.{IsSearchInRange, IsBinarySearchResult, IsNonDecreasingBy}
use Rattle.std.specs.Ordering.{nat_cmp, ordering_index}
use Rattle.std.proofs.lemmas.Cmp.{ranked}
use Rattle.std.proofs.lemmas.Bool.{cases_lt, ltb-true, or_cases, or_left, or_right, ne_eqb}
use Rattle.std.proofs.lemmas.List.{get_or_default}
use Rattle.std.proofs.lemmas.Bool.Decides.{nat_tests}
use Rattle.pat_semantics_laws.specs.Programs.{is_among}
use Rattle.pat_semantics_spec.specs.Orders.{AscendsFrom}
use Rattle.pat_reduce_values.specs.programs.Places.{Ascends, StandsAt, FitsAt}

above : (n : ℕ) (xs : List ℕ) (i d : ℕ) → AscendsFrom n xs → i < length xs → n ≤ get_or xs i d
above n [] i d a h = omega arith
above n (x ∷ xs) zero d a h = a.0
above n (x ∷ xs) (suc i) d a h =
    let first : n ≤ x = a.0 in
    let rest = above (suc x) xs i d a.1 (omega arith) in
    omega arith

strictly : (n : ℕ) (xs : List ℕ) → AscendsFrom n xs → Ascends xs
strictly n [] a i j d less h = omega arith
strictly n (x ∷ xs) a i zero d less h = omega arith
strictly n (x ∷ xs) a zero (suc j) d less h =
    let rest = above (suc x) xs j d a.1 (omega arith) in
    omega arith
strictly n (x ∷ xs) a (suc i) (suc j) d less h = strictly (suc x) xs a.1 i j d (omega arith) (omega arith)

from_each : (n : ℕ) (xs : List ℕ) → ((k d : ℕ) → k < length xs → n ≤ get_or xs k d) → Ascends xs → AscendsFrom n xs
from_each n [] low a = tt
from_each n (x ∷ xs) low a = (low zero x (omega arith), from_each (suc x) xs (λ k d less. let up = a zero (suc k) d (omega arith) (omega arith) in omega arith) (λ i j d less h. a (suc i) (suc j) d (omega arith) (omega arith)))

module _ (xs : List ℕ) (x : ℕ) (ascends : Ascends xs) where
  rise : (i j d : ℕ) → i ≤ j → j < length xs → get_or xs i d ≤ get_or xs j d
  rise i j d le h =
      ⊎_elim
      (λ (less : i < j). let up = ascends i j d less h in omega arith)
      (λ (past : j ≤ i). let same : i ≡ j = omega arith in subst (λ k. get_or xs i d ≤ get_or xs k d) same (omega arith))
      (cases_lt i j)

  rising : IsNonDecreasingBy (λ y. ordering_index (nat_cmp y x)) xs
  rising i j d le h = let variables = rise i j d le h in grind (arith, nat_tests)

  -- a search for a variable ends at its place, or where it belongs
  pub searched : (r : Result ℕ ℕ) → IsSearchInRange r (length xs) → IsBinarySearchResult (λ y. nat_cmp y x) xs r → record { found : IfOk r (StandsAt xs x); absent : IfErr r (FitsAt xs x) }
  searched (Ok i) within equal = record { found = (within, λ d. ranked _ x _ (sym (equal d))); absent = tt }
  searched (Err i) within parted = record {
    found = tt;
    absent = record {
      within = within;
      front = λ k d less front. ranked _ x _ (sym ((parted rising).0 k d (omega arith) front));
      behind = λ k d less behind. ranked _ x _ (sym ((parted rising).1 k d behind less));
    };
  }

-- it fits between a lesser one and a greater one
pub fits_between : (xs : List ℕ) (x i : ℕ) → Ascends xs → i < length xs → ((d : ℕ) → x < get_or xs i d) → 0 < i → nat_lt (get_or xs (i - 1) 0) x ≡ true → FitsAt xs x i
fits_between xs x i ascends within above past less = record {
  within = omega arith;
  front = λ k d there before.
      let least : get_or xs (i - 1) 0 < x = ltb-true (get_or xs (i - 1) 0) x less in
      let up = rise xs x ascends k (i - 1) d (omega (arith, past, before)) (omega (arith, within)) in
      let same = get_or_default xs (i - 1) d 0 (omega (arith, within)) in
      omega (arith, least, up, same);
  behind = λ k d there from.
      let up = rise xs x ascends i k d from there in
      let here = above d in
      omega (arith, up, here);
}

-- where it stands, it is among them
pub stands_among : (xs : List ℕ) (x i : ℕ) → StandsAt xs x i → is_among x xs ≡ true
stands_among [] x i s = let within = s.0 in absurd (omega arith)
stands_among (y ∷ xs) x zero s = or_left (nat_eq x y) (is_among x xs) (eq-eqb x y (sym (s.1 y)))
stands_among (y ∷ xs) x (suc i) s = let within = s.0 in or_right (nat_eq x y) (is_among x xs) (stands_among xs x i (omega arith, λ d. s.1 d))

-- where it belongs, it isn't among them
pub fits_absent : (xs : List ℕ) (x i : ℕ) → FitsAt xs x i → is_among x xs ≡ false
fits_absent [] x i f = refl
fits_absent (y ∷ xs) x zero f =
    let next = f.behind zero y (omega arith) (omega arith) in
    ap (λ b. b || is_among x xs) (ne_eqb x y (λ (s : x ≡ y). omega (arith, next, s)))
    ∙ fits_absent xs x zero (record { within = omega arith; front = λ k d less front. absurd (omega arith); behind = λ k d less behind. f.behind (suc k) d (omega arith) (omega arith) })
fits_absent (y ∷ xs) x (suc i) f =
    let within = f.within in
    let first = f.front zero y (omega arith) (omega arith) in
    ap (λ b. b || is_among x xs) (ne_eqb x y (λ (s : x ≡ y). omega (arith, first, s)))
    ∙ fits_absent xs x i (record { within = omega arith; front = λ k d less front. f.front (suc k) d (omega arith) (omega arith); behind = λ k d less behind. f.behind (suc k) d (omega arith) (omega arith) })

or_none : (b : Bool) → b ≡ (b || false)
or_none true = refl
or_none false = refl

-- it stands there already
pub own_again : (xs : List ℕ) (x i y : ℕ) → StandsAt xs x i → is_among y xs ≡ (is_among y xs || nat_eq y x)
own_again xs x i y s =
    (elim (nat_eq y x) as (λ b. nat_eq y x ≡ b → is_among y xs ≡ (is_among y xs || b)) [
      | true ↦ λ is.
          let there : is_among y xs ≡ true = ap (λ k. is_among k xs) (eqb-true y x is) ∙ stands_among xs x i s in
          there ∙ sym (ap (λ b. b || true) there)
      | false ↦ λ is. or_none (is_among y xs)
    ]) refl

-- what a search says of it
pub is_found : (xs : List ℕ) (x : ℕ) (r : Result ℕ ℕ) → IfOk r (StandsAt xs x) → IfErr r (FitsAt xs x) → is_ok r ≡ is_among x xs
is_found xs x (Ok i) found absent = sym (stands_among xs x i found)
is_found xs x (Err i) found absent = sym (fits_absent xs x i absent)

-- ---- one more

more_order : (n : ℕ) (xs : List ℕ) (x i : ℕ) → AscendsFrom n xs → n ≤ x → FitsAt xs x i → AscendsFrom n (insert xs i x)
more_order n [] x zero a h f = (h, tt)
more_order n (y ∷ xs) x zero a h f = let next : x < y = f.behind zero y (omega arith) (omega arith) in (h, (omega arith, a.1))
more_order n [] x (suc i) a h f = let within = f.within in absurd (omega arith)
more_order n (y ∷ xs) x (suc i) a h f =
    let first : y < x = f.front zero y (omega arith) (omega arith) in
    let within = f.within in
    (a.0, more_order (suc y) xs x i a.1 (omega arith) (record { within = omega arith; front = λ k d less front. f.front (suc k) d (omega arith) (omega arith); behind = λ k d less behind. f.behind (suc k) d (omega arith) (omega arith) }))

pub more_in_order : (xs : List ℕ) (x i : ℕ) → Ascends xs → FitsAt xs x i → Ascends (insert xs i x)
more_in_order xs x i a f = strictly 0 (insert xs i x) (more_order 0 xs x i (from_each 0 xs (λ k d less. omega arith) a) (omega arith) f)

or_swapped : (a b c : Bool) → (a || (b || c)) ≡ ((a || b) || c)
or_swapped true b c = refl
or_swapped false b c = refl

or_turned : (a b : Bool) → (a || b) ≡ (b || a)
or_turned true true = refl
or_turned true false = refl
or_turned false true = refl
or_turned false false = refl

-- wherever it is put
pub among_more : (xs : List ℕ) (x i y : ℕ) → i ≤ length xs → is_among y (insert xs i x) ≡ (is_among y xs || nat_eq y x)
among_more xs x zero y h = or_turned (nat_eq y x) (is_among y xs)
among_more [] x (suc i) y h = absurd (omega arith)
among_more (z ∷ xs) x (suc i) y h = ap (λ b. nat_eq y z || b) (among_more xs x i y (omega arith)) ∙ or_swapped (nat_eq y z) (is_among y xs) (nat_eq y x)

-- it was put there, or nothing was
pub put : {A E : Type 0} (r : Result A E) (old new : List ℕ) (x i : ℕ) → OnOk r (new ≡ insert old i x) → OnErr r (new ≡ old) → (new ≡ insert old i x) ⊎ (new ≡ old)
put (Ok _) old new x i ok err = inl ok
put (Err _) old new x i ok err = inr err

pub put_among : {E : Type 0} (r : Result (Unit {0}) E) (old new : List ℕ) (x i : ℕ) → i ≤ length old → OnOk r (new ≡ insert old i x) → OnOk r ((y : ℕ) → is_among y new ≡ (is_among y old || nat_eq y x))
put_among (Ok _) old new x i h is = λ y. ap (is_among y) is ∙ among_more old x i y h
put_among (Err _) old new x i h is = tt

-- and below this number still
pub small_more : (n : ℕ) (old new : List ℕ) (v : ℕ) → ((x : ℕ) → IsTrue (is_among x old) → x < n) → v < n → ((x : ℕ) → is_among x new ≡ (is_among x old || nat_eq x v)) → (x : ℕ) → IsTrue (is_among x new) → x < n
small_more n old new v small less more x h =
    ⊎_elim
    (λ was. small x was)
    (λ same. subst (λ k. k < n) (sym (eqb-true x v same)) less)
    (or_cases (is_among x old) (nat_eq x v) (sym (more x) ∙ h))
