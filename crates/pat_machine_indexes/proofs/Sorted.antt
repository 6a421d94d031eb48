-- Numbers in ascending order: where one stands, and one more or less of them.
use Rattle.std.proofs.Common.{◌≡◌, ℕ, zero, suc, ◌+◌, ◌<◌, ◌≤◌, Bool, true, false, cond, ◌&&◌, nat_eq, List, [], ◌∷◌, length, get_or, ◌-◌, take, drop, take_all, length-drop, filter, Result, Ok, Err, IfOk, IfErr, refl, sym, ap, ◌∙◌, ◌⊎◌, inl, inr, ⊎_elim, eq-eqb, arith}
use Rattle.std.specs.Prelude.{Some, None, find, insert, remove}
use Rattle.std.specs.List.Sorted.{IsSearchInRange, IsBinarySearchResult, IsNonDecreasingBy}
use Rattle.std.specs.Ordering.{nat_cmp, ordering_index}
use Rattle.std.proofs.lemmas.Cmp.{ranked}
use Rattle.std.proofs.lemmas.Bool.{or_cases, or_left, or_right, eqb-true, cond-true, cond-false, lt-ltb, le-ltb}
use Rattle.std.proofs.lemmas.Bool.Decides.{nat_tests}
use Rattle.pat_semantics_spec.specs.Programs.{is_among}
use Rattle.pat_semantics_spec.specs.Orders.{AscendsFrom}
use Rattle.pat_machine_spec.specs.Turns.{is_above}
use Rattle.pat_machine_indexes.specs.ready_sets.Ascending.{StandsAt, FitsAt, IsPlaceAbove}

above : (n : ℕ) (ts : List ℕ) (i d : ℕ) → AscendsFrom n ts → i < length ts → n ≤ get_or ts i d
above n [] i d a h = omega arith
above n (x ∷ xs) zero d a h = a.0
above n (x ∷ xs) (suc i) d a h =
    let first : n ≤ x = a.0 in
    let rest = above (suc x) xs i d a.1 (omega arith) in
    omega arith

rise : (n : ℕ) (ts : List ℕ) (i j d : ℕ) → AscendsFrom n ts → i ≤ j → j < length ts → get_or ts i d ≤ get_or ts j d
rise n [] i j d a le h = omega arith
rise n (x ∷ xs) zero zero d a le h = omega arith
rise n (x ∷ xs) zero (suc j) d a le h =
    let rest = above (suc x) xs j d a.1 (omega arith) in
    omega arith
rise n (x ∷ xs) (suc i) zero d a le h = omega arith
rise n (x ∷ xs) (suc i) (suc j) d a le h = rise (suc x) xs i j d a.1 (omega arith) (omega arith)

module _ (ts : List ℕ) (t : ℕ) (ascend : AscendsFrom 0 ts) where
  rising : IsNonDecreasingBy (λ e. ordering_index (nat_cmp e t)) ts
  rising i j d le h = let numbers = rise 0 ts i j d ascend le h in grind (arith, nat_tests)

  -- a search for a number ends at its place, or where it belongs
  pub searched : (r : Result ℕ ℕ) → IsSearchInRange r (length ts) → IsBinarySearchResult (λ e. nat_cmp e t) ts r → record { found : IfOk r (StandsAt ts t); absent : IfErr r (FitsAt ts t) }
  searched (Ok i) within equal = record { found = (within, λ d. ranked _ t _ (sym (equal d))); absent = tt }
  searched (Err i) within parted = record {
    found = tt;
    absent = record {
      within = within;
      front = λ k d less front. ranked _ t _ (sym ((parted rising).0 k d (omega arith) front));
      behind = λ k d less behind. ranked _ t _ (sym ((parted rising).1 k d behind less));
    };
  }

lower : (n m : ℕ) (ts : List ℕ) → n ≤ m → AscendsFrom m ts → AscendsFrom n ts
lower n m [] h a = tt
lower n m (x ∷ xs) h a = let first = a.0 in (omega arith, a.1)

-- ---- one more

more_order : (n : ℕ) (ts : List ℕ) (t i : ℕ) → AscendsFrom n ts → n ≤ t → FitsAt ts t i → AscendsFrom n (insert ts i t)
more_order n [] t zero a h f = (h, tt)
more_order n (x ∷ xs) t zero a h f = let next : t < x = f.behind zero x (omega arith) (omega arith) in (h, (omega arith, a.1))
more_order n [] t (suc i) a h f = let within = f.within in absurd (omega arith)
more_order n (x ∷ xs) t (suc i) a h f =
    let first : x < t = f.front zero x (omega arith) (omega arith) in
    let within = f.within in
    (a.0, more_order (suc x) xs t i a.1 (omega arith) (record { within = omega arith; front = λ k d less front. f.front (suc k) d (omega arith) (omega arith); behind = λ k d less behind. f.behind (suc k) d (omega arith) (omega arith) }))

pub more_in_order : (ts : List ℕ) (t i : ℕ) → AscendsFrom 0 ts → FitsAt ts t i → AscendsFrom 0 (insert ts i t)
more_in_order ts t i a f = more_order 0 ts t i a (omega arith) f

pub more_own : (ts : List ℕ) (t i : ℕ) → i ≤ length ts → is_among t (insert ts i t) ≡ true
more_own ts t zero h = or_left (nat_eq t t) (is_among t ts) (eq-eqb t t refl)
more_own [] t (suc i) h = absurd (omega arith)
more_own (x ∷ xs) t (suc i) h = or_right (nat_eq t x) (is_among t (insert xs i t)) (more_own xs t i (omega arith))

pub more_kept : (ts : List ℕ) (t i u : ℕ) → i ≤ length ts → is_among u ts ≡ true → is_among u (insert ts i t) ≡ true
more_kept ts t zero u h at = or_right (nat_eq u t) (is_among u ts) at
more_kept [] t (suc i) u h at = absurd (omega arith)
more_kept (x ∷ xs) t (suc i) u h at =
    ⊎_elim
    (λ here. or_left (nat_eq u x) (is_among u (insert xs i t)) here)
    (λ rest. or_right (nat_eq u x) (is_among u (insert xs i t)) (more_kept xs t i u (omega arith) rest))
    (or_cases (nat_eq u x) (is_among u xs) at)

-- what is among them then was, or is that one
pub more_only : (ts : List ℕ) (t i u : ℕ) → i ≤ length ts → is_among u (insert ts i t) ≡ true → (is_among u ts ≡ true) ⊎ (u ≡ t)
more_only ts t zero u h at =
    ⊎_elim
    (λ here. inr (eqb-true u t here))
    (λ rest. inl rest)
    (or_cases (nat_eq u t) (is_among u ts) at)
more_only [] t (suc i) u h at = absurd (omega arith)
more_only (x ∷ xs) t (suc i) u h at =
    ⊎_elim
    (λ here. inl (or_left (nat_eq u x) (is_among u xs) here))
    (λ rest. ⊎_elim (λ was. inl (or_right (nat_eq u x) (is_among u xs) was)) (λ same. inr same) (more_only xs t i u (omega arith) rest))
    (or_cases (nat_eq u x) (is_among u (insert xs i t)) at)

-- where it stands, it is among them
pub stands_among : (ts : List ℕ) (t i : ℕ) → StandsAt ts t i → is_among t ts ≡ true
stands_among [] t i s = let within = s.0 in absurd (omega arith)
stands_among (x ∷ xs) t zero s = or_left (nat_eq t x) (is_among t xs) (eq-eqb t x (sym (s.1 x)))
stands_among (x ∷ xs) t (suc i) s = let within = s.0 in or_right (nat_eq t x) (is_among t xs) (stands_among xs t i (omega arith, λ d. s.1 d))

-- ---- one less

less_order : (n : ℕ) (ts : List ℕ) (i : ℕ) → AscendsFrom n ts → i < length ts → AscendsFrom n (remove ts i)
less_order n [] i a h = absurd (omega arith)
less_order n (x ∷ xs) zero a h = let first : n ≤ x = a.0 in lower n (suc x) xs (omega arith) a.1
less_order n (x ∷ xs) (suc i) a h = (a.0, less_order (suc x) xs i a.1 (omega arith))

pub less_in_order : (ts : List ℕ) (i : ℕ) → AscendsFrom 0 ts → i < length ts → AscendsFrom 0 (remove ts i)
less_in_order ts i a h = less_order 0 ts i a h

pub less_kept : (ts : List ℕ) (t i u : ℕ) → StandsAt ts t i → (u ≡ t → ⊥) → is_among u ts ≡ true → is_among u (remove ts i) ≡ true
less_kept [] t i u s other at = cc
less_kept (x ∷ xs) t zero u s other at =
    ⊎_elim
    (λ here. absurd (other (eqb-true u x here ∙ s.1 x)))
    (λ rest. rest)
    (or_cases (nat_eq u x) (is_among u xs) at)
less_kept (x ∷ xs) t (suc i) u s other at =
    let within = s.0 in
    ⊎_elim
    (λ here. or_left (nat_eq u x) (is_among u (remove xs i)) here)
    (λ rest. or_right (nat_eq u x) (is_among u (remove xs i)) (less_kept xs t i u (omega arith, λ d. s.1 d) other rest))
    (or_cases (nat_eq u x) (is_among u xs) at)

pub less_only : (ts : List ℕ) (i u : ℕ) → is_among u (remove ts i) ≡ true → is_among u ts ≡ true
less_only [] zero u at = at
less_only [] (suc i) u at = at
less_only (x ∷ xs) zero u at = or_right (nat_eq u x) (is_among u xs) at
less_only (x ∷ xs) (suc i) u at =
    ⊎_elim
    (λ here. or_left (nat_eq u x) (is_among u xs) here)
    (λ rest. or_right (nat_eq u x) (is_among u xs) (less_only xs i u rest))
    (or_cases (nat_eq u x) (is_among u (remove xs i)) at)

-- none is less than where they begin
not_below : (n : ℕ) (ts : List ℕ) (u : ℕ) → AscendsFrom n ts → is_among u ts ≡ true → n ≤ u
not_below n [] u a at = cc
not_below n (x ∷ xs) u a at =
    ⊎_elim
    (λ here. let same = eqb-true u x here in let first : n ≤ x = a.0 in omega arith)
    (λ rest. let first : n ≤ x = a.0 in let more = not_below (suc x) xs u a.1 rest in omega arith)
    (or_cases (nat_eq u x) (is_among u xs) at)

gone_from : (n : ℕ) (ts : List ℕ) (t i : ℕ) → AscendsFrom n ts → StandsAt ts t i → is_among t (remove ts i) ≡ true → ⊥
gone_from n [] t i a s at = let within = s.0 in absurd (omega arith)
gone_from n (x ∷ xs) t zero a s at = let own : x ≡ t = s.1 x in let more = not_below (suc x) xs t a.1 at in omega arith
gone_from n (x ∷ xs) t (suc i) a s at =
    let within = s.0 in
    ⊎_elim
    (λ here.
    let same = eqb-true t x here in
    let own : get_or xs i 0 ≡ t = s.1 0 in
    let more = above (suc x) xs i 0 a.1 (omega arith) in
    omega arith)
    (λ rest. gone_from (suc x) xs t i a.1 (omega arith, λ d. s.1 d) rest)
    (or_cases (nat_eq t x) (is_among t (remove xs i)) at)

-- it stood there alone
pub less_gone : (ts : List ℕ) (t i : ℕ) → AscendsFrom 0 ts → StandsAt ts t i → is_among t (remove ts i) ≡ true → ⊥
less_gone ts t i a s = gone_from 0 ts t i a s

-- where a number belongs, it isn't among them
pub fits_absent : (ts : List ℕ) (t i : ℕ) → FitsAt ts t i → is_among t ts ≡ true → ⊥
fits_absent [] t i f at = cc
fits_absent (x ∷ xs) t zero f at =
    ⊎_elim
    (λ here. let same = eqb-true t x here in let next = f.behind zero x (omega arith) (omega arith) in omega arith)
    (λ rest. fits_absent xs t zero (record { within = omega arith; front = λ k d less front. absurd (omega arith); behind = λ k d less behind. f.behind (suc k) d (omega arith) (omega arith) }) rest)
    (or_cases (nat_eq t x) (is_among t xs) at)
fits_absent (x ∷ xs) t (suc i) f at =
    let within = f.within in
    ⊎_elim
    (λ here. let same = eqb-true t x here in let first = f.front zero x (omega arith) (omega arith) in omega arith)
    (λ rest. fits_absent xs t i (record { within = omega arith; front = λ k d less front. f.front (suc k) d (omega arith) (omega arith); behind = λ k d less behind. f.behind (suc k) d (omega arith) (omega arith) }) rest)
    (or_cases (nat_eq t x) (is_among t xs) at)

-- ---- those above a number

strictly : (n : ℕ) (ts : List ℕ) (i j d : ℕ) → AscendsFrom n ts → i < j → j < length ts → get_or ts i d < get_or ts j d
strictly n [] i j d a le h = omega arith
strictly n (x ∷ xs) i zero d a le h = omega arith
strictly n (x ∷ xs) zero (suc j) d a le h =
    let rest = above (suc x) xs j d a.1 (omega arith) in
    omega arith
strictly n (x ∷ xs) (suc i) (suc j) d a le h = strictly (suc x) xs i j d a.1 (omega arith) (omega arith)

-- behind where it stands
pub above_own : (ts : List ℕ) (t i : ℕ) → AscendsFrom 0 ts → StandsAt ts t i → IsPlaceAbove ts t (i + 1)
above_own ts t i a s =
    let within = s.0 in
    record {
      within = omega arith;
      front = λ k d less front. let up = rise 0 ts k i d a (omega arith) within in let own = s.1 d in omega arith;
      behind = λ k d less behind. let up = strictly 0 ts i k d a (omega arith) less in let own = s.1 d in omega arith;
    }

-- or where it belongs
pub above_fit : (ts : List ℕ) (t i : ℕ) → FitsAt ts t i → IsPlaceAbove ts t i
above_fit ts t i f = record {
  within = f.within;
  front = λ k d less front. let l = f.front k d less front in omega arith;
  behind = f.behind;
}

filter_drop : (g : ℕ → Bool) (ts : List ℕ) (i : ℕ) → i ≤ length ts → ((k d : ℕ) → k < length ts → k < i → g (get_or ts k d) ≡ false) → ((k d : ℕ) → k < length ts → i ≤ k → g (get_or ts k d) ≡ true) → filter g ts ≡ drop i ts
filter_drop g [] zero h front behind = refl
filter_drop g [] (suc i) h front behind = refl
filter_drop g (x ∷ xs) zero h front behind =
    cond-true (g x) (x ∷ filter g xs) (filter g xs) (behind zero x (omega arith) (omega arith))
    ∙ ap (λ l. x ∷ l) (filter_drop g xs zero (omega arith) (λ k d less no. absurd (omega arith)) (λ k d less le. behind (suc k) d (omega arith) (omega arith)))
filter_drop g (x ∷ xs) (suc i) h front behind =
    cond-false (g x) (x ∷ filter g xs) (filter g xs) (front zero x (omega arith) (omega arith))
    ∙ filter_drop g xs i (omega arith) (λ k d less lt. front (suc k) d (omega arith) (omega arith)) (λ k d less le. behind (suc k) d (omega arith) (omega arith))

those_above : (ts : List ℕ) (t i : ℕ) → IsPlaceAbove ts t i → filter (is_above (Some t)) ts ≡ drop i ts
those_above ts t i p = filter_drop (is_above (Some t)) ts i p.within
    (λ k d less front. let l = p.front k d less front in le-ltb t (get_or ts k d) (omega arith))
    (λ k d less behind. lt-ltb t (get_or ts k d) (p.behind k d less behind))

-- as a piece to the end
pub piece_above : (ts : List ℕ) (t i : ℕ) → IsPlaceAbove ts t i → take (length ts - i) (drop i ts) ≡ filter (is_above (Some t)) ts
piece_above ts t i p =
    let short : length (drop i ts) ≤ length ts - i = omega (arith, length-drop i ts) in
    take_all (length ts - i) (drop i ts) short ∙ sym (those_above ts t i p)

pub all_above : (ts : List ℕ) → filter (is_above None) ts ≡ ts
all_above [] = refl
all_above (x ∷ xs) = ap (λ l. x ∷ l) (all_above xs)

-- what is found among those that pass
pub find_filtered : (g f : ℕ → Bool) (ts : List ℕ) → find f (filter g ts) ≡ find (λ t. g t && f t) ts
find_filtered g f [] = refl
find_filtered g f (x ∷ xs) =
    elim (g x) as (λ b. find f (cond b (x ∷ filter g xs) (filter g xs)) ≡ cond (b && f x) (Some x) (find (λ t. g t && f t) xs)) [
      | true ↦ ap (λ o. cond (f x) (Some x) o) (find_filtered g f xs)
      | false ↦ find_filtered g f xs
    ]
