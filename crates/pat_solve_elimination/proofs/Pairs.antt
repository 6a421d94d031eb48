-- Variables with their values, from a place on and before it.
use Rattle.std.proofs.Common.{◌≡◌, ℕ, zero, suc, ◌-◌, ◌<◌, ◌≤◌, List, [], ◌∷◌, ◌++◌, length, take, drop, refl, ap, arith}
use Rattle.std.specs.Prelude.{get_or, slice_set}
use Rattle.std.specs.List.{AllByRecursion}
use Rattle.std.proofs.Math.Seq.{drop-cons}
use Rattle.pat_words_spec.specs.Patterns.{Pat, Zero}
use Rattle.pat_solve_spec.specs.Assignments.{put_one, put_in_turn}
use Rattle.pat_solve_bounded.specs.replacing.Ascending.{IsAscending, paired}
use Rattle.pat_solve_elimination.specs.Rounds.{IsRebuilt}
use Rattle.pat_solve_elimination.proofs.Rebuilt.{rebuilt_one}

-- from the place on: the variable there with its value, and the others
pub pairs_next : (ks : List ℕ) (vs : List Pat) (i : ℕ) → i < length ks → i < length vs → paired (drop i ks) (drop i vs) ≡ (get_or ks i 0, get_or vs i Zero) ∷ paired (drop (suc i) ks) (drop (suc i) vs)
pairs_next ks vs i h k = rw (drop-cons ks i 0 h, drop-cons vs i Zero k) refl

pub drop_all : {A : Type 0} (xs : List A) (i : ℕ) → length xs ≤ i → drop i xs ≡ []
drop_all [] zero h = refl
drop_all [] (suc i) h = refl
drop_all (x ∷ xs) zero h = absurd (omega arith)
drop_all (x ∷ xs) (suc i) h = drop_all xs i (omega arith)

pub take_all : {A : Type 0} (xs : List A) (m : ℕ) → length xs ≤ m → take m xs ≡ xs
take_all [] zero h = refl
take_all [] (suc m) h = refl
take_all (x ∷ xs) zero h = absurd (omega arith)
take_all (x ∷ xs) (suc m) h = ap (λ r. x ∷ r) (take_all xs m (omega arith))

dropped : {A : Type 0} (xs : List A) (n : ℕ) → length (drop n xs) ≤ length xs - n
dropped xs zero = omega arith
dropped [] (suc n) = omega arith
dropped (x ∷ xs) (suc n) = let h = dropped xs n in omega (arith, h)

-- all that is left of a list from the place on
pub rest_is : {A : Type 0} (xs : List A) (n : ℕ) → take (length xs - n) (drop n xs) ≡ drop n xs
rest_is xs n = take_all (drop n xs) (length xs - n) (dropped xs n)

-- none from the end on
pub pairs_end : (ks : List ℕ) (vs : List Pat) (i : ℕ) → length ks ≤ i → paired (drop i ks) (drop i vs) ≡ []
pairs_end ks vs i h = rw (drop_all ks i h) refl

-- before the next place: those before the place, and the one there
pub pairs_before : (ks : List ℕ) (vs : List Pat) (i : ℕ) (v : Pat) → length vs ≡ i → i < length ks → paired (take (suc i) ks) (vs ++ v ∷ []) ≡ paired (take i ks) vs ++ (get_or ks i 0, v) ∷ []
pairs_before [] vs i v n h = absurd (omega arith)
pairs_before (k ∷ ks) [] zero v n h = refl
pairs_before (k ∷ ks) [] (suc i) v n h = absurd (omega arith)
pairs_before (k ∷ ks) (w ∷ vs) zero v n h = absurd (omega arith)
pairs_before (k ∷ ks) (w ∷ vs) (suc i) v n h = ap (λ r. (k, w) ∷ r) (pairs_before ks vs i v (omega arith) (omega arith))

pub all_and : (vs : List Pat) (v : Pat) → AllByRecursion IsRebuilt vs → IsRebuilt v → AllByRecursion IsRebuilt (vs ++ v ∷ [])
all_and [] v h k = (k, tt)
all_and (w ∷ vs) v h k = (h.0, all_and vs v h.1 k)

pub all_from : (vs : List Pat) (i : ℕ) → AllByRecursion IsRebuilt vs → AllByRecursion IsRebuilt (drop i vs)
all_from vs zero h = h
all_from [] (suc i) h = tt
all_from (v ∷ vs) (suc i) h = all_from vs i h.1

-- what is replaced in turn stays rebuilt
pub rebuilt_turn : (ks : List ℕ) (vs : List Pat) (f : Pat) → AllByRecursion IsRebuilt vs → IsRebuilt f → IsRebuilt (put_in_turn (paired ks vs) f)
rebuilt_turn [] vs f h k = k
rebuilt_turn (j ∷ ks) [] f h k = k
rebuilt_turn (j ∷ ks) (v ∷ vs) f h k = rebuilt_turn ks vs (put_one j v f) h.1 (rebuilt_one j v f h.0)

pub all_put : (vs : List Pat) (i : ℕ) (v : Pat) → AllByRecursion IsRebuilt vs → IsRebuilt v → AllByRecursion IsRebuilt (slice_set vs i v)
all_put [] zero v h k = h
all_put [] (suc i) v h k = h
all_put (w ∷ vs) zero v h k = (k, h.1)
all_put (w ∷ vs) (suc i) v h k = (h.0, all_put vs i v h.1 k)

-- ---- some of the ascending

pub take_ascends : (ks : List ℕ) (n : ℕ) → IsAscending ks → IsAscending (take n ks)
take_ascends ks n up i j h b =
    let at_j : get_or (take n ks) j 0 ≡ get_or ks j 0 = taken ks n j b in
    let at_i : get_or (take n ks) i 0 ≡ get_or ks i 0 = taken ks n i (omega arith) in
    rw (at_i, at_j) (up i j h (within ks n j b))
  where
    taken : (xs : List ℕ) (m k : ℕ) → k < length (take m xs) → get_or (take m xs) k 0 ≡ get_or xs k 0
    taken [] zero k h = refl
    taken [] (suc m) k h = refl
    taken (x ∷ xs) zero k h = absurd (omega arith)
    taken (x ∷ xs) (suc m) zero h = refl
    taken (x ∷ xs) (suc m) (suc k) h = taken xs m k (omega arith)

    within : (xs : List ℕ) (m k : ℕ) → k < length (take m xs) → k < length xs
    within [] zero k h = h
    within [] (suc m) k h = h
    within (x ∷ xs) zero k h = absurd (omega arith)
    within (x ∷ xs) (suc m) zero h = omega arith
    within (x ∷ xs) (suc m) (suc k) h = let r = within xs m k (omega arith) in omega arith

pub drop_ascends : (ks : List ℕ) (n : ℕ) → IsAscending ks → IsAscending (drop n ks)
drop_ascends ks zero up = up
drop_ascends [] (suc n) up = up
drop_ascends (k ∷ ks) (suc n) up = drop_ascends ks n (λ i j h b. up (suc i) (suc j) (omega arith) (omega arith))
