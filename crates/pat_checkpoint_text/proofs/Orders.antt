-- Numbers in ascending order, with one more behind them.
use Rattle.std.proofs.Common.{◌≡◌, ℕ, zero, suc, ◌<◌, ◌≤◌, ⊎_elim, true, List, [], ◌∷◌, ◌++◌, length, map, get_or, refl, sym, subst, arith}
use Rattle.std.specs.Prelude.{nat_lt, slice_index_or}
use Rattle.std.proofs.lemmas.Bool.{ltb-true, cases_lt}
use Rattle.std.proofs.lemmas.List.{length-append, get_or_append_left}
use Rattle.std.proofs.Math.Seq.{get_or-append_seam}
use Rattle.pat_checkpoint_spec.specs.text.LineReading.{is_next}
use Rattle.pat_checkpoint_text.specs.Gathered.{Ascends}

-- a number is next where it is above the last
pub above_last : (ks : List ℕ) (k n : ℕ) → length ks ≡ suc k → nat_lt (slice_index_or ks k 0) n ≡ is_next ks n
above_last [] k n e = absurd (omega (arith, e))
above_last (j ∷ []) zero n e = refl
above_last (j ∷ []) (suc k) n e = absurd (omega (arith, e))
above_last (j ∷ l ∷ ks) zero n e = absurd (omega (arith, e))
above_last (j ∷ l ∷ ks) (suc k) n e = above_last (l ∷ ks) k n (omega (arith, e))

-- the same where each item has a number
pub above_last_of : {A : Type 0} (number : A → ℕ) (xs : List A) (k n : ℕ) (d : A) → length xs ≡ suc k → nat_lt (number (get_or xs k d)) n ≡ is_next (map number xs) n
above_last_of number [] k n d e = absurd (omega (arith, e))
above_last_of number (x ∷ []) zero n d e = refl
above_last_of number (x ∷ []) (suc k) n d e = absurd (omega (arith, e))
above_last_of number (x ∷ y ∷ xs) zero n d e = absurd (omega (arith, e))
above_last_of number (x ∷ y ∷ xs) (suc k) n d e = above_last_of number (y ∷ xs) k n d (omega (arith, e))

pub others_ascend : (k : ℕ) (ks : List ℕ) → Ascends (k ∷ ks) → Ascends ks
others_ascend k ks a i j l m = a (suc i) (suc j) (omega (arith, l)) (omega (arith, m))

all_below : (ks : List ℕ) (n : ℕ) → Ascends ks → is_next ks n ≡ true → (i : ℕ) → i < length ks → get_or ks i 0 < n
all_below [] n a h i l = absurd (omega (arith, l))
all_below (k ∷ []) n a h zero l = ltb-true k n h
all_below (k ∷ []) n a h (suc i) l = absurd (omega (arith, l))
all_below (k ∷ j ∷ ks) n a h zero l =
    let up : k < j = a 0 1 (omega arith) (omega arith) in
    let more = all_below (j ∷ ks) n (others_ascend k (j ∷ ks) a) h 0 (omega arith) in
    omega (arith, up, more)
all_below (k ∷ j ∷ ks) n a h (suc i) l = all_below (j ∷ ks) n (others_ascend k (j ∷ ks) a) h i (omega (arith, l))

pub still_ascends : (ks : List ℕ) (n : ℕ) → Ascends ks → is_next ks n ≡ true → Ascends (ks ++ n ∷ [])
still_ascends ks n a h i j l m =
    ⊎_elim
    (λ (s : j < length ks).
    subst (λ v. at i < v) (sym (get_or_append_left ks (n ∷ []) 0 j s)) (subst (λ u. u < get_or ks j 0) (sym (get_or_append_left ks (n ∷ []) 0 i (omega (arith, l, s)))) (a i j l s)))
    (λ (o : length ks ≤ j).
    let is : j ≡ length ks = omega (arith, o, m, length-append ks (n ∷ [])) in
    let last : at j ≡ n = subst (λ e. at e ≡ n) (sym is) (get_or-append_seam ks n [] 0) in
    let before : i < length ks = omega (arith, is, l) in
    subst (λ v. at i < v) (sym last) (subst (λ u. u < n) (sym (get_or_append_left ks (n ∷ []) 0 i before)) (all_below ks n a h i before)))
    (cases_lt j (length ks))
  where
    at : ℕ → ℕ
    at e = get_or (ks ++ n ∷ []) e 0
