-- What stands among numbers that ascend is found by halving.
use Rattle.std.proofs.Common.{◌≡◌, ℕ, zero, suc, ◌<◌, ◌≤◌, ◌⊎◌, ⊎_elim, Bool, true, false, ◌||◌, List, [], ◌∷◌, length, get_or, slice_get, Some, Ok, Err, refl, sym, ap, ap₂, ◌∙◌, arith}
use Rattle.std.specs.Prelude.{nat_eq, nat_le, if◌then◌else◌}
use Rattle.std.specs.List.Sorted.{IsBinarySearchResult}
use Rattle.std.specs.Ordering.{nat_cmp}
use Rattle.std.proofs.lemmas.Bool.{ne_eqb, eq-eqb, cases_order, cond-true, cond-false, leb-true, and_parts}
use Rattle.std.proofs.lemmas.List.Sorted.{searched}
use Rattle.std.proofs.lemmas.Option.{slice_get-get_or}
use Rattle.pat_semantics_spec.specs.Programs.{is_among}
use Rattle.pat_checkpoint_spec.specs.Numbers.{ascends}
use Rattle.pat_checkpoint_spec.specs.Checkpoints.{interface_at}
use Rattle.pat_checkpoint_numbers.specs.Beside.{or_zero}

pub above : (n : ℕ) (ks : List ℕ) (i : ℕ) → ascends n ks ≡ true → i < length ks → n ≤ get_or ks i 0
above n [] i a h = omega arith
above n (k ∷ ks) zero a h = leb-true n k (and_parts (nat_le n k) (ascends (suc k) ks) a).0
above n (k ∷ ks) (suc i) a h =
    let both = and_parts (nat_le n k) (ascends (suc k) ks) a in
    let first : n ≤ k = leb-true n k both.0 in
    let later = above (suc k) ks i both.1 (omega arith) in
    omega arith

rise : (n : ℕ) (ks : List ℕ) (i j : ℕ) → ascends n ks ≡ true → i ≤ j → j < length ks → get_or ks i 0 ≤ get_or ks j 0
rise n [] i j a le h = omega arith
rise n (k ∷ ks) zero zero a le h = omega arith
rise n (k ∷ ks) zero (suc j) a le h = let later = above (suc k) ks j (and_parts (nat_le n k) (ascends (suc k) ks) a).1 (omega arith) in omega arith
rise n (k ∷ ks) (suc i) zero a le h = omega arith
rise n (k ∷ ks) (suc i) (suc j) a le h = rise (suc k) ks i j (and_parts (nat_le n k) (ascends (suc k) ks) a).1 (omega arith) (omega arith)

-- what stands nowhere is not among them
absent : (x : ℕ) (xs : List ℕ) → ((k : ℕ) → k < length xs → get_or xs k 0 ≡ x → ⊥) → is_among x xs ≡ false
absent x [] h = refl
absent x (y ∷ ys) h = ap₂ (λ a b. a || b) (ne_eqb x y (λ q. h zero (omega arith) (sym q))) (absent x ys (λ k l. h (suc k) (omega arith)))

module _ (xs : List ℕ) (x : ℕ) (up : ascends 0 xs ≡ true) where
  pub found : (i : ℕ) → IsBinarySearchResult (λ y. nat_cmp y x) xs (Ok i) → slice_get xs i ≡ Some x
  found i s = let at = searched xs x (Ok i) s (λ i j. rise 0 xs i j up) in slice_get-get_or xs i 0 at.0 ∙ ap Some at.1

  pub not_found : (i : ℕ) → IsBinarySearchResult (λ y. nat_cmp y x) xs (Err i) → is_among x xs ≡ false
  not_found i s =
      let gap = searched xs x (Err i) s (λ i j. rise 0 xs i j up) in
      absent x xs (λ k l same. ⊎_elim
      (λ (e : k ≡ i). let over = gap.2 k (omega arith) l in omega arith)
      (λ (o : (k < i) ⊎ (i < k)). ⊎_elim (λ (f : k < i). let below = gap.1 k f in omega arith) (λ (b : i < k). let over = gap.2 k (omega arith) l in omega arith) o)
      (cases_order k i))

-- what stands at a place is among them
pub stands_among : (xs : List ℕ) (i x : ℕ) → slice_get xs i ≡ Some x → is_among x xs ≡ true
stands_among [] i x h = cc
stands_among (y ∷ ys) zero x h = let same : y ≡ x = cc in ap (λ b. b || is_among x ys) (eq-eqb x y (sym same))
stands_among (y ∷ ys) (suc i) x h = ap (λ b. nat_eq x y || b) (stands_among ys i x h) ∙ always (nat_eq x y)
  where
    always : (b : Bool) → (b || true) ≡ true
    always true = refl
    always false = refl

-- ---- what stands beside live mailboxes

pub there : (n : ℕ) (live is : List ℕ) (i a : ℕ) → ascends n live ≡ true → slice_get live i ≡ Some a → interface_at live is a ≡ or_zero (slice_get is i)
there n [] is i a up h = cc
there n (b ∷ bs) [] zero a up h = refl
there n (b ∷ bs) [] (suc i) a up h = refl
there n (b ∷ bs) (k ∷ ks) zero a up h = let same : b ≡ a = cc in cond-true (nat_eq a b) k (interface_at bs ks a) (eq-eqb a b (sym same))
there n (b ∷ bs) (k ∷ ks) (suc i) a up h =
    let both = and_parts (nat_le n b) (ascends (suc b) bs) up in
    let less : suc b ≤ a = over bs (suc b) i both.1 h in
    cond-false (nat_eq a b) k (interface_at bs ks a) (ne_eqb a b (λ q. omega arith)) ∙ there (suc b) bs ks i a both.1 h
  where
    over : (xs : List ℕ) (m j : ℕ) → ascends m xs ≡ true → slice_get xs j ≡ Some a → m ≤ a
    over [] m j up h = cc
    over (x ∷ xs) m zero up h = let same : x ≡ a = cc in let low : m ≤ x = leb-true m x (and_parts (nat_le m x) (ascends (suc x) xs) up).0 in omega arith
    over (x ∷ xs) m (suc j) up h =
        let both = and_parts (nat_le m x) (ascends (suc x) xs) up in
        let low : m ≤ x = leb-true m x both.0 in
        let more = over xs (suc x) j both.1 h in
        omega arith

pub not_there : (live is : List ℕ) (a : ℕ) → is_among a live ≡ false → interface_at live is a ≡ 0
not_there [] is a h = refl
not_there (b ∷ bs) [] a h = refl
not_there (b ∷ bs) (k ∷ ks) a h =
    (elim (nat_eq a b) as (λ t. (t || is_among a bs) ≡ false → (if t then k else interface_at bs ks a) ≡ 0) [
      | true ↦ λ h. absurd cc
      | false ↦ λ h. not_there bs ks a h
    ]) h

pub beside : (live is : List ℕ) (i a : ℕ) → ascends 0 live ≡ true → slice_get live i ≡ Some a → interface_at live is a ≡ or_zero (slice_get is i)
beside live is i a up h = there 0 live is i a up h

read_is : (is : List ℕ) (i : ℕ) → or_zero (slice_get is i) ≡ get_or is i 0
read_is [] zero = refl
read_is [] (suc i) = refl
read_is (k ∷ ks) zero = refl
read_is (k ∷ ks) (suc i) = read_is ks i

pub read_beside : (live is : List ℕ) (i a : ℕ) → ascends 0 live ≡ true → slice_get live i ≡ Some a → get_or is i 0 ≡ interface_at live is a
read_beside live is i a up h = sym (there 0 live is i a up h ∙ read_is is i)
