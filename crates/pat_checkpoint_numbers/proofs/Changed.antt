-- Numbers beside live mailboxes, and one of them that is changed.
use Rattle.std.proofs.Common.{◌≡◌, ℕ, zero, suc, ◌+◌, ◌≤◌, Bool, true, false, ◌||◌, ◌&&◌, List, [], ◌∷◌, ◌++◌, length, slice_get, slice_set, Some, refl, ap, ◌∙◌, subst, arith}
use Rattle.std.specs.Prelude.{nat_eq, nat_le, if◌then◌else◌}
use Rattle.std.specs.List.{list_all}
use Rattle.std.proofs.lemmas.Bool.{ne_eqb, eq-eqb, eqb-true, leb-true, and_parts}
use Rattle.std.proofs.lemmas.List.Folds.{list_all-append}
use Rattle.pat_checkpoint_spec.specs.Numbers.{ascends}
use Rattle.pat_checkpoint_spec.specs.Checkpoints.{interface_at}

abbrev pub are_zero : List ℕ → Bool
are_zero is = list_all (λ k. nat_eq k 0) is

pub zero_more : (is : List ℕ) → are_zero is ≡ true → are_zero (is ++ 0 ∷ []) ≡ true
zero_more is h = list_all-append (λ k. nat_eq k 0) is (0 ∷ []) ∙ ap (λ b. b && true) h

-- where all are 0, so is each
pub zero_beside : (live is : List ℕ) (b : ℕ) → are_zero is ≡ true → interface_at live is b ≡ 0
zero_beside [] is b h = refl
zero_beside (x ∷ xs) [] b h = refl
zero_beside (x ∷ xs) (k ∷ ks) b h =
    let both = and_parts (nat_eq k 0) (are_zero ks) h in
    (elim (nat_eq b x) as (λ t. (if t then k else interface_at xs ks b) ≡ 0) [
      | true ↦ eqb-true k 0 both.0
      | false ↦ zero_beside xs ks b both.1
    ])

-- and none of them is the number of the first turn
pub zero_unmarked : (live is : List ℕ) (b : ℕ) → are_zero is ≡ true → nat_eq (interface_at live is b) 1 ≡ false
zero_unmarked live is b h = ap (λ k. nat_eq k 1) (zero_beside live is b h)

over : (xs : List ℕ) (m j a : ℕ) → ascends m xs ≡ true → slice_get xs j ≡ Some a → m ≤ a
over [] m j a up h = cc
over (x ∷ xs) m zero a up h = let same : x ≡ a = cc in let low : m ≤ x = leb-true m x (and_parts (nat_le m x) (ascends (suc x) xs) up).0 in omega arith
over (x ∷ xs) m (suc j) a up h =
    let both = and_parts (nat_le m x) (ascends (suc x) xs) up in
    let low : m ≤ x = leb-true m x both.0 in
    let more = over xs (suc x) j a both.1 h in
    omega arith

either : (s : Bool) (t k : ℕ) (r : ℕ) → (if s then t else r) ≡ (if s then t else (if s then k else r))
either true t k r = refl
either false t k r = refl

turned : (s u : Bool) (t k r : ℕ) → (s ≡ true → u ≡ true → ⊥) → (if u then k else (if s then t else r)) ≡ (if s then t else (if u then k else r))
turned true true t k r h = absurd (h refl refl)
turned true false t k r h = refl
turned false true t k r h = refl
turned false false t k r h = refl

-- one number is changed, that of the mailbox at the place
pub changed : (n : ℕ) (live is : List ℕ) (i a t b : ℕ) → ascends n live ≡ true → slice_get live i ≡ Some a → length is ≡ length live → interface_at live (slice_set is i t) b ≡ (if nat_eq b a then t else interface_at live is b)
changed n [] is i a t b up h len = cc
changed n (x ∷ xs) [] i a t b up h len = absurd (omega arith)
changed n (x ∷ xs) (k ∷ ks) zero a t b up h len =
    let same : x ≡ a = cc in
    subst (λ y. (if nat_eq b x then t else interface_at xs ks b) ≡ (if nat_eq b y then t else (if nat_eq b x then k else interface_at xs ks b))) same (either (nat_eq b x) t k (interface_at xs ks b))
changed n (x ∷ xs) (k ∷ ks) (suc i) a t b up h len =
    let both = and_parts (nat_le n x) (ascends (suc x) xs) up in
    let less : suc x ≤ a = over xs (suc x) i a both.1 h in
    ap (λ r. if nat_eq b x then k else r) (changed (suc x) xs ks i a t b both.1 h (omega arith))
    ∙ turned (nat_eq b a) (nat_eq b x) t k (interface_at xs ks b) (λ p q. let one : b ≡ a = eqb-true b a p in let other : b ≡ x = eqb-true b x q in omega arith)

-- ---- whether a number is that of the turn

pub none_of : (k turn : ℕ) → k ≤ turn → nat_eq k (turn + 1) ≡ false
none_of k turn le = ne_eqb k (turn + 1) (λ q. omega arith)

pub or_turn : (s : Bool) (k turn : ℕ) → nat_eq (if s then turn else k) turn ≡ (s || nat_eq k turn)
or_turn true k turn = eq-eqb turn turn refl
or_turn false k turn = refl

pub not_above : (s : Bool) (k turn : ℕ) → k ≤ turn → (if s then turn else k) ≤ turn
not_above true k turn le = omega arith
not_above false k turn le = le
