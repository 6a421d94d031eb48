-- A mailbox among those that are live, which ascend.
use Rattle.std.proofs.Common.{◌≡◌, ℕ, zero, suc, ◌<◌, ◌≤◌, ◌||◌, ◌&&◌, true, false, nat_eq, nat_le, List, [], ◌∷◌, length, get_or, Some, Ok, Err, refl, sym, ap, ◌∙◌, arith, ⊎_elim}
use Rattle.std.specs.Prelude.{slice_get, unwrap_or, map, nat_lt, IsTrue}
use Rattle.std.specs.List.{list_all}
use Rattle.std.specs.Map.{keys_of}
use Rattle.std.specs.List.Sorted.{IsBinarySearchResult}
use Rattle.std.specs.Ordering.{nat_cmp}
use Rattle.std.proofs.lemmas.List.Sorted.{searched}
use Rattle.std.proofs.lemmas.Bool.{cond-true, cond-false, eq-eqb, ne_eqb, and_parts, or_parts, leb-true, cases_lt}
use Rattle.std.proofs.lemmas.Option.{slice_get-get_or, slice_get_past}
use Rattle.pat_semantics_spec.specs.Programs.{is_among}
use Rattle.pat_checkpoint_spec.specs.Checkpoints.{interface_at}
use Rattle.pat_semantics_spec.specs.Configs.{Config}
use Rattle.pat_checkpoint_spec.specs.Numbers.{ascends, thread_ascends, is_in_order, refers_to_live, numbers_hold}

-- ---- numbers that ascend

pub at_above : (n : ℕ) (ks : List ℕ) (i a : ℕ) → ascends n ks ≡ true → slice_get ks i ≡ Some a → n ≤ a
at_above n [] zero a h at = cc
at_above n [] (suc i) a h at = cc
at_above n (k ∷ ks) zero a h at =
    let first = leb-true n k (and_parts (nat_le n k) (ascends (suc k) ks) h).0 in let same : k ≡ a = cc in omega arith
at_above n (k ∷ ks) (suc i) a h at =
    let both = and_parts (nat_le n k) (ascends (suc k) ks) h in
    let first = leb-true n k both.0 in
    let above = at_above (suc k) ks i a both.1 at in
    omega arith

pub none_below : (n : ℕ) (ks : List ℕ) (a : ℕ) → ascends n ks ≡ true → a < n → is_among a ks ≡ false
none_below n [] a h less = refl
none_below n (k ∷ ks) a h less =
    let both = and_parts (nat_le n k) (ascends (suc k) ks) h in
    let first = leb-true n k both.0 in
    ap (λ b. b || is_among a ks) (ne_eqb a k (λ e. omega arith)) ∙ none_below (suc k) ks a both.1 (omega arith)

rise : (n : ℕ) (ks : List ℕ) (i j : ℕ) → ascends n ks ≡ true → i ≤ j → j < length ks → get_or ks i 0 ≤ get_or ks j 0
rise n [] i j h le less = omega arith
rise n (k ∷ ks) zero zero h le less = omega arith
rise n (k ∷ ks) zero (suc j) h le less =
    let both = and_parts (nat_le n k) (ascends (suc k) ks) h in
    let above = at_above (suc k) ks j (get_or ks j 0) both.1 (slice_get-get_or ks j 0 (omega arith)) in
    omega arith
rise n (k ∷ ks) (suc i) zero h le less = omega arith
rise n (k ∷ ks) (suc i) (suc j) h le less =
    rise (suc k) ks i j (and_parts (nat_le n k) (ascends (suc k) ks) h).1 (omega arith) (omega arith)

none_at : (ks : List ℕ) (a : ℕ) → ((i : ℕ) → i < length ks → get_or ks i 0 ≡ a → ⊥) → is_among a ks ≡ false
none_at [] a h = refl
none_at (k ∷ ks) a h =
    ap (λ b. b || is_among a ks) (ne_eqb a k (λ e. h zero (omega arith) (sym e)))
    ∙ none_at ks a (λ i less is. h (suc i) (omega arith) is)

-- ---- what a search by halves finds

module _ (ks : List ℕ) (a : ℕ) (up : ascends 0 ks ≡ true) where
  pub found : (i : ℕ) → IsBinarySearchResult (λ y. nat_cmp y a) ks (Ok i) → slice_get ks i ≡ Some a
  found i h =
      let at = searched ks a (Ok i) h (λ j k le less. rise 0 ks j k up le less) in
      slice_get-get_or ks i 0 at.0 ∙ ap Some at.1

  pub not_found : (i : ℕ) → IsBinarySearchResult (λ y. nat_cmp y a) ks (Err i) → is_among a ks ≡ false
  not_found i h =
      let at = searched ks a (Err i) h (λ j k le less. rise 0 ks j k up le less) in
      none_at ks a (λ k less is.
      ⊎_elim
      (λ front. let lower = at.1 k front in omega arith)
      (λ behind. let higher = at.2 k behind less in omega arith)
      (cases_lt k i))

-- ---- what numbers say of those that are live

pub live_ascends : (c : Config) → IsTrue (numbers_hold c) → ascends 0 c.live ≡ true
live_ascends c h =
    let order = (and_parts (is_in_order c) (refers_to_live c) h).0 in
    let k1 = ascends 0 (keys_of c.threads) in
    let k2 = ascends 0 (map (λ m. m.number) c.messages) in
    let k3 = ascends 0 c.live in
    let k4 = list_all (λ e. nat_lt e.0 c.next_thread) c.threads in
    let k5 = list_all (λ m. nat_lt m.number c.next_message) c.messages in
    let k6 = list_all (λ a. nat_lt a c.next_mailbox) c.live in
    let k7 = list_all (λ e. thread_ascends e.1) c.threads in
    let a1 = and_parts k1 (k2 && (k3 && (k4 && (k5 && (k6 && k7))))) order in
    let a2 = and_parts k2 (k3 && (k4 && (k5 && (k6 && k7)))) a1.1 in
    (and_parts k3 (k4 && (k5 && (k6 && k7))) a2.1).0

-- ---- interfaces

pub interface_there : (n : ℕ) (bs is : List ℕ) (k a : ℕ) → ascends n bs ≡ true → slice_get bs k ≡ Some a → unwrap_or (slice_get is k) 0 ≡ interface_at bs is a
interface_there n [] is zero a up at = cc
interface_there n [] is (suc k) a up at = cc
interface_there n (b ∷ bs) [] k a up at = ap (λ o. unwrap_or o 0) (slice_get_past [] k (omega arith))
interface_there n (b ∷ bs) (i ∷ is) zero a up at =
    let same : b ≡ a = cc in sym (cond-true (nat_eq a b) i (interface_at bs is a) (eq-eqb a b (sym same)))
interface_there n (b ∷ bs) (i ∷ is) (suc k) a up at =
    let both = and_parts (nat_le n b) (ascends (suc b) bs) up in
    let above = at_above (suc b) bs k a both.1 at in
    interface_there (suc b) bs is k a both.1 at
    ∙ sym (cond-false (nat_eq a b) i (interface_at bs is a) (ne_eqb a b (λ e. omega arith)))

pub no_interface : (bs is : List ℕ) (a : ℕ) → is_among a bs ≡ false → 0 ≡ interface_at bs is a
no_interface [] is a h = refl
no_interface (b ∷ bs) [] a h = refl
no_interface (b ∷ bs) (i ∷ is) a h =
    let both = or_parts (nat_eq a b) (is_among a bs) h in
    no_interface bs is a both.1 ∙ sym (cond-false (nat_eq a b) i (interface_at bs is a) both.0)
