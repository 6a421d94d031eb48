-- Messages that were sorted by number are in order.
use Rattle.std.proofs.Common.{◌≡◌, ℕ, zero, suc, ◌+◌, ◌≤◌, Bool, true, false, cond, nat_eq, List, [], ◌∷◌, ◌++◌, map, length, take, Option, filter, inl, inr, ⊎_elim, refl, sym, ap, ◌∙◌, subst, arith, eq-eqb, add-one, take_all}
use Rattle.std.specs.Prelude.{sum_by}
use Rattle.std.specs.List.{AllByRecursion}
use Rattle.std.specs.List.Sorted.{IsPermutation, IsNonDecreasingBy}
use Rattle.std.proofs.lemmas.Bool.{cond-true, cases_eq}
use Rattle.std.proofs.lemmas.List.{length-map, append-nil}
use Rattle.std.proofs.lemmas.List.Sums.{sum_by-cons}
use Rattle.std.proofs.lemmas.List.Sorted.{IsPermutation-sym, IsPermutation-map, sum_by-IsPermutation}
use Rattle.std.proofs.Permutation.{every_shuffled}
use Rattle.pat_semantics_spec.specs.Faults.{IsIn}
use Rattle.pat_semantics_spec.specs.Configs.{Message}
use Rattle.pat_semantics_spec.specs.Orders.{AscendsFrom}
use Rattle.pat_reduce.specs.declared.threads.state.Message.{Message as CodeMessage}
use Rattle.pat_reduce.specs.threads.ThreadViews.{message_view}
use Rattle.pat_machine_laws.specs.mailbox_index.Pending.{in_order, all_of, listed, messages_of, pending_at, Ascend, AreKept}
use Rattle.pat_mailboxes.specs.Mailboxes.{Mailbox, pending_at as pending_of}
use Rattle.pat_machine_indexes.specs.messages.Boxes.{box_view, boxes_view}
use Rattle.pat_machine_indexes.proofs.Boxed.{pending_view}
use Rattle.pat_machine_laws.proofs.Kept.{all_in}
use Rattle.pat_machine_laws.proofs.Insertions.{Rises, in_order_all, in_order_in, once}

all_at : {A : Type 0} (P : A → Type 0) (xs : List A) (x : A) → AllByRecursion P xs → IsIn x xs → P x
all_at P [] x a at = absurd at
all_at P (y ∷ ys) x a at = ⊎_elim (λ (here : y ≡ x). subst P here a.0) (λ rest. all_at P ys x a.1 rest) at

above : (n : ℕ) (ms : List Message) (m : Message) → AscendsFrom n (map (λ m. m.number) ms) → IsIn m ms → n ≤ m.number
above n [] m a at = absurd at
above n (x ∷ xs) m a at = ⊎_elim (λ (here : x ≡ m). let number = ap (λ (y : Message). y.number) here in let first = a.0 in omega arith) (λ rest. let more = above (suc x.number) xs m a.1 rest in let first = a.0 in omega arith) at

-- of messages that ascend, those that are the same are the same list
same_ascending : (n k : ℕ) (xs ys : List Message) → AscendsFrom n (map (λ m. m.number) xs) → AscendsFrom k (map (λ m. m.number) ys) → ((m : Message) → IsIn m xs → IsIn m ys) → ((m : Message) → IsIn m ys → IsIn m xs) → xs ≡ ys
same_ascending n k [] [] a b there back = refl
same_ascending n k [] (y ∷ ys) a b there back = absurd (back y (inl refl))
same_ascending n k (x ∷ xs) [] a b there back = absurd (there x (inl refl))
same_ascending n k (x ∷ xs) (y ∷ ys) a b there back =
    let same : x ≡ y =
    ⊎_elim (λ (e : y ≡ x). sym e)
    (λ later.
    ⊎_elim (λ (e : x ≡ y). e)
    (λ behind.
    let one = above (suc y.number) ys x b.1 later in
    let two = above (suc x.number) xs y a.1 behind in
    absurd (omega arith))
    (back y (inl refl)))
    (there x (inl refl)) in
    let number = ap (λ (m : Message). m.number) same in
    let rest : xs ≡ ys =
    same_ascending (suc x.number) (suc y.number) xs ys a.1 b.1
    (λ m at.
    ⊎_elim (λ (e : y ≡ m). let over = above (suc x.number) xs m a.1 at in let own = ap (λ (z : Message). z.number) e in absurd (omega arith)) (λ more. more) (there m (inr at)))
    (λ m at.
    ⊎_elim (λ (e : x ≡ m). let over = above (suc y.number) ys m b.1 at in let own = ap (λ (z : Message). z.number) e in absurd (omega arith)) (λ more. more) (back m (inr at))) in
    ap (λ l. x ∷ l) rest ∙ ap (λ m. m ∷ ys) same

abbrev has : ℕ → Message → Bool
has k m = nat_eq m.number k

count_is : (f : Message → Bool) (ms : List Message) → length (filter f ms) ≡ sum_by (λ m. cond (f m) 1 0) ms
count_is f [] = refl
count_is f (m ∷ ms) =
    (elim (f m) as (λ v. length (cond v (m ∷ filter f ms) (filter f ms)) ≡ (let one : ℕ = cond v 1 0 in one) + sum_by (λ m. cond (f m) 1 0) ms) [
      | true ↦ (let rest = count_is f ms in omega arith)
      | false ↦ (let rest = count_is f ms in omega arith)
    ])
    ∙ sym (sum_by-cons (λ m. cond (f m) 1 0) m ms)

fewer : (f : Message → Bool) (m : Message) (ms : List Message) → length (filter f ms) ≤ length (filter f (m ∷ ms))
fewer f m ms =
    elim (f m) as (λ v. length (filter f ms) ≤ length (cond v (m ∷ filter f ms) (filter f ms))) [
      | true ↦ omega arith
      | false ↦ omega arith
    ]

-- numbers that don't fall and don't stand twice ascend
strict : (n : ℕ) (ms : List Message) → Rises n ms → ((k : ℕ) → length (filter (has k) ms) ≤ 1) → AscendsFrom n (map (λ m. m.number) ms)
strict n [] r one = tt
strict n (m ∷ []) r one = (r.0, tt)
strict n (m ∷ x ∷ ms) r one = (r.0, strict (suc m.number) (x ∷ ms) (next_above, r.1.1) (λ k. let most = one k in let less = fewer (has k) m (x ∷ ms) in omega arith))
  where
    next_above : suc m.number ≤ x.number
    next_above =
        ⊎_elim
        (λ (same : x.number ≡ m.number).
        let own = cond-true (has m.number m) (m ∷ filter (has m.number) (x ∷ ms)) (filter (has m.number) (x ∷ ms)) (eq-eqb m.number m.number refl) in
        let next = cond-true (has m.number x) (x ∷ filter (has m.number) ms) (filter (has m.number) ms) (eq-eqb x.number m.number same) in
        let two : length (filter (has m.number) (m ∷ x ∷ ms)) ≡ suc (suc (length (filter (has m.number) ms))) = ap length own ∙ ap (λ l. suc (length l)) next in
        let most = one m.number in
        absurd (omega arith))
        (λ (apart : x.number ≡ m.number → ⊥). let le = r.1.0 in omega arith)
        (cases_eq x.number m.number)

sorted_messages : (xs ys : List Message) → IsPermutation xs ys → Rises 0 ys → Ascend (in_order xs) → ys ≡ in_order xs
sorted_messages xs ys moved rises ascend =
    let back : AllByRecursion (λ m. IsIn m (in_order xs)) ys = every_shuffled (λ m. IsIn m (in_order xs)) xs ys moved (all_in (λ m. IsIn m (in_order xs)) xs (λ m at. in_order_in m xs at)) in
    let there : AllByRecursion (λ m. IsIn m ys) (in_order xs) = in_order_all (λ m. IsIn m ys) xs (every_shuffled (λ m. IsIn m ys) ys xs (IsPermutation-sym xs ys moved) (all_in (λ m. IsIn m ys) ys (λ m at. at))) in
    let one : (k : ℕ) → length (filter (has k) ys) ≤ 1 = λ k.
    let most = once k xs ascend in
    let same : length (filter (has k) ys) ≡ length (filter (has k) xs) = count_is (has k) ys ∙ sum_by-IsPermutation (λ m. cond (has k m) 1 0) xs ys moved ∙ sym (count_is (has k) xs) in
    omega arith in
    same_ascending 0 0 ys (in_order xs) (strict 0 ys rises one) ascend (λ m at. all_at (λ x. IsIn x (in_order xs)) ys m back at) (λ m at. all_at (λ x. IsIn x ys) (in_order xs) m there at)

rises_behind : (x : CodeMessage) (xs : List CodeMessage) → IsNonDecreasingBy (λ (m : CodeMessage). m.number) (x ∷ xs) → Rises x.number (map message_view xs)
rises_behind x [] up = tt
rises_behind x (y ∷ ys) up = (up 0 1 x (omega arith) (omega arith), rises_behind y ys (λ i j d le h. up (suc i) (suc j) d (omega arith) (omega arith)))

rises_all : (xs : List CodeMessage) → IsNonDecreasingBy (λ (m : CodeMessage). m.number) xs → Rises 0 (map message_view xs)
rises_all [] up = tt
rises_all (x ∷ xs) up = (omega arith, rises_behind x xs up)

pub sorted : (xs ys : List CodeMessage) → IsPermutation xs ys → IsNonDecreasingBy (λ (m : CodeMessage). m.number) ys → Ascend (in_order (map message_view xs)) → map message_view ys ≡ in_order (map message_view xs)
sorted xs ys moved up ascend = sorted_messages (map message_view xs) (map message_view ys) (IsPermutation-map message_view xs ys moved) (rises_all ys up) ascend

-- ---- copies

grouped : (xs ys zs : List Message) → (xs ++ ys) ++ zs ≡ xs ++ (ys ++ zs)
grouped [] ys zs = refl
grouped (x ∷ xs) ys zs = ap (λ l. x ∷ l) (grouped xs ys zs)

all_next : (boxes : List (Option (List Message))) (k : ℕ) → all_of (take (suc k) boxes) ≡ all_of (take k boxes) ++ pending_at boxes k
all_next [] zero = refl
all_next [] (suc k) = refl
all_next (o ∷ os) zero = append-nil (listed o)
all_next (o ∷ os) (suc k) = ap (λ l. listed o ++ l) (all_next os k) ∙ sym (grouped (listed o) (all_of (take k os)) (pending_at os k))

pub copied_box : (ms : List (Option Mailbox)) (own new : List CodeMessage) (k : ℕ) → map message_view own ≡ all_of (take k (boxes_view ms)) → map message_view new ≡ map message_view own ++ map message_view (pending_of ms k) → map message_view new ≡ all_of (take (k + 1) (boxes_view ms))
copied_box ms own new k so more =
    more
    ∙ ap (λ l. l ++ map message_view (pending_of ms k)) so
    ∙ ap (λ l. all_of (take k (boxes_view ms)) ++ l) (sym (pending_view ms k))
    ∙ sym (ap (λ n. all_of (take n (boxes_view ms))) (add-one k) ∙ all_next (boxes_view ms) k)

pub copied_all : (ms : List (Option Mailbox)) (xs ys : List CodeMessage) (count : ℕ) → AreKept (boxes_view ms) → count ≡ length ms → map message_view xs ≡ all_of (take count (boxes_view ms)) → IsPermutation xs ys → IsNonDecreasingBy (λ (m : CodeMessage). m.number) ys
    → map message_view ys ≡ messages_of (boxes_view ms)
copied_all ms xs ys count kept is own moved up =
    let size = length-map ms box_view in
    let all : map message_view xs ≡ all_of (boxes_view ms) = own ∙ ap all_of (take_all count (boxes_view ms) (omega arith)) in
    sorted xs ys moved up (subst (λ l. Ascend (in_order l)) (sym all) kept.distinct) ∙ ap in_order all
