-- Messages in ascending order of number, made by insertion.
use Rattle.std.proofs.Common.{◌≡◌, ℕ, suc, ◌<◌, ◌≤◌, Bool, true, false, cond, nat_eq, nat_lt, List, [], ◌∷◌, ◌++◌, length, map, filter, refl, sym, ap, ◌∙◌, subst, arith, inl, inr, ⊎_elim}
use Rattle.std.specs.List.{AllByRecursion}
use Rattle.std.proofs.lemmas.Bool.{cond-true, cond-false, ltb-true, ltb-false, lt-ltb, le-ltb, eqb-true, ne_eqb}
use Rattle.pat_semantics_spec.specs.Configs.{Message}
use Rattle.pat_semantics_spec.specs.Orders.{AscendsFrom}
use Rattle.pat_semantics_spec.specs.Faults.{IsIn}
use Rattle.pat_machine_laws.specs.mailbox_index.Pending.{insert, in_order, Ascend}
use Rattle.pat_machine_laws.proofs.Kept.{filter_nothing}

-- numbers don't fall, from n on
abbrev pub Rises : ℕ → List Message → Type 0
Rises n [] = Unit {0}
Rises n (m ∷ ms) = (n ≤ m.number) × Rises m.number ms

pub rises_less : (k n : ℕ) (ms : List Message) → k ≤ n → Rises n ms → Rises k ms
rises_less k n [] l r = tt
rises_less k n (m ∷ ms) l r = (let a = r.0 in omega arith, r.1)

pub insert_rises : (n : ℕ) (m : Message) (ms : List Message) → n ≤ m.number → Rises n ms → Rises n (insert m ms)
insert_rises n m [] l r = (l, tt)
insert_rises n m (x ∷ xs) l r =
    (elim (nat_lt m.number x.number) as (λ v. nat_lt m.number x.number ≡ v → Rises n (cond v (m ∷ x ∷ xs) (x ∷ insert m xs))) [
      | true ↦ λ q. (l, (let less = ltb-true m.number x.number q in omega arith, r.1))
      | false ↦ λ q. (r.0, insert_rises x.number m xs (ltb-false m.number x.number q) r.1)
    ]) refl

pub in_order_rises : (ms : List Message) → Rises 0 (in_order ms)
in_order_rises [] = tt
in_order_rises (m ∷ ms) = insert_rises 0 m (in_order ms) (omega arith) (in_order_rises ms)

filter_rises : (f : Message → Bool) (n : ℕ) (ms : List Message) → Rises n ms → Rises n (filter f ms)
filter_rises f n [] r = tt
filter_rises f n (m ∷ ms) r =
    elim (f m) as (λ v. Rises n (cond v (m ∷ filter f ms) (filter f ms))) [
      | true ↦ (r.0, filter_rises f m.number ms r.1)
      | false ↦ rises_less n m.number (filter f ms) r.0 (filter_rises f m.number ms r.1)
    ]

-- ---- where a message goes

pub insert_front : (m : Message) (n : ℕ) (ms : List Message) → m.number < n → Rises n ms → insert m ms ≡ m ∷ ms
insert_front m n [] l r = refl
insert_front m n (x ∷ xs) l r = let a = r.0 in cond-true (nat_lt m.number x.number) (m ∷ x ∷ xs) (x ∷ insert m xs) (lt-ltb m.number x.number (omega arith))

pub insert_last : (m : Message) (ms : List Message) → AllByRecursion (λ n. n.number < m.number) ms → insert m ms ≡ ms ++ m ∷ []
insert_last m [] below = refl
insert_last m (x ∷ xs) below =
    let less = below.0 in
    cond-false (nat_lt m.number x.number) (m ∷ x ∷ xs) (x ∷ insert m xs) (le-ltb m.number x.number (omega arith)) ∙ ap (λ l. x ∷ l) (insert_last m xs below.1)

insert_before : (x m : Message) (ms : List Message) → x.number < m.number → insert x (ms ++ m ∷ []) ≡ insert x ms ++ m ∷ []
insert_before x m [] l = cond-true (nat_lt x.number m.number) (x ∷ m ∷ []) (m ∷ x ∷ []) (lt-ltb x.number m.number l)
insert_before x m (y ∷ ys) l =
    elim (nat_lt x.number y.number) as (λ v. cond v (x ∷ y ∷ (ys ++ m ∷ [])) (y ∷ insert x (ys ++ m ∷ [])) ≡ cond v (x ∷ y ∷ ys) (y ∷ insert x ys) ++ m ∷ []) [
      | true ↦ refl
      | false ↦ ap (λ k. y ∷ k) (insert_before x m ys l)
    ]

-- ---- what is true of each, how many, and which

insert_all : (P : Message → Type 0) (m : Message) (ms : List Message) → P m → AllByRecursion P ms → AllByRecursion P (insert m ms)
insert_all P m [] h a = (h, tt)
insert_all P m (x ∷ xs) h a =
    elim (nat_lt m.number x.number) as (λ v. AllByRecursion P (cond v (m ∷ x ∷ xs) (x ∷ insert m xs))) [ true ↦ (h, a) | false ↦ (a.0, insert_all P m xs h a.1) ]

pub in_order_all : (P : Message → Type 0) (ms : List Message) → AllByRecursion P ms → AllByRecursion P (in_order ms)
in_order_all P [] a = tt
in_order_all P (m ∷ ms) a = insert_all P m (in_order ms) a.0 (in_order_all P ms a.1)

all_insert : (P : Message → Type 0) (m : Message) (ms : List Message) → AllByRecursion P (insert m ms) → P m × AllByRecursion P ms
all_insert P m [] a = (a.0, tt)
all_insert P m (x ∷ xs) a =
    (elim (nat_lt m.number x.number) as (λ v. AllByRecursion P (cond v (m ∷ x ∷ xs) (x ∷ insert m xs)) → P m × AllByRecursion P (x ∷ xs)) [
      | true ↦ λ b. (b.0, b.1)
      | false ↦ λ b. let rest = all_insert P m xs b.1 in (rest.0, (b.0, rest.1))
    ]) a

pub all_in_order : (P : Message → Type 0) (ms : List Message) → AllByRecursion P (in_order ms) → AllByRecursion P ms
all_in_order P [] a = tt
all_in_order P (m ∷ ms) a = let q = all_insert P m (in_order ms) a in (q.0, all_in_order P ms q.1)

insert_length : (m : Message) (ms : List Message) → length (insert m ms) ≡ suc (length ms)
insert_length m [] = refl
insert_length m (x ∷ xs) =
    elim (nat_lt m.number x.number) as (λ v. length (cond v (m ∷ x ∷ xs) (x ∷ insert m xs)) ≡ suc (suc (length xs))) [ true ↦ refl | false ↦ ap suc (insert_length m xs) ]

pub in_order_length : (ms : List Message) → length (in_order ms) ≡ length ms
in_order_length [] = refl
in_order_length (m ∷ ms) = insert_length m (in_order ms) ∙ ap suc (in_order_length ms)

-- the message itself is there, and so is each other
insert_here : (m : Message) (ms : List Message) → IsIn m (insert m ms)
insert_here m [] = inl refl
insert_here m (x ∷ xs) = elim (nat_lt m.number x.number) as (λ v. IsIn m (cond v (m ∷ x ∷ xs) (x ∷ insert m xs))) [ true ↦ inl refl | false ↦ inr (insert_here m xs) ]

insert_other : (n m : Message) (ms : List Message) → IsIn n ms → IsIn n (insert m ms)
insert_other n m [] at = absurd at
insert_other n m (x ∷ xs) at =
    elim (nat_lt m.number x.number) as (λ v. IsIn n (cond v (m ∷ x ∷ xs) (x ∷ insert m xs))) [
      | true ↦ inr at
      | false ↦ ⊎_elim (λ here. inl here) (λ rest. inr (insert_other n m xs rest)) at
    ]

pub in_order_in : (m : Message) (ms : List Message) → IsIn m ms → IsIn m (in_order ms)
in_order_in m [] at = absurd at
in_order_in m (x ∷ xs) at = ⊎_elim (λ here. subst (λ z. IsIn z (insert x (in_order xs))) here (insert_here x (in_order xs))) (λ rest. insert_other m x (in_order xs) (in_order_in m xs rest)) at

-- ---- messages that are kept

insert_kept : (f : Message → Bool) (n : ℕ) (m : Message) (ms : List Message) → Rises n ms → f m ≡ true → filter f (insert m ms) ≡ insert m (filter f ms)
insert_kept f n m [] r pass = cond-true (f m) (m ∷ []) [] pass
insert_kept f n m (x ∷ xs) r pass =
    (elim (nat_lt m.number x.number) as (λ v. nat_lt m.number x.number ≡ v → filter f (cond v (m ∷ x ∷ xs) (x ∷ insert m xs)) ≡ insert m (filter f (x ∷ xs))) [
      | true ↦ λ q.
          let less = ltb-true m.number x.number q in
          cond-true (f m) (m ∷ filter f (x ∷ xs)) (filter f (x ∷ xs)) pass
          ∙ sym (insert_front m x.number (filter f (x ∷ xs)) less (filter_rises f x.number (x ∷ xs) (omega arith, r.1)))
      | false ↦ λ q.
          let rest = insert_kept f x.number m xs r.1 pass in
          (elim (f x) as (λ v. cond v (x ∷ filter f (insert m xs)) (filter f (insert m xs)) ≡ insert m (cond v (x ∷ filter f xs) (filter f xs))) [
            | true ↦ ap (λ l. x ∷ l) rest ∙ sym (cond-false (nat_lt m.number x.number) (m ∷ x ∷ filter f xs) (x ∷ insert m (filter f xs)) q)
            | false ↦ rest
          ])
    ]) refl

insert_gone : (f : Message → Bool) (m : Message) (ms : List Message) → f m ≡ false → filter f (insert m ms) ≡ filter f ms
insert_gone f m [] fail = cond-false (f m) (m ∷ []) [] fail
insert_gone f m (x ∷ xs) fail =
    elim (nat_lt m.number x.number) as (λ v. filter f (cond v (m ∷ x ∷ xs) (x ∷ insert m xs)) ≡ filter f (x ∷ xs)) [
      | true ↦ cond-false (f m) (m ∷ filter f (x ∷ xs)) (filter f (x ∷ xs)) fail
      | false ↦ ap (λ l. cond (f x) (x ∷ l) l) (insert_gone f m xs fail)
    ]

-- what is kept of messages in order is what was kept, in order
pub filter_in_order : (f : Message → Bool) (ms : List Message) → filter f (in_order ms) ≡ in_order (filter f ms)
filter_in_order f [] = refl
filter_in_order f (m ∷ ms) =
    (elim (f m) as (λ v. f m ≡ v → filter f (insert m (in_order ms)) ≡ in_order (cond v (m ∷ filter f ms) (filter f ms))) [
      | true ↦ λ q. insert_kept f 0 m (in_order ms) (in_order_rises ms) q ∙ ap (insert m) (filter_in_order f ms)
      | false ↦ λ q. insert_gone f m (in_order ms) q ∙ filter_in_order f ms
    ]) refl

-- ---- messages that ascend

pub ascends_rises : (n : ℕ) (ms : List Message) → AscendsFrom n (map (λ m. m.number) ms) → Rises n ms
ascends_rises n [] a = tt
ascends_rises n (m ∷ ms) a = (a.0, rises_less m.number (suc m.number) ms (omega arith) (ascends_rises (suc m.number) ms a.1))

-- messages that ascend are in order
pub in_order_still : (n : ℕ) (ms : List Message) → AscendsFrom n (map (λ m. m.number) ms) → in_order ms ≡ ms
in_order_still n [] a = refl
in_order_still n (m ∷ ms) a = ap (insert m) (in_order_still (suc m.number) ms a.1) ∙ insert_front m (suc m.number) ms (omega arith) (ascends_rises (suc m.number) ms a.1)

-- the message of the greatest number comes last
pub in_order_last : (m : Message) (xs ys : List Message) → AllByRecursion (λ n. n.number < m.number) xs → AllByRecursion (λ n. n.number < m.number) ys → in_order (xs ++ m ∷ ys) ≡ in_order (xs ++ ys) ++ m ∷ []
in_order_last m [] ys a b = insert_last m (in_order ys) (in_order_all (λ n. n.number < m.number) ys b)
in_order_last m (x ∷ xs) ys a b = ap (insert x) (in_order_last m xs ys a.1 b) ∙ insert_before x m (in_order (xs ++ ys)) a.0

rises_apart : (k n : ℕ) (ms : List Message) → k < n → Rises n ms → AllByRecursion (λ m. nat_eq m.number k ≡ false) ms
rises_apart k n [] l r = tt
rises_apart k n (m ∷ ms) l r = let a = r.0 in (ne_eqb m.number k (λ e. omega arith), rises_apart k m.number ms (omega arith) r.1)

-- no number stands twice
pub ascending_once : (k n : ℕ) (ms : List Message) → AscendsFrom n (map (λ m. m.number) ms) → length (filter (λ m. nat_eq m.number k) ms) ≤ 1
ascending_once k n [] a = omega arith
ascending_once k n (m ∷ ms) a =
    let f : Message → Bool = λ x. nat_eq x.number k in
    (elim (nat_eq m.number k) as (λ v. nat_eq m.number k ≡ v → length (cond v (m ∷ filter f ms) (filter f ms)) ≤ 1) [
      | true ↦ λ q.
          let same = eqb-true m.number k q in
          let none = ap length (filter_nothing f ms (rises_apart k (suc m.number) ms (omega arith) (ascends_rises (suc m.number) ms a.1))) in
          omega arith
      | false ↦ λ q. ascending_once k (suc m.number) ms a.1
    ]) refl

pub once : (k : ℕ) (ms : List Message) → Ascend (in_order ms) → length (filter (λ m. nat_eq m.number k) ms) ≤ 1
once k ms a =
    let f : Message → Bool = λ m. nat_eq m.number k in
    let same = sym (in_order_length (filter f ms)) ∙ ap length (sym (filter_in_order f ms)) in
    let most = ascending_once k 0 (in_order ms) a in
    omega arith
