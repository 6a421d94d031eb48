-- Numbers in ascending order: one more at either end, one left out, the first that passes a test.
use Rattle.std.proofs.Common.{◌≡◌, ℕ, suc, ◌<◌, ◌≤◌, Bool, true, false, cond, nat_eq, nat_lt, if◌then◌else◌, List, [], ◌∷◌, ◌++◌, map, filter, Option, Some, None, refl, sym, ap, ◌∙◌, subst, arith, ◌⊎◌, inl, inr, ⊎_elim}
use Rattle.std.specs.Prelude.{find}
use Rattle.std.specs.List.{AllByRecursion, IsDistinct}
use Rattle.std.specs.Map.{lookup, keys_of, set_value, remove_entry}
use Rattle.std.proofs.lemmas.Bool.{eqb-true, eqb-false, ne_eqb, eq-eqb, cond-true, cond-false, ltb-true, ltb-false}
use Rattle.pat_semantics_spec.specs.Values.{Value, Env, value_at, bind, bind_all}
use Rattle.pat_semantics_spec.specs.Configs.{Thread}
use Rattle.pat_semantics_spec.specs.Orders.{AscendsFrom}
use Rattle.pat_semantics_spec.specs.Steps.{numbered, bind_name}
use Rattle.pat_semantics_spec.specs.Faults.{IsIn}
use Rattle.pat_semantics_laws.proofs.Lists.{distinct_join, no_distinct, clash}

-- ---- lists of numbers

pub ascends_less : (m n : ℕ) (ks : List ℕ) → m ≤ n → AscendsFrom n ks → AscendsFrom m ks
ascends_less m n [] h a = tt
ascends_less m n (k ∷ ks) h a = (let l = a.0 in omega arith, a.1)

-- each is at or above the first number
ascends_above : (n : ℕ) (ks : List ℕ) → AscendsFrom n ks → AllByRecursion (λ k. n ≤ k) ks
ascends_above n [] a = tt
ascends_above n (k ∷ ks) a = (a.0, ascends_above n ks (let l = a.0 in ascends_less n (suc k) ks (omega arith) a.1))

-- a greater one behind
pub ascends_snoc : (m n : ℕ) (ks : List ℕ) → AscendsFrom m ks → m ≤ n → AllByRecursion (λ k. k < n) ks → AscendsFrom m (ks ++ n ∷ [])
ascends_snoc m n [] a l below = (l, tt)
ascends_snoc m n (k ∷ ks) a l below = (a.0, ascends_snoc (suc k) n ks a.1 (let h = below.0 in omega arith) below.1)

pub ascends_kept : (f : ℕ → Bool) (n : ℕ) (ks : List ℕ) → AscendsFrom n ks → AscendsFrom n (filter f ks)
ascends_kept f n [] a = tt
ascends_kept f n (k ∷ ks) a =
    elim (f k) as (λ t. AscendsFrom n (cond t (k ∷ filter f ks) (filter f ks))) [
      | true ↦ (a.0, ascends_kept f (suc k) ks a.1)
      | false ↦ let l = a.0 in ascends_less n (suc k) (filter f ks) (omega arith) (ascends_kept f (suc k) ks a.1)
    ]

above_apart : (n : ℕ) (ks : List ℕ) → AllByRecursion (λ k. suc n ≤ k) ks → AllByRecursion (λ k. nat_eq n k ≡ false) ks
above_apart n [] a = tt
above_apart n (k ∷ ks) a = (let l = a.0 in ne_eqb n k (λ e. omega arith), above_apart n ks a.1)

-- numbers in ascending order are different
pub ascends_distinct : (n : ℕ) (ks : List ℕ) → AscendsFrom n ks → IsDistinct nat_eq ks
ascends_distinct n [] a = no_distinct
ascends_distinct n (k ∷ ks) a = distinct_join k ks (above_apart k ks (ascends_above (suc k) ks a.1)) (ascends_distinct (suc k) ks a.1)

-- ---- what has a number

-- what is kept of elements whose numbers ascend
pub ascends_filter : {A : Type 0} (number : A → ℕ) (f : A → Bool) (n : ℕ) (xs : List A) → AscendsFrom n (map number xs) → AscendsFrom n (map number (filter f xs))
ascends_filter number f n [] a = tt
ascends_filter number f n (x ∷ xs) a =
    elim (f x) as (λ t. AscendsFrom n (map number (cond t (x ∷ filter f xs) (filter f xs)))) [
      | true ↦ (a.0, ascends_filter number f (suc (number x)) xs a.1)
      | false ↦ let l = a.0 in ascends_less n (suc (number x)) (map number (filter f xs)) (omega arith) (ascends_filter number f (suc (number x)) xs a.1)
    ]

-- an element of a greater number behind
pub ascends_last : {A : Type 0} (number : A → ℕ) (m : ℕ) (xs : List A) (x : A) → AscendsFrom m (map number xs) → m ≤ number x → AllByRecursion (λ y. number y < number x) xs → AscendsFrom m (map number (xs ++ x ∷ []))
ascends_last number m [] x a l below = (l, tt)
ascends_last number m (y ∷ ys) x a l below = (a.0, ascends_last number (suc (number y)) ys x a.1 (let h = below.0 in omega arith) below.1)

-- the number of an element is at or above the first
pub number_above : {A : Type 0} (number : A → ℕ) (n : ℕ) (xs : List A) (x : A) → AscendsFrom n (map number xs) → IsIn x xs → n ≤ number x
number_above number n [] x a h = absurd h
number_above number n (y ∷ ys) x a h =
    let l = a.0 in
    ⊎_elim
    (λ same. subst (λ z. n ≤ number z) same l)
    (λ rest. let above = number_above number (suc (number y)) ys x a.1 rest in omega arith)
    h

-- the first element that passes a test has the least number of those that do
pub first_is_least : {A : Type 0} (number : A → ℕ) (test : A → Bool) (n : ℕ) (xs : List A) (e x : A) → AscendsFrom n (map number xs) → find test xs ≡ Some e → IsIn x xs → test x ≡ true → number e ≤ number x
first_is_least number test n [] e x a h at pass = absurd at
first_is_least number test n (y ∷ ys) e x a h at pass =
    (elim (test y) as (λ b. test y ≡ b → cond b (Some y) (find test ys) ≡ Some e → number e ≤ number x) [
      | true ↦ λ q k.
          let same : number y ≡ number e = let is : y ≡ e = cc in ap number is in
          ⊎_elim
          (λ here. let also = ap number here in omega arith)
          (λ rest. let above = number_above number (suc (number y)) ys x a.1 rest in omega arith)
          at
      | false ↦ λ q k.
          ⊎_elim
          (λ here. absurd (clash pass (ap test (sym here) ∙ q)))
          (λ rest. first_is_least number test (suc (number y)) ys e x a.1 k rest pass)
          at
    ]) refl h

-- an element is the one that its number stands for
pub found_by_number : {A : Type 0} (number : A → ℕ) (n : ℕ) (xs : List A) (x : A) → AscendsFrom n (map number xs) → IsIn x xs → find (λ y. nat_eq (number x) (number y)) xs ≡ Some x
found_by_number number n [] x a h = absurd h
found_by_number number n (y ∷ ys) x a h =
    ⊎_elim
    (λ same.
    cond-true (nat_eq (number x) (number y)) (Some y) (find (λ z. nat_eq (number x) (number z)) ys) (eq-eqb (number x) (number y) (ap number (sym same)))
    ∙ ap (λ z. Some z) same)
    (λ rest.
    let above = number_above number (suc (number y)) ys x a.1 rest in
    cond-false (nat_eq (number x) (number y)) (Some y) (find (λ z. nat_eq (number x) (number z)) ys) (ne_eqb (number x) (number y) (λ q. omega arith))
    ∙ found_by_number number (suc (number y)) ys x a.1 rest)
    h

-- ---- threads, by their numbers

pub keys_of-set : (ts : List (ℕ × Thread)) (t : ℕ) (s : Thread) → keys_of (set_value (nat_eq t) ts s) ≡ keys_of ts
keys_of-set [] t s = refl
keys_of-set (e ∷ es) t s =
    elim (nat_eq t e.0) as (λ v. keys_of (cond v ((e.0, s) ∷ es) (e ∷ set_value (nat_eq t) es s)) ≡ keys_of (e ∷ es)) [
      | true ↦ refl
      | false ↦ ap (λ l. e.0 ∷ l) (keys_of-set es t s)
    ]

pub ascends_remove : (n : ℕ) (ts : List (ℕ × Thread)) (t : ℕ) → AscendsFrom n (keys_of ts) → AscendsFrom n (keys_of (remove_entry (nat_eq t) ts))
ascends_remove n [] t a = tt
ascends_remove n (e ∷ es) t a =
    elim (nat_eq t e.0) as (λ v. AscendsFrom n (keys_of (cond v es (e ∷ remove_entry (nat_eq t) es)))) [
      | true ↦ let l = a.0 in ascends_less n (suc e.0) (keys_of es) (omega arith) a.1
      | false ↦ (a.0, ascends_remove (suc e.0) es t a.1)
    ]

-- the thread of a number stands in the list
pub thread_is_in : (ts : List (ℕ × Thread)) (t : ℕ) (s : Thread) → lookup (nat_eq t) ts ≡ Some s → IsIn (t, s) ts
thread_is_in [] t s h = cc
thread_is_in (e ∷ es) t s h =
    (elim (nat_eq t e.0) as (λ v. nat_eq t e.0 ≡ v → cond v (Some e.1) (lookup (nat_eq t) es) ≡ Some s → (e ≡ (t, s)) ⊎ IsIn (t, s) es) [
      | true ↦ λ q k. let number : t ≡ e.0 = eqb-true t e.0 q in let same : e.1 ≡ s = cc in inl (ap (λ x. (x, e.1)) (sym number) ∙ ap (λ x. (t, x)) same)
      | false ↦ λ q k. inr (thread_is_in es t s k)
    ]) refl h

-- a thread is the one that its number stands for
pub thread_by_number : (n : ℕ) (ts : List (ℕ × Thread)) (t : ℕ) (s : Thread) → AscendsFrom n (keys_of ts) → IsIn (t, s) ts → lookup (nat_eq t) ts ≡ Some s
thread_by_number n [] t s a h = absurd h
thread_by_number n (e ∷ es) t s a h =
    ⊎_elim
    (λ same.
    cond-true (nat_eq t e.0) (Some e.1) (lookup (nat_eq t) es) (eq-eqb t e.0 (ap (λ (x : ℕ × Thread). x.0) (sym same)))
    ∙ ap (λ (x : ℕ × Thread). Some x.1) same)
    (λ rest.
    let above = number_above (λ (x : ℕ × Thread). x.0) (suc e.0) es (t, s) a.1 rest in
    cond-false (nat_eq t e.0) (Some e.1) (lookup (nat_eq t) es) (ne_eqb t e.0 (λ q. omega arith))
    ∙ thread_by_number (suc e.0) es t s a.1 rest)
    h

-- a message that is found stands in the list
pub found_is_in : {A : Type 0} (test : A → Bool) (xs : List A) (x : A) → find test xs ≡ Some x → IsIn x xs × (test x ≡ true)
found_is_in test [] x h = cc
found_is_in test (y ∷ ys) x h =
    (elim (test y) as (λ b. test y ≡ b → cond b (Some y) (find test ys) ≡ Some x → ((y ≡ x) ⊎ IsIn x ys) × (test x ≡ true)) [
      | true ↦ λ q k. let same : y ≡ x = cc in (inl same, ap test (sym same) ∙ q)
      | false ↦ λ q k. let rest = found_is_in test ys x k in (inr rest.0, rest.1)
    ]) refl h

-- ---- environments

-- a variable that has a value is at or above the first number
pub value_above : (n : ℕ) (env : Env) (z : ℕ) (v : Value) → AscendsFrom n (keys_of env) → value_at env z ≡ Some v → n ≤ z
value_above n [] z v a h = cc
value_above n (e ∷ env) z v a h =
    (elim (nat_eq z e.0) as (λ t. nat_eq z e.0 ≡ t → cond t (Some e.1) (lookup (nat_eq z) env) ≡ Some v → n ≤ z) [
      | true ↦ λ q k. let same : z ≡ e.0 = eqb-true z e.0 q in let l = a.0 in omega arith
      | false ↦ λ q k. let above = value_above (suc e.0) env z v a.1 k in let l = a.0 in omega arith
    ]) refl h

pub ascends_bind : (n : ℕ) (env : Env) (x : ℕ) (v : Value) → n ≤ x → AscendsFrom n (keys_of env) → AscendsFrom n (keys_of (bind env x v))
ascends_bind n [] x v h a = (h, tt)
ascends_bind n (e ∷ env) x v h a =
    (elim (nat_lt x e.0) as (λ t. nat_lt x e.0 ≡ t → AscendsFrom n (keys_of (if t then (x, v) ∷ e ∷ env else if nat_eq x e.0 then (x, v) ∷ env else e ∷ bind env x v))) [
      | true ↦ λ q. let l = ltb-true x e.0 q in (h, (omega arith, a.1))
      | false ↦ λ q.
          (elim (nat_eq x e.0) as (λ t. nat_eq x e.0 ≡ t → AscendsFrom n (keys_of (if t then (x, v) ∷ env else e ∷ bind env x v))) [
            | true ↦ λ r. let same : x ≡ e.0 = eqb-true x e.0 r in (h, subst (λ k. AscendsFrom (suc k) (keys_of env)) (sym same) a.1)
            | false ↦ λ r.
                let l = ltb-false x e.0 q in
                let apart : x ≡ e.0 → ⊥ = eqb-false x e.0 r in
                (a.0, ascends_bind (suc e.0) env x v (omega arith) a.1)
          ]) refl
    ]) refl

pub ascends_bind_all : (env : Env) (xs : List ℕ) (vs : List Value) → AscendsFrom 0 (keys_of env) → AscendsFrom 0 (keys_of (bind_all env xs vs))
ascends_bind_all env [] vs a = a
ascends_bind_all env (x ∷ xs) [] a = a
ascends_bind_all env (x ∷ xs) (v ∷ vs) a = ascends_bind 0 (bind_all env xs vs) x v (omega arith) (ascends_bind_all env xs vs a)

pub ascends_name : (env : Env) (x : Option ℕ) (v : Value) → AscendsFrom 0 (keys_of env) → AscendsFrom 0 (keys_of (bind_name env x v))
ascends_name env None v a = a
ascends_name env (Some x) v a = ascends_bind 0 env x v (omega arith) a

pub numbered_ascends : (k : ℕ) (vs : List Value) → AscendsFrom k (keys_of (numbered k vs))
numbered_ascends k [] = tt
numbered_ascends k (v ∷ vs) = (omega arith, numbered_ascends (suc k) vs)
