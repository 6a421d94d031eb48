-- Lemmas on truth values, lists and their elements.
use Rattle.std.proofs.Common.{◌≡◌, ℕ, zero, suc, ◌+◌, ◌<◌, ◌≤◌, Bool, true, false, cond, ◌||◌, not, nat_eq, List, [], ◌∷◌, ◌++◌, map, filter, Some, refl, sym, ap, ◌∙◌, subst, arith, ◌⊎◌, inl, inr, ⊎_elim}
use Rattle.std.specs.Prelude.{slice_get}
use Rattle.std.specs.List.{AllByRecursion, IsDistinct, list_any}
use Rattle.std.proofs.lemmas.Bool.{or_cases, or_left, or_right, or_parts, eq-eqb, eqb-true, eqb-false, ne_eqb, false_from_ne_true}
use Rattle.pat_semantics_spec.specs.Programs.{is_among}
use Rattle.pat_semantics_spec.specs.WellFormed.{count_if, count_among}
use Rattle.pat_semantics_spec.specs.Faults.{IsIn}

-- ---- truth values

-- a test passes or not
pub clash : {b : Bool} → b ≡ true → b ≡ false → ⊥
clash h k = cc

-- a test whose negation passes does not pass
pub not_true : (b : Bool) → not b ≡ true → b ≡ false
not_true false h = refl
not_true true h = cc

-- numbers that differ, the other way round
pub ne_turn : (a b : ℕ) → nat_eq a b ≡ false → nat_eq b a ≡ false
ne_turn a b h = ne_eqb b a (λ q. eqb-false a b h (sym q))

-- ---- numbers in a list

pub append_among : (x : ℕ) (xs ys : List ℕ) → is_among x (xs ++ ys) ≡ true → (is_among x xs ≡ true) ⊎ (is_among x ys ≡ true)
append_among x [] ys h = inr h
append_among x (z ∷ xs) ys h =
    ⊎_elim
    (λ l. inl (or_left (nat_eq x z) (is_among x xs) l))
    (λ r. ⊎_elim (λ l. inl (or_right (nat_eq x z) (is_among x xs) l)) (λ k. inr k) (append_among x xs ys r))
    (or_cases (nat_eq x z) (is_among x (xs ++ ys)) h)

pub among_first : (x : ℕ) (xs ys : List ℕ) → is_among x xs ≡ true → is_among x (xs ++ ys) ≡ true
among_first x [] ys h = cc
among_first x (z ∷ xs) ys h =
    ⊎_elim
    (λ l. or_left (nat_eq x z) (is_among x (xs ++ ys)) l)
    (λ r. or_right (nat_eq x z) (is_among x (xs ++ ys)) (among_first x xs ys r))
    (or_cases (nat_eq x z) (is_among x xs) h)

pub among_second : (x : ℕ) (xs ys : List ℕ) → is_among x ys ≡ true → is_among x (xs ++ ys) ≡ true
among_second x [] ys h = h
among_second x (z ∷ xs) ys h = or_right (nat_eq x z) (is_among x (xs ++ ys)) (among_second x xs ys h)

-- a number is in the list that it heads
pub among_head : (k : ℕ) (ks : List ℕ) → is_among k (k ∷ ks) ≡ true
among_head k ks = or_left (nat_eq k k) (is_among k ks) (eq-eqb k k refl)

-- a number of a list of two is one of them
pub among_two : (k m n : ℕ) → is_among k (m ∷ n ∷ []) ≡ true → (k ≡ m) ⊎ (k ≡ n)
among_two k m n a =
    ⊎_elim (λ l. inl (eqb-true k m l)) (λ r. ⊎_elim (λ l. inr (eqb-true k n l)) (λ w. cc) (or_cases (nat_eq k n) false r)) (or_cases (nat_eq k m) (is_among k (n ∷ [])) a)

-- a number of a list is below what all are below
pub among_below : (n a : ℕ) (xs : List ℕ) → AllByRecursion (λ x. x < n) xs → is_among a xs ≡ true → a < n
among_below n a [] below h = cc
among_below n a (x ∷ xs) below h =
    ⊎_elim
    (λ k. let same : a ≡ x = eqb-true a x k in subst (λ z. z < n) (sym same) below.0)
    (λ k. among_below n a xs below.1 k)
    (or_cases (nat_eq a x) (is_among a xs) h)

-- all are below one more
pub below_weaken : (n : ℕ) (xs : List ℕ) → AllByRecursion (λ x. x < n) xs → AllByRecursion (λ x. x < n + 1) xs
below_weaken n [] a = tt
below_weaken n (x ∷ xs) a = (let h = a.0 in omega arith, below_weaken n xs a.1)

-- ---- how often a number is in a list

-- a number of a list is counted
pub count_here : (b : ℕ) (xs : List ℕ) → is_among b xs ≡ true → 1 ≤ count_among b xs
count_here b [] h = cc
count_here b (x ∷ xs) h =
    ⊎_elim
    (λ l. let one : count_if (nat_eq b x) ≡ 1 = ap count_if l in omega arith)
    (λ r. let rest = count_here b xs r in omega arith)
    (or_cases (nat_eq b x) (is_among b xs) h)

-- a number that is counted is in the list
pub among_counted : (b : ℕ) (xs : List ℕ) → 1 ≤ count_among b xs → is_among b xs ≡ true
among_counted b [] h = absurd (omega arith)
among_counted b (x ∷ xs) h =
    (elim (nat_eq b x) as (λ t. 1 ≤ count_if t + count_among b xs → (t || is_among b xs) ≡ true) [
      | true ↦ λ k. refl
      | false ↦ λ k. among_counted b xs (omega arith)
    ]) h

-- what is counted in joined lists
pub count_append : (x : ℕ) (xs ys : List ℕ) → count_among x (xs ++ ys) ≡ count_among x xs + count_among x ys
count_append x [] ys = omega arith
count_append x (z ∷ xs) ys = let rest = count_append x xs ys in omega arith

-- ---- tests at some element

-- what is true at an element of joined lists
pub any-append : {A : Type 0} (f : A → Bool) (xs ys : List A) → list_any f (xs ++ ys) ≡ true → (list_any f xs ≡ true) ⊎ (list_any f ys ≡ true)
any-append f [] ys h = inr h
any-append f (x ∷ xs) ys h =
    ⊎_elim
    (λ k. inl (or_left (f x) (list_any f xs) k))
    (λ k. ⊎_elim (λ l. inl (or_right (f x) (list_any f xs) l)) (λ l. inr l) (any-append f xs ys k))
    (or_cases (f x) (list_any f (xs ++ ys)) h)

-- what is true at an element of the first is so of the joined lists
pub any_first : {A : Type 0} (f : A → Bool) (xs ys : List A) → list_any f xs ≡ true → list_any f (xs ++ ys) ≡ true
any_first f [] ys h = cc
any_first f (x ∷ xs) ys h =
    ⊎_elim
    (λ k. or_left (f x) (list_any f (xs ++ ys)) k)
    (λ k. or_right (f x) (list_any f (xs ++ ys)) (any_first f xs ys k))
    (or_cases (f x) (list_any f xs) h)

-- and of the second
pub any_last : {A : Type 0} (f : A → Bool) (xs ys : List A) → list_any f ys ≡ true → list_any f (xs ++ ys) ≡ true
any_last f [] ys h = h
any_last f (x ∷ xs) ys h = or_right (f x) (list_any f (xs ++ ys)) (any_last f xs ys h)

-- a test that passes somewhere passes at an element
pub any_some : {A : Type 0} (f : A → Bool) (xs : List A) → list_any f xs ≡ true → (x : A) × (f x ≡ true)
any_some f [] h = cc
any_some f (x ∷ xs) h = ⊎_elim (λ l. (x, l)) (λ r. any_some f xs r) (or_cases (f x) (list_any f xs) h)

-- a test that passes at a place passes somewhere
pub any_at : {A : Type 0} (f : A → Bool) (xs : List A) (j : ℕ) (a : A) → slice_get xs j ≡ Some a → f a ≡ true → list_any f xs ≡ true
any_at f [] j a h k = cc
any_at f (b ∷ bs) zero a h k = let same : b ≡ a = cc in or_left (f b) (list_any f bs) (ap f same ∙ k)
any_at f (b ∷ bs) (suc j) a h k = or_right (f b) (list_any f bs) (any_at f bs j a h k)

-- what passes at an element that was kept passed before
pub any_filter : {A : Type 0} (g f : A → Bool) (xs : List A) → list_any g (filter f xs) ≡ true → list_any g xs ≡ true
any_filter g f [] h = cc
any_filter g f (x ∷ xs) h =
    (elim (f x) as (λ t. list_any g (cond t (x ∷ filter f xs) (filter f xs)) ≡ true → (g x || list_any g xs) ≡ true) [
      | true ↦ λ q. ⊎_elim (λ l. or_left (g x) (list_any g xs) l) (λ r. or_right (g x) (list_any g xs) (any_filter g f xs r)) (or_cases (g x) (list_any g (filter f xs)) q)
      | false ↦ λ q. or_right (g x) (list_any g xs) (any_filter g f xs q)
    ]) h

-- ---- what holds of each element

-- of each, and of one more at the end
pub all_snoc : {A : Type 0} (P : A → Type 0) (xs : List A) (x : A) → AllByRecursion P xs → P x → AllByRecursion P (xs ++ x ∷ [])
all_snoc P [] x a h = (h, tt)
all_snoc P (y ∷ ys) x a h = (a.0, all_snoc P ys x a.1 h)

-- of each of joined lists
pub all_join : {A : Type 0} (P : A → Type 0) (xs ys : List A) → AllByRecursion P xs → AllByRecursion P ys → AllByRecursion P (xs ++ ys)
all_join P [] ys a b = b
all_join P (x ∷ xs) ys a b = (a.0, all_join P xs ys a.1 b)

-- an element goes to the front
pub all_front : {A : Type 0} (P : A → Type 0) (xs : List A) (h : A) (ys : List A) → AllByRecursion P (xs ++ h ∷ ys) → AllByRecursion P (h ∷ (xs ++ ys))
all_front P [] h ys a = a
all_front P (x ∷ xs) h ys a = let r = all_front P xs h ys a.1 in (r.0, (a.0, r.1))

-- of each that is kept
pub all_filter : {A : Type 0} (P : A → Type 0) (f : A → Bool) (xs : List A) → AllByRecursion P xs → AllByRecursion P (filter f xs)
all_filter P f [] a = tt
all_filter P f (x ∷ xs) a =
    elim (f x) as (λ t. AllByRecursion P (cond t (x ∷ filter f xs) (filter f xs))) [ true ↦ (a.0, all_filter P f xs a.1) | false ↦ all_filter P f xs a.1 ]

-- of the one at a place
pub all_at : {A : Type 0} (P : A → Type 0) (xs : List A) (j : ℕ) (x : A) → AllByRecursion P xs → slice_get xs j ≡ Some x → P x
all_at P [] j x a h = cc
all_at P (y ∷ ys) zero x a h = let same : y ≡ x = cc in subst P same a.0
all_at P (y ∷ ys) (suc j) x a h = all_at P ys j x a.1 h

-- of one that is in the list
pub is_in_all : {A : Type 0} (P : A → Type 0) (xs : List A) (x : A) → AllByRecursion P xs → IsIn x xs → P x
is_in_all P [] x a h = absurd h
is_in_all P (y ∷ ys) x a h = ⊎_elim (λ same. subst P same a.0) (λ rest. is_in_all P ys x a.1 rest) h

-- ---- different numbers

pub distinct_parts : (n : ℕ) (ns : List ℕ) → IsDistinct nat_eq (n ∷ ns) → AllByRecursion (λ k. nat_eq n k ≡ false) ns × IsDistinct nat_eq ns
unfolding IsDistinct
distinct_parts n ns d = d

pub distinct_join : (n : ℕ) (ns : List ℕ) → AllByRecursion (λ k. nat_eq n k ≡ false) ns → IsDistinct nat_eq ns → IsDistinct nat_eq (n ∷ ns)
unfolding IsDistinct
distinct_join n ns a d = (a, d)

-- one number differs from no other
pub one_distinct : (n : ℕ) → IsDistinct nat_eq (n ∷ [])
unfolding IsDistinct
one_distinct n = (tt, tt)

-- no number differs from any
pub no_distinct : IsDistinct nat_eq []
unfolding IsDistinct
no_distinct = tt

-- what is not in the list differs from each of it
pub apart_uncounted : (x : ℕ) (xs : List ℕ) → is_among x xs ≡ false → AllByRecursion (λ k. nat_eq x k ≡ false) xs
apart_uncounted x [] h = tt
apart_uncounted x (z ∷ xs) h =
    let q = or_parts (nat_eq x z) (is_among x xs) h in (q.0, apart_uncounted x xs q.1)

-- numbers that are counted at most once are different
pub counted_distinct : (xs : List ℕ) → ((x : ℕ) → is_among x xs ≡ true → count_among x xs ≤ 1) → IsDistinct nat_eq xs
counted_distinct [] h = no_distinct
counted_distinct (x ∷ xs) h =
    let off : is_among x xs ≡ false =
    false_from_ne_true (is_among x xs) (λ on.
    let more = count_here x xs on in
    let one : count_if (nat_eq x x) ≡ 1 = ap count_if (eq-eqb x x refl) in
    let most : count_if (nat_eq x x) + count_among x xs ≤ 1 = h x (or_left (nat_eq x x) (is_among x xs) (eq-eqb x x refl)) in
    omega arith) in
    distinct_join x xs (apart_uncounted x xs off)
    (counted_distinct xs (λ z on. let most : count_if (nat_eq z x) + count_among z xs ≤ 1 = h z (or_right (nat_eq z x) (is_among z xs) on) in omega arith))

pub apart_all : (n x : ℕ) (xs : List ℕ) → x < n → AllByRecursion (λ z. nat_eq x z ≡ false) xs → AllByRecursion (λ z. nat_eq x z ≡ false) (xs ++ n ∷ [])
apart_all n x xs h a = all_snoc (λ z. nat_eq x z ≡ false) xs n a (ne_eqb x n (λ e. omega arith))

-- a number above all others differs from them
pub distinct_snoc : (n : ℕ) (xs : List ℕ) → AllByRecursion (λ x. x < n) xs → IsDistinct nat_eq xs → IsDistinct nat_eq (xs ++ n ∷ [])
unfolding IsDistinct
distinct_snoc n [] below d = (tt, tt)
distinct_snoc n (x ∷ xs) below d = (apart_all n x xs below.0 d.0, distinct_snoc n xs below.1 d.1)

others_apart : (x n : ℕ) (xs : List ℕ) → AllByRecursion (λ y. nat_eq x y ≡ false) (xs ++ n ∷ []) → AllByRecursion (λ y. nat_eq x y ≡ false) xs
others_apart x n [] a = tt
others_apart x n (y ∷ ys) a = (a.0, others_apart x n ys a.1)

last_apart : (x n : ℕ) (xs : List ℕ) → AllByRecursion (λ y. nat_eq x y ≡ false) (xs ++ n ∷ []) → nat_eq n x ≡ false
last_apart x n [] a = ne_eqb n x (λ e. eqb-false x n a.0 (sym e))
last_apart x n (y ∷ ys) a = last_apart x n ys a.1

-- different numbers with one more at the end
pub distinct_front : (xs : List ℕ) (n : ℕ) → IsDistinct nat_eq (xs ++ n ∷ []) → IsDistinct nat_eq xs
unfolding IsDistinct
distinct_front [] n d = tt
distinct_front (x ∷ xs) n d = (others_apart x n xs d.0, distinct_front xs n d.1)

-- the last number differs from those before
pub distinct_back : (xs : List ℕ) (n : ℕ) → IsDistinct nat_eq (xs ++ n ∷ []) → is_among n xs ≡ false
unfolding IsDistinct
distinct_back [] n d = refl
distinct_back (x ∷ xs) n d = ap (λ b. b || is_among n xs) (last_apart x n xs d.0) ∙ distinct_back xs n d.1

-- ---- joined lists

-- only empty lists join to the empty one
pub nil_parts : {A : Type 0} (xs ys : List A) → xs ++ ys ≡ [] → (xs ≡ []) × (ys ≡ [])
nil_parts [] ys h = (refl, h)
nil_parts (x ∷ xs) ys h = cc

-- the lists before and after the only element are empty
pub only_first : {A : Type 0} (x y : A) (xs : List A) → x ∷ xs ≡ y ∷ [] → (x ≡ y) × (xs ≡ [])
only_first x y xs h = (cc, cc)

-- nothing at the end changes nothing
pub nil_right : {A : Type 0} (xs : List A) → xs ++ [] ≡ xs
nil_right [] = refl
nil_right (x ∷ xs) = ap (λ l. x ∷ l) (nil_right xs)

-- a function at each element, and one more at the end
pub map_snoc : {A B : Type 0} (f : A → B) (xs : List A) (x : A) → map f (xs ++ x ∷ []) ≡ map f xs ++ f x ∷ []
map_snoc f [] x = refl
map_snoc f (y ∷ ys) x = ap (λ l. f y ∷ l) (map_snoc f ys x)

-- a function at each element of joined lists
pub map-append : {A B : Type 0} (f : A → B) (xs ys : List A) → map f (xs ++ ys) ≡ map f xs ++ map f ys
map-append f [] ys = refl
map-append f (x ∷ xs) ys = ap (λ l. f x ∷ l) (map-append f xs ys)
