-- Tests of all elements, and of numbers that differ or ascend.
use Rattle.std.proofs.Common.{◌≡◌, ℕ, zero, suc, ◌+◌, ◌<◌, ◌≤◌, Bool, true, false, cond, not, ◌&&◌, ◌||◌, nat_eq, nat_le, if◌then◌else◌, List, [], ◌∷◌, map, Some, refl, sym, ap, ◌∙◌, subst, arith, ◌⊎◌, inl, inr, ⊎_elim}
use Rattle.std.specs.Prelude.{slice_get}
use Rattle.std.specs.List.{AllByRecursion, IsDistinct, list_all, list_any, range_with_len}
use Rattle.std.specs.Map.{lookup, keys_of}
use Rattle.std.proofs.lemmas.Bool.{and_parts, and_from, or_cases, or_left, or_right, eqb-true, eq-eqb, ne_eqb, leb-true, le-leb, cases_lt}
use Rattle.pat_semantics_spec.specs.Programs.{is_among}
use Rattle.pat_semantics_spec.specs.Orders.{AscendsFrom}
use Rattle.pat_semantics_spec.specs.Faults.{IsIn}
use Rattle.pat_semantics_laws.proofs.Lists.{distinct_parts}
use Rattle.pat_derivation_spec.specs.Same.{all_differ}
use Rattle.pat_checkpoint_spec.specs.Numbers.{ascends}

-- ---- all elements

pub all_given : {A : Type 0} (P : A → Type 0) (f : A → Bool) → ((x : A) → f x ≡ true → P x) → (xs : List A) → list_all f xs ≡ true → AllByRecursion P xs
all_given P f h [] k = tt
all_given P f h (x ∷ xs) k = let b = and_parts (f x) (list_all f xs) k in (h x b.0, all_given P f h xs b.1)

pub all_tested : {A : Type 0} (P : A → Type 0) (f : A → Bool) → ((x : A) → P x → f x ≡ true) → (xs : List A) → AllByRecursion P xs → list_all f xs ≡ true
all_tested P f h [] k = refl
all_tested P f h (x ∷ xs) k = and_from (f x) (list_all f xs) (h x k.0) (all_tested P f h xs k.1)

-- a test that each element passes
pub all_in : {A : Type 0} (f : A → Bool) (xs : List A) → ((x : A) → IsIn x xs → f x ≡ true) → list_all f xs ≡ true
all_in f [] h = refl
all_in f (x ∷ xs) h = and_from (f x) (list_all f xs) (h x (inl refl)) (all_in f xs (λ y i. h y (inr i)))

-- and passes at each
pub in_all : {A : Type 0} (f : A → Bool) (xs : List A) (x : A) → list_all f xs ≡ true → IsIn x xs → f x ≡ true
in_all f [] x h i = absurd i
in_all f (y ∷ ys) x h i =
    let b = and_parts (f y) (list_all f ys) h in
    ⊎_elim (λ same. subst (λ z. f z ≡ true) same b.0) (λ rest. in_all f ys x b.1 rest) i

-- where all pass one test and some pass another, one passes both
pub all_any : {A : Type 0} (P : Type 0) (f g : A → Bool) → ((x : A) → f x ≡ true → g x ≡ true → P) → (xs : List A) → list_all f xs ≡ true → list_any g xs ≡ true → P
all_any P f g h [] a b = cc
all_any P f g h (x ∷ xs) a b =
    let k = and_parts (f x) (list_all f xs) a in
    ⊎_elim (λ l. h x k.0 l) (λ r. all_any P f g h xs k.1 r) (or_cases (g x) (list_any g xs) b)

-- a test that passes at an element passes somewhere
pub any_in : {A : Type 0} (g : A → Bool) (xs : List A) (x : A) → IsIn x xs → g x ≡ true → list_any g xs ≡ true
any_in g [] x i h = absurd i
any_in g (y ∷ ys) x i h =
    ⊎_elim
    (λ same. or_left (g y) (list_any g ys) (subst (λ z. g z ≡ true) (sym same) h))
    (λ rest. or_right (g y) (list_any g ys) (any_in g ys x rest h))
    i

-- what passes somewhere passes at a place
pub any_place : {A : Type 0} (g : A → Bool) (xs : List A) → list_any g xs ≡ true → (j : ℕ) × (x : A) × (slice_get xs j ≡ Some x) × (g x ≡ true)
any_place g [] h = cc
any_place g (x ∷ xs) h =
    ⊎_elim
    (λ l. (0, x, refl, l))
    (λ r. let q = any_place g xs r in (suc q.0, q.1, q.2, q.3))
    (or_cases (g x) (list_any g xs) h)

pub both_tests : (a b : Bool) (P : Type 0) → (a && b) ≡ true → (a ≡ true → b ≡ true → P) → P
both_tests a b P h k = let q = and_parts a b h in k q.0 q.1

-- ---- numbers in a row

pub in_range : (a n x : ℕ) → a ≤ x → x < a + n → IsIn x (range_with_len a n)
in_range a zero x l m = absurd (omega arith)
in_range a (suc n) x l m =
    ⊎_elim
    (λ above. inr (in_range (a + 1) n x (omega arith) (omega arith)))
    (λ here. inl (let same : a ≡ x = omega arith in same))
    (cases_lt a x)

pub ascends_so : (n : ℕ) (ks : List ℕ) → ascends n ks ≡ true → AscendsFrom n ks
ascends_so n [] h = tt
ascends_so n (k ∷ ks) h = let b = and_parts (nat_le n k) (ascends (suc k) ks) h in (leb-true n k b.0, ascends_so (suc k) ks b.1)

pub so_ascends : (n : ℕ) (ks : List ℕ) → AscendsFrom n ks → ascends n ks ≡ true
so_ascends n [] h = refl
so_ascends n (k ∷ ks) h = and_from (nat_le n k) (ascends (suc k) ks) (le-leb n k h.0) (so_ascends (suc k) ks h.1)

-- ---- different numbers

apart : (x : ℕ) (ys : List ℕ) → AllByRecursion (λ y. nat_eq x y ≡ false) ys → is_among x ys ≡ false
apart x [] h = refl
apart x (y ∷ ys) h = ap (λ b. b || is_among x ys) h.0 ∙ apart x ys h.1

pub differ_so : (xs : List ℕ) → IsDistinct nat_eq xs → all_differ xs ≡ true
differ_so [] d = refl
differ_so (x ∷ xs) d =
    let q = distinct_parts x xs d in
    and_from (not (is_among x xs)) (all_differ xs) (ap not (apart x xs q.0)) (differ_so xs q.1)

-- ---- elements that are mapped

pub map_in : {A B : Type 0} (f : A → B) (xs : List A) (x : A) → IsIn x xs → IsIn (f x) (map f xs)
map_in f [] x i = absurd i
map_in f (y ∷ ys) x i = ⊎_elim (λ same. inl (ap f same)) (λ rest. inr (map_in f ys x rest)) i

pub in_map : {A B : Type 0} (f : A → B) (xs : List A) (z : B) → IsIn z (map f xs) → (x : A) × IsIn x xs × (f x ≡ z)
in_map f [] z i = absurd i
in_map f (y ∷ ys) z i =
    ⊎_elim (λ same. (y, inl refl, same)) (λ rest. let q = in_map f ys z rest in (q.0, inr q.1, q.2)) i

pub among_in : (a : ℕ) (xs : List ℕ) → is_among a xs ≡ true → IsIn a xs
among_in a [] h = cc
among_in a (x ∷ xs) h =
    ⊎_elim (λ same. inl (sym (eqb-true a x same))) (λ rest. inr (among_in a xs rest)) (or_cases (nat_eq a x) (is_among a xs) h)

pub in_among : (a : ℕ) (xs : List ℕ) → IsIn a xs → is_among a xs ≡ true
in_among a [] h = absurd h
in_among a (x ∷ xs) h =
    ⊎_elim
    (λ same. or_left (nat_eq a x) (is_among a xs) (eq-eqb a x (sym same)))
    (λ rest. or_right (nat_eq a x) (is_among a xs) (in_among a xs rest))
    h

-- ---- pairs by number

pub found_in : {A : Type 0} (es : List (ℕ × A)) (x : ℕ) (v : A) → lookup (nat_eq x) es ≡ Some v → IsIn (x, v) es
found_in [] x v h = cc
found_in {A} (e ∷ es) x v h =
    (elim (nat_eq x e.0) as (λ b. nat_eq x e.0 ≡ b → cond b (Some e.1) (lookup (nat_eq x) es) ≡ Some v → (e ≡ (x, v)) ⊎ IsIn (x, v) es) [
      | true ↦ λ q k. let value : e.1 ≡ v = cc in inl (ap (λ n. (n, e.1)) (sym (eqb-true x e.0 q)) ∙ ap (λ w. (x, w)) value)
      | false ↦ λ q k. inr (found_in es x v k)
    ]) refl h

pub keys_above : {A : Type 0} (n : ℕ) (es : List (ℕ × A)) (e : ℕ × A) → AscendsFrom n (keys_of es) → IsIn e es → n ≤ e.0
keys_above n [] e a i = absurd i
keys_above n (d ∷ ds) e a i =
    ⊎_elim
    (λ same. let l = a.0 in let key : d.0 ≡ e.0 = ap (λ (x : ℕ × _). x.0) same in omega arith)
    (λ rest. let l = a.0 in let m = keys_above (suc d.0) ds e a.1 rest in omega arith)
    i

pub in_found : {A : Type 0} (n : ℕ) (es : List (ℕ × A)) (e : ℕ × A) → AscendsFrom n (keys_of es) → IsIn e es → lookup (nat_eq e.0) es ≡ Some e.1
in_found n [] e a i = absurd i
in_found n (d ∷ ds) e a i =
    ⊎_elim
    (λ same. subst (λ x. lookup (nat_eq x.0) (d ∷ ds) ≡ Some x.1) same (ap (λ b. if b then Some d.1 else lookup (nat_eq d.0) ds) (eq-eqb d.0 d.0 refl)))
    (λ rest.
    let m = keys_above (suc d.0) ds e a.1 rest in
    let off : nat_eq e.0 d.0 ≡ false = ne_eqb e.0 d.0 (λ q. omega arith) in
    ap (λ b. if b then Some d.1 else lookup (nat_eq e.0) ds) off ∙ in_found (suc d.0) ds e a.1 rest)
    i
