-- What is kept of a list, found in it, or true of each of its elements.
use Rattle.std.proofs.Common.{◌≡◌, ℕ, zero, suc, ◌+◌, ◌≤◌, Bool, true, false, cond, ◌||◌, ◌&&◌, not, nat_eq, List, [], ◌∷◌, ◌++◌, length, filter, take, drop, Some, refl, sym, ap, ◌∙◌, arith, inl, inr, ⊎_elim, slice_get, length-append}
use Rattle.std.specs.Prelude.{find}
use Rattle.std.specs.List.{AllByRecursion, list_any}
use Rattle.std.proofs.lemmas.Bool.{cond-true, cond-false, ne_eqb}
use Rattle.std.proofs.lemmas.List.Elements.{filter-append}
use Rattle.pat_semantics_spec.specs.Faults.{IsIn}

-- ---- each element

pub all_map : {A : Type 0} (P Q : A → Type 0) → ((x : A) → P x → Q x) → (xs : List A) → AllByRecursion P xs → AllByRecursion Q xs
all_map P Q f [] a = tt
all_map P Q f (x ∷ xs) a = (f x a.0, all_map P Q f xs a.1)

-- what is true of each that is in the list
pub all_in : {A : Type 0} (P : A → Type 0) (xs : List A) → ((x : A) → IsIn x xs → P x) → AllByRecursion P xs
all_in P [] f = tt
all_in P (x ∷ xs) f = (f x (inl refl), all_in P xs (λ y at. f y (inr at)))

-- of joined lists, and so of either
pub all_parts : {A : Type 0} (P : A → Type 0) (xs ys : List A) → AllByRecursion P (xs ++ ys) → AllByRecursion P xs × AllByRecursion P ys
all_parts P [] ys a = (tt, a)
all_parts P (x ∷ xs) ys a = let rest = all_parts P xs ys a.1 in ((a.0, rest.0), rest.1)

pub in_first : {A : Type 0} (x : A) (xs ys : List A) → IsIn x xs → IsIn x (xs ++ ys)
in_first x [] ys at = absurd at
in_first x (z ∷ xs) ys at = ⊎_elim (λ here. inl here) (λ rest. inr (in_first x xs ys rest)) at

pub in_second : {A : Type 0} (x : A) (xs ys : List A) → IsIn x ys → IsIn x (xs ++ ys)
in_second x [] ys at = at
in_second x (z ∷ xs) ys at = inr (in_second x xs ys at)

-- what stands at a place is in the list
pub in_place : {A : Type 0} (xs : List A) (i : ℕ) (x : A) → slice_get xs i ≡ Some x → IsIn x xs
in_place [] i x h = cc
in_place (y ∷ ys) zero x h = let same : y ≡ x = cc in inl same
in_place (y ∷ ys) (suc i) x h = inr (in_place ys i x h)

-- and parts the list
pub at_place : {A : Type 0} (xs : List A) (i : ℕ) (x : A) → slice_get xs i ≡ Some x → xs ≡ take i xs ++ x ∷ drop (suc i) xs
at_place [] i x h = cc
at_place (y ∷ ys) zero x h = let same : y ≡ x = cc in ap (λ z. z ∷ ys) same
at_place (y ∷ ys) (suc i) x h = ap (λ l. y ∷ l) (at_place ys i x h)

-- ---- what passes a test

pub filter_each : {A : Type 0} (f : A → Bool) (xs : List A) → AllByRecursion (λ x. f x ≡ true) xs → filter f xs ≡ xs
filter_each f [] a = refl
filter_each f (x ∷ xs) a = cond-true (f x) (x ∷ filter f xs) (filter f xs) a.0 ∙ ap (λ l. x ∷ l) (filter_each f xs a.1)

pub filter_nothing : {A : Type 0} (f : A → Bool) (xs : List A) → AllByRecursion (λ x. f x ≡ false) xs → filter f xs ≡ []
filter_nothing f [] a = refl
filter_nothing f (x ∷ xs) a = cond-false (f x) (x ∷ filter f xs) (filter f xs) a.0 ∙ filter_nothing f xs a.1

-- where nothing passes, everything is kept that does not
pub keeps_all : {A : Type 0} (f : A → Bool) (xs : List A) → length (filter f xs) ≡ 0 → filter (λ x. not (f x)) xs ≡ xs
keeps_all f [] h = refl
keeps_all f (x ∷ xs) h =
    (elim (f x) as (λ v. length (cond v (x ∷ filter f xs) (filter f xs)) ≡ 0 → cond (not v) (x ∷ filter (λ y. not (f y)) xs) (filter (λ y. not (f y)) xs) ≡ x ∷ xs) [
      | true ↦ λ k. absurd (omega arith)
      | false ↦ λ k. ap (λ l. x ∷ l) (keeps_all f xs k)
    ]) h

-- where just one passes, the others are kept
pub keeps_others : {A : Type 0} (f : A → Bool) (xs : List A) (x : A) (ys : List A) → f x ≡ true → length (filter f (xs ++ x ∷ ys)) ≤ 1 → filter (λ y. not (f y)) (xs ++ x ∷ ys) ≡ xs ++ ys
keeps_others {A} f xs x ys pass once =
    let g : A → Bool = λ y. not (f y) in
    let here : filter f (x ∷ ys) ≡ x ∷ filter f ys = cond-true (f x) (x ∷ filter f ys) (filter f ys) pass in
    let parts : length (filter f (xs ++ x ∷ ys)) ≡ length (filter f xs) + suc (length (filter f ys)) =
    ap length (filter-append f xs (x ∷ ys) ∙ ap (λ l. filter f xs ++ l) here) ∙ length-append (filter f xs) (x ∷ filter f ys) in
    let gone : filter g (x ∷ ys) ≡ filter g ys = cond-false (g x) (x ∷ filter g ys) (filter g ys) (ap not pass) in
    let before : filter g xs ≡ xs = keeps_all f xs (omega arith) in
    let after : filter g ys ≡ ys = keeps_all f ys (omega arith) in
    filter-append g xs (x ∷ ys) ∙ ap (λ l. l ++ filter g (x ∷ ys)) before ∙ ap (λ l. xs ++ l) (gone ∙ after)

-- a test passes somewhere where something is kept by it
pub any_kept : {A : Type 0} (f : A → Bool) (xs : List A) → list_any f xs ≡ not (nat_eq (length (filter f xs)) 0)
any_kept f [] = refl
any_kept f (x ∷ xs) =
    elim (f x) as (λ v. (v || list_any f xs) ≡ not (nat_eq (length (cond v (x ∷ filter f xs) (filter f xs))) 0)) [
      | true ↦ sym (ap not (ne_eqb (suc (length (filter f xs))) 0 (λ e. omega arith)))
      | false ↦ any_kept f xs
    ]

-- in joined lists a test passes where it does in either
pub any_joined : {A : Type 0} (f : A → Bool) (xs ys : List A) → list_any f (xs ++ ys) ≡ (list_any f xs || list_any f ys)
any_joined f [] ys = refl
any_joined f (x ∷ xs) ys = elim (f x) as (λ v. (v || list_any f (xs ++ ys)) ≡ ((v || list_any f xs) || list_any f ys)) [ true ↦ refl | false ↦ any_joined f xs ys ]

-- ---- the first that passes

pub find_same : {A : Type 0} (f g : A → Bool) (xs : List A) → AllByRecursion (λ x. f x ≡ g x) xs → find f xs ≡ find g xs
find_same f g [] a = refl
find_same f g (x ∷ xs) a = ap (λ v. cond v (Some x) (find f xs)) a.0 ∙ ap (λ o. cond (g x) (Some x) o) (find_same f g xs a.1)

-- among those that are kept, where nothing passes that is not
pub find_kept : {A : Type 0} (f g : A → Bool) → ((x : A) → f x ≡ true → g x ≡ true) → (xs : List A) → find f xs ≡ find f (filter g xs)
find_kept f g keeps [] = refl
find_kept f g keeps (x ∷ xs) =
    (elim (g x) as (λ v. g x ≡ v → cond (f x) (Some x) (find f xs) ≡ find f (cond v (x ∷ filter g xs) (filter g xs))) [
      | true ↦ λ q. ap (λ o. cond (f x) (Some x) o) (find_kept f g keeps xs)
      | false ↦ λ q.
          (elim (f x) as (λ v. f x ≡ v → cond v (Some x) (find f xs) ≡ find f (filter g xs)) [
            | true ↦ λ r. let on = keeps x r in cc
            | false ↦ λ r. find_kept f g keeps xs
          ]) refl
    ]) refl

-- of those that pass two tests, the first is found among those that pass the one
pub find_both : {A : Type 0} (f g : A → Bool) (xs : List A) → find (λ x. g x && f x) xs ≡ find f (filter g xs)
find_both f g [] = refl
find_both f g (x ∷ xs) =
    elim (g x) as (λ v. cond (v && f x) (Some x) (find (λ y. g y && f y) xs) ≡ find f (cond v (x ∷ filter g xs) (filter g xs))) [
      | true ↦ ap (λ o. cond (f x) (Some x) o) (find_both f g xs)
      | false ↦ find_both f g xs
    ]

-- and where the one that is found is kept
pub find_still : {A : Type 0} (f g : A → Bool) (xs : List A) (x : A) → g x ≡ true → find f xs ≡ Some x → find f (filter g xs) ≡ Some x
find_still f g [] x keep h = h
find_still f g (y ∷ ys) x keep h =
    (elim (f y) as (λ v. f y ≡ v → cond v (Some y) (find f ys) ≡ Some x → find f (cond (g y) (y ∷ filter g ys) (filter g ys)) ≡ Some x) [
      | true ↦ λ q k.
          let same : y ≡ x = cc in
          ap (find f) (cond-true (g y) (y ∷ filter g ys) (filter g ys) (ap g same ∙ keep)) ∙ cond-true (f y) (Some y) (find f (filter g ys)) q ∙ ap (λ z. Some z) same
      | false ↦ λ q k.
          (elim (g y) as (λ v. find f (cond v (y ∷ filter g ys) (filter g ys)) ≡ Some x) [
            | true ↦ cond-false (f y) (Some y) (find f (filter g ys)) q ∙ find_still f g ys x keep k
            | false ↦ find_still f g ys x keep k
          ])
    ]) refl h

-- what is found is in the list, and passes
pub find_in : {A : Type 0} (f : A → Bool) (xs : List A) (x : A) → find f xs ≡ Some x → IsIn x xs × (f x ≡ true)
find_in f [] x h = cc
find_in f (y ∷ ys) x h =
    (elim (f y) as (λ v. f y ≡ v → cond v (Some y) (find f ys) ≡ Some x → IsIn x (y ∷ ys) × (f x ≡ true)) [
      | true ↦ λ q k. let same : y ≡ x = cc in (inl same, ap f (sym same) ∙ q)
      | false ↦ λ q k. let rest = find_in f ys x k in (inr rest.0, rest.1)
    ]) refl h
