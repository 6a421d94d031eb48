-- Lists, item by item.
use Rattle.std.proofs.Common.{◌≡◌, ℕ, zero, suc, ◌+◌, ◌<◌, ◌≤◌, List, [], ◌∷◌, ◌++◌, length, get_or, drop, take, map, Some, refl, ap, subst, arith, add-one}
use Rattle.std.specs.Prelude.{slice_get}
use Rattle.std.specs.List.{AllByRecursion}
use Rattle.std.proofs.Math.Seq.{drop-cons}
use Rattle.std.proofs.Math.ListN.{drop_of_length-le}

pub drop_more : {A : Type 0} → (xs : List A) (i : ℕ) (d : A) → i < length xs → drop i xs ≡ get_or xs i d ∷ drop (i + 1) xs
drop_more xs i d h = rw (add-one, drop-cons xs i d) refl

pub drop_end : {A : Type 0} → (xs : List A) (i : ℕ) → length xs ≤ i → drop i xs ≡ []
drop_end xs i h = drop_of_length-le xs h

pub seam : {A : Type 0} → (xs : List A) (x : A) (ys : List A) → (xs ++ x ∷ []) ++ ys ≡ xs ++ x ∷ ys
seam [] x ys = refl
seam (y ∷ xs) x ys = ap (λ l. y ∷ l) (seam xs x ys)

pub map_last : {A B : Type 0} → (f : A → B) (xs : List A) (x : A) → map f (xs ++ x ∷ []) ≡ map f xs ++ f x ∷ []
map_last f [] x = refl
map_last f (y ∷ xs) x = ap (λ l. f y ∷ l) (map_last f xs x)

pub get_map : {A B : Type 0} → (f : A → B) (xs : List A) (i : ℕ) (d : A) → i < length xs → slice_get (map f xs) i ≡ Some (f (get_or xs i d))
get_map f [] i d h = absurd (omega arith)
get_map f (x ∷ xs) zero d h = refl
get_map f (x ∷ xs) (suc i) d h = get_map f xs i d (omega arith)

-- one more item is as the others
pub all_more : {A B : Type 0} → (P : B → Type 0) (f : A → B) (xs : List A) (i : ℕ) (d : A) → i < length xs → AllByRecursion P (take i (map f xs)) → P (f (get_or xs i d)) → AllByRecursion P (take (i + 1) (map f xs))
all_more {A = A} {B = B} P f xs i d h a p = subst (λ k. AllByRecursion P (take k (map f xs))) next (more xs i h a p)
  where
    next : suc i ≡ i + 1
    next = omega arith

    more : (xs : List A) (i : ℕ) → i < length xs → AllByRecursion P (take i (map f xs)) → P (f (get_or xs i d)) → AllByRecursion P (take (suc i) (map f xs))
    more [] i h a p = absurd (omega arith)
    more (x ∷ xs) zero h a p = (p, tt)
    more (x ∷ xs) (suc i) h a p = (a.0, more xs i (omega arith) a.1 p)

-- all are so
pub all_end : {A B : Type 0} → (P : B → Type 0) (f : A → B) (xs : List A) (i : ℕ) → length xs ≤ i → AllByRecursion P (take i (map f xs)) → AllByRecursion P (map f xs)
all_end P f [] i h a = tt
all_end P f (x ∷ xs) zero h a = absurd (omega arith)
all_end P f (x ∷ xs) (suc i) h a = (a.0, all_end P f xs i (omega arith) a.1)
