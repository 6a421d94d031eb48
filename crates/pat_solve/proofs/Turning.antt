-- Items taken one after another, and what is made of them.
use Rattle.std.proofs.Common.{◌≡◌, ℕ, suc, ◌+◌, ◌<◌, List, [], ◌∷◌, ◌++◌, map, drop, get_or, Some, slice_get, slice_set, refl, sym, ap, ◌∙◌, arith}
use Rattle.std.proofs.lemmas.List.{append_assoc, drop-set-lt}
use Rattle.std.proofs.lemmas.Option.{slice_get_within, get_or_from_slice_get}
use lib.Seq.{drop-cons}

pub map_one : {A B : Type 0} (f : A → B) (xs : List A) (y : A) → map f (xs ++ y ∷ []) ≡ map f xs ++ f y ∷ []
map_one f [] y = refl
map_one f (x ∷ xs) y = ap (λ l. f x ∷ l) (map_one f xs y)

-- one is taken, and what is made of it goes behind the others
pub turn : {A B : Type 0} (F : List A → List B) (f : A → B) → ((x : A) (xs : List A) → F (x ∷ xs) ≡ f x ∷ F xs) → (xs new : List A) (n : ℕ) (x z : A) (made all : List B) → slice_get xs n ≡ Some x → new ≡ slice_set xs n z → made ++ F (drop n xs) ≡ all → (made ++ f x ∷ []) ++ F (drop (n + 1) new) ≡ all
turn F f cons xs new n x z made all at is was =
    let next : n + 1 ≡ suc n = omega arith in
    let dropped : drop (n + 1) new ≡ drop (suc n) xs =
    ap (λ l. drop (n + 1) l) is ∙ drop-set-lt (n + 1) xs n z (omega arith) ∙ ap (λ m. drop m xs) next in
    let front : drop n xs ≡ x ∷ drop (suc n) xs =
    drop-cons xs n x (slice_get_within xs n x at) ∙ ap (λ y. y ∷ drop (suc n) xs) (get_or_from_slice_get xs n x x at) in
    ap (λ l. (made ++ f x ∷ []) ++ F l) dropped
    ∙ append_assoc made (f x ∷ []) (F (drop (suc n) xs))
    ∙ ap (λ l. made ++ l) (sym (ap F front ∙ cons x (drop (suc n) xs)))
    ∙ was
