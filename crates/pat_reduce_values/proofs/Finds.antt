-- The first of a list that passes a test, and whether one passes.
use Rattle.std.proofs.Common.{◌≡◌, Bool, true, false, ◌||◌, List, [], ◌∷◌, ◌++◌, map, reverse, Some, None, refl, sym, ap, ◌∙◌}
use Rattle.std.specs.Prelude.{filter, if◌then◌else◌}
use Rattle.std.specs.List.{list_any, find}
use Rattle.std.proofs.lemmas.List.{map-append, reverse-append}

or_assoc : (a b c : Bool) → (a || (b || c)) ≡ ((a || b) || c)
or_assoc true b c = refl
or_assoc false b c = refl

or_comm : (a b : Bool) → (a || b) ≡ (b || a)
or_comm true true = refl
or_comm true false = refl
or_comm false true = refl
or_comm false false = refl

module _ {A : Type 0} where
  pub found_passes : (q : A → Bool) (xs : List A) (x : A) → find q xs ≡ Some x → q x ≡ true
  found_passes q [] x h = cc
  found_passes q (y ∷ xs) x h =
      (elim (q y) as (λ b. q y ≡ b → (if b then Some y else find q xs) ≡ Some x → q x ≡ true) [
        | true ↦ λ is h. let same : y ≡ x = cc in ap q (sym same) ∙ is
        | false ↦ λ is h. found_passes q xs x h
      ]) refl h

  pub found_fails : (g q : A → Bool) (xs : List A) (x : A) → list_any g xs ≡ false → find q xs ≡ Some x → g x ≡ false
  found_fails g q [] x none h = cc
  found_fails g q (y ∷ xs) x none h =
      (elim (g y) as (λ b. g y ≡ b → (b || list_any g xs) ≡ false → g x ≡ false) [
        | true ↦ λ is none. absurd cc
        | false ↦ λ is none.
            (elim (q y) as (λ b. (if b then Some y else find q xs) ≡ Some x → g x ≡ false) [
              | true ↦ λ h. let same : y ≡ x = cc in ap g (sym same) ∙ is
              | false ↦ λ h. found_fails g q xs x none h
            ]) h
      ]) refl none

  pub found_any : (q : A → Bool) (xs : List A) (x : A) → find q xs ≡ Some x → list_any q xs ≡ true
  found_any q [] x h = cc
  found_any q (y ∷ xs) x h =
      (elim (q y) as (λ b. (if b then Some y else find q xs) ≡ Some x → (b || list_any q xs) ≡ true) [
        | true ↦ λ h. refl
        | false ↦ λ h. found_any q xs x h
      ]) h

  pub none_found : (q : A → Bool) (xs : List A) → find q xs ≡ None → list_any q xs ≡ false
  none_found q [] h = refl
  none_found q (y ∷ xs) h =
      (elim (q y) as (λ b. (if b then Some y else find q xs) ≡ None → (b || list_any q xs) ≡ false) [
        | true ↦ λ h. absurd cc
        | false ↦ λ h. none_found q xs h
      ]) h

  pub find_same : (q r : A → Bool) (xs : List A) → ((x : A) → q x ≡ r x) → find q xs ≡ find r xs
  find_same q r [] same = refl
  find_same q r (y ∷ xs) same = ap (λ b. if b then Some y else find q xs) (same y) ∙ ap (λ o. if r y then Some y else o) (find_same q r xs same)

  pub any_same : (q r : A → Bool) (xs : List A) → ((x : A) → q x ≡ r x) → list_any q xs ≡ list_any r xs
  any_same q r [] same = refl
  any_same q r (y ∷ xs) same = ap (λ b. b || list_any q xs) (same y) ∙ ap (λ b. r y || b) (any_same q r xs same)

  pub any_append : (q : A → Bool) (xs ys : List A) → list_any q (xs ++ ys) ≡ (list_any q xs || list_any q ys)
  any_append q [] ys = refl
  any_append q (x ∷ xs) ys = ap (λ b. q x || b) (any_append q xs ys) ∙ or_assoc (q x) (list_any q xs) (list_any q ys)

pub filter_alike : {A : Type 0} (q r : A → Bool) (xs : List A) → ((x : A) → q x ≡ r x) → filter q xs ≡ filter r xs
filter_alike q r [] same = refl
filter_alike q r (x ∷ xs) same = ap (λ b. if b then x ∷ filter q xs else filter q xs) (same x) ∙ ap (λ l. if r x then x ∷ l else l) (filter_alike q r xs same)

pub any_map : {A B : Type 0} (q : B → Bool) (f : A → B) (xs : List A) → list_any q (map f xs) ≡ list_any (λ x. q (f x)) xs
any_map q f [] = refl
any_map q f (x ∷ xs) = ap (λ b. q (f x) || b) (any_map q f xs)

pub filter_map_same : {A B : Type 0} (q : B → Bool) (f : A → B) (xs : List A) → map f (filter (λ x. q (f x)) xs) ≡ filter q (map f xs)
filter_map_same q f [] = refl
filter_map_same q f (x ∷ xs) =
    (elim (q (f x)) as (λ b. map f (if b then x ∷ filter (λ y. q (f y)) xs else filter (λ y. q (f y)) xs) ≡ (if b then f x ∷ filter q (map f xs) else filter q (map f xs))) [
      | true ↦ ap (λ l. f x ∷ l) (filter_map_same q f xs)
      | false ↦ filter_map_same q f xs
    ])

-- whether one passes, whatever the order
pub any_reversed : {A B : Type 0} (q : B → Bool) (f : A → B) (xs : List A) → list_any q (map f (reverse xs)) ≡ list_any q (map f xs)
any_reversed q f [] = refl
any_reversed q f (x ∷ xs) =
    ap (λ l. list_any q (map f l)) (reverse-append (x ∷ []) xs)
    ∙ ap (list_any q) (map-append f (reverse xs) (x ∷ []))
    ∙ any_append q (map f (reverse xs)) (f x ∷ [])
    ∙ ap (λ b. b || (q (f x) || false)) (any_reversed q f xs)
    ∙ or_comm (list_any q (map f xs)) (q (f x) || false)
    ∙ ap (λ b. b || list_any q (map f xs)) (or_comm (q (f x)) false)
