-- Sets whose products with another one are put in their places.
use Rattle.std.proofs.Common.{◌≡◌, ℕ, zero, suc, ◌+◌, ◌≤◌, ◌<◌, List, [], ◌∷◌, ◌++◌, length, get_or, map, take, drop, refl, sym, ap, ap₂, ◌∙◌, subst, arith, length-take-le}
use Rattle.std.specs.Prelude.{Result, Ok, Err, OnOk, slice_set, slice_index_or}
use Rattle.std.proofs.lemmas.List.{length-map}
use Rattle.pat_inclusion_spec.specs.LinearSets.{LinearSet}
use Rattle.pat_linear.specs.declared.set.LinearSet.{LinearSet as CodeSet}
use Rattle.pat_linear.specs.Views.{set_view, sets_view, forms_view}
use Rattle.pat_linear.specs.Rooms.{HasRoom}
use Rattle.pat_linear.specs.Flat.{lists_on, GoDown, top_of}

-- ---- one after another

made_more : (f : LinearSet → LinearSet) (xs : List CodeSet) (i : ℕ) (b d : CodeSet) → i < length xs → set_view b ≡ f (set_view (get_or xs i d)) → sets_view (take (suc i) (slice_set xs i b)) ++ map f (sets_view (drop (suc i) (slice_set xs i b))) ≡ sets_view (take i xs) ++ map f (sets_view (drop i xs))
made_more f [] i b d h e = absurd (omega arith)
made_more f (x ∷ xs) zero b d h e = ap (λ s. s ∷ map f (sets_view xs)) e
made_more f (x ∷ xs) (suc i) b d h e = ap (λ ss. set_view x ∷ ss) (made_more f xs i b d (omega arith) e)

room_next : (a : LinearSet) (xs : List CodeSet) (i : ℕ) (b : CodeSet) → i < length xs → HasRoom a (sets_view (drop i xs)) → HasRoom a (sets_view (drop (suc i) (slice_set xs i b)))
room_next a [] i b h room = absurd (omega arith)
room_next a (x ∷ xs) zero b h room = (room.0, room.1, room.2, room.3, room.4.1, room.5)
room_next a (x ∷ xs) (suc i) b h room = room_next a xs i b (omega arith) room

-- the product with the set at a place has been put there
pub count_kept : (xs : List CodeSet) (i : ℕ) (b : CodeSet) → length (slice_set xs i b) ≡ length xs
count_kept [] i b = refl
count_kept (x ∷ xs) zero b = refl
count_kept (x ∷ xs) (suc i) b = ap suc (count_kept xs i b)

pub room_kept : (a : LinearSet) (xs : List CodeSet) (i : ℕ) (b : CodeSet) → i < length xs → HasRoom a (sets_view (drop i xs)) → HasRoom a (sets_view (drop (i + 1) (slice_set xs i b)))
room_kept a xs i b h room =
    let next : suc i ≡ i + 1 = omega arith in
    subst (λ j. HasRoom a (sets_view (drop j (slice_set xs i b)))) next (room_next a xs i b h room)

pub whole_kept : (f : LinearSet → LinearSet) (xs : List CodeSet) (i : ℕ) (b old : CodeSet) (whole : List LinearSet) → i < length xs → old ≡ slice_index_or xs i old → set_view b ≡ f (set_view old) → sets_view (take i xs) ++ map f (sets_view (drop i xs)) ≡ whole → sets_view (take (i + 1) (slice_set xs i b)) ++ map f (sets_view (drop (i + 1) (slice_set xs i b))) ≡ whole
whole_kept f xs i b old whole h there is inv =
    let next : suc i ≡ i + 1 = omega arith in
    subst (λ j. sets_view (take j (slice_set xs i b)) ++ map f (sets_view (drop j (slice_set xs i b))) ≡ whole) next
    (made_more f xs i b old h (is ∙ ap (λ s. f (set_view s)) there) ∙ inv)

-- ---- on a stack

drop_view : (s : ℕ) (xs : List CodeSet) → sets_view (drop s xs) ≡ drop s (sets_view xs)
drop_view zero xs = refl
drop_view (suc s) [] = refl
drop_view (suc s) (x ∷ xs) = drop_view s xs

take_view : (s : ℕ) (xs : List CodeSet) → sets_view (take s xs) ≡ take s (sets_view xs)
take_view zero xs = refl
take_view (suc s) [] = refl
take_view (suc s) (x ∷ xs) = ap (λ ss. set_view x ∷ ss) (take_view s xs)

-- lists on a stack look the same where the sets do
same_lists : (xs ys : List CodeSet) (starts : List ℕ) → sets_view xs ≡ sets_view ys → forms_view (lists_on xs starts) ≡ forms_view (lists_on ys starts)
same_lists xs ys [] e = refl
same_lists xs ys (s ∷ ss) e =
    ap₂ (λ top forms. top ∷ forms)
    (drop_view s xs ∙ ap (drop s) e ∙ sym (drop_view s ys))
    (same_lists (take s xs) (take s ys) ss (take_view s xs ∙ ap (take s) e ∙ sym (take_view s ys)))

front_of : {A : Type 0} (s : ℕ) (xs ys : List A) → length xs ≡ s → take s (xs ++ ys) ≡ xs
front_of zero [] ys h = refl
front_of (suc s) [] ys h = absurd (omega arith)
front_of zero (x ∷ xs) ys h = absurd (omega arith)
front_of (suc s) (x ∷ xs) ys h = ap (λ front. x ∷ front) (front_of s xs ys (omega arith))

rest_of : {A : Type 0} (s : ℕ) (xs ys : List A) → length xs ≡ s → drop s (xs ++ ys) ≡ ys
rest_of zero [] ys h = refl
rest_of (suc s) [] ys h = absurd (omega arith)
rest_of zero (x ∷ xs) ys h = absurd (omega arith)
rest_of (suc s) (x ∷ xs) ys h = rest_of s xs ys (omega arith)

multiplied_on : (f : LinearSet → LinearSet) (sets new : List CodeSet) (s : ℕ) (ss : List ℕ) → s ≤ length sets → sets_view new ≡ sets_view (take s sets) ++ map f (sets_view (drop s sets)) → forms_view (lists_on new (s ∷ ss)) ≡ map f (sets_view (drop s sets)) ∷ forms_view (lists_on (take s sets) ss)
multiplied_on f sets new s ss within made =
    let front : List LinearSet = sets_view (take s sets) in
    let long : length front ≡ s = length-map (take s sets) set_view ∙ length-take-le s sets within in
    let rest : List LinearSet = map f (sets_view (drop s sets)) in
    ap₂ (λ top forms. top ∷ forms)
    (drop_view s new ∙ ap (drop s) made ∙ rest_of s front rest long)
    (same_lists (take s new) (take s sets) ss (take_view s new ∙ ap (take s) made ∙ front_of s front rest long))

-- the products stand on top
pub each_multiplied : {E : Type 0} (r : Result Unit E) (f : LinearSet → LinearSet) (sets new : List CodeSet) (starts : List ℕ) (s : ℕ) (lists : List (List CodeSet)) → lists_on sets starts ≡ lists → GoDown (length sets) starts → (ss : List ℕ) × (starts ≡ s ∷ ss) → OnOk r (sets_view new ≡ sets_view (take s sets) ++ map f (sets_view (drop s sets))) → OnOk r (forms_view (lists_on new starts) ≡ map f (sets_view (top_of lists)) ∷ forms_view (drop 1 lists))
each_multiplied (Err e) f sets new starts s lists view down top made = tt
each_multiplied (Ok u) f sets new starts s lists view down top made =
    let there : lists_on sets (s ∷ top.0) ≡ lists = subst (λ x. lists_on sets x ≡ lists) top.1 view in
    let within : GoDown (length sets) (s ∷ top.0) = subst (GoDown (length sets)) top.1 down in
    ap (λ x. forms_view (lists_on new x)) top.1
    ∙ multiplied_on f sets new s top.0 within.0 made
    ∙ ap (λ ls. map f (sets_view (top_of ls)) ∷ forms_view (drop 1 ls)) there
