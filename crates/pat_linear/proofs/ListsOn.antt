-- Lists of sets one behind another: what becomes of them when the last one changes.
use Rattle.std.proofs.Common.{◌≡◌, ℕ, zero, suc, ◌-◌, ◌≤◌, ◌<◌, List, [], ◌∷◌, ◌++◌, length, take, drop, refl, sym, ap, ap₂, ◌∙◌, subst, arith, take-append-drop, take-take, length-append, length-drop, length-take-le}
use Rattle.std.specs.Prelude.{Result, Ok, Err, OnOk, OnErr, Some, slice_get, remove}
use Rattle.std.proofs.lemmas.List.{take-append-le, drop-append-le}
use Rattle.pat_linear.specs.declared.set.LinearSet.{LinearSet}
use Rattle.pat_linear.specs.Flat.{lists_on, GoDown, top_of, Unites, TakesFirst}

-- ---- a further set

down_further : (sets : List LinearSet) (starts : List ℕ) (lists : List (List LinearSet)) (set : LinearSet) → lists_on sets starts ≡ lists → GoDown (length sets) starts → 1 ≤ length lists → GoDown (length (sets ++ set ∷ [])) starts
down_further sets [] lists set view down some = let none : 0 ≡ length lists = ap length view in absurd (omega arith)
down_further sets (s ∷ ss) lists set view down some =
    let longer = length-append sets (set ∷ []) in let below = down.0 in (omega arith, down.1)

list_further : (sets : List LinearSet) (starts : List ℕ) (lists : List (List LinearSet)) (set : LinearSet) → lists_on sets starts ≡ lists → GoDown (length sets) starts → 1 ≤ length lists → lists_on (sets ++ set ∷ []) starts ≡ (top_of lists ++ set ∷ []) ∷ drop 1 lists
list_further sets [] lists set view down some = let none : 0 ≡ length lists = ap length view in absurd (omega arith)
list_further sets (s ∷ ss) lists set view down some =
    ap₂ (λ top front. top ∷ lists_on front ss) (drop-append-le s sets (set ∷ []) down.0) (take-append-le s sets (set ∷ []) down.0)
    ∙ ap (λ ls. (top_of ls ++ set ∷ []) ∷ drop 1 ls) view

-- the places still go down once a set was to be appended
pub pushed_down : {E : Type 0} (r : Result Unit E) (sets new : List LinearSet) (starts : List ℕ) (lists : List (List LinearSet)) (set : LinearSet) → OnOk r (new ≡ sets ++ set ∷ []) → OnErr r (new ≡ sets) → lists_on sets starts ≡ lists → GoDown (length sets) starts → 1 ≤ length lists → GoDown (length new) starts
pushed_down (Ok u) sets new starts lists set ok err view down some =
    subst (λ (xs : List LinearSet). GoDown (length xs) starts) (sym ok) (down_further sets starts lists set view down some)
pushed_down (Err e) sets new starts lists set ok err view down some =
    subst (λ (xs : List LinearSet). GoDown (length xs) starts) (sym err) down

pub pushed : {E : Type 0} (r : Result Unit E) (sets new : List LinearSet) (starts : List ℕ) (lists : List (List LinearSet)) (set : LinearSet) → OnOk r (new ≡ sets ++ set ∷ []) → lists_on sets starts ≡ lists → GoDown (length sets) starts → 1 ≤ length lists → OnOk r (lists_on new starts ≡ (top_of lists ++ set ∷ []) ∷ drop 1 lists)
pushed (Ok u) sets new starts lists set ok view down some =
    ap (λ xs. lists_on xs starts) ok ∙ list_further sets starts lists set view down some
pushed (Err e) sets new starts lists set ok view down some = tt

-- ---- a set fewer

below_end : (sets : List LinearSet) (s : ℕ) → 1 ≤ length (drop s sets) → s < length sets
below_end sets s some = let left = length-drop s sets in omega arith

pub none_first : (sets : List LinearSet) (starts : List ℕ) (lists : List (List LinearSet)) → lists_on sets starts ≡ lists → 1 ≤ length (top_of lists) → starts ≡ [] → ⊥
none_first sets [] lists view some none =
    let top : 0 ≡ length (top_of lists) = ap (λ ls. length (top_of ls)) view in omega arith
none_first sets (s ∷ ss) lists view some none = absurd (cc)

-- the first of the list on top stands where that list starts
pub first_below : (sets : List LinearSet) (starts : List ℕ) (s : ℕ) (lists : List (List LinearSet)) → lists_on sets starts ≡ lists → 1 ≤ length (top_of lists) → (ss : List ℕ) × (starts ≡ s ∷ ss) → s < length sets
first_below sets starts s lists view some top =
    let there : lists_on sets (s ∷ top.0) ≡ lists = subst (λ x. lists_on sets x ≡ lists) top.1 view in
    let long : length (drop s sets) ≡ length (top_of lists) = ap (λ ls. length (top_of ls)) there in
    below_end sets s (omega arith)

first_is : (sets : List LinearSet) (s : ℕ) (set : LinearSet) → slice_get sets s ≡ Some set → drop s sets ≡ set ∷ drop (suc s) sets
first_is [] s set at = absurd (cc)
first_is (x ∷ xs) zero set at = cc
first_is (x ∷ xs) (suc s) set at = first_is xs s set at

rest_first : (sets : List LinearSet) (s : ℕ) → s < length sets → drop s (remove sets s) ≡ drop (suc s) sets
rest_first [] s h = absurd (omega arith)
rest_first (x ∷ xs) zero h = refl
rest_first (x ∷ xs) (suc s) h = rest_first xs s (omega arith)

front_first : (sets : List LinearSet) (s : ℕ) → s < length sets → take s (remove sets s) ≡ take s sets
front_first [] s h = absurd (omega arith)
front_first (x ∷ xs) zero h = refl
front_first (x ∷ xs) (suc s) h = ap (λ front. x ∷ front) (front_first xs s (omega arith))

fewer : (sets : List LinearSet) (s : ℕ) → s < length sets → suc (length (remove sets s)) ≡ length sets
fewer [] s h = absurd (omega arith)
fewer (x ∷ xs) zero h = refl
fewer (x ∷ xs) (suc s) h = ap suc (fewer xs s (omega arith))

pub first_down : (sets new : List LinearSet) (starts : List ℕ) (s : ℕ) (lists : List (List LinearSet)) → lists_on sets starts ≡ lists → GoDown (length sets) starts → 1 ≤ length (top_of lists) → (ss : List ℕ) × (starts ≡ s ∷ ss) → new ≡ remove sets s → GoDown (length new) starts
first_down sets new starts s lists view down some top is =
    let below = first_below sets starts s lists view some top in
    let all : GoDown (length sets) (s ∷ top.0) = subst (GoDown (length sets)) top.1 down in
    let count = fewer sets s below in
    let left : length new ≡ length (remove sets s) = ap length is in
    subst (GoDown (length new)) (sym top.1) (omega arith, all.1)

pub first_taken : (sets new : List LinearSet) (starts : List ℕ) (s : ℕ) (lists : List (List LinearSet)) (set : LinearSet) → lists_on sets starts ≡ lists → 1 ≤ length (top_of lists) → (ss : List ℕ) × (starts ≡ s ∷ ss) → slice_get sets s ≡ Some set → new ≡ remove sets s → TakesFirst set lists (lists_on new starts)
first_taken sets new starts s lists set view some top at is =
    let below = first_below sets starts s lists view some top in
    let ss = top.0 in
    record {
      others = drop (suc s) sets;
      rest = lists_on (take s sets) ss;
      was = sym view ∙ ap (lists_on sets) top.1 ∙ ap (λ first. first ∷ lists_on (take s sets) ss) (first_is sets s set at);
      is = ap₂ lists_on is top.1 ∙ ap₂ (λ first front. first ∷ lists_on front ss) (rest_first sets s below) (front_first sets s below);
    }

-- ---- two lists as one

both_lists : (sets : List LinearSet) (upper lower : ℕ) (ss : List ℕ) (lists : List (List LinearSet)) → lists_on sets (upper ∷ lower ∷ ss) ≡ lists → GoDown (length sets) (upper ∷ lower ∷ ss) → Unites (upper - lower) lists (lists_on sets (lower ∷ ss))
both_lists sets upper lower ss lists view down =
    let long : length (take upper sets) ≡ upper = length-take-le upper sets down.0 in
    let within : lower ≤ length (take upper sets) = let l = down.1.0 in omega arith in
    let left = length-drop lower (take upper sets) in
    record {
      lower = drop lower (take upper sets);
      upper = drop upper sets;
      rest = lists_on (take lower (take upper sets)) ss;
      was = sym view;
      is = ap₂ (λ top front. top ∷ lists_on front ss)
          (sym (ap (drop lower) (take-append-drop upper sets)) ∙ drop-append-le lower (take upper sets) (drop upper sets) within)
          (sym (take-take lower upper sets down.1.0));
      count = omega arith;
    }

pub united : (sets : List LinearSet) (starts rest : List ℕ) (upper lower : ℕ) (lists : List (List LinearSet)) → lists_on sets starts ≡ lists → GoDown (length sets) starts → starts ≡ upper ∷ rest → (ss : List ℕ) × (rest ≡ lower ∷ ss) → Unites (upper - lower) lists (lists_on sets rest)
united sets starts rest upper lower lists view down is below =
    let all : starts ≡ upper ∷ lower ∷ below.0 = is ∙ ap (λ xs. upper ∷ xs) below.1 in
    subst (λ xs. Unites (upper - lower) lists (lists_on sets xs)) (sym below.1)
    (both_lists sets upper lower below.0 lists (subst (λ xs. lists_on sets xs ≡ lists) all view) (subst (GoDown (length sets)) all down))

-- ---- the only list

pub only_list : (sets : List LinearSet) (starts : List ℕ) (lists : List (List LinearSet)) → lists_on sets starts ≡ lists → GoDown (length sets) starts → length lists ≡ 1 → lists ≡ sets ∷ []
only_list sets [] lists view down one = let none : 0 ≡ length lists = ap length view in absurd (omega arith)
only_list sets (s ∷ []) lists view down one = sym view ∙ ap (λ k. drop k sets ∷ []) down.1
only_list sets (s ∷ t ∷ ss) lists view down one =
    let more : length (lists_on sets (s ∷ t ∷ ss)) ≡ length lists = ap length view in absurd (omega arith)
