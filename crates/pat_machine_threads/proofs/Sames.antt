-- States that are the same, part by part, and the tops of threads.
use Rattle.std.proofs.Common.{◌≡◌, ℕ, zero, suc, ◌-◌, ◌<◌, ◌≤◌, List, [], ◌∷◌, ◌++◌, length, map, take, drop, get_or, reverse, refl, sym, ap, ◌∙◌, arith, ⊎_elim}
use Rattle.std.proofs.lemmas.List.{length-map, reverse-reverse, reverse-append, length-reverse, length-drop, take-append-drop, take_all, take-map}
use Rattle.std.proofs.lemmas.Bool.{cases_lt}
use Rattle.std.proofs.Math.Seq.{take-append_seam}
use Rattle.pat_semantics_spec.specs.Configs.{Control, Frame, Thread}
use Rattle.pat_reduce.specs.declared.threads.state.ThreadState.{ThreadState}
use Rattle.pat_reduce.specs.threads.ThreadViews.{control_view, frame_view, thread_view}
use Rattle.pat_machine_spec.specs.Tops.{top_of}
use mathlib.Core.List.{reverse_aux}

-- what is seen as the same is as long
pub same_length : {A B : Type 0} (view : A → B) (xs ys : List A) → map view xs ≡ map view ys → length xs ≡ length ys
same_length view xs ys same = sym (length-map xs view) ∙ ap length same ∙ length-map ys view

-- and the same at each place
pub same_at : {A B : Type 0} (view : A → B) (xs ys : List A) (i : ℕ) (x y : A) → map view xs ≡ map view ys → i < length xs → x ≡ get_or xs i x → y ≡ get_or ys i y → view x ≡ view y
same_at view [] ys i x y same within is at = absurd (omega arith)
same_at view (a ∷ xs) [] i x y same within is at = cc
same_at {B} view (a ∷ xs) (b ∷ ys) zero x y same within is at = let both : view a ≡ view b = cc in ap view is ∙ both ∙ ap view (sym at)
same_at {B} view (a ∷ xs) (b ∷ ys) (suc i) x y same within is at =
    let rest : map view xs ≡ map view ys = cc in
    same_at view xs ys i x y rest (omega arith) is at

map-onto : {A B : Type 0} (view : A → B) (xs ys : List A) → map view (reverse_aux xs ys) ≡ reverse_aux (map view xs) (map view ys)
map-onto view [] ys = refl
map-onto view (x ∷ xs) ys = map-onto view xs (x ∷ ys)

map-reverse : {A B : Type 0} (view : A → B) (xs : List A) → map view (reverse xs) ≡ reverse (map view xs)
map-reverse view xs = map-onto view xs []

-- what is the same from the bottom up is the same from the top down
pub same_reversed : {A B : Type 0} (view : A → B) (xs ys fs gs : List A) → reverse xs ≡ fs → reverse ys ≡ gs → map view xs ≡ map view ys → map view fs ≡ map view gs
same_reversed view xs ys fs gs first second same =
    ap (map view) (sym first) ∙ map-reverse view xs ∙ ap reverse same ∙ sym (map-reverse view ys) ∙ ap (map view) second

-- and back
pub same_upright : {A B : Type 0} (view : A → B) (xs ys fs gs : List A) → reverse xs ≡ fs → reverse ys ≡ gs → map view fs ≡ map view gs → map view xs ≡ map view ys
same_upright view xs ys fs gs first second same =
    same_reversed view fs gs xs ys (ap reverse (sym first) ∙ reverse-reverse xs) (ap reverse (sym second) ∙ reverse-reverse ys) same

-- the last items from the end are the first ones of the other way round
pub reversed_end : {X : Type 0} (xs : List X) (n : ℕ) → reverse (drop (length xs - n) xs) ≡ take n (reverse xs)
reversed_end xs n =
    let k = length xs - n in
    let split : reverse xs ≡ reverse (drop k xs) ++ reverse (take k xs) = sym (ap reverse (take-append-drop k xs)) ∙ reverse-append (take k xs) (drop k xs) in
    let ends = length-reverse (drop k xs) ∙ length-drop k xs in
    let all = length-reverse xs in
    ⊎_elim
    (λ (many : length xs < n).
    let none : k ≡ 0 = omega arith in
    ap (λ m. reverse (drop m xs)) none ∙ sym (take_all n (reverse xs) (omega arith)))
    (λ (few : n ≤ length xs).
    let same : length (reverse (drop k xs)) ≡ n = ends ∙ omega arith in
    sym (ap (take n) split ∙ ap (λ m. take m (reverse (drop k xs) ++ reverse (take k xs))) (sym same) ∙ take-append_seam (reverse (drop k xs)) (reverse (take k xs))))
    (cases_lt (length xs) n)

-- the same control, and of the frames those on top
pub same_top : (s t : ThreadState) (n : ℕ) → control_view s.control ≡ control_view t.control → map frame_view s.frames ≡ map frame_view (take n t.frames) → thread_view s ≡ top_of n (thread_view t)
same_top s t n control frames =
    let by : Control → List Frame → Thread = λ k fs. record { control = k; frames = fs } in
    ap (λ k. by k (map frame_view s.frames)) control ∙ ap (by (control_view t.control)) (frames ∙ sym (take-map frame_view n t.frames))
