-- The star of a list, one set after another.
use Rattle.std.proofs.Common.{◌≡◌, ℕ, zero, suc, ◌+◌, ◌*◌, ◌<◌, ◌^◌, true, false, List, [], ◌∷◌, length, get_or, take, drop, refl, sym, ap, ◌∙◌, subst, arith}
use Rattle.std.specs.Prelude.{◌&&◌, Err}
use Rattle.std.specs.List.{AllByRecursion}
use Rattle.pat_inclusion_spec.specs.Counts.{most_tags}
use Rattle.pat_inclusion_spec.specs.LinearSets.{LinearSet, SetWithin, SetsWithin}
use Rattle.pat_inclusion_spec.specs.ClosedForms.{only_empty, products, set_star, times_stars, is_short, stars_are_short, SetsClean}
use Rattle.pat_inclusion_laws.proofs.FormCounts.{star_bound, star_counts}
use Rattle.pat_linear.specs.declared.set.LinearSet.{LinearSet as CodeSet}
use Rattle.pat_linear.specs.declared.error.FormError.{FormError}
use Rattle.pat_linear.specs.declared.error.FormError.TheVariants.{TooLarge, NoMemory}
use Rattle.pat_linear.specs.Views.{set_view, sets_view}
use Rattle.pat_linear.specs.Rooms.{HaveRoom}
use Rattle.pat_linear.specs.Forms.{GivesSets}

-- the star of the first i sets has been made, and each list on the way was short
pub record MadeSoFar (n : ℕ) (sets : List LinearSet) (i : ℕ) (made : List LinearSet) : Type 0 where
  pub so_far : made ≡ times_stars n (only_empty ∷ []) (take i sets)
  pub to_come : times_stars n made (drop i sets) ≡ times_stars n (only_empty ∷ []) sets
  pub now_short : is_short made ≡ true
  pub short_to_come : stars_are_short n made (drop i sets) ≡ stars_are_short n (only_empty ∷ []) sets

-- ---- the set at a place

drop_here : (xs : List CodeSet) (i : ℕ) (d : CodeSet) → i < length xs → drop i (sets_view xs) ≡ set_view (get_or xs i d) ∷ drop (suc i) (sets_view xs)
drop_here [] i d l = absurd (omega arith)
drop_here (x ∷ xs) zero d l = refl
drop_here (x ∷ xs) (suc i) d l = drop_here xs i d (omega arith)

pub drop_at : (xs : List CodeSet) (i : ℕ) (a : CodeSet) → i < length xs → a ≡ get_or xs i a → drop i (sets_view xs) ≡ set_view a ∷ drop (suc i) (sets_view xs)
drop_at xs i a l e = subst (λ x. drop i (sets_view xs) ≡ set_view x ∷ drop (suc i) (sets_view xs)) (sym e) (drop_here xs i a l)

all_here : (P : LinearSet → Type 0) (xs : List CodeSet) (i : ℕ) (d : CodeSet) → AllByRecursion P (sets_view xs) → i < length xs → P (set_view (get_or xs i d))
all_here P [] i d h l = absurd (omega arith)
all_here P (x ∷ xs) zero d h l = h.0
all_here P (x ∷ xs) (suc i) d h l = all_here P xs i d h.1 (omega arith)

all_take : (P : LinearSet → Type 0) (ys : List LinearSet) (i : ℕ) → AllByRecursion P ys → AllByRecursion P (take i ys)
all_take P ys zero h = tt
all_take P [] (suc i) h = tt
all_take P (y ∷ ys) (suc i) h = (h.0, all_take P ys i h.1)

times_more : (n : ℕ) (made : List LinearSet) (xs : List CodeSet) (i : ℕ) (d : CodeSet) → i < length xs → times_stars n made (take (suc i) (sets_view xs)) ≡ products n (times_stars n made (take i (sets_view xs))) (set_star n (set_view (get_or xs i d)))
times_more n made [] i d l = absurd (omega arith)
times_more n made (x ∷ xs) zero d l = refl
times_more n made (x ∷ xs) (suc i) d l = times_more n (products n made (set_star n (set_view x))) xs i d (omega arith)

times_at : (n : ℕ) (made : List LinearSet) (xs : List CodeSet) (i : ℕ) (a : CodeSet) → i < length xs → a ≡ get_or xs i a → times_stars n made (take (suc i) (sets_view xs)) ≡ products n (times_stars n made (take i (sets_view xs))) (set_star n (set_view a))
times_at n made xs i a l e =
    subst (λ x. times_stars n made (take (suc i) (sets_view xs)) ≡ products n (times_stars n made (take i (sets_view xs))) (set_star n (set_view x))) (sym e) (times_more n made xs i a l)

-- ---- one turn

-- the next product may be made
pub star_room : (xs : List CodeSet) (i : ℕ) (a : CodeSet) (m f : List CodeSet) → SetsWithin (2 ^ 27) (2 ^ 27) (sets_view xs) → SetsClean most_tags (sets_view xs) → MadeSoFar most_tags (sets_view xs) i (sets_view m) → i < length xs → a ≡ get_or xs i a → sets_view f ≡ set_star most_tags (set_view a) → HaveRoom (sets_view m) (sets_view f)
star_room xs i a m f within clean inv l here star =
    let c : ℕ = 2 ^ 27 in
    let taken : SetsWithin c c (take i (sets_view xs)) = all_take (SetWithin c c) (sets_view xs) i within in
    let short : is_short (times_stars most_tags (only_empty ∷ []) (take i (sets_view xs))) ≡ true = subst (λ (x : List LinearSet). is_short x ≡ true) inv.so_far inv.now_short in
    let made : SetsWithin (12 * c) c (sets_view m) =
    subst (SetsWithin (12 * c) c) (sym inv.so_far)
    (star_counts most_tags c (take i (sets_view xs)) taken (all_take _ (sets_view xs) i clean) short) in
    let own : SetWithin c c (set_view a) = subst (λ x. SetWithin c c (set_view x)) (sym here) (all_here (SetWithin c c) xs i a within l) in
    let factor : SetsWithin c c (sets_view f) = subst (SetsWithin c c) (sym star) (star_bound most_tags c (set_view a) own) in
    (12 * c, c, c, made, factor, omega arith)

-- what the product of the two lists is, in the definition's words
product_is : (n : ℕ) (a : CodeSet) (m f : List CodeSet) → sets_view f ≡ set_star n (set_view a) → products n (sets_view m) (sets_view f) ≡ products n (sets_view m) (set_star n (set_view a))
product_is n a m f star = ap (products n (sets_view m)) star

-- the next product has been made
pub star_turn : (n : ℕ) (xs : List CodeSet) (i : ℕ) (a : CodeSet) (m f next : List CodeSet) → MadeSoFar n (sets_view xs) i (sets_view m) → i < length xs → a ≡ get_or xs i a → sets_view f ≡ set_star n (set_view a) → (sets_view next ≡ products n (sets_view m) (sets_view f)) × (is_short (products n (sets_view m) (sets_view f)) ≡ true) → MadeSoFar n (sets_view xs) (i + 1) (sets_view next)
star_turn n xs i a m f next inv l here star made =
    let ys : List LinearSet = sets_view xs in
    let s : LinearSet = set_view a in
    let rest : List LinearSet = drop (suc i) ys in
    let p : List LinearSet = products n (sets_view m) (set_star n s) in
    let same = product_is n a m f star in
    let e : sets_view next ≡ p = made.0 ∙ same in
    let short : is_short p ≡ true = subst (λ (x : List LinearSet). is_short x ≡ true) same made.1 in
    let at : drop i ys ≡ s ∷ rest = drop_at xs i a l here in
    let step : MadeSoFar n ys (suc i) (sets_view next) = record {
      so_far = e ∙ ap (λ x. products n x (set_star n s)) inv.so_far ∙ sym (times_at n (only_empty ∷ []) xs i a l here);
      to_come = ap (λ x. times_stars n x rest) e ∙ sym (ap (times_stars n (sets_view m)) at) ∙ inv.to_come;
      now_short = subst (λ (x : List LinearSet). is_short x ≡ true) (sym e) short;
      short_to_come = ap (λ x. stars_are_short n x rest) e ∙ sym (ap (λ b. b && stars_are_short n p rest) short) ∙ sym (ap (stars_are_short n (sets_view m)) at) ∙ inv.short_to_come;
    } in
    let next_place : suc i ≡ i + 1 = omega arith in
    subst (λ j. MadeSoFar n ys j (sets_view next)) next_place step

-- the next product would be too large, or there was no memory
pub star_refused : (n : ℕ) (xs : List CodeSet) (i : ℕ) (a : CodeSet) (m f : List CodeSet) (error : FormError) → MadeSoFar n (sets_view xs) i (sets_view m) → i < length xs → a ≡ get_or xs i a → sets_view f ≡ set_star n (set_view a) → GivesSets (Err error) (is_short (products n (sets_view m) (sets_view f))) (products n (sets_view m) (sets_view f)) → GivesSets (Err error) (stars_are_short n (only_empty ∷ []) (sets_view xs)) (times_stars n (only_empty ∷ []) (sets_view xs))
star_refused n xs i a m f NoMemory inv l here star h = tt
star_refused n xs i a m f TooLarge inv l here star h =
    let s : LinearSet = set_view a in
    let p : List LinearSet = products n (sets_view m) (set_star n s) in
    let long : is_short p ≡ false = subst (λ (x : List LinearSet). is_short x ≡ false) (product_is n a m f star) h in
    sym inv.short_to_come ∙ ap (stars_are_short n (sets_view m)) (drop_at xs i a l here) ∙ ap (λ b. b && stars_are_short n p (drop (suc i) (sets_view xs))) long
