-- How many products there are.
use Rattle.std.proofs.Common.{◌≡◌, ℕ, ◌*◌, ◌-◌, ◌^◌, ◌≤◌, ◌<◌, min, true, false, List, [], ◌∷◌, length, get_or, map, length-append, sym, ap, ◌∙◌, arith, zero-mul, suc-mul}
use Rattle.std.proofs.lemmas.List.{length-map}
use Rattle.std.proofs.lemmas.Bool.{le-leb, lt-leb}
use Rattle.pat_inclusion_spec.specs.LinearSets.{LinearSet}
use Rattle.pat_inclusion_spec.specs.ClosedForms.{set_product, products, is_short}
use Rattle.pat_linear.specs.declared.set.LinearSet.{LinearSet as CodeSet}
use Rattle.pat_linear.specs.Views.{set_view, sets_view}
use Rattle.pat_limits.specs.Limits.{most_sets}

pub products_length : (n : ℕ) (xs ys : List LinearSet) → length (products n xs ys) ≡ length xs * length ys
products_length n [] ys = sym (zero-mul (length ys))
products_length n (x ∷ xs) ys =
    let rest = products_length n xs ys in
    let row = length-map ys (set_product n x) in
    let both = length-append (map (set_product n x) ys) (products n xs ys) in
    let times = suc-mul (length xs) (length ys) in
    omega arith

code_length : (n : ℕ) (xs ys : List CodeSet) → length (products n (sets_view xs) (sets_view ys)) ≡ length xs * length ys
code_length n xs ys =
    products_length n (sets_view xs) (sets_view ys) ∙ ap (λ a. a * length (sets_view ys)) (length-map xs _) ∙ ap (λ b. length xs * b) (length-map ys _)

-- the products are too many just where the product of both lengths is
pub products_short : (n m : ℕ) (xs ys : List CodeSet) → m ≡ min (length xs * length ys) (2 ^ 64 - 1) → m ≤ most_sets → is_short (products n (sets_view xs) (sets_view ys)) ≡ true
products_short n m xs ys e h = let l = code_length n xs ys in le-leb (length (products n (sets_view xs) (sets_view ys))) most_sets (omega arith)

pub products_long : (n m : ℕ) (xs ys : List CodeSet) → m ≡ min (length xs * length ys) (2 ^ 64 - 1) → most_sets < m → is_short (products n (sets_view xs) (sets_view ys)) ≡ false
products_long n m xs ys e h = let l = code_length n xs ys in lt-leb (length (products n (sets_view xs) (sets_view ys))) most_sets (omega arith)

-- the product of one set with one other is not too many
pub one_with_one : (n : ℕ) (xs ys : List CodeSet) (y : CodeSet) (made : List LinearSet) → length xs ≡ 1 → length ys ≡ 1 → y ≡ get_or ys 0 y → made ≡ products n (sets_view xs) (set_view y ∷ []) → (made ≡ products n (sets_view xs) (sets_view ys)) × (is_short (products n (sets_view xs) (sets_view ys)) ≡ true)
one_with_one n xs [] y made a b e h = absurd (omega arith)
one_with_one n xs (z ∷ []) y made a b e h =
    let all = products n (sets_view xs) (sets_view (z ∷ [])) in
    let one : length all ≡ 1 = code_length n xs (z ∷ []) ∙ ap (λ k. k * 1) a in
    (h ∙ ap (λ s. products n (sets_view xs) (set_view s ∷ [])) e, le-leb (length all) most_sets (omega arith))
one_with_one n xs (z ∷ w ∷ zs) y made a b e h = absurd (omega arith)
