-- A place less a unit of one of its digits, and sums of three points.
use Rattle.std.proofs.Common.{◌≡◌, ℕ, zero, suc, ◌+◌, ◌-◌, ◌*◌, ◌/◌, ◌%◌, ◌<◌, ◌≤◌, min, refl, sym, ap, ap₂, ◌∙◌, subst, arith}
use Rattle.std.proofs.lemmas.Nat.{div-mul-add, mod-mul-add, div-add-mod'}
use Rattle.std.proofs.Math.Nat.{pow-zero, add-mul, mod-lt, zero-mod, div-lt_iff_lt-mul}
use Rattle.pat_inclusion_spec.specs.bounds.Numbers.{points_in}
use Rattle.pat_grid_points.specs.Views.{summed}
use Rattle.pat_grid_points.proofs.Digits.{summed_one, summed_zero_left}
use Rattle.pat_grid_sums.proofs.Splitting.{points_more}

-- ---- the last unit of a place

-- only the empty word is of no tag
pub some_tags : (k n p : ℕ) → p < points_in k n → (p ≡ 0 → ⊥) → 0 < n
some_tags k zero p l some = let one = pow-zero (k + 1) in absurd (some (omega arith))
some_tags k (suc n) p l some = omega arith

pub part_below : (k n p : ℕ) → 0 < n → p < points_in k n → p / (k + 1) < points_in k (n - 1)
part_below k n p some l =
    let all = points_more k n some in
    (div-lt_iff_lt-mul {k = k + 1} {x = p} {y = points_in k (n - 1)} (omega arith)).1 (omega arith)

-- where the last digit isn't 0 it is that of one more
pub last_unit : (k n p : ℕ) → p < points_in k n → (p % (k + 1) ≡ 0 → ⊥) → summed k n 1 (p - 1) ≡ p
last_unit k zero p l some =
    let one = pow-zero (k + 1) in
    let none : p ≡ 0 = omega arith in
    absurd (some (ap (λ i. i % (k + 1)) none ∙ zero-mod (k + 1)))
last_unit k (suc m) p l some =
    let b = k + 1 in
    let d = p % b in
    let few : d < b = mod-lt p (omega arith) in
    let more : 0 < d = omega (arith, some) in
    let whole : p / b * b + d ≡ p = div-add-mod' p b in
    let less : p - 1 ≡ p / b * b + (d - 1) = omega arith in
    let high : (p - 1) / b ≡ p / b = ap (λ i. i / b) less ∙ div-mul-add (p / b) b (d - 1) (omega arith) in
    let low : (p - 1) % b ≡ d - 1 = ap (λ i. i % b) less ∙ mod-mul-add (p / b) b (d - 1) (omega arith) in
    let lone : 1 ≡ 0 * b + 1 = omega arith in
    let none : 1 / b ≡ 0 = ap (λ i. i / b) lone ∙ div-mul-add 0 b 1 (omega arith) in
    let one : 1 % b ≡ 1 = ap (λ i. i % b) lone ∙ mod-mul-add 0 b 1 (omega arith) in
    let part = subst (λ i. p / b < points_in k i) (let e : suc m - 1 ≡ m = omega arith in e) (part_below k (suc m) p (omega arith) l) in
    let digit : min (1 % b + (p - 1) % b) k ≡ d = omega arith in
    sym (summed_one k 1 (p - 1) m (suc m) refl)
    ∙ ap₂ (λ i j. i * b + j) (ap₂ (summed k m) none high ∙ sym (summed_zero_left k m (p / b) part)) digit
    ∙ whole

-- where it is 0 the unit is that of the other digits
pub next_unit : (k n u p : ℕ) → 0 < n → p % (k + 1) ≡ 0 → u ≤ p / (k + 1) → summed k (n - 1) u (p / (k + 1) - u) ≡ p / (k + 1) → summed k n (u * (k + 1)) (p - u * (k + 1)) ≡ p
next_unit k n u p some none within before =
    let b = k + 1 in
    let q = p / b in
    let whole : q * b + p % b ≡ p = div-add-mod' p b in
    let parts = add-mul (q - u) u b in
    let same : (q - u + u) * b ≡ q * b = ap (λ i. i * b) (let e : q - u + u ≡ q = omega arith in e) in
    let unit : u * b ≡ u * b + 0 = omega arith in
    let rest : p - u * b ≡ (q - u) * b + 0 = omega arith in
    let unit_high = ap (λ i. i / b) unit ∙ div-mul-add u b 0 (omega arith) in
    let unit_low : u * b % b ≡ 0 = ap (λ i. i % b) unit ∙ mod-mul-add u b 0 (omega arith) in
    let rest_high = ap (λ i. i / b) rest ∙ div-mul-add (q - u) b 0 (omega arith) in
    let rest_low : (p - u * b) % b ≡ 0 = ap (λ i. i % b) rest ∙ mod-mul-add (q - u) b 0 (omega arith) in
    let digit : min (u * b % b + (p - u * b) % b) k ≡ p % b = omega arith in
    sym (summed_one k (u * b) (p - u * b) (n - 1) n (omega arith))
    ∙ ap₂ (λ i j. i * b + j) (ap₂ (summed k (n - 1)) unit_high rest_high ∙ before) digit
    ∙ whole

-- ---- sums of three points

digits_of_sum : (k m v w : ℕ) → (summed k (suc m) v w / (k + 1) ≡ summed k m (v / (k + 1)) (w / (k + 1))) × (summed k (suc m) v w % (k + 1) ≡ min (v % (k + 1) + w % (k + 1)) k)
digits_of_sum k m v w =
    let b = k + 1 in
    let high = summed k m (v / b) (w / b) in
    let low = min (v % b + w % b) k in
    let is : summed k (suc m) v w ≡ high * b + low = sym (summed_one k v w m (suc m) refl) in (
      ap (λ i. i / b) is ∙ div-mul-add high b low (omega arith),
      ap (λ i. i % b) is ∙ mod-mul-add high b low (omega arith),
    )

pub sum_of_three : (k n u v w : ℕ) → summed k n (summed k n u v) w ≡ summed k n u (summed k n v w)
sum_of_three k zero u v w = refl
sum_of_three k (suc m) u v w =
    let b = k + 1 in
    let one = summed k (suc m) u v in
    let other = summed k (suc m) v w in
    let x = digits_of_sum k m u v in
    let y = digits_of_sum k m v w in
    let first = x.1 in
    let second = y.1 in
    let digit : min (one % b + w % b) k ≡ min (u % b + other % b) k = omega arith in
    sym (summed_one k one w m (suc m) refl)
    ∙ ap₂ (λ i j. i * b + j)
    (ap (λ i. summed k m i (w / b)) x.0 ∙ sum_of_three k m (u / b) (v / b) (w / b) ∙ ap (summed k m (u / b)) (sym y.0))
    digit
    ∙ summed_one k u other m (suc m) refl
