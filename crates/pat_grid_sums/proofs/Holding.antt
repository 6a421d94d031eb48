-- Sets that have all bits at the sums of a point.
use Rattle.std.proofs.Common.{◌≡◌, ℕ, suc, inl, ◌+◌, ◌-◌, ◌*◌, ◌/◌, ◌%◌, ◌<◌, ◌≤◌, min, List, length, get_or, refl, sym, ap, ◌∙◌, subst, arith, mul-le-mul_right}
use Rattle.std.specs.Int.{bit_at}
use Rattle.std.specs.Prelude.{bit_and}
use Rattle.std.proofs.lemmas.Nat.{div-mul-add, mod-mul-add}
use Rattle.std.proofs.lemmas.Nat.Bits.{bit_at_and, bit_at-lt}
use Rattle.std.proofs.Math.Nat.{mul_assoc, mul_comm, add-mul, mod-lt, pow-suc, one-le-pow, div-lt_iff_lt-mul}
use Rattle.pat_inclusion_spec.specs.bounds.Numbers.{points_in}
use Rattle.pat_grid_points.specs.Views.{summed}
use Rattle.pat_grid_points.proofs.Digits.{summed_one}
use Rattle.pat_grid_sums.proofs.Splitting.{points_more}
use Rattle.pat_grid_sums.specs.declared.shape.Shape.{Shape}
use Rattle.pat_grid_sums.specs.Sets.{In, Puts}
use Rattle.pat_grid_sums.specs.Shapes.{IsGathered, IsAlikeSum, HasSums}

-- the word of a sum, by the sum's last digit
at_digit : (k n from scale v w : ℕ) → from + min (v % (k + 1) + w % (k + 1)) k * scale + summed k n (v / (k + 1)) (w / (k + 1)) * (scale * (k + 1)) ≡ from + summed k (n + 1) v w * scale
at_digit k n from scale v w =
    let b = k + 1 in
    let s = summed k n (v / b) (w / b) in
    let o = min (v % b + w % b) k in
    let one = ap (λ i. i * scale) (summed_one k v w n (n + 1) (let e : n + 1 ≡ suc n = omega arith in e)) in
    let parts = add-mul (s * b) o scale in
    let turned = mul_assoc s b scale in
    let comm = ap (λ i. s * i) (mul_comm b scale) in
    omega arith

-- so where the digit is given
pub at_word : (k n from scale v o w : ℕ) → v % (k + 1) ≤ o → o < k + 1 → from + o * scale + summed k n (v / (k + 1)) w * (scale * (k + 1)) ≡ from + summed k (n + 1) v (w * (k + 1) + (o - v % (k + 1))) * scale
at_word k n from scale v o w low high =
    let b = k + 1 in
    let d = o - v % b in
    let few : d < b = omega arith in
    let x = w * b + d in
    let word : x / b ≡ w = div-mul-add w b d few in
    let digit : x % b ≡ d = mod-mul-add w b d few in
    let is : min (v % b + x % b) k ≡ o = omega arith in
    subst (λ i. from + i * scale + summed k n (v / b) w * (scale * b) ≡ from + summed k (n + 1) v x * scale) is
    (subst (λ i. from + min (v % b + x % b) k * scale + summed k n (v / b) i * (scale * b) ≡ from + summed k (n + 1) v x * scale) word
    (at_digit k n from scale v x))

more_points : (k n : ℕ) → points_in k (n + 1) ≡ points_in k n * (k + 1)
more_points k n = ap (points_in k) (let e : n + 1 ≡ suc n = omega arith in e) ∙ pow-suc (k + 1) n

pub within : (k n w d : ℕ) → w < points_in k n → d < k + 1 → w * (k + 1) + d < points_in k (n + 1)
within k n w d l m =
    let p : points_in k (n + 1) ≡ points_in k n * (k + 1) = more_points k n in
    let more = add-mul w 1 (k + 1) in
    let grown : (w + 1) * (k + 1) ≤ points_in k n * (k + 1) = mul-le-mul_right (k + 1) (omega arith) in
    omega arith

-- what is asked of the words holds at a digit
module _ (k tags scale most : ℕ) (some : 0 < tags) (few : points_in k tags * scale ≤ most) where
  pub few_at : points_in k (tags - 1) * (scale * (k + 1)) ≤ most
  few_at =
      let p = points_in k (tags - 1) in
      let grown = ap (λ i. i * scale) (points_more k tags some) in
      let turned = mul_assoc p (k + 1) scale in
      let comm = ap (λ i. p * i) (mul_comm (k + 1) scale) in
      omega arith

  pub scale_at : scale * (k + 1) ≤ most
  scale_at =
      let one : 1 ≤ points_in k (tags - 1) = one-le-pow (tags - 1) (k + 1) (omega arith) in
      let grown : 1 * (scale * (k + 1)) ≤ points_in k (tags - 1) * (scale * (k + 1)) = mul-le-mul_right (scale * (k + 1)) one in
      let all = few_at in
      omega arith

  pub digit_at : (o : ℕ) → o < k + 1 → o * scale ≤ most
  digit_at o l =
      let grown : o * scale ≤ (k + 1) * scale = mul-le-mul_right scale (omega arith) in
      let comm = mul_comm (k + 1) scale in
      let all = scale_at in
      omega arith

pub room_at : (k tags from scale v o count : ℕ) → 0 < tags → ((w : ℕ) → w < points_in k tags → from + summed k tags v w * scale < count) → v % (k + 1) ≤ o → o < k + 1 → (w : ℕ) → w < points_in k (tags - 1) → from + o * scale + summed k (tags - 1) (v / (k + 1)) w * (scale * (k + 1)) < count
room_at k tags from scale v o count some room low high w l =
    let n = tags - 1 in
    let e : tags ≡ n + 1 = omega arith in
    let h = subst (λ m. (x : ℕ) → x < points_in k m → from + summed k m v x * scale < count) e room in
    subst (λ i. i < count) (sym (at_word k n from scale v o w low high)) (h (w * (k + 1) + (o - v % (k + 1))) (within k n w (o - v % (k + 1)) l (omega arith)))

pub place_at : (k tags from scale v o count : ℕ) → 0 < tags → ((w : ℕ) → w < points_in k tags → from + summed k tags v w * scale < count) → v % (k + 1) ≤ o → o < k + 1 → from + o * scale < count
place_at k tags from scale v o count some room low high =
    let one : 1 ≤ points_in k (tags - 1) = one-le-pow (tags - 1) (k + 1) (omega arith) in
    let h = room_at k tags from scale v o count some room low high 0 (omega arith) in
    omega arith

pub bits_held : (word bits : ℕ) → bit_and word bits ≡ bits → (q : ℕ) → bit_at bits q ≡ 1 → bit_at word q ≡ 1
bits_held word bits e q one =
    let both = bit_at_and word bits q in
    let same = ap (λ b. bit_at b q) e in
    let few = bit_at-lt word q in
    omega arith

-- with each digit from that of the point on
pub all_digits : (k n v bits from scale : ℕ) (words : List ℕ) → ((o : ℕ) → v % (k + 1) ≤ o → o < k + 1 → HasSums k n (v / (k + 1)) words bits (from + o * scale) (scale * (k + 1))) → HasSums k (n + 1) v words bits from scale
all_digits k n v bits from scale words each w q l one =
    let b = k + 1 in
    let o = min (v % b + w % b) k in
    let small : v % b < b = mod-lt v (omega arith) in
    let p : points_in k (n + 1) ≡ points_in k n * b = more_points k n in
    let below : w / b < points_in k n = (div-lt_iff_lt-mul {k = b} {x = w} {y = points_in k n} (omega arith)).1 (omega arith) in
    subst (λ i. In words i q) (at_digit k n from scale v w) (each o (omega arith) (omega arith) (w / b) q below one)

-- the sums of a word whose bits are there already
pub alike_there : (s : Shape) (ones : List ℕ) (moved : List (List ℕ)) (words x : List ℕ) (i j bits : ℕ) → s.words ≡ points_in s.k s.high → IsGathered moved s (get_or ones i 0) words → ((h q : ℕ) → h < length words → In words h q → bit_at bits q ≡ 1) → HasSums s.k s.high j x bits 0 1 → Puts (IsAlikeSum ones moved s i j) x x
alike_there s ones moved words x i j bits count gathered all has = record {
  as_long = refl;
  kept = λ h q t. t;
  put = λ h q t.
      let sum = t.1 in
      let l = sum.0 in
      let w = sum.1 in
      let below = sum.4 in
      let many = gathered.as_many in
      let bit : In ones i l = subst (λ b. bit_at b l ≡ 1) t.0 sum.3 in
      let there : In words w q = gathered.put w q (l, sum.2, bit, sum.4, sum.6) in
      let e : 0 + summed s.k s.high j w * 1 ≡ summed s.k s.high j w = omega arith in
      subst (λ a. In x a q) (e ∙ sym sum.5) (has w q (omega arith) (all w q (omega arith) there));
  only = λ h q t. inl t;
}
