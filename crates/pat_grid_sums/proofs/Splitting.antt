-- Numbers of points divided into words, and their sums.
use Rattle.std.proofs.Common.{◌≡◌, ℕ, zero, suc, ◌+◌, ◌-◌, ◌*◌, ◌/◌, ◌%◌, ◌^◌, ◌<◌, ◌≤◌, min, true, List, [], ◌∷◌, length, get_or, set, ⊎_elim, refl, sym, ap, ap₂, ◌∙◌, subst, arith, suc-mul, mul-le-mul_right, pow-add}
use Rattle.std.specs.Prelude.{nat_le}
use Rattle.std.proofs.lemmas.Bool.{cases_lt, and_from, le-leb}
use Rattle.std.proofs.lemmas.List.{get_or-set_same, get_or-set_other}
use Rattle.std.proofs.lemmas.Nat.{div-mul-add, mod-mul-add, div-add-mod'}
use Rattle.std.proofs.Math.Nat.{pow-zero, pow-suc, mul_assoc, add-mul, mod-lt, div-one, one-le-pow, div-lt_iff_lt-mul}
use Rattle.pat_inclusion_spec.specs.Points.{grid_fits}
use Rattle.pat_inclusion_spec.specs.bounds.Numbers.{points_in}
use Rattle.pat_grid_points.specs.Views.{summed}
use Rattle.pat_grid_points.proofs.Digits.{bound_fits, points_fit, fewer_points, summed_one, summed_below}
use Rattle.pat_grid_sums.specs.declared.shape.Shape.{Shape}
use Rattle.pat_grid_sums.specs.Shapes.{IsShape, FilledTo, IsRow}
use Rattle.pat_limits.specs.Limits.{most_points}

-- ---- digits

-- dividing by both at once, and one after the other
pub at_once : (x w b : ℕ) → 0 < w → 0 < b → (x / (w * b) ≡ x / b / w) × (x % (w * b) ≡ x / b % w * b + x % b)
at_once x w b some many =
    let q = x / b in
    let d = x % b in
    let few : d < b = mod-lt x many in
    let low : q % w < w = mod-lt q some in
    let grown = mul-le-mul_right b low in
    let more = suc-mul (q % w) b in
    let small : q % w * b + d < w * b = omega arith in
    let whole : q / w * w + q % w ≡ q = div-add-mod' q w in
    let parts = add-mul (q / w * w) (q % w) b in
    let turned = mul_assoc (q / w) w b in
    let all : q * b + d ≡ x = div-add-mod' x b in
    let grouped = ap (λ i. i * b) whole in
    let is : q / w * (w * b) + (q % w * b + d) ≡ x = omega arith in (
      ap (λ i. i / (w * b)) (sym is) ∙ div-mul-add (q / w) (w * b) (q % w * b + d) small,
      ap (λ i. i % (w * b)) (sym is) ∙ mod-mul-add (q / w) (w * b) (q % w * b + d) small,
    )

some_points : (k n : ℕ) → 0 < points_in k n
some_points k n = let l : 1 ≤ points_in k n = one-le-pow n (k + 1) (omega arith) in omega arith

-- the sum of two points is that of their first tags and that of their last tags
pub summed_split : (k h l v w : ℕ) → summed k h (v / points_in k l) (w / points_in k l) * points_in k l + summed k l (v % points_in k l) (w % points_in k l) ≡ summed k (h + l) v w
summed_split k h zero v w =
    let a = summed k h (v / 1) (w / 1) in
    let e : a ≡ summed k h v w = ap₂ (summed k h) (div-one v) (div-one w) in
    let n : h + 0 ≡ h = omega arith in
    let same = ap (λ i. summed k i v w) n in
    let is : a * 1 + 0 ≡ a = omega arith in
    subst (λ i. summed k h (v / i) (w / i) * i + summed k 0 (v % i) (w % i) ≡ summed k (h + 0) v w) (sym (pow-zero (k + 1)))
    (is ∙ e ∙ sym same)
summed_split k h (suc m) v w =
    let b = k + 1 in
    let p = points_in k m in
    let power : points_in k (suc m) ≡ p * b = pow-suc (k + 1) m in
    let dv = at_once v p b (some_points k m) (omega arith) in
    let dw = at_once w p b (some_points k m) (omega arith) in
    let vd : v % b < b = mod-lt v (omega arith) in
    let wd : w % b < b = mod-lt w (omega arith) in
    let high = summed k h (v / b / p) (w / b / p) in
    let low = summed k m (v / b % p) (w / b % p) in
    let digit = min (v % b + w % b) k in
    let before : high * p + low ≡ summed k (h + m) (v / b) (w / b) = summed_split k h m (v / b) (w / b) in
    let whole = summed_one k v w (h + m) (h + suc m) (omega arith) in
    let lv = v / b % p * b + v % b in
    let lw = w / b % p * b + w % b in
    let lasts = summed_one k lv lw m (suc m) refl in
    let v_high : lv / b ≡ v / b % p = div-mul-add (v / b % p) b (v % b) vd in
    let w_high : lw / b ≡ w / b % p = div-mul-add (w / b % p) b (w % b) wd in
    let v_low : lv % b ≡ v % b = mod-mul-add (v / b % p) b (v % b) vd in
    let w_low : lw % b ≡ w % b = mod-mul-add (w / b % p) b (w % b) wd in
    let low_is : low * b + digit ≡ summed k (suc m) lv lw =
    ap₂ (λ x y. x * b + y) (ap₂ (summed k m) (sym v_high) (sym w_high)) (ap₂ (λ x y. min (x + y) k) (sym v_low) (sym w_low)) ∙ lasts in
    let highs : summed k h (v / (p * b)) (w / (p * b)) ≡ high = ap₂ (summed k h) dv.0 dw.0 in
    let lows : summed k (suc m) (v % (p * b)) (w % (p * b)) ≡ summed k (suc m) lv lw = ap₂ (summed k (suc m)) dv.1 dw.1 in
    let parts = add-mul (high * p) low b in
    let turned = mul_assoc high p b in
    let above = ap (λ i. i * b) before in
    let at = ap (λ i. i * (p * b)) highs in
    let result : summed k h (v / (p * b)) (w / (p * b)) * (p * b) + summed k (suc m) (v % (p * b)) (w % (p * b)) ≡ summed k (h + suc m) v w = omega arith in
    subst (λ i. summed k h (v / i) (w / i) * i + summed k (suc m) (v % i) (w % i) ≡ summed k (h + suc m) v w) (sym power) result

-- a sum isn't below the second point
rises : (k n v w : ℕ) → w < points_in k n → w ≤ summed k n v w
rises k zero v w l = let one = pow-zero (k + 1) in omega arith
rises k (suc m) v w l =
    let b = k + 1 in
    let power : points_in k (suc m) ≡ points_in k m * b = pow-suc (k + 1) m in
    let h = rises k m (v / b) (w / b) ((div-lt_iff_lt-mul {k = b} {x = w} {y = points_in k m} (omega arith)).1 (omega arith)) in
    let grown = mul-le-mul_right b h in
    let whole = div-add-mod' w b in
    let last : w % b < b = mod-lt w (omega arith) in
    let sum = summed_one k v w m (suc m) refl in
    omega arith

pub row_rises : (k n v : ℕ) (row : List ℕ) → IsRow k n v row → (p : ℕ) → p < length row → p ≤ get_or row p 0
row_rises k n v row h p l =
    let many = h.0 in
    let is = h.1 p (omega arith) in
    let up = rises k n v p (omega arith) in
    omega arith

-- ---- shapes

pub fewer_fit : (k m n : ℕ) → m ≤ n → grid_fits k n ≡ true → grid_fits k m ≡ true
fewer_fit k m n l f =
    let fewer = fewer_points k m n l in
    let few = points_fit k n f in
    and_from (nat_le 1 k) (nat_le ((k + 1) ^ m) most_points) (le-leb 1 k (bound_fits k n f)) (le-leb ((k + 1) ^ m) most_points (omega arith))

module _ (k n : ℕ) (s : Shape) (shape : IsShape k n s) where
  pub all_points : s.words * s.width ≡ points_in k n
  all_points =
      ap₂ (λ x y. x * y) shape.words shape.width ∙ sym (pow-add (k + 1) s.high s.low) ∙ ap (points_in k) shape.tags

  pub some_all : 0 < s.words * s.width
  some_all = subst (λ i. 0 < i) (sym all_points) (some_points k n)

  pub some_words : 0 < s.words
  some_words = subst (λ i. 0 < i) (sym shape.words) (some_points k s.high)

  pub some_places : 0 < s.width
  some_places = subst (λ i. 0 < i) (sym shape.width) (some_points k s.low)

  pub word_within : (c : ℕ) → c < s.words * s.width → c / s.width < s.words
  word_within c l = (div-lt_iff_lt-mul {k = s.width} {x = c} {y = s.words} some_places).1 l

  pub place_within : (c : ℕ) → c % s.width < s.width
  place_within c = mod-lt c some_places

  pub words_few : points_in s.k s.high ≤ most_points
  words_few =
      let fewer = fewer_points k s.high n (let t = shape.tags in omega arith) in
      let few = shape.few in
      subst (λ i. points_in i s.high ≤ most_points) (sym shape.bound) (omega arith)

  pub places_few : points_in s.k s.low ≤ most_points
  places_few =
      let fewer = fewer_points k s.low n (let t = shape.tags in omega arith) in
      let few = shape.few in
      subst (λ i. points_in i s.low ≤ most_points) (sym shape.bound) (omega arith)

  -- the word and the place of a sum
  pub sum_split : (v w : ℕ) → summed s.k s.high (v / s.width) (w / s.width) * s.width + summed s.k s.low (v % s.width) (w % s.width) ≡ summed k n v w
  sum_split v w =
      ap₂ (λ i j. summed i s.high (v / j) (w / j) * j + summed i s.low (v % j) (w % j)) shape.bound shape.width
      ∙ summed_split k s.high s.low v w
      ∙ ap (λ i. summed k i v w) shape.tags

  pub sum_small : (l p : ℕ) → summed s.k s.low l p < s.width
  sum_small l p =
      subst (λ i. summed s.k s.low l p < i) (ap (λ i. points_in i s.low) shape.bound ∙ sym shape.width) (summed_below s.k s.low l p)

  pub sum_word : (v w : ℕ) → summed k n v w / s.width ≡ summed s.k s.high (v / s.width) (w / s.width)
  sum_word v w =
      ap (λ i. i / s.width) (sym (sum_split v w))
      ∙ div-mul-add (summed s.k s.high (v / s.width) (w / s.width)) s.width (summed s.k s.low (v % s.width) (w % s.width)) (sum_small (v % s.width) (w % s.width))

  pub sum_place : (v w : ℕ) → summed k n v w % s.width ≡ summed s.k s.low (v % s.width) (w % s.width)
  sum_place v w =
      ap (λ i. i % s.width) (sym (sum_split v w))
      ∙ mod-mul-add (summed s.k s.high (v / s.width) (w / s.width)) s.width (summed s.k s.low (v % s.width) (w % s.width)) (sum_small (v % s.width) (w % s.width))

  -- a number whose word and place are those of a sum
  pub is_sum : (c v w : ℕ) → c / s.width ≡ summed s.k s.high (v / s.width) (w / s.width) → c % s.width ≡ summed s.k s.low (v % s.width) (w % s.width) → c ≡ summed k n v w
  is_sum c v w high low =
      sym (div-add-mod' c s.width) ∙ ap₂ (λ i j. i * s.width + j) high low ∙ sum_split v w

-- ---- rows

-- the row of no tag
pub no_tags : (k n v : ℕ) → n ≡ 0 → IsRow k n v (0 ∷ [])
no_tags k n v e =
    let one = pow-zero (k + 1) in
    subst (λ i. IsRow k i v (0 ∷ [])) (sym e) (sym one, λ w l. first w (let m : w < 1 = subst (λ i. w < i) one l in omega arith))
  where
    first : (w : ℕ) → w ≡ 0 → get_or (0 ∷ []) w 0 ≡ summed k 0 v w
    first w z = subst (λ i. get_or (0 ∷ []) i 0 ≡ summed k 0 v i) (sym z) refl

-- one sum more
pub filled_more : (k n v c x place : ℕ) (row : List ℕ) → FilledTo k n v c row → place ≡ c → c < length row → x ≡ summed k n v c → FilledTo k n v (c + 1) (set row place x)
filled_more k n v c x place row h at room is w l =
    ⊎_elim
    (λ (m : w < c). get_or-set_other row place w x 0 (λ e. absurd (omega arith)) ∙ h w m)
    (λ (m : c ≤ w).
    let e : c ≡ w = omega arith in
    let f : place ≡ w = omega arith in
    subst (λ i. get_or (set row i x) w 0 ≡ summed k n v w) (sym f) (get_or-set_same row w x 0 (omega arith) ∙ is ∙ ap (summed k n v) e))
    (cases_lt w c)

-- the sum with the point whose last digit is this one
pub digit_sum : (k n v above digit made other x : ℕ) → above ≡ summed k n (v / (k + 1)) made → digit ≡ v % (k + 1) → other < k + 1 → x ≡ above * (k + 1) + min (digit + other) k → x ≡ summed k (n + 1) v (made * (k + 1) + other)
digit_sum k n v above digit made other x high low l is =
    let high_is : (made * (k + 1) + other) / (k + 1) ≡ made = div-mul-add made (k + 1) other l in
    let low_is : (made * (k + 1) + other) % (k + 1) ≡ other = mod-mul-add made (k + 1) other l in
    is
    ∙ ap₂ (λ i j. i * (k + 1) + j)
    (high ∙ ap (λ i. summed k n (v / (k + 1)) i) (sym high_is))
    (ap₂ (λ i j. min (i + j) k) low (sym low_is))
    ∙ summed_one k v (made * (k + 1) + other) n (n + 1) (omega arith)

-- ---- rows as they are made

pub one_points : (k : ℕ) → k + 1 ≡ points_in k 1
one_points k =
    let none = pow-zero (k + 1) in
    (let e : k + 1 ≡ 1 * (k + 1) = omega arith in e) ∙ ap (λ i. i * (k + 1)) (sym none) ∙ sym (pow-suc (k + 1) 0)

pub none_few : (k : ℕ) → points_in k 0 ≤ 64
none_few k = let none = pow-zero (k + 1) in omega arith

pub points_more : (k n : ℕ) → 0 < n → points_in k (n - 1) * (k + 1) ≡ points_in k n
points_more k n l = sym (pow-suc (k + 1) (n - 1)) ∙ ap (points_in k) (let e : suc (n - 1) ≡ n = omega arith in e)

pub row_room : (k n v i : ℕ) (row : List ℕ) → 0 < n → points_in k n ≤ most_points → IsRow k (n - 1) v row → i < length row → (get_or row i 0 + 1) * (k + 1) ≤ most_points
row_room k n v i row some few h l =
    let e = h.0 in
    let is = h.1 i (omega arith) in
    let below = summed_below k (n - 1) v i in
    let grown : (get_or row i 0 + 1) * (k + 1) ≤ points_in k (n - 1) * (k + 1) = mul-le-mul_right (k + 1) (omega arith) in
    let all = points_more k n some in
    omega arith

module _ (k n : ℕ) (s : Shape) (shape : IsShape k n s) where
  pub row_places : (l : ℕ) (row : List ℕ) → IsRow s.k s.low l row → (p : ℕ) → p < length row → get_or row p 0 < 64
  row_places l row h p m =
      let e = h.0 in
      let is = h.1 p (omega arith) in
      let small = sum_small k n s shape l p in
      let room = shape.room in
      omega arith

  pub width_is : s.width ≡ points_in s.k s.low
  width_is = shape.width ∙ ap (λ i. points_in i s.low) (sym shape.bound)

  pub words_is : s.words ≡ points_in s.k s.high
  words_is = shape.words ∙ ap (λ i. points_in i s.high) (sym shape.bound)
