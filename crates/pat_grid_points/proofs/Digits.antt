-- Points as numbers: what the loops over digits need.
use Rattle.std.proofs.Common.{◌≡◌, ℕ, zero, suc, ◌+◌, ◌-◌, ◌*◌, ◌/◌, ◌%◌, ◌^◌, ◌<◌, ◌≤◌, min, true, List, length, length-set, get_or, set, replicate, ⊎_elim, refl, sym, ap, ap₂, ◌∙◌, subst, arith, suc-mul, mul-le-mul_right}
use Rattle.std.specs.Prelude.{nat_eq, nat_le}
use Rattle.std.proofs.lemmas.Bool.{and_parts, leb-true, cases_eq, cases_lt, cond-true, cond-false, eq-eqb, ne_eqb}
use Rattle.std.proofs.lemmas.List.{get_or-set_same, get_or-set_other, get_or-replicate, length-replicate, get_or_past}
use Rattle.std.proofs.Math.Nat.{pow-le-pow_right, pow-le-pow_left, pow-suc, mul_comm, mul_assoc, add-mul, mul-le-mul_left, one-le-pow, zero-div, zero-mod, mod-lt}
use Rattle.std.proofs.lemmas.Nat.{div-add-mod', div-mul-add, mod-mul-add}
use mathlib.Core.Path.{fun_ext}
use Rattle.pat_words_spec.specs.Words.{Word, plus}
use Rattle.pat_words_spec.specs.Cuts.{cut_at}
use Rattle.pat_bags.specs.Views.{counted}
use Rattle.pat_inclusion_spec.specs.Points.{grid_fits}
use Rattle.pat_inclusion_spec.specs.bounds.Numbers.{points_in, number_of, point_of}
use Rattle.pat_inclusion_laws.proofs.NumberLaws.{number_below, point_counts, point_fits, point_number}
use Rattle.pat_grid_points.specs.Views.{summed}
use Rattle.pat_limits.specs.Limits.{most_points}

-- ---- grids that are worked with

pub bound_fits : (k n : ℕ) → grid_fits k n ≡ true → 1 ≤ k
bound_fits k n f = leb-true 1 k (and_parts (nat_le 1 k) (nat_le ((k + 1) ^ n) most_points) f).0

pub points_fit : (k n : ℕ) → grid_fits k n ≡ true → points_in k n ≤ most_points
points_fit k n f = leb-true ((k + 1) ^ n) most_points (and_parts (nat_le 1 k) (nat_le ((k + 1) ^ n) most_points) f).1

-- fewer tags have no more points
pub fewer_points : (k m n : ℕ) → m ≤ n → points_in k m ≤ points_in k n
fewer_points k m n l = pow-le-pow_right {n = k + 1} (omega arith) {i = m} {j = n} l

pub few_tags : (k n : ℕ) → grid_fits k n ≡ true → n ≤ 16
few_tags k n f =
    let a = bound_fits k n f in
    let b = points_fit k n f in
    let c : 2 ^ n ≤ points_in k n = pow-le-pow_left {n = 2} {m = k + 1} (omega arith) n in
    ⊎_elim (λ l. let d : 2 ^ 17 ≤ 2 ^ n = pow-le-pow_right {n = 2} (omega arith) {i = 17} {j = n} (omega arith) in absurd (omega arith)) (λ l. omega arith) (cases_lt 16 n)

-- ---- the number of a word

-- the digits of one tag more are still a number of a point
pub digit_room : (k n t : ℕ) (w : Word) → points_in k n ≤ most_points → t < n → number_of k t (cut_at k w) * (k + 1) + min (w t) k < most_points
digit_room k n t w f l =
    let less = number_below k (suc t) (cut_at k w) (λ i. omega arith) in
    let fewer = fewer_points k (suc t) n l in
    omega arith

-- ---- the point of a number

-- the counts of the tags from m on are written, and the others are those of what is left
pub record Written (k n number : ℕ) (counts : List ℕ) (m rest : ℕ) : Type 0 where
  pub all : length counts ≡ 32
  pub few : m ≤ 32
  pub zeros : (t : ℕ) → t < m → get_or counts t 0 ≡ 0
  pub sums : (t : ℕ) → get_or counts t 0 + point_of k m rest t ≡ point_of k n number t

past : (k m c t : ℕ) → m ≤ t → point_of k m c t ≡ 0
past k m c t l = (point_fits k m c).0 t l

pub one_written : (k n number m rest : ℕ) (counts : List ℕ) → Written k n number counts (suc m) rest → Written k n number (set counts m (rest % (k + 1))) m (rest / (k + 1))
one_written k n number m rest counts h =
    let few = h.few in
    let all = h.all in
    record {
      all = simp length-set h.all;
      few = omega arith;
      zeros = λ t l. get_or-set_other counts m t (rest % (k + 1)) 0 (λ e. absurd (omega arith)) ∙ h.zeros t (omega arith);
      sums = λ t. ⊎_elim (λ e. here t e) (λ d. other t d) (cases_eq t m);
    }
  where
    here : (t : ℕ) → t ≡ m → get_or (set counts m (rest % (k + 1))) t 0 + point_of k m (rest / (k + 1)) t ≡ point_of k n number t
    here t e =
        let few = h.few in
        let all = h.all in
        let a : get_or (set counts m (rest % (k + 1))) t 0 ≡ rest % (k + 1) =
        ap (λ i. get_or (set counts m (rest % (k + 1))) i 0) e ∙ get_or-set_same counts m (rest % (k + 1)) 0 (omega arith) in
        let b = past k m (rest / (k + 1)) t (omega arith) in
        let c : point_of k (suc m) rest t ≡ rest % (k + 1) =
        cond-true (nat_eq t m) (rest % (k + 1)) (point_of k m (rest / (k + 1)) t) (eq-eqb t m e) in
        let z = h.zeros t (omega arith) in
        let s = h.sums t in
        omega arith

    other : (t : ℕ) → (t ≡ m → ⊥) → get_or (set counts m (rest % (k + 1))) t 0 + point_of k m (rest / (k + 1)) t ≡ point_of k n number t
    other t d =
        let a = get_or-set_other counts m t (rest % (k + 1)) 0 d in
        let c : point_of k (suc m) rest t ≡ point_of k m (rest / (k + 1)) t =
        cond-false (nat_eq t m) (rest % (k + 1)) (point_of k m (rest / (k + 1)) t) (ne_eqb t m d) in
        let s = h.sums t in
        omega arith

-- ---- the point behind another

last_digit : (k m c : ℕ) → point_of k (suc m) c m ≡ c % (k + 1)
last_digit k m c = cond-true (nat_eq m m) (c % (k + 1)) (point_of k m (c / (k + 1)) m) (eq-eqb m m refl)

-- only the last digit is another, unless it begins anew
next_digit : (b c : ℕ) → 0 < b → ((c + 1) % b ≡ 0 → ⊥) → c % b + 1 < b
next_digit b c l more =
    let all = div-add-mod' c b in
    let low : c % b < b = mod-lt c {m = b} l in
    let one = add-mul (c / b) 1 b in
    ⊎_elim (λ less. less)
    (λ ge. absurd (more (ap (λ i. i % b) (let e : c + 1 ≡ (c / b + 1) * b + 0 = omega arith in e) ∙ mod-mul-add (c / b + 1) b 0 l)))
    (cases_lt (c % b + 1) b)

module _ (k m number : ℕ) (counts : List ℕ) (more : number % (k + 1) ≡ 0 → ⊥) (before : (c : ℕ) → number ≡ c + 1 → counted counts ≡ point_of k (suc m) c) where
  past_none : 0 < number
  past_none = ⊎_elim (λ l. l) (λ l. absurd (more (ap (λ i. i % (k + 1)) (let e : number ≡ 0 = omega arith in e) ∙ zero-mod (k + 1)))) (cases_lt 0 number)

  abbrev c : ℕ
  c = number - 1

  follows : number ≡ c + 1
  follows = let l = past_none in omega arith

  stays_low : c % (k + 1) + 1 < k + 1
  stays_low = next_digit (k + 1) c (omega arith) (λ e. more (ap (λ i. i % (k + 1)) follows ∙ e))

  parts : number ≡ c / (k + 1) * (k + 1) + (c % (k + 1) + 1)
  parts = let all = div-add-mod' c (k + 1) in let e = follows in omega arith

  last_grows : number % (k + 1) ≡ c % (k + 1) + 1
  last_grows = ap (λ i. i % (k + 1)) parts ∙ mod-mul-add (c / (k + 1)) (k + 1) (c % (k + 1) + 1) stays_low

  others_stay : number / (k + 1) ≡ c / (k + 1)
  others_stay = ap (λ i. i / (k + 1)) parts ∙ div-mul-add (c / (k + 1)) (k + 1) (c % (k + 1) + 1) stays_low

  count_before : (t : ℕ) → get_or counts t 0 ≡ point_of k (suc m) c t
  count_before t = ap (λ (w : Word). w t) (before c follows)

  pub last_small : get_or counts m 0 + 1 ≤ k
  last_small = let e = count_before m ∙ last_digit k m c in let l = stays_low in omega arith

  pub point_next : m < length counts → counted (set counts m (get_or counts m 0 + 1)) ≡ point_of k (suc m) number
  point_next l = fun_ext (λ t. ⊎_elim (here t) (other t) (cases_eq t m))
    where
      here : (t : ℕ) → t ≡ m → get_or (set counts m (get_or counts m 0 + 1)) t 0 ≡ point_of k (suc m) number t
      here t e =
          ap (λ i. get_or (set counts m (get_or counts m 0 + 1)) i 0) e
          ∙ get_or-set_same counts m (get_or counts m 0 + 1) 0 l
          ∙ ap (λ i. i + 1) (count_before m ∙ last_digit k m c)
          ∙ sym last_grows
          ∙ sym (last_digit k m number)
          ∙ ap (point_of k (suc m) number) (sym e)

      other : (t : ℕ) → (t ≡ m → ⊥) → get_or (set counts m (get_or counts m 0 + 1)) t 0 ≡ point_of k (suc m) number t
      other t d =
          get_or-set_other counts m t (get_or counts m 0 + 1) 0 d
          ∙ count_before t
          ∙ cond-false (nat_eq t m) (c % (k + 1)) (point_of k m (c / (k + 1)) t) (ne_eqb t m d)
          ∙ ap (λ i. point_of k m i t) (sym others_stay)
          ∙ sym (cond-false (nat_eq t m) (number % (k + 1)) (point_of k m (number / (k + 1)) t) (ne_eqb t m d))

-- ---- sums of points

number_same : (k n : ℕ) (u v : Word) → ((t : ℕ) → t < n → u t ≡ v t) → number_of k n u ≡ number_of k n v
number_same k zero u v h = refl
number_same k (suc n) u v h =
    ap₂ (λ x y. x * (k + 1) + y) (number_same k n u v (λ t l. h t (omega arith))) (h n (omega arith))

first_digits : (k m c t : ℕ) → t < m → point_of k (suc m) c t ≡ point_of k m (c / (k + 1)) t
first_digits k m c t l =
    cond-false (nat_eq t m) (c % (k + 1)) (point_of k m (c / (k + 1)) t) (ne_eqb t m (λ e. absurd (omega arith)))

pub summed_one : (k v w m n : ℕ) → n ≡ suc m → summed k m (v / (k + 1)) (w / (k + 1)) * (k + 1) + min (v % (k + 1) + w % (k + 1)) k ≡ summed k n v w
summed_one k v w m n e =
    ap₂ (λ x y. x * (k + 1) + y)
    (number_same k m (cut_at k (plus (point_of k m (v / (k + 1))) (point_of k m (w / (k + 1))))) (cut_at k (plus (point_of k (suc m) v) (point_of k (suc m) w)))
    (λ t l. ap₂ (λ x y. min (x + y) k) (sym (first_digits k m v t l)) (sym (first_digits k m w t l))))
    (ap₂ (λ x y. min (x + y) k) (sym (last_digit k m v)) (sym (last_digit k m w)))
    ∙ ap (λ i. summed k i v w) (sym e)

pub summed_below : (k n v w : ℕ) → summed k n v w < points_in k n
summed_below k n v w = number_below k n (cut_at k (plus (point_of k n v) (point_of k n w))) (λ t. omega arith)

-- the empty word is the point with number 0
zero_point : (k n t : ℕ) → point_of k n 0 t ≡ 0
zero_point k zero t = refl
zero_point k (suc n) t =
    ⊎_elim
    (λ e. cond-true (nat_eq t n) (0 % (k + 1)) (point_of k n (0 / (k + 1)) t) (eq-eqb t n e) ∙ zero-mod (k + 1))
    (λ d. cond-false (nat_eq t n) (0 % (k + 1)) (point_of k n (0 / (k + 1)) t) (ne_eqb t n d) ∙ ap (λ c. point_of k n c t) (zero-div (k + 1)) ∙ zero_point k n t)
    (cases_eq t n)

-- what is added to it stays as it is
pub summed_zero_left : (k n w : ℕ) → w < points_in k n → w ≡ summed k n 0 w
summed_zero_left k n w l =
    sym (point_number k n w l)
    ∙ number_same k n (point_of k n w) (cut_at k (plus (point_of k n 0) (point_of k n w)))
    (λ t m. let z = zero_point k n t in let few = point_counts k n (point_of k n w) (point_fits k n w) t in omega arith)

pub summed_zero_right : (k n v : ℕ) → v < points_in k n → v ≡ summed k n v 0
summed_zero_right k n v l =
    sym (point_number k n v l)
    ∙ number_same k n (point_of k n v) (cut_at k (plus (point_of k n v) (point_of k n 0)))
    (λ t m. let z = zero_point k n t in let few = point_counts k n (point_of k n v) (point_fits k n v) t in omega arith)

-- the digits from the last one on are added; those of the first tags are to come
pub record Adding (k n first second left one other number worth : ℕ) : Type 0 where
  pub within : left ≤ n
  pub worths : worth * points_in k left ≡ points_in k n
  pub small : number < worth
  pub sums : summed k left one other * worth + number ≡ summed k n first second

pub added_none : (k n first second : ℕ) → Adding k n first second n first second 0 1
added_none k n first second = record {
  within = omega arith;
  worths = omega arith;
  small = omega arith;
  sums = omega arith;
}

module _ (k n first second left one other number worth : ℕ) (h : Adding k n first second left one other number worth) where
  pub added_all : left ≡ 0 → number ≡ summed k n first second
  added_all e = let none = ap (λ i. summed k i one other * worth) e in let s = h.sums in omega arith

  -- nothing wraps
  pub adding_room : 0 < left → worth * (k + 1) ≤ points_in k n
  adding_room l =
      let e : left ≡ suc (left - 1) = omega arith in
      let power = ap (points_in k) e ∙ pow-suc (k + 1) (left - 1) in
      let some : 1 ≤ points_in k (left - 1) = one-le-pow (left - 1) (k + 1) (omega arith) in
      let more : 1 * (k + 1) ≤ points_in k (left - 1) * (k + 1) = mul-le-mul_right (k + 1) some in
      let grown = mul-le-mul_left worth more in
      let is = ap (λ i. worth * i) power in
      let one_is = ap (λ i. worth * i) (let e : 1 * (k + 1) ≡ k + 1 = omega arith in e) in
      let w = h.worths in
      omega arith

  pub adding_small : (d : ℕ) → d ≤ k → number + d * worth < worth * (k + 1)
  adding_small d l =
      let at_most = mul-le-mul_right worth l in
      let is = mul_comm worth (k + 1) in
      let more = suc-mul k worth in
      let same : suc k * worth ≡ (k + 1) * worth = ap (λ i. i * worth) (let e : suc k ≡ k + 1 = omega arith in e) in
      let s = h.small in
      omega arith

  pub added_next : (d : ℕ) → 0 < left → d ≡ min (one % (k + 1) + other % (k + 1)) k → Adding k n first second (left - 1) (one / (k + 1)) (other / (k + 1)) (number + d * worth) (worth * (k + 1))
  added_next d l digit =
      let e : left ≡ suc (left - 1) = omega arith in
      let i = h.within in
      record {
        within = omega arith;
        worths =
            mul_assoc worth (k + 1) (points_in k (left - 1))
            ∙ ap (λ i. worth * i) (mul_comm (k + 1) (points_in k (left - 1)) ∙ sym (pow-suc (k + 1) (left - 1)) ∙ ap (points_in k) (sym e))
            ∙ h.worths;
        small = adding_small d (omega arith);
        sums =
            let whole = summed_one k one other (left - 1) left e in
            let above = summed k (left - 1) (one / (k + 1)) (other / (k + 1)) in
            let turned = ap (λ i. above * i) (mul_comm worth (k + 1)) ∙ sym (mul_assoc above (k + 1) worth) in
            let both = add-mul (above * (k + 1)) d worth in
            let same = ap (λ i. (above * (k + 1) + i) * worth) digit in
            let is = ap (λ i. i * worth) whole in
            let s = h.sums in
            omega arith;
      }

-- ---- the loop over the digits of a number

pub zero_at : (n t : ℕ) → get_or {A = ℕ} (replicate n 0) t 0 ≡ 0
zero_at n t =
    ⊎_elim (λ l. get_or-replicate n t 0 0 l)
    (λ l. get_or_past (replicate n 0) t 0 (subst (λ i. i ≤ t) (sym (length-replicate n 0)) l))
    (cases_lt t n)

pub none_written : (k n number : ℕ) → grid_fits k n ≡ true → Written k n number (replicate 32 0) n number
none_written k n number f =
    let few = few_tags k n f in
    record {
      all = refl;
      few = omega arith;
      zeros = λ t l. zero_at 32 t;
      sums = λ t. let z = zero_at 32 t in omega arith;
    }

pub next_written : (k n number tag rest : ℕ) (counts : List ℕ) → 0 < tag → Written k n number counts tag rest → Written k n number (set counts (tag - 1) (rest % (k + 1))) (tag - 1) (rest / (k + 1))
next_written k n number tag rest counts l h =
    let e : tag ≡ suc (tag - 1) = omega arith in
    one_written k n number (tag - 1) rest counts (subst (λ i. Written k n number counts i rest) e h)
