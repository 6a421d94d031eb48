-- Patterns of points that become too large on the way stay so.
use Rattle.std.proofs.Common.{◌≡◌, ℕ, zero, suc, ◌+◌, ◌-◌, ◌≤◌, ◌<◌, Bool, true, false, ◌||◌, List, [], ◌∷◌, Option, Some, None, map, length, drop, get_or, refl, sym, ap, ◌∙◌, subst, ⊎_elim, arith}
use Rattle.std.specs.Prelude.{if◌then◌else◌, nat_lt}
use Rattle.std.proofs.lemmas.Bool.{cond_both, cond-true, cond-false, cases_lt, le-ltb, ltb-false, lt-ltb, or_cases}
use Rattle.pat_words_spec.specs.Words.{Word}
use Rattle.pat_words_spec.specs.Patterns.{Pat, Zero, One, Tag, Prod, Star, is_zero, is_one, sum_of, prod_of, star_of}
use Rattle.pat_words_spec.specs.Sizes.{size_of}
use Rattle.std.proofs.Math.Seq.{drop-cons}
use Rattle.pat_bags.specs.declared.Bag.{Bag}
use Rattle.pat_certificate_values.specs.Views.{counts_of}
use Rattle.pat_patterns.specs.Views.{pattern_view}
use Rattle.pat_inclusion_spec.specs.Counts.{counted}
use Rattle.pat_inclusion_spec.specs.Points.{tag_power, count_pattern, point_pattern, with_points, points_pattern}
use Rattle.pat_certificate_values.specs.declared.forms.building.Built.{Built}
use Rattle.pat_certificate_values.specs.forms.Limits.{Limits}
use Rattle.pat_certificate_values.proofs.Large.{large_left, large_right, product_left, product_right}
use Rattle.pat_limits.specs.Limits.{most_nodes}

abbrev IsLarge : Pat → Type 0
IsLarge e = most_nodes < size_of e

product_nonzero : (e f : Pat) → is_zero e ≡ false → is_zero f ≡ false → is_zero (prod_of e f) ≡ false
product_nonzero e f n m =
    cond_both (is_zero e || is_zero f) Zero (if is_one e then f else if is_one f then e else Prod e f) (λ x. is_zero x ≡ false)
    (λ z. let q : false ≡ true = sym (ap (λ b. b || is_zero f) n ∙ m) ∙ z in absurd (cc))
    (λ _. cond_both (is_one e) f (if is_one f then e else Prod e f) (λ x. is_zero x ≡ false)
    (λ _. m)
    (λ _. cond_both (is_one f) e (Prod e f) (λ x. is_zero x ≡ false) (λ _. n) (λ _. refl)))

power_nonzero : (m c : ℕ) → is_zero (tag_power m c) ≡ false
power_nonzero m zero = refl
power_nonzero m (suc c) = product_nonzero (tag_power m c) (Tag m) (power_nonzero m c) refl

count_nonzero : (k m c : ℕ) → is_zero (count_pattern k m c) ≡ false
count_nonzero k m c =
    cond_both (nat_lt c k) (tag_power m c) (prod_of (tag_power m k) (Star (Tag m))) (λ x. is_zero x ≡ false)
    (λ _. power_nonzero m c)
    (λ _. product_nonzero (tag_power m k) (Star (Tag m)) (power_nonzero m k) refl)

point_nonzero : (k n : ℕ) (w : Word) → is_zero (point_pattern k n w) ≡ false
point_nonzero k zero w = refl
point_nonzero k (suc n) w = product_nonzero (point_pattern k n w) (count_pattern k n (w n)) (point_nonzero k n w) (count_nonzero k n (w n))

-- ---- one tag

power_on : (m c x : ℕ) → IsLarge (tag_power m c) → IsLarge (tag_power m (x + c))
power_on m c zero l = subst (λ n. IsLarge (tag_power m n)) (start c) l
  where
    start : (c : ℕ) → c ≡ 0 + c
    start c = omega arith
power_on m c (suc x) l = subst (λ n. IsLarge (tag_power m n)) (next c x) (product_left (tag_power m (x + c)) (Tag m) (power_on m c x l) refl)
  where
    next : (c x : ℕ) → suc (x + c) ≡ suc x + c
    next c x = omega arith

pub power_stays : (m c d : ℕ) → c < d → IsLarge (prod_of (tag_power m c) (Tag m)) → IsLarge (tag_power m d)
power_stays m c d l h =
    let e : (d - suc c) + suc c ≡ d = omega arith in subst (λ n. IsLarge (tag_power m n)) e (power_on m (suc c) (d - suc c) h)

pub count_less : (k m c : ℕ) → c < k → count_pattern k m c ≡ tag_power m c
count_less k m c l = cond-true (nat_lt c k) (tag_power m c) (prod_of (tag_power m k) (Star (Tag m))) (lt-ltb c k l)

pub count_full : (k m c : ℕ) → k ≤ c → count_pattern k m c ≡ prod_of (tag_power m k) (Star (Tag m))
count_full k m c l = cond-false (nat_lt c k) (tag_power m c) (prod_of (tag_power m k) (Star (Tag m))) (le-ltb c k l)

pub full_large : (m k : ℕ) → IsLarge (tag_power m k) → IsLarge (prod_of (tag_power m k) (Star (Tag m)))
full_large m k l = product_left (tag_power m k) (Star (Tag m)) l refl

-- ---- a point

point_on : (k n x : ℕ) (w : Word) → IsLarge (point_pattern k n w) → IsLarge (point_pattern k (x + n) w)
point_on k n zero w l = subst (λ j. IsLarge (point_pattern k j w)) (start n) l
  where
    start : (n : ℕ) → n ≡ 0 + n
    start n = omega arith
point_on k n (suc x) w l =
    subst (λ j. IsLarge (point_pattern k j w)) (next n x)
    (product_left (point_pattern k (x + n) w) (count_pattern k (x + n) (w (x + n))) (point_on k n x w l) (count_nonzero k (x + n) (w (x + n))))
  where
    next : (n x : ℕ) → suc (x + n) ≡ suc x + n
    next n x = omega arith

pub point_stays : (k n d : ℕ) (w : Word) → n < d → IsLarge (prod_of (point_pattern k n w) (count_pattern k n (w n))) → IsLarge (point_pattern k d w)
point_stays k n d w l h =
    let e : (d - suc n) + suc n ≡ d = omega arith in subst (λ j. IsLarge (point_pattern k j w)) e (point_on k (suc n) (d - suc n) w h)

pub count_stays : (k n d : ℕ) (w : Word) → n < d → IsLarge (count_pattern k n (w n)) → IsLarge (point_pattern k d w)
count_stays k n d w l h = point_stays k n d w l (product_right (point_pattern k n w) (count_pattern k n (w n)) h (point_nonzero k n w))

-- ---- points

pub points_stay : (k n : ℕ) (e : Pat) (ps : List (List ℕ)) → IsLarge e → IsLarge (with_points k n e ps)
points_stay k n e [] l = l
points_stay k n e (p ∷ ps) l = points_stay k n (sum_of e (point_pattern k n (counted p))) ps (large_left e (point_pattern k n (counted p)) l)

-- a point that is too large makes the whole so
pub points_large : (k n : ℕ) (e : Pat) (p : List ℕ) (ps : List (List ℕ)) → IsLarge (point_pattern k n (counted p)) → IsLarge (with_points k n e (p ∷ ps))
points_large k n e p ps l = points_stay k n (sum_of e (point_pattern k n (counted p))) ps (large_right e (point_pattern k n (counted p)) l)

-- so in a loop along the points, at the place of one of them
module _ (k n : ℕ) (e : Pat) (all : List Bag) (i : ℕ) (d : Bag) (inside : i < length all) (is : with_points k n e (map counts_of (drop i all)) ≡ points_pattern k n (map counts_of all)) where
  split : map counts_of (drop i all) ≡ counts_of (get_or all i d) ∷ map counts_of (drop (suc i) all)
  split = ap (map counts_of) (drop-cons all i d inside)

  pub point_over : (o : Option Built) → Limits (point_pattern k n (counted (counts_of (get_or all i d)))) o → o ≡ None → IsLarge (points_pattern k n (map counts_of all))
  point_over o l none =
      subst IsLarge (ap (with_points k n e) (sym split) ∙ is)
      (points_large k n e (counts_of (get_or all i d)) (map counts_of (drop (suc i) all)) (subst (Limits (point_pattern k n (counted (counts_of (get_or all i d))))) none l))

  pub sum_over : (o : Option Built) (own : Built) (s : Option Built) → Limits (point_pattern k n (counted (counts_of (get_or all i d)))) o → o ≡ Some own → Limits (sum_of e (pattern_view own.pattern)) s → s ≡ None → IsLarge (points_pattern k n (map counts_of all))
  sum_over o own s l some large none =
      let same = (subst (Limits (point_pattern k n (counted (counts_of (get_or all i d))))) some l).0 in
      subst IsLarge (ap (with_points k n e) (sym split) ∙ is)
      (points_stay k n (sum_of e (point_pattern k n (counted (counts_of (get_or all i d))))) (map counts_of (drop (suc i) all))
      (subst (λ x. IsLarge (sum_of e x)) same (subst (Limits (sum_of e (pattern_view own.pattern))) none large)))
