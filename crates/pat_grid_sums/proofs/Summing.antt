-- Sums of sets, by words.
use Rattle.std.proofs.Common.{◌≡◌, ℕ, ◌+◌, ◌*◌, ◌/◌, ◌%◌, ◌<◌, ◌≤◌, ⊎_elim, Bool, List, [], ◌∷◌, ◌++◌, replicate, length, get_or, refl, sym, ap, ap₂, ◌∙◌, subst, arith, mul-le-mul_right}
use Rattle.std.specs.Prelude.{IsTrue, ◌↔◌}
use Rattle.std.specs.Int.{bit_at}
use Rattle.std.proofs.lemmas.Bool.{cases_lt}
use Rattle.std.proofs.lemmas.Nat.{div-mul-add, mod-mul-add, div-add-mod'}
use Rattle.std.proofs.Math.Nat.{add-mul}
use Rattle.std.proofs.lemmas.List.{get_or_append_left, get_or_push, length_push}
use Rattle.pat_inclusion_spec.specs.bounds.Numbers.{points_in}
use Rattle.pat_grid_points.specs.Views.{summed}
use Rattle.pat_grid_points.proofs.Digits.{summed_below}
use Rattle.pat_grid_sums.specs.declared.shape.Shape.{Shape}
use Rattle.pat_grid_sums.specs.Sets.{In, Puts, AnyBefore, IsListed, AtNumber, Lists, IsMovedAny, IsAdded}
use Rattle.pat_grid_sums.specs.Shapes.{IsShape, IsRow, IsSum, IsAtSum, Has, AreMoved, IsGathered, IsRowSum, IsAlikeSum, AreSums}
use Rattle.pat_grid_sums.specs.Systems.{Holds, IsSumOf}
use Rattle.pat_grid_sums.proofs.Putting.{puts_as, has_all, has_as, in_within}
use Rattle.pat_grid_sums.proofs.Splitting.{all_points, word_within, place_within, sum_word, sum_place}
use Rattle.pat_grid_sums.proofs.Units.{sum_of_three}

-- the words' bits, each moved by the row of a place
pub moved_sums : (s : Shape) (others row words : List ℕ) (l : ℕ) → s.width ≡ points_in s.k s.low → IsRow s.k s.low l row → Has (AnyBefore (IsMovedAny others row) (length others)) (length others) words → Has (IsSum others s l) (length others) words
moved_sums s others row words l width row_is h =
    has_as (AnyBefore (IsMovedAny others row) (length others)) (IsSum others s l) (length others) words
    (λ a q t.
    let p = t.2 in
    let at : a ≡ t.0 = p.2.1 in
    let few = p.1 in
    let many = row_is.0 in
    (p.0, (let e : p.0 < s.width = omega arith in e), subst (λ i. i < length others) (sym at) t.1, subst (λ i. In others i p.0) (sym at) p.2.0, p.2.2 ∙ row_is.1 p.0 (omega arith)))
    (λ a q t.
    let few = t.1 in
    let many = row_is.0 in
    (a, t.2, (t.0, (let e : t.0 < length row = omega arith in e), (t.3, refl, t.4 ∙ sym (row_is.1 t.0 (omega arith))))))
    h

-- what was moved by one point, moved by another one, is moved by the sum
pub moved_on : (s : Shape) (others x words : List ℕ) (u v l : ℕ) → s.width ≡ points_in s.k s.low → summed s.k s.low u v ≡ l → Has (IsSum others s v) (length others) x → Has (IsSum x s u) (length x) words → Has (IsSum others s l) (length others) words
moved_on s others x words u v l width sum once twice =
    let many = once.as_many in
    let at : (p : ℕ) → summed s.k s.low l p ≡ summed s.k s.low u (summed s.k s.low v p) = λ p. ap (λ i. summed s.k s.low i p) (sym sum) ∙ sum_of_three s.k s.low u v p in
    record {
      as_many = twice.as_many ∙ once.as_many;
      put = λ h q t.
          let r = summed s.k s.low v t.0 in
          let below = summed_below s.k s.low v t.0 in
          let few = t.2 in
          twice.put h q (r, (let e : r < s.width = omega arith in e), (let e : h < length x = omega arith in e), once.put h r (t.0, t.1, t.2, t.3, refl), t.4 ∙ at t.0);
      only = λ h q i.
          let t = twice.only h q i in
          let p = once.only h t.0 t.3 in
          (p.0, p.1, p.2, p.3, t.4 ∙ ap (summed s.k s.low u) p.4 ∙ sym (at p.0));
    }

-- one place more
pub moved_more : (used : ℕ) (others : List ℕ) (s : Shape) (m : ℕ) (all : List (List ℕ)) (new : List ℕ) → AreMoved (used ∷ []) others s m all → length new ≤ length others → (bit_at used m ≡ 1 → Has (IsSum others s m) (length others) new) → AreMoved (used ∷ []) others s (m + 1) (all ++ new ∷ [])
moved_more used others s m all new before fits some =
    let many = before.as_many in
    let last : get_or (all ++ new ∷ []) m [] ≡ new = get_or_push all new [] m before.as_many in
    record {
      as_many = length_push all new ∙ (let e : length all + 1 ≡ m + 1 = omega arith in e);
      fits = λ l k. ⊎_elim
          (λ (below : l < m). subst (λ i. length i ≤ length others) (sym (get_or_append_left all (new ∷ []) [] l (omega arith))) (before.fits l below))
          (λ (past : m ≤ l). let e : m ≡ l = omega arith in subst (λ i. length (get_or (all ++ new ∷ []) i []) ≤ length others) e (subst (λ i. length i ≤ length others) (sym last) fits))
          (cases_lt l m);
      moved = λ l h k there i. ⊎_elim
          (λ (below : l < m). subst (Has (IsSum others s l) (length others)) (sym (get_or_append_left all (new ∷ []) [] l (omega arith))) (before.moved l h below there i))
          (λ (past : m ≤ l).
          let e : m ≡ l = omega arith in
          let one : h < 1 = there in
          let first : h ≡ 0 = omega arith in
          let bit : bit_at used m ≡ 1 = subst (λ j. In (used ∷ []) j m) first (subst (In (used ∷ []) h) (sym e) i) in
          subst (λ j. Has (IsSum others s j) (length others) (get_or (all ++ new ∷ []) j [])) e (subst (Has (IsSum others s m) (length others)) (sym last) (some bit)))
          (cases_lt l m);
    }

-- for all words whose bits are used
pub moved_for : (ones others : List ℕ) (s : Shape) (m used : ℕ) (all : List (List ℕ)) → ((h q : ℕ) → h < length ones → In ones h q → bit_at used q ≡ 1) → AreMoved (used ∷ []) others s m all → AreMoved ones others s m all
moved_for ones others s m used all bits are = record {
  as_many = are.as_many;
  fits = are.fits;
  moved = λ l h k there i. are.moved l 0 k (let e : 0 < 1 = omega arith in e) (bits h l there i);
}

-- one bit of the word
pub added_if : (ones : List ℕ) (word : ℕ) (moved : List (List ℕ)) (l : ℕ) (wanted : Bool) (now x y : List ℕ) → (IsTrue wanted ↔ In ones word l) → now ≡ get_or moved l [] → Puts (λ h q. IsTrue wanted × In now h q) x y → Puts (IsAdded ones word moved l) x y
added_if ones word moved l wanted now x y test is h =
    puts_as (λ a q. IsTrue wanted × In now a q) (IsAdded ones word moved l) x y
    (λ a q t. (test.0 t.0, subst (λ xs. In xs a q) is t.1))
    (λ a q t. (test.1 t.0, subst (λ xs. In xs a q) (sym is) t.1))
    h

-- ---- what is gathered for a word

-- what is put in by all bits of a word
pub gathered_made : (s : Shape) (ones : List ℕ) (moved : List (List ℕ)) (zeros words : List ℕ) (i : ℕ) → ((l : ℕ) → l < length moved → length (get_or moved l []) ≤ s.words) → zeros ≡ replicate s.words 0 → Puts (AnyBefore (IsAdded ones i moved) (length moved)) zeros words → IsGathered moved s (get_or ones i 0) words
gathered_made s ones moved zeros words i short none h =
    let P : ℕ → ℕ → Type 0 = λ a q. (l : ℕ) × (l < length moved) × In ones i l × (a < s.words) × In (get_or moved l []) a q in
    has_all P s.words words
    (puts_as (AnyBefore (IsAdded ones i moved) (length moved)) P (replicate s.words 0) words
    (λ a q t. (t.0, t.1, t.2.0, (let l = in_within (get_or moved t.0 []) a q t.2.1 in let few = short t.0 t.1 in let e : a < s.words = omega arith in e), t.2.1))
    (λ a q t. (t.0, t.1, (t.2, t.4)))
    (subst (λ z. Puts (AnyBefore (IsAdded ones i moved) (length moved)) z words) none h))

-- each word of what was gathered at its sum with another word's point: where that word is the same, these are the sums of its points
pub alike_at_sums : (s : Shape) (ones : List ℕ) (moved : List (List ℕ)) (words x y : List ℕ) (i j : ℕ) → s.words ≡ points_in s.k s.high → get_or ones j 0 ≡ get_or ones i 0 → IsGathered moved s (get_or ones i 0) words → Puts (AnyBefore (IsAtSum s.k s.high j words) (points_in s.k s.high)) x y → Puts (IsAlikeSum ones moved s i j) x y
alike_at_sums s ones moved words x y i j count same gathered h =
    puts_as (AnyBefore (IsAtSum s.k s.high j words) (points_in s.k s.high)) (IsAlikeSum ones moved s i j) x y
    (λ a q t.
    let w = t.0 in
    let few = t.1 in
    let g = gathered.only w q t.2.1 in
    (same, (g.0, w, g.1, subst (λ b. bit_at b g.0 ≡ 1) (sym same) g.2, g.3, t.2.0, g.4)))
    (λ a q t.
    let r = t.1 in
    let few = r.4 in
    (r.1, (let e : r.1 < points_in s.k s.high = omega arith in e), (r.5, gathered.put r.1 q (r.0, r.2, subst (λ b. bit_at b r.0 ≡ 1) same r.3, r.4, r.6))))
    h

-- ---- sums of sets

pub same_number : (c d w : ℕ) → c / w ≡ d / w → c % w ≡ d % w → c ≡ d
same_number c d w e f = sym (div-add-mod' c w) ∙ ap₂ (λ i j. i * w + j) e f ∙ div-add-mod' d w

module _ (n : ℕ) (s : Shape) (shape : IsShape s.k n s) where
  number_within : (i q : ℕ) → i < s.words → q < s.width → i * s.width + q < points_in s.k n
  number_within i q l m =
      let all = all_points s.k n s shape in
      let grown : (i + 1) * s.width ≤ s.words * s.width = mul-le-mul_right s.width (omega arith) in
      let apart = add-mul i 1 s.width in
      omega arith

  holds_at : (words : List ℕ) (i q : ℕ) → q < s.width → In words i q → Holds s.width words (i * s.width + q)
  holds_at words i q m h =
      subst (λ a. In words a ((i * s.width + q) % s.width)) (sym (div-mul-add i s.width q m)) (subst (In words i) (sym (mod-mul-add i s.width q m)) h)

  module _ (ones others : List ℕ) (moved : List (List ℕ)) (sums : List ℕ) (had : length ones ≡ s.words) (have : length others ≡ s.words) (went : AreMoved ones others s s.width moved) (summing : Has (AnyBefore (IsRowSum ones moved s) (length ones)) s.words sums) where
    sum_only : (h q : ℕ) → In sums h q → IsSumOf s n ones others h q
    sum_only h q here =
        let found = summing.only h q here in
        let i = found.0 in
        let sum = found.2 in
        let l = sum.0 in
        let w = sum.1 in
        let many = went.as_many in
        let small : l < s.width = (let m = sum.2 in omega arith) in
        let by = (went.moved l i small found.1 sum.3).only w q sum.6 in
        let p = by.0 in
        let v = i * s.width + l in
        let x = w * s.width + p in
        let below = found.1 in
        let v_word = div-mul-add i s.width l small in
        let v_place = mod-mul-add i s.width l small in
        let x_word = div-mul-add w s.width p by.1 in
        let x_place = mod-mul-add w s.width p by.1 in (
          v,
          x,
          number_within i l (omega arith) small,
          number_within w p sum.4 by.1,
          holds_at ones i l small sum.3,
          holds_at others w p by.1 by.3,
          sum.5 ∙ ap₂ (summed s.k s.high) (sym v_word) (sym x_word) ∙ sym (sum_word s.k n s shape v x),
          by.4 ∙ ap₂ (summed s.k s.low) (sym v_place) (sym x_place) ∙ sym (sum_place s.k n s shape v x),
        )

    sum_put : (h q : ℕ) → IsSumOf s n ones others h q → In sums h q
    sum_put h q t =
        let v = t.0 in
        let w = t.1 in
        let all = all_points s.k n s shape in
        let lv = t.2 in
        let lw = t.3 in
        let word_there : v / s.width < length ones = subst (λ m. v / s.width < m) (sym had) (word_within s.k n s shape v (omega arith)) in
        let other_there : w / s.width < s.words = word_within s.k n s shape w (omega arith) in
        let place_there : v % s.width < s.width = place_within s.k n s shape v in
        let in_moved : In (get_or moved (v % s.width) []) (w / s.width) (summed s.k s.low (v % s.width) (w % s.width)) =
        (went.moved (v % s.width) (v / s.width) place_there word_there t.4).put (w / s.width) (summed s.k s.low (v % s.width) (w % s.width)) (w % s.width, place_within s.k n s shape w, subst (λ m. w / s.width < m) (sym have) other_there, t.5, refl) in
        let many = went.as_many in
        let here : In sums (summed s.k s.high (v / s.width) (w / s.width)) (summed s.k s.low (v % s.width) (w % s.width)) =
        summing.put (summed s.k s.high (v / s.width) (w / s.width)) (summed s.k s.low (v % s.width) (w % s.width))
        (v / s.width, word_there, (v % s.width, w / s.width, (let e : v % s.width < length moved = omega arith in e), t.4, other_there, refl, in_moved)) in
        subst (λ a. In sums a q) (sym (t.6 ∙ sum_word s.k n s shape v w)) (subst (In sums (summed s.k s.high (v / s.width) (w / s.width))) (sym (t.7 ∙ sum_place s.k n s shape v w)) here)

    pub set_sums : Has (IsSumOf s n ones others) s.words sums
    set_sums = record { as_many = summing.as_many; put = sum_put; only = sum_only }

pub own_shape : (k n : ℕ) (s : Shape) → IsShape k n s → IsShape s.k n s
own_shape k n s shape = subst (λ i. IsShape i n s) (sym shape.bound) shape

module _ (k n : ℕ) (s : Shape) (shape : IsShape k n s) (firsts seconds ones others sums numbers : List ℕ) (had : Has (AnyBefore (AtNumber firsts s.width) (length firsts)) s.words ones) (have : Has (AnyBefore (AtNumber seconds s.width) (length seconds)) s.words others) (summing : Has (IsSumOf s n ones others) s.words sums) (listed : Lists sums s.width (s.words * s.width) numbers) where
  pub numbers_within : (t : ℕ) → t < length numbers → get_or numbers t 0 < points_in k n
  numbers_within t l = subst (λ m. get_or numbers t 0 < m) (all_points k n s shape) (listed.only t l).0

  pub are_sums : (t : ℕ) → t < length numbers → (i j : ℕ) × (i < length firsts) × (j < length seconds) × (get_or numbers t 0 ≡ summed k n (get_or firsts i 0) (get_or seconds j 0))
  are_sums t l =
      let c = get_or numbers t 0 in
      let found = summing.only (c / s.width) (c % s.width) (listed.only t l).1 in
      let v = found.0 in
      let w = found.1 in
      let first = had.only (v / s.width) (v % s.width) found.4 in
      let second = have.only (w / s.width) (w % s.width) found.5 in
      let sum : c ≡ summed s.k n v w = same_number c (summed s.k n v w) s.width found.6 found.7 in
      let one : v ≡ get_or firsts first.0 0 = same_number v (get_or firsts first.0 0) s.width first.2.0 first.2.1 in
      let other : w ≡ get_or seconds second.0 0 = same_number w (get_or seconds second.0 0) s.width second.2.0 second.2.1 in
      (first.0, second.0, first.1, second.1, sum ∙ ap (λ i. summed i n v w) shape.bound ∙ ap₂ (summed k n) one other)

  pub all_sums : (i j : ℕ) → i < length firsts → j < length seconds → get_or firsts i 0 < points_in k n → get_or seconds j 0 < points_in k n → IsListed (summed k n (get_or firsts i 0) (get_or seconds j 0)) numbers
  all_sums i j li lj lv lw =
      let v = get_or firsts i 0 in
      let w = get_or seconds j 0 in
      let c = summed k n v w in
      let all = all_points k n s shape in
      let same : summed s.k n v w ≡ c = ap (λ a. summed a n v w) shape.bound in
      let more : points_in k n ≡ points_in s.k n = ap (λ a. points_in a n) (sym shape.bound) in
      let below = summed_below k n v w in
      let here = summing.put (c / s.width) (c % s.width) (
        v,
        w,
        (let m : v < points_in s.k n = omega arith in m),
        (let m : w < points_in s.k n = omega arith in m),
        had.put (v / s.width) (v % s.width) (i, li, (refl, refl)),
        have.put (w / s.width) (w % s.width) (j, lj, (refl, refl)),
        ap (λ a. a / s.width) (sym same),
        ap (λ a. a % s.width) (sym same),
      ) in
      listed.all c (omega arith) here

  pub sums_made : ((i : ℕ) → i < length firsts → get_or firsts i 0 < points_in k n) → ((j : ℕ) → j < length seconds → get_or seconds j 0 < points_in k n) → AreSums k n firsts seconds numbers
  sums_made lf ls = record {
    within = numbers_within;
    only = are_sums;
    all = λ i j l m. all_sums i j l m (lf i l) (ls j m);
  }
