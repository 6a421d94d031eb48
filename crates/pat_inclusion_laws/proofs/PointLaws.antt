-- The pattern of a set of points has just the words that are cut to one of them.
use Rattle.std.proofs.Common.{◌≡◌, ℕ, zero, suc, ◌+◌, ◌-◌, ◌*◌, ◌≤◌, ◌<◌, min, true, ◌||◌, List, [], ◌∷◌, ◌⊎◌, inl, inr, ⊎_elim, refl, sym, ap, ◌∙◌, subst, arith, mul-zero, mul-one}
use Rattle.std.specs.Prelude.{nat_lt, if◌then◌else◌}
use Rattle.std.proofs.lemmas.Bool.{and_from, cases_lt, cases_eq, cond_both, ltb-true, ltb-false, lt-ltb, cond-true, cond-false, le-ltb}
use Rattle.pat_words_spec.specs.Words.{Word, no_word, one, plus}
use Rattle.pat_words_spec.specs.Patterns.{Pat, Zero, One, Tag, Sum, Prod, Star, In, no_values, is_zero, is_one, pat_eq, sum_of, prod_of, star_of}
use Rattle.pat_words_spec.specs.Cuts.{cut_at}
use Rattle.pat_words_laws.proofs.WordLaws.{word_ext, count_eq, plus_comm}
use Rattle.pat_words_laws.proofs.PatternLaws.{sum_of_to, sum_of_from, prod_of_to, prod_of_from}
use Rattle.pat_words_spec.specs.Tags.{tags_below, HasTagsBelow}
use Rattle.pat_inclusion_spec.specs.Counts.{counted, scaled}
use Rattle.pat_inclusion_spec.specs.Points.{tag_power, count_pattern, point_pattern, with_points, points_pattern}
use Rattle.pat_inclusion_laws.proofs.Languages.{star_least, star_one, star_scaled, scaled_zero, scaled_suc}
use Rattle.pat_inclusion_laws.proofs.Spans.{scaled_sum}
use Rattle.pat_inclusion_laws.proofs.Pumping.{one_other, one_here, alone, cut_cases}

-- ---- one tag

power_to : (m c : ℕ) (w : Word) → In (tag_power m c) w → w ≡ scaled c (one m)
power_to m zero w h = h ∙ sym (scaled_zero (one m))
power_to m (suc c) w h =
    let r = prod_of_to no_values (tag_power m c) (Tag m) w h in
    r.4
    ∙ ap (λ (x : Word). plus x r.1) (power_to m c r.0 r.2)
    ∙ ap (plus (scaled c (one m))) r.3
    ∙ plus_comm (scaled c (one m)) (one m)
    ∙ sym (scaled_suc c (one m))

power_from : (m c : ℕ) (w : Word) → w ≡ scaled c (one m) → In (tag_power m c) w
power_from m zero w h = h ∙ scaled_zero (one m)
power_from m (suc c) w h =
    prod_of_from no_values (tag_power m c) (Tag m) w
    (scaled c (one m), one m, power_from m c (scaled c (one m)) refl, refl, h ∙ scaled_suc c (one m) ∙ plus_comm (one m) (scaled c (one m)))

star_tag_to : (m : ℕ) (w : Word) → In (Star (Tag m)) w → w ≡ scaled (w m) (one m)
star_tag_to m w h =
    alone m w
    (star_least (In (Tag m)) (λ x. (t : ℕ) → (t ≡ m → ⊥) → x t ≡ 0) (λ t d. refl)
    (λ a b ha hb t d. let x = ha t d in let y = hb t d in omega arith)
    (λ x e t d. count_eq x (one m) e t ∙ one_other m t d)
    w
    h)

star_tag_from : (m c : ℕ) → In (Star (Tag m)) (scaled c (one m))
star_tag_from m c = star_scaled (In (Tag m)) c (one m) (star_one (In (Tag m)) (one m) refl)

-- j is cut as c is
abbrev pub CountFits : ℕ → ℕ → ℕ → Type 0
CountFits k c j = (c < k → j ≡ c) × (k ≤ c → k ≤ j)

pub count_to : (k m c : ℕ) (w : Word) → In (count_pattern k m c) w → (j : ℕ) × (w ≡ scaled j (one m)) × CountFits k c j
count_to k m c w =
    cond_both (nat_lt c k) (tag_power m c) (prod_of (tag_power m k) (Star (Tag m)))
    (λ e. In e w → (j : ℕ) × (w ≡ scaled j (one m)) × CountFits k c j)
    (λ l h. let below = ltb-true c k l in (c, power_to m c w h, (λ x. refl, λ x. absurd (omega arith))))
    (λ g h.
    let above = ltb-false c k g in
    let r = prod_of_to no_values (tag_power m k) (Star (Tag m)) w h in
    let j = r.1 m in (
      k + j,
      r.4
          ∙ ap (λ (x : Word). plus x r.1) (power_to m k r.0 r.2)
          ∙ ap (plus (scaled k (one m))) (star_tag_to m r.1 r.3)
          ∙ sym (scaled_sum k j (one m)),
      (λ x. absurd (omega arith), λ x. omega arith),
    ))

count_from : (k m c j : ℕ) → CountFits k c j → In (count_pattern k m c) (scaled j (one m))
count_from k m c j f =
    cond_both (nat_lt c k) (tag_power m c) (prod_of (tag_power m k) (Star (Tag m)))
    (λ e. In e (scaled j (one m)))
    (λ l. power_from m c (scaled j (one m)) (ap (λ x. scaled x (one m)) (f.0 (ltb-true c k l))))
    (λ g.
    let more : k ≤ j = f.1 (ltb-false c k g) in
    let whole : j ≡ k + (j - k) = omega arith in
    prod_of_from no_values (tag_power m k) (Star (Tag m)) (scaled j (one m))
    (scaled k (one m), scaled (j - k) (one m), power_from m k (scaled k (one m)) refl, star_tag_from m (j - k), ap (λ x. scaled x (one m)) whole ∙ scaled_sum k (j - k) (one m)))

-- ---- a point

-- the word has n tags, and each count is cut as that of the point is
abbrev pub PointWord : ℕ → ℕ → Word → Word → Type 0
PointWord k n p w = HasTagsBelow n w × ((t : ℕ) → t < n → CountFits k (p t) (w t))

scaled_here : (j m : ℕ) → scaled j (one m) m ≡ j
scaled_here j m = ap (λ x. j * x) (one_here m m refl) ∙ mul-one j

scaled_other : (j m t : ℕ) → (t ≡ m → ⊥) → scaled j (one m) t ≡ 0
scaled_other j m t d = ap (λ x. j * x) (one_other m t d) ∙ mul-zero j

point_to : (k n : ℕ) (p w : Word) → In (point_pattern k n p) w → PointWord k n p w
point_to k zero p w h = (λ t l. count_eq w no_word h t, λ t l. absurd (omega arith))
point_to k (suc n) p w h =
    let r = prod_of_to no_values (point_pattern k n p) (count_pattern k n (p n)) w h in
    let a = point_to k n p r.0 r.2 in
    let b = count_to k n (p n) r.1 r.3 in
    let at : (t : ℕ) → w t ≡ r.0 t + scaled b.0 (one n) t = λ t. count_eq w (plus r.0 (scaled b.0 (one n))) (r.4 ∙ ap (plus r.0) b.1) t in (
      λ t l. let x = at t in let y = a.0 t (omega arith) in let z = scaled_other b.0 n t (λ e. omega arith) in omega arith,
      λ t l. ⊎_elim
          (λ e.
          let x = at n in
          let y = a.0 n (omega arith) in
          let z = scaled_here b.0 n in
          let same : b.0 ≡ w n = omega arith in
          subst (λ s. CountFits k (p s) (w s)) (sym e) (subst (CountFits k (p n)) same b.2))
          (λ d.
          let x = at t in
          let z = scaled_other b.0 n t d in
          let same : r.0 t ≡ w t = omega arith in
          subst (CountFits k (p t)) same (a.1 t (below t n l d)))
          (cases_eq t n),
    )
  where
    below : (t n : ℕ) → t < suc n → (t ≡ n → ⊥) → t < n
    below t n l d = ⊎_elim (λ x. x) (λ g. absurd (d (omega arith))) (cases_lt t n)

-- the word with the counts of the first n tags alone
abbrev first_tags : ℕ → Word → Word
first_tags n w t = if nat_lt t n then w t else 0

point_from : (k n : ℕ) (p w : Word) → PointWord k n p w → In (point_pattern k n p) w
point_from k zero p w h = word_ext w no_word (λ t. h.0 t (omega arith))
point_from k (suc n) p w h =
    let first = first_tags n w in
    let under : (t : ℕ) → t < n → first t ≡ w t = λ t l. cond-true (nat_lt t n) (w t) 0 (lt-ltb t n l) in
    let over : (t : ℕ) → n ≤ t → first t ≡ 0 = λ t g. cond-false (nat_lt t n) (w t) 0 (le-ltb t n g) in
    prod_of_from no_values (point_pattern k n p) (count_pattern k n (p n)) w (
      first,
      scaled (w n) (one n),
      point_from k n p first (over, λ t l. let m : t < suc n = omega arith in subst (CountFits k (p t)) (sym (under t l)) (h.1 t m)),
      count_from k n (p n) (w n) (h.1 n (omega arith)),
      word_ext w (plus first (scaled (w n) (one n))) (λ t. ⊎_elim
          (λ e.
          let x = over n (omega arith) in
          let z = scaled_here (w n) n in
          let here : w n ≡ first n + scaled (w n) (one n) n = omega arith in
          subst (λ s. w s ≡ first s + scaled (w n) (one n) s) (sym e) here)
          (λ d. ⊎_elim
          (λ l. let x = under t l in let z = scaled_other (w n) n t d in omega arith)
          (λ g. let x = over t g in let z = scaled_other (w n) n t d in let y = h.0 t (past t n g d) in omega arith)
          (cases_lt t n))
          (cases_eq t n)),
    )
  where
    past : (t n : ℕ) → n ≤ t → (t ≡ n → ⊥) → suc n ≤ t
    past t n g d = ⊎_elim (λ l. absurd (d (omega arith))) (λ m. m) (cases_lt t (suc n))

-- ---- a list of points

-- a word of one of the points
abbrev pub AnyPoint : ℕ → ℕ → List (List ℕ) → Word → Type 0
AnyPoint k n [] w = ⊥
AnyPoint k n (p ∷ ps) w = PointWord k n (counted p) w ⊎ AnyPoint k n ps w

with_to : (k n : ℕ) (e : Pat) (ps : List (List ℕ)) (w : Word) → In (with_points k n e ps) w → In e w ⊎ AnyPoint k n ps w
with_to k n e [] w h = inl h
with_to k n e (p ∷ ps) w h =
    ⊎_elim
    (λ i. ⊎_elim (λ l. inl l) (λ r. inr (inl (point_to k n (counted p) w r))) (sum_of_to no_values e (point_pattern k n (counted p)) w i))
    (λ a. inr (inr a))
    (with_to k n (sum_of e (point_pattern k n (counted p))) ps w h)

with_from : (k n : ℕ) (e : Pat) (ps : List (List ℕ)) (w : Word) → In e w ⊎ AnyPoint k n ps w → In (with_points k n e ps) w
with_from k n e [] w h = ⊎_elim (λ i. i) (λ a. absurd a) h
with_from k n e (p ∷ ps) w h =
    let next = point_pattern k n (counted p) in
    with_from k n (sum_of e next) ps w
    (⊎_elim
    (λ i. inl (sum_of_from no_values e next w (inl i)))
    (λ a. ⊎_elim (λ q. inl (sum_of_from no_values e next w (inr (point_from k n (counted p) w q)))) (λ r. inr r) a)
    h)

-- the pattern of points has just the words of the points
pub points_to : (k n : ℕ) (ps : List (List ℕ)) (w : Word) → In (points_pattern k n ps) w → AnyPoint k n ps w
points_to k n ps w h = ⊎_elim (λ z. absurd z) (λ a. a) (with_to k n Zero ps w h)

pub points_from : (k n : ℕ) (ps : List (List ℕ)) (w : Word) → AnyPoint k n ps w → In (points_pattern k n ps) w
points_from k n ps w a = with_from k n Zero ps w (inr a)

count_by_cut : (k c x y : ℕ) → min x k ≡ min y k → CountFits k c x → CountFits k c y
count_by_cut k c x y h f =
    ⊎_elim
    (λ e. subst (CountFits k c) (sym e) f)
    (λ g. let g0 = g.0 in let g1 = g.1 in (λ l. let e = f.0 l in absurd (omega arith), λ l. g1))
    (cut_cases k x y h)

any_by_cut : (k n : ℕ) (ps : List (List ℕ)) (v w : Word) → 1 ≤ k → cut_at k v ≡ cut_at k w → AnyPoint k n ps v → AnyPoint k n ps w
any_by_cut k n [] v w one_or_more c a = absurd a
any_by_cut k n (p ∷ ps) v w one_or_more c a =
    let at : (t : ℕ) → min (v t) k ≡ min (w t) k = λ t. count_eq (cut_at k v) (cut_at k w) c t in
    ⊎_elim
    (λ q. inl (
      λ t l. let x = q.0 t l in let y = at t in omega arith,
      λ t l. count_by_cut k (counted p t) (v t) (w t) (at t) (q.1 t l),
    ))
    (λ r. inr (any_by_cut k n ps v w one_or_more c r))
    a

-- words with the same cut at the bound are both in the pattern of points, or neither
pub points_by_cut : (k n : ℕ) (ps : List (List ℕ)) (v w : Word) → 1 ≤ k → In (points_pattern k n ps) v → cut_at k v ≡ cut_at k w → In (points_pattern k n ps) w
points_by_cut k n ps v w l i c = points_from k n ps w (any_by_cut k n ps v w l c (points_to k n ps v i))

-- ---- the tags of what is built by the simplifying forms

pub sum_tags : (n : ℕ) (e f : Pat) → tags_below n e ≡ true → tags_below n f ≡ true → tags_below n (sum_of e f) ≡ true
sum_tags n e f a b =
    let P : Pat → Type 0 = λ x. tags_below n x ≡ true in
    cond_both (is_zero e) f (if is_zero f then e else if pat_eq e f then e else Sum e f) P
    (λ _. b)
    (λ _. cond_both (is_zero f) e (if pat_eq e f then e else Sum e f) P
    (λ _. a)
    (λ _. cond_both (pat_eq e f) e (Sum e f) P (λ _. a) (λ _. and_from (tags_below n e) (tags_below n f) a b)))

pub prod_tags : (n : ℕ) (e f : Pat) → tags_below n e ≡ true → tags_below n f ≡ true → tags_below n (prod_of e f) ≡ true
prod_tags n e f a b =
    let P : Pat → Type 0 = λ x. tags_below n x ≡ true in
    cond_both (is_zero e || is_zero f) Zero (if is_one e then f else if is_one f then e else Prod e f) P
    (λ _. refl)
    (λ _. cond_both (is_one e) f (if is_one f then e else Prod e f) P
    (λ _. b)
    (λ _. cond_both (is_one f) e (Prod e f) P (λ _. a) (λ _. and_from (tags_below n e) (tags_below n f) a b)))

pub star_tags : (n : ℕ) (e : Pat) → tags_below n e ≡ true → tags_below n (star_of e) ≡ true
star_tags n e a = cond_both (is_zero e || is_one e) One (Star e) (λ x. tags_below n x ≡ true) (λ _. refl) (λ _. a)

power_tags : (n m c : ℕ) → m < n → tags_below n (tag_power m c) ≡ true
power_tags n m zero l = refl
power_tags n m (suc c) l = prod_tags n (tag_power m c) (Tag m) (power_tags n m c l) (lt-ltb m n l)

count_tags : (n k m c : ℕ) → m < n → tags_below n (count_pattern k m c) ≡ true
count_tags n k m c l =
    cond_both (nat_lt c k) (tag_power m c) (prod_of (tag_power m k) (Star (Tag m))) (λ x. tags_below n x ≡ true)
    (λ _. power_tags n m c l)
    (λ _. prod_tags n (tag_power m k) (Star (Tag m)) (power_tags n m k l) (lt-ltb m n l))

point_tags : (n k j : ℕ) (w : Word) → j ≤ n → tags_below n (point_pattern k j w) ≡ true
point_tags n k zero w l = refl
point_tags n k (suc j) w l =
    prod_tags n (point_pattern k j w) (count_pattern k j (w j)) (point_tags n k j w (omega arith)) (count_tags n k j (w j) l)

with_tags : (n k : ℕ) (e : Pat) (ps : List (List ℕ)) → tags_below n e ≡ true → tags_below n (with_points k n e ps) ≡ true
with_tags n k e [] a = a
with_tags n k e (p ∷ ps) a =
    let next = point_pattern k n (counted p) in
    with_tags n k (sum_of e next) ps (sum_tags n e next a (point_tags n k n (counted p) (omega arith)))

pub points_tags : (n k : ℕ) (ps : List (List ℕ)) → tags_below n (points_pattern k n ps) ≡ true
points_tags n k ps = with_tags n k Zero ps refl
