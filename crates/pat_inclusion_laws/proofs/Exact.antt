-- The other directions: a direct cover has numbers, and what is included lies in the cuts.
use Rattle.std.proofs.Common.{◌≡◌, ℕ, zero, suc, ◌+◌, ◌-◌, ◌≤◌, ◌<◌, min, Bool, true, false, ◌&&◌, ◌||◌, nat_eq, List, [], ◌∷◌, ◌++◌, length, map, Some, inl, inr, ⊎_elim, refl, sym, ap, ap₂, ◌∙◌, subst, arith}
use Rattle.std.specs.Prelude.{slice_get, nat_le, if◌then◌else◌}
use Rattle.std.specs.List.{AllByRecursion, list_all, list_any}
use Rattle.std.proofs.lemmas.Bool.{and_parts, and_from, or_cases, or_left, or_right, eq-eqb, leb-true, cases_lt}
use Rattle.pat_words_spec.specs.Words.{Word, no_word, plus}
use Rattle.pat_words_spec.specs.Patterns.{Pat, Zero, One, Tag, Sum, Prod, Star, Var, In}
use Rattle.pat_words_spec.specs.Cuts.{cut_at, CutOf}
use Rattle.pat_words_laws.proofs.WordLaws.{plus_none}
use Rattle.pat_words_spec.specs.Tags.{tags_below, HasTagsBelow}
use Rattle.pat_words_spec.specs.Languages.{MemberOf}
use Rattle.pat_inclusion_spec.specs.Counts.{most_tags, same_below, has_word, scaled, counted}
use Rattle.pat_inclusion_spec.specs.LinearSets.{LinearSet, linear_set, combined, SetBelow, SetsBelow}
use Rattle.pat_inclusion_spec.specs.ClosedForms.{add_period, add_periods, set_product, products, only_empty, star_by, set_star, times_stars, sets_of}
use Rattle.pat_inclusion_spec.specs.Covers.{CoverEntry, makes, makes_from, make_each, entry_covers, is_cover, IsMadeOf, IsDirectlyCovered}
use Rattle.pat_inclusion_spec.specs.Points.{point_fits}
use Rattle.pat_inclusion_spec.specs.CutWords.{cuts_of, cuts_lie}
use Rattle.pat_inclusion_laws.proofs.Languages.{scaled_zero, Into}
use Rattle.pat_inclusion_laws.proofs.Spans.{AllBelow, none_below, same_counts, found_member, add_below}
use Rattle.pat_inclusion_laws.proofs.Forms.{form_below, products_below, star_below}
use Rattle.pat_inclusion_laws.proofs.CutLaws.{cuts_below, cuts_to, cuts_from}
use Rattle.pat_inclusion_laws.proofs.PointLaws.{AnyPoint, CountFits}

pub same_refl : (n : ℕ) (u : Word) → same_below n u u ≡ true
same_refl zero u = refl
same_refl (suc n) u = and_from (same_below n u u) (nat_eq (u n) (u n)) (same_refl n u) (eq-eqb (u n) (u n) refl)

pub same_from : (n : ℕ) (u v : Word) → u ≡ v → same_below n u v ≡ true
same_from n u v e = subst (λ (x : Word). same_below n u x ≡ true) e (same_refl n u)

pub tags_are : most_tags ≡ 32
unfolding most_tags
tags_are = refl

-- ---- numbers of a cover

-- as many numbers as there are periods
fitted : (cs : List ℕ) (ps : List Word) → (ds : List ℕ) × (length ds ≡ length ps) × (combined ds ps ≡ combined cs ps)
fitted cs [] = ([], refl, none cs)
  where
    none : (xs : List ℕ) → combined [] [] ≡ combined xs []
    none [] = refl
    none (x ∷ xs) = refl
fitted [] (p ∷ ps) =
    let r = fitted [] ps in
    (0 ∷ r.0, ap suc r.1, ap (λ (x : Word). plus x (combined r.0 ps)) (scaled_zero p) ∙ ap (plus no_word) r.2 ∙ plus_none no_word)
fitted (c ∷ cs) (p ∷ ps) =
    let r = fitted cs ps in
    (c ∷ r.0, ap suc r.1, ap (plus (scaled c p)) r.2)

numbers_for : (n : ℕ) (ps ws : List Word) → AllByRecursion (IsMadeOf ps) ws → (numbers : List (List ℕ)) × (make_each n ps numbers ws ≡ true)
numbers_for n ps [] a = ([], refl)
numbers_for n ps (w ∷ ws) a =
    let r = numbers_for n ps ws a.1 in
    let f = fitted a.0.0 ps in (
      f.0 ∷ r.0,
      and_from (makes n ps f.0 w) (make_each n ps r.0 ws)
          (and_from (nat_eq (length f.0) (length ps)) (same_below n w (combined f.0 ps)) (eq-eqb (length f.0) (length ps) f.1) (same_from n w (combined f.0 ps) (a.0.1 ∙ sym f.2)))
          r.1,
    )

pub direct_cover : (n : ℕ) (left right : List LinearSet) → IsDirectlyCovered left right → (entries : List CoverEntry) × (is_cover n left right entries ≡ true)
direct_cover n [] right d = ([], refl)
direct_cover n (s ∷ ss) right d =
    let rest = direct_cover n ss right d.1 in
    let place = d.0.0 in
    let r = d.0.1 in
    let lies = d.0.3 in
    let f = fitted lies.base.0 r.periods in
    let each = numbers_for n r.periods s.periods lies.periods in
    let entry : CoverEntry = record { set = place; base = f.0; periods = each.0 } in
    let here : entry_covers n entry s (Some r) ≡ true =
    and_from (makes_from n r.base r.periods f.0 s.base) (make_each n r.periods each.0 s.periods)
    (and_from (nat_eq (length f.0) (length r.periods)) (same_below n s.base (plus r.base (combined f.0 r.periods)))
    (eq-eqb (length f.0) (length r.periods) f.1)
    (same_from n s.base (plus r.base (combined f.0 r.periods)) (lies.base.1 ∙ ap (plus r.base) (sym f.2))))
    each.1 in (
      entry ∷ rest.0,
      and_from (entry_covers n entry s (slice_get right place)) (is_cover n ss right rest.0) (subst (λ o. entry_covers n entry s o ≡ true) (sym d.0.2) here) rest.1,
    )

-- ---- the closed form by more tags

-- words of n tags are compared the same however many more tags are looked at
pub same_more : (n : ℕ) (u v : Word) → HasTagsBelow n u → HasTagsBelow n v → (j : ℕ) → same_below (j + n) u v ≡ same_below n u v
same_more n u v hu hv zero = ap (λ m. same_below m u v) (start n)
  where
    start : (n : ℕ) → 0 + n ≡ n
    start n = omega arith
same_more n u v hu hv (suc j) =
    ap (λ m. same_below m u v) (next j n)
    ∙ ap₂ (λ a b. a && b) (same_more n u v hu hv j) (eq-eqb (u (j + n)) (v (j + n)) (hu (j + n) (omega arith) ∙ sym (hv (j + n) (omega arith))))
    ∙ and_true (same_below n u v)
  where
    next : (j n : ℕ) → suc j + n ≡ suc (j + n)
    next j n = omega arith

    and_true : (b : Bool) → (b && true) ≡ b
    and_true true = refl
    and_true false = refl

module _ (n j : ℕ) where
  abbrev m : ℕ
  m = j + n

  has_more : (ps : List Word) (p : Word) → AllBelow n ps → HasTagsBelow n p → has_word m ps p ≡ has_word n ps p
  has_more [] p a b = refl
  has_more (q ∷ ps) p a b = ap₂ (λ x y. x || y) (same_more n p q b a.0 j) (has_more ps p a.1 b)

  period_more : (ps : List Word) (p : Word) → AllBelow n ps → HasTagsBelow n p → add_period m ps p ≡ add_period n ps p
  period_more ps p a b =
      ap₂ (λ x y. if x || y then ps else ps ++ p ∷ []) (same_more n p no_word b (none_below n) j) (has_more ps p a b)

  periods_more : (ps qs : List Word) → AllBelow n ps → AllBelow n qs → add_periods m ps qs ≡ add_periods n ps qs
  periods_more ps [] a b = refl
  periods_more ps (q ∷ qs) a b =
      ap (λ x. add_periods m x qs) (period_more ps q a b.0) ∙ periods_more (add_period n ps q) qs (add_below n ps q a b.0) b.1

  product_more : (a b : LinearSet) → SetBelow n a → SetBelow n b → set_product m a b ≡ set_product n a b
  product_more a b ha hb = ap (linear_set (plus a.base b.base)) (periods_more a.periods b.periods ha.1 hb.1)

  each_more : (a : LinearSet) (bs : List LinearSet) → SetBelow n a → SetsBelow n bs → map (set_product m a) bs ≡ map (set_product n a) bs
  each_more a [] ha hb = refl
  each_more a (b ∷ bs) ha hb = ap₂ (λ x y. x ∷ y) (product_more a b ha hb.0) (each_more a bs ha hb.1)

  products_more : (xs ys : List LinearSet) → SetsBelow n xs → SetsBelow n ys → products m xs ys ≡ products n xs ys
  products_more [] ys a b = refl
  products_more (x ∷ xs) ys a b = ap₂ (λ x y. x ++ y) (each_more x ys a.0 b) (products_more xs ys a.1 b)

  star_more : (base : Word) (ps : List Word) → HasTagsBelow n base → AllBelow n ps → star_by m base ps ≡ star_by n base ps
  star_more base [] a b = ap (λ x. linear_set no_word x ∷ []) (period_more [] base tt a)
  star_more base (p ∷ ps) a b = ap (λ x. only_empty ∷ linear_set base x ∷ []) (period_more (p ∷ ps) base b a)

  times_more : (made ss : List LinearSet) → SetsBelow n made → SetsBelow n ss → times_stars m made ss ≡ times_stars n made ss
  times_more made [] a b = refl
  times_more made (s ∷ ss) a b =
      let below = star_below n s.base s.periods b.0.0 b.0.1 in
      ap (λ x. times_stars m (products m made x) ss) (star_more s.base s.periods b.0.0 b.0.1)
      ∙ ap (λ x. times_stars m x ss) (products_more made (set_star n s) a below)
      ∙ times_more (products n made (set_star n s)) ss (products_below n made (set_star n s) a below) b.1

  form_more : (e : Pat) → tags_below n e ≡ true → sets_of m e ≡ sets_of n e
  form_more Zero h = refl
  form_more One h = refl
  form_more (Tag t) h = refl
  form_more (Sum e f) h =
      let both = and_parts (tags_below n e) (tags_below n f) h in
      ap₂ (λ x y. x ++ y) (form_more e both.0) (form_more f both.1)
  form_more (Prod e f) h =
      let both = and_parts (tags_below n e) (tags_below n f) h in
      ap₂ (products m) (form_more e both.0) (form_more f both.1)
      ∙ products_more (sets_of n e) (sets_of n f) (form_below n e both.0) (form_below n f both.1)
  form_more (Star e) h =
      ap (times_stars m (only_empty ∷ [])) (form_more e h)
      ∙ times_more (only_empty ∷ []) (sets_of n e) ((none_below n, tt), tt) (form_below n e h)
  form_more (Var k) h = refl

pub form_same : (n m : ℕ) (e : Pat) → n ≤ m → tags_below n e ≡ true → sets_of m e ≡ sets_of n e
form_same n m e l h =
    let whole : m ≡ (m - n) + n = omega arith in
    ap (λ k. sets_of k e) whole ∙ form_more n (m - n) e h

-- ---- points

member_has : (n : ℕ) (ws : List Word) (x : Word) → MemberOf ws x → has_word n ws x ≡ true
member_has n [] x m = absurd m
member_has n (w ∷ ws) x m =
    ⊎_elim
    (λ e. or_left (same_below n x w) (has_word n ws x) (same_from n x w (sym e)))
    (λ k. or_right (same_below n x w) (has_word n ws x) (member_has n ws x k))
    m

pub has_cut : (k n : ℕ) (e : Pat) (u : Word) → tags_below n e ≡ true → HasTagsBelow n u → has_word n (cuts_of k n e) u ≡ true → CutOf k (In e) u
has_cut k n e u t b h = cuts_to k n e u (found_member n (cuts_of k n e) u (cuts_below k n e t) b h)

pub cut_has : (k n : ℕ) (e : Pat) (u : Word) → tags_below n e ≡ true → CutOf k (In e) u → has_word n (cuts_of k n e) u ≡ true
cut_has k n e u t h =
    subst (λ (x : Word). has_word n (cuts_of k n e) x ≡ true) (sym h.2) (member_has n (cuts_of k n e) (cut_at k h.0) (cuts_from k n e t h.0 h.1))

-- where each word of e is cut to the same as a word of f, the cuts lie in one another
pub included_cuts : (k n : ℕ) (e f : Pat) → tags_below n e ≡ true → tags_below n f ≡ true → ((w : Word) → In e w → (v : Word) × In f v × (cut_at k v ≡ cut_at k w)) → cuts_lie k n e f ≡ true
included_cuts k n e f te tf h = each (cuts_of k n e) (cuts_to k n e)
  where
    each : (ws : List Word) → Into (MemberOf ws) (CutOf k (In e)) → list_all (has_word n (cuts_of k n f)) ws ≡ true
    each [] c = refl
    each (x ∷ xs) c =
        let r = c x (inl refl) in
        let v = h r.0 r.1 in
        and_from (has_word n (cuts_of k n f) x) (list_all (has_word n (cuts_of k n f)) xs)
        (cut_has k n f x tf (v.0, v.1, r.2 ∙ sym v.2))
        (each xs (λ y m. c y (inr m)))

pub point_count : (k n : ℕ) (p : List ℕ) → point_fits k n p ≡ true → (t : ℕ) → t < n → counted p t ≤ k
point_count k n [] h t l = omega arith
point_count k zero (c ∷ cs) h t l = absurd (omega arith)
point_count k (suc n) (c ∷ cs) h zero l = leb-true c k (and_parts (nat_le c k) (point_fits k n cs) h).0
point_count k (suc n) (c ∷ cs) h (suc t) l = point_count k n cs (and_parts (nat_le c k) (point_fits k n cs) h).1 t (omega arith)

-- ---- words of points

same_each : (n : ℕ) (u v : Word) → ((t : ℕ) → t < n → u t ≡ v t) → same_below n u v ≡ true
same_each zero u v h = refl
same_each (suc n) u v h =
    and_from (same_below n u v) (nat_eq (u n) (v n)) (same_each n u v (λ t l. h t (omega arith))) (eq-eqb (u n) (v n) (h n (omega arith)))

fits_cut : (k c j : ℕ) → c ≤ k → CountFits k c j → min j k ≡ c
fits_cut k c j l f =
    ⊎_elim
    (λ b. let e = f.0 b in omega arith)
    (λ g. let m = f.1 g in omega arith)
    (cases_lt c k)

cut_fits : (k c j : ℕ) → min j k ≡ c → CountFits k c j
cut_fits k c j h = (λ b. omega arith, λ g. omega arith)

pub any_to : (k n : ℕ) (points : List (List ℕ)) (w : Word) → list_all (point_fits k n) points ≡ true → AnyPoint k n points w → HasTagsBelow n w × (list_any (λ p. same_below n (cut_at k w) (counted p)) points ≡ true)
any_to k n [] w h a = absurd a
any_to k n (p ∷ ps) w h a =
    let both = and_parts (point_fits k n p) (list_all (point_fits k n) ps) h in
    let here = same_below n (cut_at k w) (counted p) in
    let later = list_any (λ q. same_below n (cut_at k w) (counted q)) ps in
    ⊎_elim
    (λ q. (q.0, or_left here later (same_each n (cut_at k w) (counted p) (λ t l. fits_cut k (counted p t) (w t) (point_count k n p both.0 t l) (q.1 t l)))))
    (λ r. let m = any_to k n ps w both.1 r in (m.0, or_right here later m.1))
    a

pub any_from : (k n : ℕ) (points : List (List ℕ)) (w : Word) → HasTagsBelow n w → list_any (λ p. same_below n (cut_at k w) (counted p)) points ≡ true → AnyPoint k n points w
any_from k n [] w b h = cc
any_from k n (p ∷ ps) w b h =
    ⊎_elim
    (λ l. inl (b, λ t m. cut_fits k (counted p t) (w t) (same_counts n (cut_at k w) (counted p) l t m)))
    (λ r. inr (any_from k n ps w b r))
    (or_cases (same_below n (cut_at k w) (counted p)) (list_any (λ q. same_below n (cut_at k w) (counted q)) ps) h)
