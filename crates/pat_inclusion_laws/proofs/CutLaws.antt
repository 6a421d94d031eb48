-- The list of points of a pattern has just its words, cut.
use Rattle.std.proofs.Common.{◌≡◌, ℕ, zero, suc, ◌+◌, ◌*◌, ◌≤◌, ◌<◌, min, true, List, [], ◌∷◌, inl, inr, ⊎_elim, refl, sym, ap, ◌∙◌, subst, arith, mul-zero, le-mul_of_pos_right, mul-le-mul_right, le_of_lt, le_refl}
use Rattle.std.specs.List.{list_all}
use Rattle.std.proofs.lemmas.Bool.{and_parts, cases_lt, cases_eq, cond_both, ltb-true}
use Rattle.pat_words_spec.specs.Words.{Word, no_word, one, plus}
use Rattle.pat_words_spec.specs.Patterns.{Pat, Zero, One, Tag, Sum, Prod, Star, Var, Language, In}
use Rattle.pat_words_spec.specs.Cuts.{cut_at, CutOf}
use Rattle.pat_words_laws.proofs.WordLaws.{word_ext, plus_assoc, plus_none, none_plus}
use Rattle.pat_words_spec.specs.Tags.{tags_below, HasTagsBelow}
use Rattle.pat_words_spec.specs.Languages.{SumOf, StarOf, EitherOf, MemberOf}
use Rattle.pat_inclusion_spec.specs.Counts.{has_word, scaled}
use Rattle.pat_inclusion_spec.specs.CutWords.{add_point, add_points, shifted, point_sums, multiples, with_multiples, cuts_of, cuts_lie}
use Rattle.pat_inclusion_laws.proofs.Languages.{Into, sum_assoc_to, scaled_zero, scaled_suc, star_none, star_one, star_sum, star_mono, star_least, star_scaled, star_either_to}
use Rattle.pat_inclusion_laws.proofs.Spans.{AllBelow, none_below, plus_below, found_member, scaled_sum, scaled_one}
use Rattle.pat_inclusion_laws.proofs.Forms.{one_below}
use Rattle.pat_inclusion_laws.proofs.Pumping.{only_none}

pub cut_mono : (k : ℕ) (L M : Language) → Into L M → Into (CutOf k L) (CutOf k M)
cut_mono k L M f u h = (h.0, f h.0 h.1, h.2)

-- ---- cut words

pub cut_below : (n k : ℕ) (w : Word) → HasTagsBelow n w → HasTagsBelow n (cut_at k w)
cut_below n k w h t l = let e = h t l in omega arith

pub cut_none : (k : ℕ) → cut_at k no_word ≡ no_word
cut_none k = word_ext (cut_at k no_word) no_word (λ t. omega arith)

pub cut_twice : (k : ℕ) (w : Word) → cut_at k (cut_at k w) ≡ cut_at k w
cut_twice k w = word_ext (cut_at k (cut_at k w)) (cut_at k w) (λ t. omega arith)

pub cut_sum : (k : ℕ) (u v : Word) → cut_at k (plus (cut_at k u) (cut_at k v)) ≡ cut_at k (plus u v)
cut_sum k u v = word_ext (cut_at k (plus (cut_at k u) (cut_at k v))) (cut_at k (plus u v)) (λ t. omega arith)

pub cut_scaled : (k c : ℕ) (w : Word) → cut_at k (scaled c (cut_at k w)) ≡ cut_at k (scaled c w)
cut_scaled k zero w = ap (cut_at k) (scaled_zero (cut_at k w) ∙ sym (scaled_zero w))
cut_scaled k (suc c) w =
    ap (cut_at k) (scaled_suc c (cut_at k w))
    ∙ sym (cut_sum k (cut_at k w) (scaled c (cut_at k w)))
    ∙ ap (λ (x : Word). cut_at k (plus x (cut_at k (scaled c (cut_at k w))))) (cut_twice k w)
    ∙ ap (λ (x : Word). cut_at k (plus (cut_at k w) x)) (cut_scaled k c w)
    ∙ cut_sum k w (scaled c w)
    ∙ ap (cut_at k) (sym (scaled_suc c w))

-- a word taken more than k times is cut to the same as taken k times
cut_many : (k c : ℕ) (w : Word) → k ≤ c → cut_at k (scaled c w) ≡ cut_at k (scaled k w)
cut_many k c w l =
    word_ext (cut_at k (scaled c w)) (cut_at k (scaled k w))
    (λ t. ⊎_elim
    (λ z. ap (λ x. min (c * x) k) (none t z) ∙ ap (λ x. min x k) (mul-zero c ∙ sym (mul-zero k)) ∙ ap (λ x. min (k * x) k) (sym (none t z)))
    (λ p.
    let a : k ≤ k * w t = le-mul_of_pos_right k p in
    let b : k * w t ≤ c * w t = mul-le-mul_right (w t) l in
    omega arith)
    (cases_lt (w t) 1))
  where
    none : (t : ℕ) → w t < 1 → w t ≡ 0
    none t z = omega arith

-- ---- the lists

point_to : (n : ℕ) (w : Word) (ws : List Word) → Into (MemberOf (add_point n w ws)) (EitherOf (λ x. w ≡ x) (MemberOf ws))
point_to n w ws =
    cond_both (has_word n ws w) ws (w ∷ ws) (λ xs. Into (MemberOf xs) (EitherOf (λ x. w ≡ x) (MemberOf ws)))
    (λ _ x h. inr h)
    (λ _ x h. h)

point_from : (n : ℕ) (w : Word) (ws : List Word) → HasTagsBelow n w → AllBelow n ws → Into (EitherOf (λ x. w ≡ x) (MemberOf ws)) (MemberOf (add_point n w ws))
point_from n w ws hw hs =
    cond_both (has_word n ws w) ws (w ∷ ws) (λ xs. Into (EitherOf (λ x. w ≡ x) (MemberOf ws)) (MemberOf xs))
    (λ found x h. ⊎_elim (λ e. subst (MemberOf ws) e (found_member n ws w hs hw found)) (λ k. k) h)
    (λ _ x h. h)

point_below : (n : ℕ) (w : Word) (ws : List Word) → HasTagsBelow n w → AllBelow n ws → AllBelow n (add_point n w ws)
point_below n w ws hw hs = cond_both (has_word n ws w) ws (w ∷ ws) (AllBelow n) (λ _. hs) (λ _. (hw, hs))

points_below : (n : ℕ) (vs ws : List Word) → AllBelow n vs → AllBelow n ws → AllBelow n (add_points n vs ws)
points_below n [] ws a b = b
points_below n (v ∷ vs) ws a b = point_below n v (add_points n vs ws) a.0 (points_below n vs ws a.1 b)

points_to : (n : ℕ) (vs ws : List Word) → Into (MemberOf (add_points n vs ws)) (EitherOf (MemberOf vs) (MemberOf ws))
points_to n [] ws x h = inr h
points_to n (v ∷ vs) ws x h =
    ⊎_elim
    (λ e. inl (inl e))
    (λ k. ⊎_elim (λ l. inl (inr l)) (λ l. inr l) (points_to n vs ws x k))
    (point_to n v (add_points n vs ws) x h)

points_from : (n : ℕ) (vs ws : List Word) → AllBelow n vs → AllBelow n ws → Into (EitherOf (MemberOf vs) (MemberOf ws)) (MemberOf (add_points n vs ws))
points_from n [] ws a b x h = ⊎_elim (λ k. absurd k) (λ k. k) h
points_from n (v ∷ vs) ws a b x h =
    point_from n v (add_points n vs ws) a.0 (points_below n vs ws a.1 b) x
    (⊎_elim
    (λ k. ⊎_elim (λ e. inl e) (λ l. inr (points_from n vs ws a.1 b x (inl l))) k)
    (λ k. inr (points_from n vs ws a.1 b x (inr k)))
    h)

-- the cut sum of v and a word of the list
abbrev pub ShiftOf : ℕ → Word → List Word → Language
ShiftOf k v ws x = (w : Word) × MemberOf ws w × (x ≡ cut_at k (plus v w))

shifted_below : (k n : ℕ) (v : Word) (ws : List Word) → HasTagsBelow n v → AllBelow n ws → AllBelow n (shifted k n v ws)
shifted_below k n v [] a b = tt
shifted_below k n v (w ∷ ws) a b =
    point_below n (cut_at k (plus v w)) (shifted k n v ws) (cut_below n k (plus v w) (plus_below n v w a b.0)) (shifted_below k n v ws a b.1)

shifted_to : (k n : ℕ) (v : Word) (ws : List Word) → Into (MemberOf (shifted k n v ws)) (ShiftOf k v ws)
shifted_to k n v [] x h = absurd h
shifted_to k n v (w ∷ ws) x h =
    ⊎_elim
    (λ e. (w, inl refl, sym e))
    (λ m. let r = shifted_to k n v ws x m in (r.0, inr r.1, r.2))
    (point_to n (cut_at k (plus v w)) (shifted k n v ws) x h)

shifted_from : (k n : ℕ) (v : Word) (ws : List Word) → HasTagsBelow n v → AllBelow n ws → Into (ShiftOf k v ws) (MemberOf (shifted k n v ws))
shifted_from k n v [] a b x h = absurd h.1
shifted_from k n v (w ∷ ws) a b x h =
    point_from n (cut_at k (plus v w)) (shifted k n v ws) (cut_below n k (plus v w) (plus_below n v w a b.0)) (shifted_below k n v ws a b.1) x
    (⊎_elim
    (λ e. inl (ap (λ (y : Word). cut_at k (plus v y)) e ∙ sym h.2))
    (λ m. inr (shifted_from k n v ws a b.1 x (h.0, m, h.2)))
    h.1)

sums_below : (k n : ℕ) (vs ws : List Word) → AllBelow n vs → AllBelow n ws → AllBelow n (point_sums k n vs ws)
sums_below k n [] ws a b = tt
sums_below k n (v ∷ vs) ws a b =
    points_below n (shifted k n v ws) (point_sums k n vs ws) (shifted_below k n v ws a.0 b) (sums_below k n vs ws a.1 b)

-- the cut sums of a word of each
abbrev pub CutSum : ℕ → List Word → List Word → Language
CutSum k vs ws x = (v w : Word) × MemberOf vs v × MemberOf ws w × (x ≡ cut_at k (plus v w))

sums_to : (k n : ℕ) (vs ws : List Word) → Into (MemberOf (point_sums k n vs ws)) (CutSum k vs ws)
sums_to k n [] ws x h = absurd h
sums_to k n (v ∷ vs) ws x h =
    ⊎_elim
    (λ m. let r = shifted_to k n v ws x m in (v, r.0, inl refl, r.1, r.2))
    (λ m. let r = sums_to k n vs ws x m in (r.0, r.1, inr r.2, r.3, r.4))
    (points_to n (shifted k n v ws) (point_sums k n vs ws) x h)

sums_from : (k n : ℕ) (vs ws : List Word) → AllBelow n vs → AllBelow n ws → Into (CutSum k vs ws) (MemberOf (point_sums k n vs ws))
sums_from k n [] ws a b x h = absurd h.2
sums_from k n (v ∷ vs) ws a b x h =
    points_from n (shifted k n v ws) (point_sums k n vs ws) (shifted_below k n v ws a.0 b) (sums_below k n vs ws a.1 b) x
    (⊎_elim
    (λ e. inl (shifted_from k n v ws a.0 b x (h.1, h.3, h.4 ∙ ap (λ (y : Word). cut_at k (plus y h.1)) (sym e))))
    (λ m. inr (sums_from k n vs ws a.1 b x (h.0, h.1, m, h.3, h.4)))
    h.2)

scaled_below : (n c : ℕ) (u : Word) → HasTagsBelow n u → HasTagsBelow n (scaled c u)
scaled_below n c u h t l = ap (λ x. c * x) (h t l) ∙ mul-zero c

multiples_below : (k n c : ℕ) (w : Word) → HasTagsBelow n w → AllBelow n (multiples k n c w)
multiples_below k n zero w a = (none_below n, tt)
multiples_below k n (suc c) w a =
    point_below n (cut_at k (scaled (suc c) w)) (multiples k n c w) (cut_below n k (scaled (suc c) w) (scaled_below n (suc c) w a)) (multiples_below k n c w a)

-- at most c times the word, cut
abbrev pub UpTo : ℕ → ℕ → Word → Language
UpTo k c w x = (j : ℕ) × (j ≤ c) × (x ≡ cut_at k (scaled j w))

none_times : (k : ℕ) (w : Word) → no_word ≡ cut_at k (scaled 0 w)
none_times k w = sym (ap (cut_at k) (scaled_zero w) ∙ cut_none k)

multiples_to : (k n c : ℕ) (w : Word) → Into (MemberOf (multiples k n c w)) (UpTo k c w)
multiples_to k n zero w x h = ⊎_elim (λ e. (0, omega arith, sym e ∙ none_times k w)) (λ m. absurd m) h
multiples_to k n (suc c) w x h =
    ⊎_elim
    (λ e. (suc c, omega arith, sym e))
    (λ m. let r = multiples_to k n c w x m in let l = r.1 in (r.0, omega arith, r.2))
    (point_to n (cut_at k (scaled (suc c) w)) (multiples k n c w) x h)

multiples_from : (k n c : ℕ) (w : Word) → HasTagsBelow n w → Into (UpTo k c w) (MemberOf (multiples k n c w))
multiples_from k n zero w a x h =
    let l = h.1 in
    let z : h.0 ≡ 0 = omega arith in
    inl (none_times k w ∙ ap (λ j. cut_at k (scaled j w)) (sym z) ∙ sym h.2)
multiples_from k n (suc c) w a x h =
    point_from n (cut_at k (scaled (suc c) w)) (multiples k n c w) (cut_below n k (scaled (suc c) w) (scaled_below n (suc c) w a)) (multiples_below k n c w a) x
    (⊎_elim
    (λ e. inl (ap (λ j. cut_at k (scaled j w)) (sym e) ∙ sym h.2))
    (λ d. inr (multiples_from k n c w a x (h.0, less h.0 c h.1 d, h.2)))
    (cases_eq h.0 (suc c)))
  where
    less : (j c : ℕ) → j ≤ suc c → (j ≡ suc c → ⊥) → j ≤ c
    less j c l d = ⊎_elim (λ m. omega arith) (λ g. absurd (d (omega arith))) (cases_lt j (suc c))

with_below : (k n : ℕ) (made ws : List Word) → AllBelow n made → AllBelow n ws → AllBelow n (with_multiples k n made ws)
with_below k n made [] a b = a
with_below k n made (w ∷ ws) a b =
    with_below k n (point_sums k n made (multiples k n k w)) ws (sums_below k n made (multiples k n k w) a (multiples_below k n k w b.0)) b.1

-- what is made of cut words is the cut of a word and a finite sum
with_to : (k n : ℕ) (A B : Language) (made ws : List Word) → Into (MemberOf made) (CutOf k A) → Into (MemberOf ws) (CutOf k B) → Into (MemberOf (with_multiples k n made ws)) (CutOf k (SumOf A (StarOf B)))
with_to k n A B made [] a b x h =
    let r = a x h in
    (r.0, (r.0, no_word, r.1, star_none B, sym (plus_none r.0)), r.2)
with_to k n A B made (w ∷ ws) a b x h =
    let S = StarOf B in
    let more = with_to k n (SumOf A S) B (point_sums k n made (multiples k n k w)) ws
    (λ y m.
    let s = sums_to k n made (multiples k n k w) y m in
    let u = a s.0 s.2 in
    let v = b w (inl refl) in
    let j = multiples_to k n k w s.1 s.3 in (
      plus u.0 (scaled j.0 v.0),
      (u.0, scaled j.0 v.0, u.1, star_scaled B j.0 v.0 (star_one B v.0 v.1), refl),
      s.4
          ∙ ap (λ (z : Word). cut_at k (plus z s.1)) u.2
          ∙ ap (λ (z : Word). cut_at k (plus (cut_at k u.0) z)) (j.2 ∙ ap (λ (z : Word). cut_at k (scaled j.0 z)) v.2 ∙ cut_scaled k j.0 v.0)
          ∙ cut_sum k u.0 (scaled j.0 v.0),
    ))
    (λ y m. b y (inr m))
    x
    h in
    cut_mono k (SumOf (SumOf A S) S) (SumOf A S)
    (λ y m. let q = sum_assoc_to A S S y m in
    let t = q.3 in
    (q.0, q.1, q.2, subst S (sym t.4) (star_sum B t.0 t.1 t.2 t.3), q.4))
    x
    more

-- a finite sum of words that are cut to w is cut to a multiple of w, at most k times
sum_of_alike : (k : ℕ) (w s : Word) → StarOf (λ b. w ≡ cut_at k b) s → (j : ℕ) × (j ≤ k) × (cut_at k s ≡ cut_at k (scaled j w))
sum_of_alike k w s h =
    let r = star_least (λ b. w ≡ cut_at k b) (λ x. (j : ℕ) × (cut_at k x ≡ cut_at k (scaled j w)))
    (0, ap (cut_at k) (sym (scaled_zero w)))
    (λ u v a b. (
      a.0 + b.0,
      sym (cut_sum k u v)
          ∙ ap (λ (z : Word). cut_at k (plus z (cut_at k v))) a.1
          ∙ ap (λ (z : Word). cut_at k (plus (cut_at k (scaled a.0 w)) z)) b.1
          ∙ cut_sum k (scaled a.0 w) (scaled b.0 w)
          ∙ ap (cut_at k) (sym (scaled_sum a.0 b.0 w)),
    ))
    (λ b e. (1, sym (cut_twice k b) ∙ ap (cut_at k) (sym e) ∙ ap (cut_at k) (sym (scaled_one w))))
    s
    h in
    ⊎_elim (λ l. (r.0, le_of_lt l, r.1)) (λ g. (k, le_refl k, r.1 ∙ cut_many k r.0 w g)) (cases_lt r.0 k)

nothing_alike : (k : ℕ) (s : Word) → StarOf (λ b. MemberOf [] (cut_at k b)) s → s ≡ no_word
nothing_alike k s h = only_none (λ b. MemberOf [] (cut_at k b)) (λ w m. absurd m) s h

with_from : (k n : ℕ) (made ws : List Word) (a s : Word) → AllBelow n made → AllBelow n ws → MemberOf made (cut_at k a) → StarOf (λ b. MemberOf ws (cut_at k b)) s → MemberOf (with_multiples k n made ws) (cut_at k (plus a s))
with_from k n made [] a s bm bw h i =
    subst (MemberOf made) (ap (cut_at k) (sym (ap (plus a) (nothing_alike k s i) ∙ plus_none a))) h
with_from k n made (w ∷ ws) a s bm bw h i =
    let d = star_either_to (λ b. w ≡ cut_at k b) (λ b. MemberOf ws (cut_at k b)) s i in
    let j = sum_of_alike k w d.0 d.2 in
    let next = point_sums k n made (multiples k n k w) in
    let here : MemberOf next (cut_at k (plus a d.0)) =
    sums_from k n made (multiples k n k w) bm (multiples_below k n k w bw.0) (cut_at k (plus a d.0)) (
      cut_at k a,
      cut_at k d.0,
      h,
      multiples_from k n k w bw.0 (cut_at k d.0) j,
      sym (cut_sum k a d.0),
    ) in
    subst (λ (x : Word). MemberOf (with_multiples k n next ws) (cut_at k x)) (plus_assoc a d.0 d.1 ∙ ap (plus a) (sym d.4))
    (with_from k n next ws (plus a d.0) d.1 (sums_below k n made (multiples k n k w) bm (multiples_below k n k w bw.0)) bw.1 here d.3)

-- ---- the words of a pattern, cut

pub cuts_below : (k n : ℕ) (e : Pat) → tags_below n e ≡ true → AllBelow n (cuts_of k n e)
cuts_below k n Zero h = tt
cuts_below k n One h = (none_below n, tt)
cuts_below k n (Tag m) h = (cut_below n k (one m) (one_below n m (ltb-true m n h)), tt)
cuts_below k n (Sum e f) h =
    let both = and_parts (tags_below n e) (tags_below n f) h in
    points_below n (cuts_of k n e) (cuts_of k n f) (cuts_below k n e both.0) (cuts_below k n f both.1)
cuts_below k n (Prod e f) h =
    let both = and_parts (tags_below n e) (tags_below n f) h in
    sums_below k n (cuts_of k n e) (cuts_of k n f) (cuts_below k n e both.0) (cuts_below k n f both.1)
cuts_below k n (Star e) h = with_below k n (no_word ∷ []) (cuts_of k n e) (none_below n, tt) (cuts_below k n e h)
cuts_below k n (Var m) h = tt

pub cuts_to : (k n : ℕ) (e : Pat) → Into (MemberOf (cuts_of k n e)) (CutOf k (In e))
cuts_to k n Zero x h = absurd h
cuts_to k n One x h = ⊎_elim (λ q. (no_word, refl, sym q ∙ sym (cut_none k))) (λ m. absurd m) h
cuts_to k n (Tag m) x h = ⊎_elim (λ q. (one m, refl, sym q)) (λ l. absurd l) h
cuts_to k n (Sum e f) x h =
    ⊎_elim
    (λ m. cut_mono k (In e) (In (Sum e f)) (λ w i. inl i) x (cuts_to k n e x m))
    (λ m. cut_mono k (In f) (In (Sum e f)) (λ w i. inr i) x (cuts_to k n f x m))
    (points_to n (cuts_of k n e) (cuts_of k n f) x h)
cuts_to k n (Prod e f) x h =
    let s = sums_to k n (cuts_of k n e) (cuts_of k n f) x h in
    let u = cuts_to k n e s.0 s.2 in
    let v = cuts_to k n f s.1 s.3 in (
      plus u.0 v.0,
      (u.0, v.0, u.1, v.1, refl),
      s.4 ∙ ap (λ (z : Word). cut_at k (plus z s.1)) u.2 ∙ ap (λ (z : Word). cut_at k (plus (cut_at k u.0) z)) v.2 ∙ cut_sum k u.0 v.0,
    )
cuts_to k n (Star e) x h =
    cut_mono k (SumOf (λ w. w ≡ no_word) (StarOf (In e))) (In (Star e))
    (λ w i. subst (StarOf (In e)) (sym (i.4 ∙ ap (λ (z : Word). plus z i.1) i.2 ∙ none_plus i.1)) i.3)
    x
    (with_to k n (λ w. w ≡ no_word) (In e) (no_word ∷ []) (cuts_of k n e)
    (λ y m. ⊎_elim (λ q. (no_word, refl, sym q ∙ sym (cut_none k))) (λ l. absurd l) m)
    (cuts_to k n e)
    x
    h)
cuts_to k n (Var m) x h = absurd h

pub cuts_from : (k n : ℕ) (e : Pat) → tags_below n e ≡ true → (w : Word) → In e w → MemberOf (cuts_of k n e) (cut_at k w)
cuts_from k n Zero t w i = absurd i
cuts_from k n One t w i = inl (sym (ap (cut_at k) i ∙ cut_none k))
cuts_from k n (Tag m) t w i = inl (sym (ap (cut_at k) i))
cuts_from k n (Sum e f) t w i =
    let both = and_parts (tags_below n e) (tags_below n f) t in
    points_from n (cuts_of k n e) (cuts_of k n f) (cuts_below k n e both.0) (cuts_below k n f both.1) (cut_at k w)
    (⊎_elim (λ j. inl (cuts_from k n e both.0 w j)) (λ j. inr (cuts_from k n f both.1 w j)) i)
cuts_from k n (Prod e f) t w i =
    let both = and_parts (tags_below n e) (tags_below n f) t in
    sums_from k n (cuts_of k n e) (cuts_of k n f) (cuts_below k n e both.0) (cuts_below k n f both.1) (cut_at k w) (
      cut_at k i.0,
      cut_at k i.1,
      cuts_from k n e both.0 i.0 i.2,
      cuts_from k n f both.1 i.1 i.3,
      ap (cut_at k) i.4 ∙ sym (cut_sum k i.0 i.1),
    )
cuts_from k n (Star e) t w i =
    subst (λ (x : Word). MemberOf (cuts_of k n (Star e)) (cut_at k x)) (none_plus w)
    (with_from k n (no_word ∷ []) (cuts_of k n e) no_word w (none_below n, tt) (cuts_below k n e t)
    (inl (sym (cut_none k)))
    (star_mono (In e) (λ b. MemberOf (cuts_of k n e) (cut_at k b)) (cuts_from k n e t) w i))
cuts_from k n (Var m) t w i = absurd i

-- where the cuts of e lie in those of f, each word of e has the same cut as a word of f
pub cuts_include : (k n : ℕ) (e f : Pat) → tags_below n e ≡ true → tags_below n f ≡ true → cuts_lie k n e f ≡ true → (w : Word) → In e w → (v : Word) × In f v × (cut_at k v ≡ cut_at k w)
cuts_include k n e f te tf h w i =
    let points = cuts_of k n f in
    let found = each_found (cuts_of k n e) h (cut_at k w) (cuts_from k n e te w i) in
    let below = members_below (cuts_of k n e) (cuts_below k n e te) (cut_at k w) (cuts_from k n e te w i) in
    let r = cuts_to k n f (cut_at k w) (found_member n points (cut_at k w) (cuts_below k n f tf) below found) in
    (r.0, r.1, sym r.2)
  where
    each_found : (ws : List Word) → list_all (has_word n (cuts_of k n f)) ws ≡ true → (x : Word) → MemberOf ws x → has_word n (cuts_of k n f) x ≡ true
    each_found [] a x m = absurd m
    each_found (v ∷ vs) a x m =
        let both = and_parts (has_word n (cuts_of k n f) v) (list_all (has_word n (cuts_of k n f)) vs) a in
        ⊎_elim (λ q. subst (λ (y : Word). has_word n (cuts_of k n f) y ≡ true) q both.0) (λ l. each_found vs both.1 x l) m

    members_below : (ws : List Word) → AllBelow n ws → (x : Word) → MemberOf ws x → HasTagsBelow n x
    members_below [] a x m = absurd m
    members_below (v ∷ vs) a x m = ⊎_elim (λ q. subst (HasTagsBelow n) q a.0) (λ l. members_below vs a.1 x l) m
