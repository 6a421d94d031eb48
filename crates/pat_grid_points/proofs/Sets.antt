-- Sets of points as lists of tests.
use Rattle.std.proofs.Common.{◌≡◌, ℕ, zero, suc, ◌+◌, ◌-◌, ◌<◌, ◌≤◌, Bool, true, false, List, [], ◌∷◌, ◌++◌, ◌↔◌, map, length, get_or, set, drop, replicate, inl, inr, ⊎_elim, ◌⊎◌, sym, ap, ◌∙◌, subst, arith, append_assoc, append-nil}
use Rattle.pat_words_spec.specs.Words.{Word}
use Rattle.pat_words_spec.specs.Cuts.{cut_at}
use Rattle.std.proofs.lemmas.Bool.{cases_eq, cases_lt}
use Rattle.std.proofs.lemmas.List.{get_or-set_same, get_or-set_other, get_or-replicate, length-replicate, get_or_past, drop_more, drop_all, map-append}
use Rattle.pat_bags.specs.declared.Bag.{Bag}
use Rattle.pat_bags.specs.Views.{word_of}
use Rattle.pat_inclusion_spec.specs.bounds.CutSets.{IsPoint}
use Rattle.pat_inclusion_spec.specs.bounds.Numbers.{points_in, number_of, point_of}
use Rattle.pat_inclusion_laws.proofs.NumberLaws.{number_below, number_point, number_small, point_fits, point_number}
use Rattle.pat_grid_points.specs.Views.{held_from, points_from, points_between}

-- a point of the set
abbrev pub In : ℕ → ℕ → List Bool → Word → Type 0
In k n held u = IsPoint k n u × (get_or held (number_of k n u) false ≡ true)

pub none_in : (k n count : ℕ) (u : Word) → In k n (replicate count false) u → ⊥
none_in k n count u h =
    ⊎_elim (λ l. let e = get_or-replicate count (number_of k n u) false false l in cc)
    (λ l. let e = get_or_past (replicate count false) (number_of k n u) false (subst (λ x. x ≤ number_of k n u) (sym (length-replicate count false)) l) in cc)
    (cases_lt (number_of k n u) count)

-- the point u is put in
pub put_in : (k n : ℕ) (held : List Bool) (u v : Word) → length held ≡ points_in k n → IsPoint k n u → In k n (set held (number_of k n u) true) v → In k n held v ⊎ (v ≡ u)
put_in k n held u v all p h =
    ⊎_elim
    (λ e. inr (sym (number_point k n v h.0) ∙ ap (point_of k n) e ∙ number_point k n u p))
    (λ d. inl (h.0, sym (get_or-set_other held (number_of k n u) (number_of k n v) true false d) ∙ h.1))
    (cases_eq (number_of k n v) (number_of k n u))

pub in_put : (k n : ℕ) (held : List Bool) (u v : Word) → length held ≡ points_in k n → IsPoint k n u → In k n held v ⊎ (v ≡ u) → In k n (set held (number_of k n u) true) v
in_put k n held u v all p h =
    let small = number_small k n u p in
    let here = get_or-set_same held (number_of k n u) true false (omega arith) in
    ⊎_elim
    (λ q. (
      q.0,
      ⊎_elim
          (λ e. ap (λ i. get_or (set held (number_of k n u) true) i false) e ∙ here)
          (λ d. get_or-set_other held (number_of k n u) (number_of k n v) true false d ∙ q.1)
          (cases_eq (number_of k n v) (number_of k n u)),
    ))
    (λ e. subst (In k n (set held (number_of k n u) true)) (sym e) (p, here))
    h

-- the word is a point of the set just where its entry says so and its number's point is the word
pub holds_to : (k n : ℕ) (held : List Bool) (u : Word) → get_or held (number_of k n u) false ≡ true → point_of k n (number_of k n u) ≡ u → In k n held u
holds_to k n held u h e = (subst (IsPoint k n) e (point_fits k n (number_of k n u)), h)

-- each point of the one set is one of the other, if that is so of the numbers
pub all_in : (k n : ℕ) (held other : List Bool) → ((c : ℕ) → c < points_in k n → get_or held c false ≡ true → get_or other c false ≡ true) → (u : Word) → In k n held u → In k n other u
all_in k n held other h u p = (p.0, h (number_of k n u) (number_small k n u p.0) p.1)

-- a number of the one set that isn't one of the other
pub number_in : (k n c : ℕ) (held : List Bool) → c < points_in k n → get_or held c false ≡ true → In k n held (point_of k n c)
number_in k n c held l h =
    (point_fits k n c, subst (λ i. get_or held i false ≡ true) (sym (point_number k n c l)) h)

pub number_out : (k n c : ℕ) (held : List Bool) → c < points_in k n → get_or held c false ≡ false → In k n held (point_of k n c) → ⊥
number_out k n c held l h p =
    let e = subst (λ i. get_or held i false ≡ true) (point_number k n c l) p.1 in cc

-- ---- a list of the points

-- nothing is there before the next number that is held
held_skip : (k n c m : ℕ) (held : List Bool) → c + m ≤ length held → ((d : ℕ) → c ≤ d → d < c + m → get_or held d false ≡ false) → held_from k n c (drop c held) ≡ held_from k n (c + m) (drop (c + m) held)
held_skip k n c zero held l none = ap (λ i. held_from k n i (drop i held)) (let e : c ≡ c + 0 = omega arith in e)
held_skip k n c (suc m) held l none =
    ap (held_from k n c) (drop_more held c false (omega arith))
    ∙ ap (λ b. held_from k n c (b ∷ drop (c + 1) held)) (none c (omega arith) (omega arith))
    ∙ ap (λ i. held_from k n i (drop (c + 1) held)) (let e : suc c ≡ c + 1 = omega arith in e)
    ∙ held_skip k n (c + 1) m held (omega arith) (λ d a b. none d (omega arith) (omega arith))
    ∙ ap (λ i. held_from k n i (drop i held)) (let e : c + 1 + m ≡ c + suc m = omega arith in e)

pub held_next : (k n c to : ℕ) (held : List Bool) → c ≤ to → to ≤ length held → ((d : ℕ) → c ≤ d → d < to → get_or held d false ≡ false) → held_from k n c (drop c held) ≡ held_from k n to (drop to held)
held_next k n c to held l within none =
    let e : c + (to - c) ≡ to = omega arith in
    held_skip k n c (to - c) held (omega arith) (λ d a b. none d a (omega arith))
    ∙ ap (λ i. held_from k n i (drop i held)) e

-- the points of a run of numbers that are all held come first
run_first : (k n c m : ℕ) (held : List Bool) → c + m ≤ length held → ((d : ℕ) → c ≤ d → d < c + m → get_or held d false ≡ true) → held_from k n c (drop c held) ≡ points_from k n c m ++ held_from k n (c + m) (drop (c + m) held)
run_first k n c zero held l all = ap (λ i. held_from k n i (drop i held)) (let e : c ≡ c + 0 = omega arith in e)
run_first k n c (suc m) held l all =
    ap (held_from k n c) (drop_more held c false (omega arith))
    ∙ ap (λ b. held_from k n c (b ∷ drop (c + 1) held)) (all c (omega arith) (omega arith))
    ∙ ap (λ i. point_of k n c ∷ held_from k n (suc c) (drop i held)) (let e : c + 1 ≡ suc c = omega arith in e)
    ∙ ap (λ ws. point_of k n c ∷ ws) (run_first k n (suc c) m held (omega arith) (λ d a b. all d (omega arith) (omega arith)))
    ∙ ap (λ i. points_from k n c (suc m) ++ held_from k n i (drop i held)) (let e : suc c + m ≡ c + suc m = omega arith in e)

-- the points from number c on: those of a run, which are there, and the others
pub held_turn : (k n c end to : ℕ) (held : List Bool) (old new : List Bag) → c ≤ end → end ≤ length held → ((d : ℕ) → c ≤ d → d < end → get_or held d false ≡ true) → map word_of new ≡ map word_of old ++ points_between k n c end → end ≤ to → to ≤ length held → ((d : ℕ) → end ≤ d → d < to → get_or held d false ≡ false) → map word_of new ++ held_from k n to (drop to held) ≡ map word_of old ++ held_from k n c (drop c held)
held_turn k n c end to held old new l room all e past within none =
    let is : c + (end - c) ≡ end = omega arith in
    ap (λ ws. ws ++ held_from k n to (drop to held)) e
    ∙ append_assoc (map word_of old) (points_between k n c end) (held_from k n to (drop to held))
    ∙ ap (λ us. map word_of old ++ (points_between k n c end ++ us)) (sym (held_next k n end to held past within none))
    ∙ ap (λ us. map word_of old ++ us)
    (ap (λ i. points_between k n c end ++ held_from k n i (drop i held)) (sym is)
    ∙ sym (run_first k n c (end - c) held (omega arith) (λ d a b. all d a (omega arith))))

-- one of a run of points is listed
pub run_turn : (k n c to : ℕ) (old new : List Bag) (b : Bag) → c < to → new ≡ old ++ b ∷ [] → word_of b ≡ point_of k n c → map word_of new ++ points_between k n (c + 1) to ≡ map word_of old ++ points_between k n c to
run_turn k n c to old new b l e w =
    let next : to - c ≡ suc (to - (c + 1)) = omega arith in
    let follows : c + 1 ≡ suc c = omega arith in
    let rest = points_between k n (c + 1) to in
    ap (λ bags. map word_of bags ++ rest) e
    ∙ ap (λ ws. ws ++ rest) (map-append word_of old (b ∷ []))
    ∙ append_assoc (map word_of old) (word_of b ∷ []) rest
    ∙ ap (λ u. map word_of old ++ u ∷ rest) w
    ∙ ap (λ i. map word_of old ++ point_of k n c ∷ points_from k n i (to - (c + 1))) follows
    ∙ ap (λ m. map word_of old ++ points_from k n c m) (sym next)

pub held_all : (k n c : ℕ) (held : List Bool) (words : List Word) → length held ≤ c → words ++ held_from k n c (drop c held) ≡ words
held_all k n c held words l = ap (λ x. words ++ held_from k n c x) (drop_all c held l) ∙ append-nil words

-- ---- what the calls answer

pub number_room : (k n : ℕ) (w : Word) (held : List Bool) → length held ≡ points_in k n → number_of k n (cut_at k w) < length held
number_room k n w held all = let l = number_below k n (cut_at k w) (λ t. omega arith) in omega arith

pub holds_just : (k n number : ℕ) (held : List Bool) (u bag cut : Word) (r : Bool) → number ≡ number_of k n u → get_or held number false ≡ true → bag ≡ point_of k n number → cut ≡ u → (r ≡ true) ↔ (bag ≡ cut) → (r ≡ true) ↔ In k n held u
holds_just k n number held u bag cut r is there b c h = (
  λ e. holds_to k n held u (subst (λ i. get_or held i false ≡ true) is there) (ap (point_of k n) (sym is) ∙ sym b ∙ h.0 e ∙ c),
  λ p. h.1 (b ∙ ap (point_of k n) is ∙ number_point k n u p.0 ∙ sym c),
)

pub not_held : (k n number : ℕ) (held : List Bool) (u : Word) → number ≡ number_of k n u → get_or held number false ≡ false → In k n held u → ⊥
not_held k n number held u is h p = let e = subst (λ i. get_or held i false ≡ false) is h in let t = p.1 in cc

pub missing_at : (k n i j c : ℕ) (held other : List Bool) (w : Word) → (k ≡ i) × (n ≡ j) → length held ≡ points_in k n → c < length held → get_or held c false ≡ true → get_or other c false ≡ false → w ≡ point_of k n c → In k n held w × (In i j other w → ⊥)
missing_at k n i j c held other w like all l h o e =
    subst (λ x. In k n held x × (In i j other x → ⊥)) (sym e)
    (subst (λ x. In k n held (point_of k n c) × (In x j other (point_of k n c) → ⊥)) like.0
    (subst (λ x. In k n held (point_of k n c) × (In k x other (point_of k n c) → ⊥)) like.1
    (number_in k n c held (omega arith) h, number_out k n c other (omega arith) o)))

pub none_missing : (k n i j : ℕ) (held other : List Bool) → (k ≡ i) × (n ≡ j) → length held ≡ points_in k n → ((c : ℕ) → c < length held → get_or held c false ≡ true → get_or other c false ≡ true) → (u : Word) → In k n held u → In i j other u
none_missing k n i j held other like all h u p =
    subst (λ x. In x j other u) like.0
    (subst (λ x. In k x other u) like.1 (all_in k n held other (λ c l. h c (omega arith)) u p))
