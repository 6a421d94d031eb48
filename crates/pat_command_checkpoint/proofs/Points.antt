-- Two ascending lists of the same points have one pattern.
use Rattle.std.proofs.Common.{◌≡◌, ◌≤◌, ◌<◌, ◌⊎◌, inl, inr, ⊎_elim, ℕ, zero, suc, true, false, List, [], ◌∷◌, refl, sym, ap, ◌∙◌, subst, arith}
use Rattle.std.specs.Prelude.{◌&&◌, nat_eq, nat_lt, nat_le}
use Rattle.std.specs.List.{AllByRecursion, list_all, list_any}
use Rattle.std.proofs.lemmas.Bool.{and_parts, or_cases, or_left, or_right, or_parts, cases_Bool, cases_order, lt-ltb, ltb-true, ltb-false, eqb-true, eq-eqb, and_from}
use Rattle.pat_words_spec.specs.Words.{Word}
use Rattle.pat_words_spec.specs.Patterns.{Pat, Zero, sum_of}
use Rattle.pat_words_spec.specs.Cuts.{cut_at}
use Rattle.pat_words_spec.specs.Tags.{HasTagsBelow}
use Rattle.pat_words_laws.proofs.WordLaws.{word_ext, count_eq}
use Rattle.pat_inclusion_spec.specs.Counts.{same_below, counted}
use Rattle.pat_inclusion_spec.specs.Points.{grid_fits, point_fits, comes_before, points_ascend, points_fit, point_pattern, with_points, points_pattern}
use Rattle.pat_inclusion_spec.specs.bounds.CutSets.{IsPoint}
use Rattle.pat_inclusion_laws.proofs.Spans.{same_words}
use Rattle.pat_inclusion_laws.proofs.Exact.{same_from, point_count}

-- ---- the order

-- the same counts
abbrev Same : List ℕ → List ℕ → Type 0
Same p q = (t : ℕ) → counted p t ≡ counted q t

some_above : (ds : List ℕ) → list_any (nat_lt 0) ds ≡ true → (t : ℕ) × (0 < counted ds t)
some_above [] h = cc
some_above (d ∷ ds) h =
    ⊎_elim (λ (l : nat_lt 0 d ≡ true). (zero, ltb-true 0 d l)) (λ (r : list_any (nat_lt 0) ds ≡ true). let q = some_above ds r in (suc q.0, q.1)) (or_cases (nat_lt 0 d) (list_any (nat_lt 0) ds) h)

above_some : (ds : List ℕ) (t : ℕ) → 0 < counted ds t → list_any (nat_lt 0) ds ≡ true
above_some [] t h = absurd (omega arith)
above_some (d ∷ ds) zero h = or_left (nat_lt 0 d) (list_any (nat_lt 0) ds) (lt-ltb 0 d h)
above_some (d ∷ ds) (suc t) h = or_right (nat_lt 0 d) (list_any (nat_lt 0) ds) (above_some ds t h)

none_above : (ds : List ℕ) → list_any (nat_lt 0) ds ≡ false → (t : ℕ) → counted ds t ≡ 0
none_above [] h t = refl
none_above (d ∷ ds) h zero = let l = ltb-false 0 d (or_parts (nat_lt 0 d) (list_any (nat_lt 0) ds) h).0 in omega arith
none_above (d ∷ ds) h (suc t) = none_above ds (or_parts (nat_lt 0 d) (list_any (nat_lt 0) ds) h).1 t

apart : (p q : List ℕ) → comes_before p q ≡ true → Same p q → ⊥
apart [] ds h same = let at = some_above ds h in let above = at.1 in let e = same at.0 in omega arith
apart (c ∷ cs) [] h same = cc
apart (c ∷ cs) (d ∷ ds) h same =
    ⊎_elim
    (λ (l : nat_lt c d ≡ true). let less = ltb-true c d l in let e : c ≡ d = same zero in omega arith)
    (λ (r : (nat_eq c d && comes_before cs ds) ≡ true). apart cs ds (and_parts (nat_eq c d) (comes_before cs ds) r).1 (λ t. same (suc t)))
    (or_cases (nat_lt c d) (nat_eq c d && comes_before cs ds) h)

rest_before : (c d : ℕ) (cs ds : List ℕ) → c ≡ d → comes_before cs ds ≡ true → comes_before (c ∷ cs) (d ∷ ds) ≡ true
rest_before c d cs ds e h = or_right (nat_lt c d) (nat_eq c d && comes_before cs ds) (and_from (nat_eq c d) (comes_before cs ds) (eq-eqb c d e) h)

first_before : (c d : ℕ) (cs ds : List ℕ) → c < d → comes_before (c ∷ cs) (d ∷ ds) ≡ true
first_before c d cs ds l = or_left (nat_lt c d) (nat_eq c d && comes_before cs ds) (lt-ltb c d l)

some_later : (ps qs : List ℕ) → list_any (nat_lt 0) ps ≡ true → comes_before ps qs ≡ true → list_any (nat_lt 0) qs ≡ true
some_later [] qs h k = k
some_later (c ∷ cs) [] h k = cc
some_later (c ∷ cs) (d ∷ ds) h k =
    ⊎_elim
    (λ (l : nat_lt c d ≡ true). let less = ltb-true c d l in or_left (nat_lt 0 d) (list_any (nat_lt 0) ds) (lt-ltb 0 d (omega arith)))
    (λ (r : (nat_eq c d && comes_before cs ds) ≡ true).
    let both = and_parts (nat_eq c d) (comes_before cs ds) r in
    let e = eqb-true c d both.0 in
    ⊎_elim
    (λ (own : nat_lt 0 c ≡ true). or_left (nat_lt 0 d) (list_any (nat_lt 0) ds) (subst (λ n. nat_lt 0 n ≡ true) e own))
    (λ (more : list_any (nat_lt 0) cs ≡ true). or_right (nat_lt 0 d) (list_any (nat_lt 0) ds) (some_later cs ds more both.1))
    (or_cases (nat_lt 0 c) (list_any (nat_lt 0) cs) h))
    (or_cases (nat_lt c d) (nat_eq c d && comes_before cs ds) k)

in_turn : (p q r : List ℕ) → comes_before p q ≡ true → comes_before q r ≡ true → comes_before p r ≡ true
in_turn [] q r h k = some_later q r h k
in_turn (c ∷ cs) [] r h k = cc
in_turn (c ∷ cs) (d ∷ ds) [] h k = cc
in_turn (c ∷ cs) (d ∷ ds) (e ∷ es) h k =
    ⊎_elim
    (λ (l : nat_lt c d ≡ true).
    let less = ltb-true c d l in
    ⊎_elim
    (λ (m : nat_lt d e ≡ true). let more = ltb-true d e m in first_before c e cs es (omega arith))
    (λ (s : (nat_eq d e && comes_before ds es) ≡ true). let same = eqb-true d e (and_parts (nat_eq d e) (comes_before ds es) s).0 in first_before c e cs es (omega arith))
    (or_cases (nat_lt d e) (nat_eq d e && comes_before ds es) k))
    (λ (r : (nat_eq c d && comes_before cs ds) ≡ true).
    let own = and_parts (nat_eq c d) (comes_before cs ds) r in
    let same = eqb-true c d own.0 in
    ⊎_elim
    (λ (m : nat_lt d e ≡ true). let more = ltb-true d e m in first_before c e cs es (omega arith))
    (λ (s : (nat_eq d e && comes_before ds es) ≡ true).
    let next = and_parts (nat_eq d e) (comes_before ds es) s in
    let too = eqb-true d e next.0 in
    rest_before c e cs es (omega arith) (in_turn cs ds es own.1 next.1))
    (or_cases (nat_lt d e) (nat_eq d e && comes_before ds es) k))
    (or_cases (nat_lt c d) (nat_eq c d && comes_before cs ds) h)

data Compared (p q : List ℕ) : Type 0 where
  before : comes_before p q ≡ true → Compared p q
  after : comes_before q p ≡ true → Compared p q
  alike : Same p q → Compared p q

compared : (p q : List ℕ) → Compared p q
compared [] [] = alike (λ t. refl)
compared [] (d ∷ ds) =
    ⊎_elim
    (λ (h : list_any (nat_lt 0) (d ∷ ds) ≡ true). before h)
    (λ (h : list_any (nat_lt 0) (d ∷ ds) ≡ false). alike (λ t. sym (none_above (d ∷ ds) h t)))
    (cases_Bool (list_any (nat_lt 0) (d ∷ ds)))
compared (c ∷ cs) [] =
    ⊎_elim
    (λ (h : list_any (nat_lt 0) (c ∷ cs) ≡ true). after h)
    (λ (h : list_any (nat_lt 0) (c ∷ cs) ≡ false). alike (λ t. none_above (c ∷ cs) h t))
    (cases_Bool (list_any (nat_lt 0) (c ∷ cs)))
compared (c ∷ cs) (d ∷ ds) = heads (compared cs ds)
  where
    same_all : c ≡ d → Same cs ds → (t : ℕ) → counted (c ∷ cs) t ≡ counted (d ∷ ds) t
    same_all e s zero = e
    same_all e s (suc t) = s t

    tails : c ≡ d → Compared cs ds → Compared (c ∷ cs) (d ∷ ds)
    tails e (before h) = before (rest_before c d cs ds e h)
    tails e (after h) = after (rest_before d c ds cs (sym e) h)
    tails e (alike s) = alike (same_all e s)

    heads : Compared cs ds → Compared (c ∷ cs) (d ∷ ds)
    heads rest =
        ⊎_elim
        (λ (e : c ≡ d). tails e rest)
        (λ (r : (c < d) ⊎ (d < c)). ⊎_elim (λ (l : c < d). before (first_before c d cs ds l)) (λ (g : d < c). after (first_before d c ds cs g)) r)
        (cases_order c d)

-- ---- lists

abbrev After : List ℕ → List (List ℕ) → Type 0
After p ps = AllByRecursion (λ q. comes_before p q ≡ true) ps

after_too : (p q : List ℕ) (ps : List (List ℕ)) → comes_before p q ≡ true → After q ps → After p ps
after_too p q [] h a = tt
after_too p q (r ∷ ps) h a = (in_turn p q r h a.0, after_too p q ps h a.1)

all_after : (p : List ℕ) (ps : List (List ℕ)) → points_ascend (p ∷ ps) ≡ true → After p ps
all_after p [] h = tt
all_after p (q ∷ ps) h =
    let r = and_parts (comes_before p q) (points_ascend (q ∷ ps)) h in
    (r.0, after_too p q ps r.0 (all_after q ps r.1))

rest_ascends : (p : List ℕ) (ps : List (List ℕ)) → points_ascend (p ∷ ps) ≡ true → points_ascend ps ≡ true
rest_ascends p [] h = refl
rest_ascends p (q ∷ ps) h = (and_parts (comes_before p q) (points_ascend (q ∷ ps)) h).1

none_beyond : (k n : ℕ) (cs : List ℕ) → point_fits k n cs ≡ true → (t : ℕ) → n ≤ t → counted cs t ≡ 0
none_beyond k n [] h t l = refl
none_beyond k zero (c ∷ cs) h zero l = eqb-true c 0 (and_parts (nat_eq c 0) (point_fits k zero cs) h).0
none_beyond k zero (c ∷ cs) h (suc t) l = none_beyond k zero cs (and_parts (nat_eq c 0) (point_fits k zero cs) h).1 t (omega arith)
none_beyond k (suc n) (c ∷ cs) h zero l = absurd (omega arith)
none_beyond k (suc n) (c ∷ cs) h (suc t) l = none_beyond k n cs (and_parts (nat_le c k) (point_fits k n cs) h).1 t (omega arith)

module _ (k n : ℕ) where
  abbrev Found : List (List ℕ) → Word → Type 0
  Found ps u = list_any (λ q. same_below n u (counted q)) ps ≡ true

  abbrev Fit : List (List ℕ) → Type 0
  Fit ps = list_all (point_fits k n) ps ≡ true

  is_point : (p : List ℕ) → point_fits k n p ≡ true → IsPoint k n (counted p)
  is_point p h = (
    none_beyond k n p h,
    word_ext (counted p) (cut_at k (counted p)) (λ t. ⊎_elim
        (λ (l : t < n). let m = point_count k n p h t l in omega arith)
        (λ (g : n ≤ t). let z = none_beyond k n p h t g in omega arith)
        (below_or t n)),
  )
    where
      below_or : (t m : ℕ) → (t < m) ⊎ (m ≤ t)
      below_or t m = ⊎_elim (λ (e : t ≡ m). inr (omega arith)) (λ (r : (t < m) ⊎ (m < t)). ⊎_elim (λ (l : t < m). inl l) (λ (g : m < t). inr (omega arith)) r) (cases_order t m)

  here : (p : List ℕ) (ps : List (List ℕ)) → Found (p ∷ ps) (counted p)
  here p ps = or_left (same_below n (counted p) (counted p)) (list_any (λ q. same_below n (counted p) (counted q)) ps) (same_from n (counted p) (counted p) refl)

  -- none that comes after a point is the same
  not_after : (p : List ℕ) (ps : List (List ℕ)) (u : Word) → u ≡ counted p → HasTagsBelow n u → Fit ps → After p ps → Found ps u → ⊥
  not_after p [] u is below f a h = cc
  not_after p (q ∷ ps) u is below f a h =
      let own = and_parts (point_fits k n q) (list_all (point_fits k n) ps) f in
      ⊎_elim
      (λ (s : same_below n u (counted q) ≡ true).
      let e : counted p ≡ counted q = sym is ∙ same_words n u (counted q) below (none_beyond k n q own.0) s in
      apart p q a.0 (count_eq (counted p) (counted q) e))
      (λ (r : Found ps u). not_after p ps u is below own.1 a.1 r)
      (or_cases (same_below n u (counted q)) (list_any (λ r. same_below n u (counted r)) ps) h)

  -- so a point that comes before all is not among them
  no_before : (p q : List ℕ) (qs : List (List ℕ)) → point_fits k n p ≡ true → Fit (q ∷ qs) → After q qs → comes_before p q ≡ true → Found (q ∷ qs) (counted p) → ⊥
  no_before p q qs fit f a h found = not_after p (q ∷ qs) (counted p) refl (none_beyond k n p fit) f (h, after_too p q qs h a) found

  abbrev Into : List (List ℕ) → List (List ℕ) → Type 0
  Into ps qs = (u : Word) → IsPoint k n u → Found ps u → Found qs u

  rest_into : (p q : List ℕ) (ps qs : List (List ℕ)) → Fit ps → After p ps → counted p ≡ counted q → HasTagsBelow n (counted q) → Into (p ∷ ps) (q ∷ qs) → Into ps qs
  rest_into p q ps qs f a same below into u point h =
      ⊎_elim
      (λ (s : same_below n u (counted q) ≡ true).
      absurd (not_after p ps u (same_words n u (counted q) point.0 below s ∙ sym same) point.0 f a h))
      (λ (r : Found qs u). r)
      (or_cases (same_below n u (counted q)) (list_any (λ r. same_below n u (counted r)) qs)
      (into u point (or_right (same_below n u (counted p)) (list_any (λ r. same_below n u (counted r)) ps) h)))

  one_pattern : (e : Pat) (ps qs : List (List ℕ)) → Fit ps → Fit qs → points_ascend ps ≡ true → points_ascend qs ≡ true → Into ps qs → Into qs ps → with_points k n e ps ≡ with_points k n e qs
  one_pattern e [] [] f g a b to back = refl
  one_pattern e [] (q ∷ qs) f g a b to back =
      let own = and_parts (point_fits k n q) (list_all (point_fits k n) qs) g in
      let none : Found [] (counted q) = back (counted q) (is_point q own.0) (here q qs) in
      cc
  one_pattern e (p ∷ ps) [] f g a b to back =
      let own = and_parts (point_fits k n p) (list_all (point_fits k n) ps) f in
      let none : Found [] (counted p) = to (counted p) (is_point p own.0) (here p ps) in
      cc
  one_pattern e (p ∷ ps) (q ∷ qs) f g a b to back =
      let first = and_parts (point_fits k n p) (list_all (point_fits k n) ps) f in
      let second = and_parts (point_fits k n q) (list_all (point_fits k n) qs) g in
      by first.0 second.0
      (λ next same. one_pattern next ps qs first.1 second.1 (rest_ascends p ps a) (rest_ascends q qs b)
      (rest_into p q ps qs first.1 (all_after p ps a) same (none_beyond k n q second.0) to)
      (rest_into q p qs ps second.1 (all_after q qs b) (sym same) (none_beyond k n p first.0) back))
      (compared p q)
    where
      by : point_fits k n p ≡ true → point_fits k n q ≡ true → ((next : Pat) → counted p ≡ counted q → with_points k n next ps ≡ with_points k n next qs) → Compared p q → with_points k n e (p ∷ ps) ≡ with_points k n e (q ∷ qs)
      by fp fq rest (before h) = absurd (no_before p q qs fp g (all_after q qs b) h (to (counted p) (is_point p fp) (here p ps)))
      by fp fq rest (after h) = absurd (no_before q p ps fq f (all_after p ps a) h (back (counted q) (is_point q fq) (here q qs)))
      by fp fq rest (alike s) =
          let same : counted p ≡ counted q = word_ext (counted p) (counted q) s in
          ap (λ u. with_points k n (sum_of e (point_pattern k n u)) ps) same ∙ rest (sum_of e (point_pattern k n (counted q))) same

  pub points_once : (ps qs : List (List ℕ)) → points_fit k n ps ≡ true → points_fit k n qs ≡ true → Into ps qs → Into qs ps → points_pattern k n ps ≡ points_pattern k n qs
  points_once ps qs f g to back =
      let a = and_parts (grid_fits k n) (list_all (point_fits k n) ps && points_ascend ps) f in
      let b = and_parts (grid_fits k n) (list_all (point_fits k n) qs && points_ascend qs) g in
      let c = and_parts (list_all (point_fits k n) ps) (points_ascend ps) a.1 in
      let d = and_parts (list_all (point_fits k n) qs) (points_ascend qs) b.1 in
      one_pattern Zero ps qs c.0 d.0 c.1 d.1 to back
