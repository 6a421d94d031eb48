-- A set made of points that ascend, run by run.
use Rattle.std.proofs.Common.{◌≡◌, ℕ, zero, suc, ◌+◌, ◌-◌, ◌<◌, ◌≤◌, ◌⊎◌, ◌↔◌, inl, inr, ⊎_elim, Bool, true, false, List, [], ◌∷◌, map, length, get_or, take, drop, replicate, refl, sym, ap, ◌∙◌, subst, arith}
use Rattle.std.specs.Prelude.{◌&&◌, nat_eq, nat_le}
use Rattle.std.specs.List.{list_all}
use Rattle.std.proofs.lemmas.Bool.{and_parts, eqb-true, leb-true, cases_lt}
use Rattle.std.proofs.lemmas.List.{take_all, get_or-map, drop-map, get_or-drop, length-drop, length-map, get_or-replicate, length-replicate, get_or_past}
use mathlib.Core.Path.{fun_ext}
use Rattle.pat_words_spec.specs.Words.{Word}
use Rattle.pat_words_spec.specs.Cuts.{cut_at}
use Rattle.pat_words_spec.specs.Languages.{MemberOf}
use Rattle.pat_words_spec.specs.Tags.{HasTagsBelow}
use Rattle.pat_bags.specs.declared.Bag.{Bag}
use Rattle.pat_bags.specs.Views.{word_of, counted}
use Rattle.pat_inclusion_spec.specs.Points.{grid_fits, point_fits, comes_before, points_ascend, points_fit}
use Rattle.pat_inclusion_spec.specs.bounds.CutSets.{IsPoint}
use Rattle.pat_inclusion_spec.specs.bounds.Numbers.{points_in, number_of, point_of}
use Rattle.pat_inclusion_laws.proofs.NumberLaws.{number_point, number_below}
use Rattle.pat_inclusion_laws.specs.bounds.Laws.{OrderLaw}
use Rattle.pat_grid_points.specs.Sparse.{IsFilled}
use Rattle.pat_grid_points.specs.Views.{numbers_of}
use Rattle.pat_grid_points.proofs.Sets.{In}

abbrev counts : List Bag → List (List ℕ)
counts bags = map (λ (b : Bag). b.counts) bags

fits_counts : (k n : ℕ) (cs : List ℕ) → point_fits k n cs ≡ true → HasTagsBelow n (counted cs) × ((t : ℕ) → counted cs t ≤ k)
fits_counts k n [] h = (λ t l. refl, λ t. omega arith)
fits_counts k zero (c ∷ cs) h =
    let p = and_parts (nat_eq c 0) (point_fits k zero cs) h in
    let none = eqb-true c 0 p.0 in
    let more = fits_counts k zero cs p.1 in
    (below none more.0, few none more.1)
  where
    below : c ≡ 0 → HasTagsBelow zero (counted cs) → HasTagsBelow zero (counted (c ∷ cs))
    below none more zero l = none
    below none more (suc t) l = more t (omega arith)

    few : c ≡ 0 → ((t : ℕ) → counted cs t ≤ k) → (t : ℕ) → counted (c ∷ cs) t ≤ k
    few none more zero = omega arith
    few none more (suc t) = more t
fits_counts k (suc n) (c ∷ cs) h =
    let p = and_parts (nat_le c k) (point_fits k n cs) h in
    let low = leb-true c k p.0 in
    let more = fits_counts k n cs p.1 in
    (below more.0, few low more.1)
  where
    below : HasTagsBelow n (counted cs) → HasTagsBelow (suc n) (counted (c ∷ cs))
    below more zero l = absurd (omega arith)
    below more (suc t) l = more t (omega arith)

    few : c ≤ k → ((t : ℕ) → counted cs t ≤ k) → (t : ℕ) → counted (c ∷ cs) t ≤ k
    few low more zero = low
    few low more (suc t) = more t

fits_point : (k n : ℕ) (b : Bag) → point_fits k n b.counts ≡ true → IsPoint k n (word_of b)
fits_point k n b h = let f = fits_counts k n b.counts h in (f.0, fun_ext (λ t. let l = f.1 t in omega arith))

own_number : (k n : ℕ) (b : Bag) → point_fits k n b.counts ≡ true → number_of k n (cut_at k (word_of b)) ≡ number_of k n (word_of b)
own_number k n b h = ap (number_of k n) (sym (fits_point k n b h).1)

-- ---- numbers that rise

-- each is lower than the next
abbrev Rising : List ℕ → Type 0
Rising [] = Unit {0}
Rising (x ∷ []) = Unit {0}
Rising (x ∷ y ∷ xs) = (x < y) × Rising (y ∷ xs)

rises : OrderLaw → (k n : ℕ) (bs : List Bag) → list_all (point_fits k n) (counts bs) ≡ true → points_ascend (counts bs) ≡ true → Rising (numbers_of k n bs)
rises order k n [] f a = tt
rises order k n (b ∷ []) f a = tt
rises order k n (b ∷ c ∷ bs) f a =
    let p = and_parts (point_fits k n b.counts) (list_all (point_fits k n) (counts (c ∷ bs))) f in
    let q = and_parts (point_fits k n c.counts) (list_all (point_fits k n) (counts bs)) p.1 in
    let s = and_parts (comes_before b.counts c.counts) (points_ascend (counts (c ∷ bs))) a in
    let less : number_of k n (word_of b) < number_of k n (word_of c) = (order k n b.counts c.counts p.0 q.0).0 s.0 in
    let i = own_number k n b p.0 in
    let j = own_number k n c q.0 in
    (omega arith, rises order k n (c ∷ bs) p.1 s.1)

rising_gap : (xs : List ℕ) → Rising xs → (i j : ℕ) → i ≤ j → j < length xs → get_or xs i 0 + j ≤ get_or xs j 0 + i
rising_gap [] r i j l m = absurd (omega arith)
rising_gap (x ∷ []) r zero zero l m = omega arith
rising_gap (x ∷ []) r zero (suc j) l m = absurd (omega arith)
rising_gap (x ∷ []) r (suc i) zero l m = absurd (omega arith)
rising_gap (x ∷ []) r (suc i) (suc j) l m = absurd (omega arith)
rising_gap (x ∷ y ∷ xs) r zero zero l m = omega arith
rising_gap (x ∷ y ∷ xs) r zero (suc j) l m = let h = rising_gap (y ∷ xs) r.1 zero j (omega arith) (omega arith) in let less = r.0 in omega arith
rising_gap (x ∷ y ∷ xs) r (suc i) zero l m = absurd (omega arith)
rising_gap (x ∷ y ∷ xs) r (suc i) (suc j) l m = let h = rising_gap (y ∷ xs) r.1 i j (omega arith) (omega arith) in omega arith

-- where the last number is as much higher as it comes later, the numbers between follow one another
run_follows : (xs : List ℕ) (m number : ℕ) → Rising xs → 0 < m → m ≤ length xs → get_or xs 0 0 ≡ number → get_or xs (m - 1) 0 ≡ number + (m - 1) → (i : ℕ) → i < m → get_or xs i 0 ≡ number + i
run_follows xs m number r some room first last i l =
    let low = rising_gap xs r 0 i (omega arith) (omega arith) in
    let high = rising_gap xs r i (m - 1) (omega arith) (omega arith) in
    omega arith

-- ---- the numbers of points

pub number_at : (k n : ℕ) (bs : List Bag) (i number : ℕ) (d : Bag) → i < length bs → number ≡ number_of k n (cut_at k (word_of (get_or bs i d))) → get_or (numbers_of k n bs) i 0 ≡ number
number_at k n bs i number d l e = get_or-map (λ (b : Bag). number_of k n (cut_at k (word_of b))) bs i d 0 l ∙ sym e

pub number_small_at : (k n : ℕ) (bs : List Bag) (i : ℕ) → i < length bs → get_or (numbers_of k n bs) i 0 < points_in k n
number_small_at k n [] i l = absurd (omega arith)
number_small_at k n (b ∷ bs) zero l = number_below k n (cut_at k (word_of b)) (λ t. omega arith)
number_small_at k n (b ∷ bs) (suc i) l = number_small_at k n bs i (omega arith)

-- ---- what is held

-- the number is one of these
abbrev Among : List ℕ → ℕ → Type 0
Among xs c = (i : ℕ) × (i < length xs) × (get_or xs i 0 ≡ c)

-- what is held or still to come are the points
pub record Holding (k n : ℕ) (points rest : List Bag) (held : List Bool) : Type 0 where
  pub all : length held ≡ points_in k n
  pub fit : list_all (point_fits k n) (counts rest) ≡ true
  pub ascend : points_ascend (counts rest) ≡ true
  pub whole : (c : ℕ) → ((get_or held c false ≡ true) ⊎ Among (numbers_of k n rest) c) ↔ Among (numbers_of k n points) c

false_at : (count c : ℕ) → get_or (replicate count false) c false ≡ false
false_at count c =
    ⊎_elim (λ l. get_or-replicate count c false false l)
    (λ l. get_or_past (replicate count false) c false (subst (λ i. i ≤ c) (sym (length-replicate count false)) l))
    (cases_lt c count)

pub parts_fit : (k n : ℕ) (bs : List Bag) → points_fit k n (counts bs) ≡ true → (grid_fits k n ≡ true) × (list_all (point_fits k n) (counts bs) ≡ true) × (points_ascend (counts bs) ≡ true)
parts_fit k n bs h =
    let p = and_parts (grid_fits k n) (list_all (point_fits k n) (counts bs) && points_ascend (counts bs)) h in
    let q = and_parts (list_all (point_fits k n) (counts bs)) (points_ascend (counts bs)) p.1 in
    (p.0, q.0, q.1)

pub holding_none : (k n count : ℕ) (points : List Bag) (held : List Bool) → points_fit k n (counts points) ≡ true → count ≡ points_in k n → held ≡ replicate count false → Holding k n points points held
holding_none k n count points held f c e =
    let parts = parts_fit k n points f in
    subst (Holding k n points points) (sym e) (record {
      all = length-replicate count false ∙ c;
      fit = parts.1;
      ascend = parts.2;
      whole = λ i. (⊎_elim (λ h. let none = false_at count i in absurd (cc)) (λ h. h), λ h. inr h);
    })

drop_fit : (k n m : ℕ) (bs : List Bag) → list_all (point_fits k n) (counts bs) ≡ true → list_all (point_fits k n) (counts (drop m bs)) ≡ true
drop_fit k n zero bs f = f
drop_fit k n (suc m) [] f = f
drop_fit k n (suc m) (b ∷ bs) f = drop_fit k n m bs (and_parts (point_fits k n b.counts) (list_all (point_fits k n) (counts bs)) f).1

rest_ascends : (b : Bag) (bs : List Bag) → points_ascend (counts (b ∷ bs)) ≡ true → points_ascend (counts bs) ≡ true
rest_ascends b [] a = refl
rest_ascends b (c ∷ bs) a = (and_parts (comes_before b.counts c.counts) (points_ascend (counts (c ∷ bs))) a).1

drop_ascends : (m : ℕ) (bs : List Bag) → points_ascend (counts bs) ≡ true → points_ascend (counts (drop m bs)) ≡ true
drop_ascends zero bs a = a
drop_ascends (suc m) [] a = a
drop_ascends (suc m) (b ∷ bs) a = drop_ascends m bs (rest_ascends b bs a)

module _ (xs : List ℕ) (m number : ℕ) (held new : List Bool) (room : m ≤ length xs) (run : (i : ℕ) → i < m → get_or xs i 0 ≡ number + i) (filled : IsFilled number m true held new) (c : ℕ) where
  turned : (get_or new c false ≡ true) ⊎ Among (drop m xs) c → (get_or held c false ≡ true) ⊎ Among xs c
  turned = ⊎_elim was later
    where
      was : get_or new c false ≡ true → (get_or held c false ≡ true) ⊎ Among xs c
      was e =
          ⊎_elim (λ l. inl (sym (filled.elsewhere c false (inl l)) ∙ e))
          (λ ge. ⊎_elim
          (λ l. inr (c - number, omega arith, run (c - number) (omega arith) ∙ (let s : number + (c - number) ≡ c = omega arith in s)))
          (λ past. inl (sym (filled.elsewhere c false (inr past)) ∙ e))
          (cases_lt c (number + m)))
          (cases_lt c number)

      later : Among (drop m xs) c → (get_or held c false ≡ true) ⊎ Among xs c
      later h =
          let long = length-drop m xs in
          let l = h.1 in
          inr (m + h.0, omega arith, sym (get_or-drop m xs h.0 0) ∙ h.2)

  turn : (get_or held c false ≡ true) ⊎ Among xs c → (get_or new c false ≡ true) ⊎ Among (drop m xs) c
  turn = ⊎_elim was among
    where
      within : number ≤ c → c < number + m → (get_or new c false ≡ true) ⊎ Among (drop m xs) c
      within ge l = inl (filled.here c false ge l)

      was : get_or held c false ≡ true → (get_or new c false ≡ true) ⊎ Among (drop m xs) c
      was e =
          ⊎_elim (λ l. inl (filled.elsewhere c false (inl l) ∙ e))
          (λ ge. ⊎_elim (λ l. within ge l) (λ past. inl (filled.elsewhere c false (inr past) ∙ e)) (cases_lt c (number + m)))
          (cases_lt c number)

      among : Among xs c → (get_or new c false ≡ true) ⊎ Among (drop m xs) c
      among h =
          let l = h.1 in
          let is = h.2 in
          ⊎_elim
          (λ low. let e = run h.0 low in within (omega arith) (omega arith))
          (λ ge.
          let long = length-drop m xs in
          inr (h.0 - m, omega arith, get_or-drop m xs (h.0 - m) 0 ∙ ap (λ i. get_or xs i 0) (let s : m + (h.0 - m) ≡ h.0 = omega arith in s) ∙ is))
          (cases_lt h.0 m)

-- what stands behind the first items, to the end
pub all_behind : (m : ℕ) (bs : List Bag) → take (length bs - m) (drop m bs) ≡ drop m bs
all_behind m bs = take_all (length bs - m) (drop m bs) (let long = length-drop m bs in omega arith)

pub holding_turn : OrderLaw → (k n m number : ℕ) (points rest : List Bag) (held new : List Bool) → Holding k n points rest held → 0 < m → m ≤ length rest → get_or (numbers_of k n rest) 0 0 ≡ number → get_or (numbers_of k n rest) (m - 1) 0 ≡ number + (m - 1) → IsFilled number m true held new → Holding k n points (drop m rest) new
holding_turn order k n m number points rest held new h some room first last filled =
    let f : Bag → ℕ = λ b. number_of k n (cut_at k (word_of b)) in
    let xs = numbers_of k n rest in
    let long = length-map rest f in
    let within : m ≤ length xs = omega arith in
    let run = run_follows xs m number (rises order k n rest h.fit h.ascend) some within first last in
    let dropped : drop m xs ≡ numbers_of k n (drop m rest) = drop-map f m rest in
    record {
      all = filled.as_long ∙ h.all;
      fit = drop_fit k n m rest h.fit;
      ascend = drop_ascends m rest h.ascend;
      whole = λ c. subst (λ ys. ((get_or new c false ≡ true) ⊎ Among ys c) ↔ Among (numbers_of k n points) c) dropped (
        λ g. (h.whole c).0 (turned xs m number held new within run filled c g),
        λ g. turn xs m number held new within run filled c ((h.whole c).1 g),
      );
    }

-- ---- the points of what is held

among_member : (k n : ℕ) (bs : List Bag) (u : Word) → list_all (point_fits k n) (counts bs) ≡ true → IsPoint k n u → (i : ℕ) → i < length (numbers_of k n bs) → get_or (numbers_of k n bs) i 0 ≡ number_of k n u → MemberOf (map word_of bs) u
among_member k n [] u f p i l e = absurd (omega arith)
among_member k n (b ∷ bs) u f p zero l e =
    let h = (and_parts (point_fits k n b.counts) (list_all (point_fits k n) (counts bs)) f).0 in
    inl (sym (number_point k n (word_of b) (fits_point k n b h)) ∙ ap (point_of k n) (sym (own_number k n b h) ∙ e) ∙ number_point k n u p)
among_member k n (b ∷ bs) u f p (suc i) l e =
    inr (among_member k n bs u (and_parts (point_fits k n b.counts) (list_all (point_fits k n) (counts bs)) f).1 p i (omega arith) e)

member_among : (k n : ℕ) (bs : List Bag) (u : Word) → list_all (point_fits k n) (counts bs) ≡ true → MemberOf (map word_of bs) u → IsPoint k n u × Among (numbers_of k n bs) (number_of k n u)
member_among k n [] u f m = absurd m
member_among k n (b ∷ bs) u f m =
    let p = and_parts (point_fits k n b.counts) (list_all (point_fits k n) (counts bs)) f in
    ⊎_elim
    (λ e. (subst (IsPoint k n) e (fits_point k n b p.0), (0, omega arith, own_number k n b p.0 ∙ ap (number_of k n) e)))
    (λ r. let h = member_among k n bs u p.1 r in (h.0, (suc h.1.0, let l = h.1.1 in omega arith, h.1.2)))
    m

pub holding_all : (k n : ℕ) (points rest : List Bag) (held : List Bool) → Holding k n points rest held → length rest < 1 → points_fit k n (counts points) ≡ true → (u : Word) → In k n held u ↔ MemberOf (map word_of points) u
holding_all k n points rest held h none f u =
    let fit = (parts_fit k n points f).1 in (
      λ p. let a = (h.whole (number_of k n u)).0 (inl p.1) in among_member k n points u fit p.0 a.0 a.1 a.2,
      λ m. let a = member_among k n points u fit m in (a.0, ⊎_elim (λ e. e) (λ r. absurd (never r)) ((h.whole (number_of k n u)).1 a.1)),
    )
  where
    never : Among (numbers_of k n rest) (number_of k n u) → ⊥
    never r = let long = length-map rest (λ (b : Bag). number_of k n (cut_at k (word_of b))) in let l = r.1 in omega arith
