-- The points of a test of numbers, listed.
use Rattle.std.proofs.Common.{◌≡◌, ℕ, zero, suc, ◌+◌, ◌<◌, ◌≤◌, true, Bool, List, [], ◌∷◌, ⊎_elim, refl, sym, ap, ◌∙◌, subst, arith}
use Rattle.std.specs.Prelude.{◌&&◌, nat_le}
use Rattle.std.specs.List.{AllByRecursion, list_all, list_any}
use Rattle.std.proofs.lemmas.Bool.{and_from, or_cases, or_left, or_right, cond_both, cases_lt, le-leb}
use Rattle.pat_words_spec.specs.Words.{Word}
use Rattle.pat_words_laws.proofs.WordLaws.{word_ext}
use Rattle.pat_words_spec.specs.Tags.{HasTagsBelow}
use Rattle.pat_inclusion_spec.specs.Counts.{same_below, counted}
use Rattle.pat_inclusion_spec.specs.Points.{grid_fits, point_fits, comes_before, points_ascend, points_fit}
use Rattle.pat_inclusion_laws.proofs.Spans.{same_words}
use Rattle.pat_inclusion_laws.proofs.Exact.{same_from}
use Rattle.pat_inclusion_spec.specs.bounds.CutSets.{IsPoint}
use Rattle.pat_inclusion_spec.specs.bounds.Numbers.{points_in, number_of, point_of, counts_of, points_from, points_where}
use Rattle.pat_inclusion_laws.proofs.NumberLaws.{number_small, number_point, point_fits as point_there, point_number, point_counts}
use Rattle.pat_inclusion_laws.proofs.Order.{number_order}

counts_at : (n : ℕ) (u : Word) → HasTagsBelow n u → (t : ℕ) → counted (counts_of n u) t ≡ u t
counts_at zero u h t = sym (h t (omega arith))
counts_at (suc n) u h zero = refl
counts_at (suc n) u h (suc t) = counts_at n (λ i. u (suc i)) (λ i l. h (suc i) (omega arith)) t

counts_word : (n : ℕ) (u : Word) → HasTagsBelow n u → counted (counts_of n u) ≡ u
counts_word n u h = word_ext (counted (counts_of n u)) u (counts_at n u h)

counts_fit : (k n : ℕ) (u : Word) → ((t : ℕ) → u t ≤ k) → point_fits k n (counts_of n u) ≡ true
counts_fit k zero u h = refl
counts_fit k (suc n) u h =
    and_from (nat_le (u 0) k) (point_fits k n (counts_of n (λ t. u (suc t)))) (le-leb (u 0) k (h 0)) (counts_fit k n (λ t. u (suc t)) (λ t. h (suc t)))

module _ (k n : ℕ) (test : ℕ → Bool) where
  abbrev listed : ℕ → List ℕ
  listed c = counts_of n (point_of k n c)

  word_listed : (c : ℕ) → counted (listed c) ≡ point_of k n c
  word_listed c = counts_word n (point_of k n c) (point_there k n c).0

  number_listed : (c : ℕ) → c < points_in k n → number_of k n (counted (listed c)) ≡ c
  number_listed c l = ap (number_of k n) (word_listed c) ∙ point_number k n c l

  fits_listed : (c : ℕ) → point_fits k n (listed c) ≡ true
  fits_listed c = counts_fit k n (point_of k n c) (point_counts k n (point_of k n c) (point_there k n c))

  -- all are points from number c on
  abbrev From : ℕ → List ℕ → Type 0
  From c p = (point_fits k n p ≡ true) × (c ≤ number_of k n (counted p))

  more_from : (c d : ℕ) → c ≤ d → (ps : List (List ℕ)) → AllByRecursion (From d) ps → AllByRecursion (From c) ps
  more_from c d l [] a = tt
  more_from c d l (p ∷ ps) a = let h = a.0.1 in ((a.0.0, omega arith), more_from c d l ps a.1)

  all_from : (c m : ℕ) → c + m ≤ points_in k n → AllByRecursion (From c) (points_from k n test c m)
  all_from c zero l = tt
  all_from c (suc m) l =
      let ps = points_from k n test (suc c) m in
      let a = more_from c (suc c) (omega arith) ps (all_from (suc c) m (omega arith)) in
      cond_both (test c) (listed c ∷ ps) ps (AllByRecursion (From c))
      (λ _. ((fits_listed c, let e = number_listed c (omega arith) in omega arith), a))
      (λ _. a)

  all_fits : (c : ℕ) (ps : List (List ℕ)) → AllByRecursion (From c) ps → list_all (point_fits k n) ps ≡ true
  all_fits c [] a = refl
  all_fits c (p ∷ ps) a = and_from (point_fits k n p) (list_all (point_fits k n) ps) a.0.0 (all_fits c ps a.1)

  ascend_more : (c : ℕ) (ps : List (List ℕ)) → c < points_in k n → AllByRecursion (From (suc c)) ps → points_ascend ps ≡ true → points_ascend (listed c ∷ ps) ≡ true
  ascend_more c [] l a h = refl
  ascend_more c (q ∷ more) l a h =
      and_from (comes_before (listed c) q) (points_ascend (q ∷ more))
      ((number_order k n (listed c) q (fits_listed c) a.0.0).1 (let e = number_listed c l in let b = a.0.1 in omega arith))
      h

  all_ascend : (c m : ℕ) → c + m ≤ points_in k n → points_ascend (points_from k n test c m) ≡ true
  all_ascend c zero l = refl
  all_ascend c (suc m) l =
      let ps = points_from k n test (suc c) m in
      let a = all_from (suc c) m (omega arith) in
      let h = all_ascend (suc c) m (omega arith) in
      cond_both (test c) (listed c ∷ ps) ps (λ qs. points_ascend qs ≡ true) (λ _. ascend_more c ps (omega arith) a h) (λ _. h)

  pub listed_fit : grid_fits k n ≡ true → points_fit k n (points_where k n test) ≡ true
  listed_fit fits =
      let ps = points_where k n test in
      and_from (grid_fits k n) (list_all (point_fits k n) ps && points_ascend ps) fits
      (and_from (list_all (point_fits k n) ps) (points_ascend ps) (all_fits 0 ps (all_from 0 (points_in k n) (omega arith))) (all_ascend 0 (points_in k n) (omega arith)))

  -- ---- which points are there

  module _ (u : Word) (p : IsPoint k n u) where
    abbrev Found : List (List ℕ) → Type 0
    Found ps = list_any (λ q. same_below n u (counted q)) ps ≡ true

    same_number : (c : ℕ) → c < points_in k n → same_below n u (counted (listed c)) ≡ true → number_of k n u ≡ c
    same_number c l h =
        let there = subst (HasTagsBelow n) (sym (word_listed c)) (point_there k n c).0 in
        ap (number_of k n) (same_words n u (counted (listed c)) p.0 there h) ∙ number_listed c l

    number_same_there : (c : ℕ) → number_of k n u ≡ c → same_below n u (counted (listed c)) ≡ true
    number_same_there c e =
        same_from n u (counted (listed c)) (sym (number_point k n u p) ∙ ap (point_of k n) e ∙ sym (word_listed c))

    found_from : (c m : ℕ) → c + m ≤ points_in k n → Found (points_from k n test c m) → test (number_of k n u) ≡ true
    found_from c zero l h = cc
    found_from c (suc m) l h =
        let ps = points_from k n test (suc c) m in
        cond_both (test c) (listed c ∷ ps) ps (λ qs. Found qs → test (number_of k n u) ≡ true)
        (λ yes_here k_in. ⊎_elim
        (λ s. subst (λ x. test x ≡ true) (sym (same_number c (omega arith) s)) yes_here)
        (λ r. found_from (suc c) m (omega arith) r)
        (or_cases (same_below n u (counted (listed c))) (list_any (λ q. same_below n u (counted q)) ps) k_in))
        (λ _ k_in. found_from (suc c) m (omega arith) k_in)
        h

    from_found : (c m : ℕ) → c ≤ number_of k n u → number_of k n u < c + m → test (number_of k n u) ≡ true → Found (points_from k n test c m)
    from_found c zero low high t = absurd (omega arith)
    from_found c (suc m) low high t =
        let ps = points_from k n test (suc c) m in
        let first = same_below n u (counted (listed c)) in
        let others = list_any (λ q. same_below n u (counted q)) ps in
        ⊎_elim
        (λ later.
        let r = from_found (suc c) m later (omega arith) t in
        cond_both (test c) (listed c ∷ ps) ps Found (λ _. or_right first others r) (λ _. r))
        (λ now.
        let e : number_of k n u ≡ c = omega arith in
        cond_both (test c) (listed c ∷ ps) ps Found
        (λ _. or_left first others (number_same_there c e))
        (λ n_here. let s = subst (λ x. test x ≡ true) e t in cc))
        (cases_lt c (number_of k n u))

    pub listed_to : Found (points_where k n test) → test (number_of k n u) ≡ true
    listed_to h = found_from 0 (points_in k n) (omega arith) h

    pub listed_back : test (number_of k n u) ≡ true → Found (points_where k n test)
    listed_back t = from_found 0 (points_in k n) (omega arith) (let l = number_small k n u p in omega arith) t
