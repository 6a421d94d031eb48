-- The points of a grid, listed as bags, are points of it in ascending order.
use Rattle.std.proofs.Common.{◌≡◌, ℕ, zero, suc, ◌+◌, ◌<◌, ◌≤◌, Bool, true, false, List, [], ◌∷◌, map, length, refl, sym, ap, ◌∙◌, subst, arith}
use Rattle.std.specs.Prelude.{◌&&◌, nat_eq, nat_le}
use Rattle.std.specs.List.{AllByRecursion, list_all}
use Rattle.std.proofs.lemmas.Bool.{and_from, le-leb, eq-eqb}
use Rattle.pat_words_spec.specs.Tags.{HasTagsBelow}
use Rattle.pat_bags.specs.declared.Bag.{Bag}
use Rattle.pat_bags.specs.Views.{word_of, counted}
use Rattle.pat_inclusion_spec.specs.Points.{grid_fits, point_fits, comes_before, points_ascend, points_fit}
use Rattle.pat_inclusion_spec.specs.bounds.CutSets.{IsPoint}
use Rattle.pat_inclusion_spec.specs.bounds.Numbers.{points_in, number_of, point_of}
use Rattle.pat_inclusion_laws.proofs.NumberLaws.{point_counts, point_fits as point_there, point_number}
use Rattle.pat_inclusion_laws.specs.bounds.Laws.{OrderLaw}
use Rattle.pat_grid_points.specs.Views.{held_from}

counts_fit : (k n : ℕ) (cs : List ℕ) → HasTagsBelow n (counted cs) → ((t : ℕ) → counted cs t ≤ k) → point_fits k n cs ≡ true
counts_fit k n [] h l = refl
counts_fit k zero (c ∷ cs) h l =
    and_from (nat_eq c 0) (point_fits k zero cs) (eq-eqb c 0 (h 0 (omega arith))) (counts_fit k zero cs (λ t m. h (suc t) (omega arith)) (λ t. l (suc t)))
counts_fit k (suc n) (c ∷ cs) h l =
    and_from (nat_le c k) (point_fits k n cs) (le-leb c k (l 0)) (counts_fit k n cs (λ t m. h (suc t) (omega arith)) (λ t. l (suc t)))

abbrev counts : List Bag → List (List ℕ)
counts bags = map (λ (b : Bag). b.counts) bags

module _ (order : OrderLaw) (k n : ℕ) where
  -- a point with this number or a higher one
  abbrev From : ℕ → List ℕ → Type 0
  From c p = (point_fits k n p ≡ true) × (c ≤ number_of k n (counted p))

  more_from : (c d : ℕ) → c ≤ d → (ps : List (List ℕ)) → AllByRecursion (From d) ps → AllByRecursion (From c) ps
  more_from c d l [] a = tt
  more_from c d l (p ∷ ps) a = let h = a.0.1 in ((a.0.0, omega arith), more_from c d l ps a.1)

  bag_fits : (b : Bag) (c : ℕ) → word_of b ≡ point_of k n c → point_fits k n b.counts ≡ true
  bag_fits b c e =
      let p : IsPoint k n (counted b.counts) = subst (IsPoint k n) (sym e) (point_there k n c) in
      counts_fit k n b.counts p.0 (point_counts k n (counted b.counts) p)

  bag_number : (b : Bag) (c : ℕ) → c < points_in k n → word_of b ≡ point_of k n c → number_of k n (counted b.counts) ≡ c
  bag_number b c l e = ap (number_of k n) e ∙ point_number k n c l

  all_from : (c : ℕ) (held : List Bool) (bags : List Bag) → c + length held ≤ points_in k n → map word_of bags ≡ held_from k n c held → AllByRecursion (From c) (counts bags)
  all_from c [] [] l e = tt
  all_from c [] (b ∷ bags) l e = absurd (cc)
  all_from c (true ∷ held) [] l e = absurd (cc)
  all_from c (true ∷ held) (b ∷ bags) l e =
      let first : word_of b ≡ point_of k n c = cc in
      let rest : map word_of bags ≡ held_from k n (suc c) held = cc in
      let i = bag_number b c (omega arith) first in
      ((bag_fits b c first, omega arith), more_from c (suc c) (omega arith) (counts bags) (all_from (suc c) held bags (omega arith) rest))
  all_from c (false ∷ held) bags l e =
      more_from c (suc c) (omega arith) (counts bags) (all_from (suc c) held bags (omega arith) e)

  all_fits : (c : ℕ) (ps : List (List ℕ)) → AllByRecursion (From c) ps → list_all (point_fits k n) ps ≡ true
  all_fits c [] a = refl
  all_fits c (p ∷ ps) a = and_from (point_fits k n p) (list_all (point_fits k n) ps) a.0.0 (all_fits c ps a.1)

  ascend_more : (c : ℕ) (p : List ℕ) (ps : List (List ℕ)) → point_fits k n p ≡ true → number_of k n (counted p) ≡ c → AllByRecursion (From (suc c)) ps → points_ascend ps ≡ true → points_ascend (p ∷ ps) ≡ true
  ascend_more c p [] f i a h = refl
  ascend_more c p (q ∷ more) f i a h =
      and_from (comes_before p q) (points_ascend (q ∷ more))
      ((order k n p q f a.0.0).1 (let b = a.0.1 in omega arith))
      h

  all_ascend : (c : ℕ) (held : List Bool) (bags : List Bag) → c + length held ≤ points_in k n → map word_of bags ≡ held_from k n c held → points_ascend (counts bags) ≡ true
  all_ascend c [] [] l e = refl
  all_ascend c [] (b ∷ bags) l e = absurd (cc)
  all_ascend c (true ∷ held) [] l e = absurd (cc)
  all_ascend c (true ∷ held) (b ∷ bags) l e =
      let first : word_of b ≡ point_of k n c = cc in
      let rest : map word_of bags ≡ held_from k n (suc c) held = cc in
      ascend_more c b.counts (counts bags) (bag_fits b c first) (bag_number b c (omega arith) first)
      (all_from (suc c) held bags (omega arith) rest) (all_ascend (suc c) held bags (omega arith) rest)
  all_ascend c (false ∷ held) bags l e = all_ascend (suc c) held bags (omega arith) e

  pub listed_fit : (held : List Bool) (bags : List Bag) → grid_fits k n ≡ true → length held ≡ points_in k n → map word_of bags ≡ held_from k n 0 held → points_fit k n (counts bags) ≡ true
  listed_fit held bags fits all e =
      and_from (grid_fits k n) (list_all (point_fits k n) (counts bags) && points_ascend (counts bags)) fits
      (and_from (list_all (point_fits k n) (counts bags)) (points_ascend (counts bags)) (all_fits 0 (counts bags) (all_from 0 held bags (omega arith) e)) (all_ascend 0 held bags (omega arith) e))
