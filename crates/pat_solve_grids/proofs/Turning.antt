-- A constraint more is searched.
use Rattle.std.proofs.Common.{◌≡◌, ℕ, zero, suc, ◌+◌, ◌<◌, ◌⊎◌, inl, inr, ⊎_elim, false, List, [], ◌∷◌, length, map, Option, Some, None, refl, sym, subst, arith}
use Rattle.std.specs.Prelude.{get_or}
use Rattle.std.specs.List.{AllByRecursion}
use Rattle.std.proofs.lemmas.Bool.{cases_lt}
use Rattle.std.proofs.lemmas.List.{get_or-map}
use Rattle.pat_words_spec.specs.Words.{Word}
use Rattle.pat_words_spec.specs.Patterns.{Pat, Zero}
use Rattle.pat_inclusion_spec.specs.bounds.Trees.{Bound, EmptyTree, Shows}
use Rattle.pat_inclusion_spec.specs.bounds.Assignments.{Right, PatternRight, VarRight, Constraint}
use Rattle.pat_inclusion_spec.specs.bounds.Searches.{IsInside, IsFound, IsLarge, Search, InsideAnswer, FoundAnswer, LargeAnswer, IsAnswer}
use Rattle.pat_counterexample_search.specs.Least.{IsLeastAnswer}
use Rattle.pat_solve_bounds.specs.renumbered.Systems.{side_at, picked}
use Rattle.pat_solve_grids.specs.Findings.{Findings, first_or, noted, SidesSearched, IsSearched, FoundIn, LargeIn, InsideIn, FoundAt, LeastAt, LargeAt, InsideAt, IsFirst, AreFound}
use Rattle.pat_limits.specs.Limits.{most_tree_nodes}

-- ---- no tree shows a word of 0

pub none_of_zero : (lower : ℕ → Pat) (w : Word) (b : Bound) → Shows lower b Zero w → ⊥
none_of_zero lower w EmptyTree h = absurd h
none_of_zero lower w b h = absurd h

-- ---- one more

module _ (lower : ℕ → Pat) (left : Pat) where
  found_not_inside : (f : Pat) (w : Word) (b : Bound) → IsInside lower left f → IsFound most_tree_nodes lower left f w b → ⊥
  found_not_inside f w b all found = let h = found.0 in h.1 (all w (b, h.0))

  large_not_inside : (f : Pat) → IsInside lower left f → IsLarge most_tree_nodes lower left f → ⊥
  large_not_inside f all large = let h = large.0 in let r = h.2 in r.1 (all h.0 (h.1, r.0))

  found_not_large : (f : Pat) (w : Word) (b : Bound) → IsLarge most_tree_nodes lower left f → IsFound most_tree_nodes lower left f w b → ⊥
  found_not_large f w b large found =
      let more = large.1 w b found.0 in
      let size = found.1 in
      omega arith

module _ (lower : ℕ → Pat) (rename : Pat → Pat) (cs : List Constraint) (ns : List ℕ) (m : ℕ) where
  abbrev here : Pat
  here = rename (side_at cs m).left

  last : (j : ℕ) → j < suc m → (j < m) ⊎ (j ≡ m)
  last j l = ⊎_elim (λ x. inl x) (λ x. inr (omega arith)) (cases_lt j m)

  -- what holds before m and at m holds before its successor
  up_to : (P : ℕ → Type 0) → ((j : ℕ) → j < m → P j) → P m → (j : ℕ) → j < suc m → P j
  up_to P before own j l = ⊎_elim (λ x. before j x) (λ x. subst P (sym x) own) (last j l)

  -- nothing that is found at m: the first one stays
  first_kept : (o : Option (ℕ × Word × Bound)) → IsFirst lower rename cs ns m o → ((w : Word) (b : Bound) → FoundAt lower rename cs m w b → ⊥) → IsFirst lower rename cs ns (suc m) o
  first_kept None h none = λ j w b l. up_to (λ i. FoundAt lower rename cs i w b → ⊥) (λ i x. h i w b x) (none w b) j l
  first_kept (Some x) h none = (h.0, let l = h.1 in omega arith, h.2, h.3, h.4, h.5)

  first_more : (o : Option (ℕ × Word × Bound)) (w : Word) (b : Bound) → IsFirst lower rename cs ns m o → FoundAt lower rename cs m w b → LeastAt lower rename cs m b → (n : ℕ) → get_or ns m 0 ≡ n → IsFirst lower rename cs ns (suc m) (first_or o (n, w, b))
  first_more None w b h found least n is = (m, omega arith, is, found, least, λ i v a l. h i v a l)
  first_more (Some x) w b h found least n is = (h.0, let l = h.1 in omega arith, h.2, h.3, h.4, h.5)

  pub searched_more : (n : ℕ) (old new : Findings) → get_or ns m 0 ≡ n → AreFound lower rename cs ns m old → SidesSearched lower here (side_at cs m).right n old new → AreFound lower rename cs ns (suc m) new
  searched_more n old new is was = go (side_at cs m).right refl
    where
      nothing : old ≡ new → ((w : Word) (b : Bound) → FoundAt lower rename cs m w b → ⊥) → (LargeAt lower rename cs m → ⊥) → InsideAt lower rename cs m → AreFound lower rename cs ns (suc m) new
      nothing e no_found no_large own = subst (AreFound lower rename cs ns (suc m)) e (record {
        first = first_kept old.refuted was.first no_found;
        large = λ t. let h = was.large t in (h.0, let l = h.1 in omega arith, h.2);
        small = λ t. up_to (λ i. LargeAt lower rename cs i → ⊥) (was.small t) no_large;
        inside = λ a t. up_to (InsideAt lower rename cs) (was.inside a t) own;
      })

      go : (r : Right) → (side_at cs m).right ≡ r → SidesSearched lower here r n old new → AreFound lower rename cs ns (suc m) new
      go (VarRight k) e h =
          nothing (sym h)
          (λ w b x. subst (λ r. FoundIn lower here r w b) e x)
          (λ x. subst (LargeIn lower here) e x)
          (subst (InsideIn lower here) (sym e) tt)
      go (PatternRight f) e h = answered h.0 h.1.0 h.1.1 h.2
        where
          found_is : (w : Word) (b : Bound) → FoundAt lower rename cs m w b → IsFound most_tree_nodes lower here f w b
          found_is w b x = subst (λ r. FoundIn lower here r w b) e x

          large_is : LargeAt lower rename cs m → IsLarge most_tree_nodes lower here f
          large_is x = subst (LargeIn lower here) e x

          answered : (a : Search) → IsAnswer most_tree_nodes lower here f a → IsLeastAnswer lower here f a → new ≡ noted a n old → AreFound lower rename cs ns (suc m) new
          answered InsideAnswer right least same =
              nothing (sym same)
              (λ w b x. found_not_inside lower here f w b right (found_is w b x))
              (λ x. large_not_inside lower here f right (large_is x))
              (subst (InsideIn lower here) (sym e) right)
          answered (FoundAnswer w b) right least same = subst (AreFound lower rename cs ns (suc m)) (sym same) (record {
            first = first_more old.refuted w b was.first (subst (λ r. FoundIn lower here r w b) (sym e) right) (λ v c x. least v c (found_is v c x).0) n is;
            large = λ t. let h = was.large t in (h.0, let l = h.1 in omega arith, h.2);
            small = λ t. up_to (λ i. LargeAt lower rename cs i → ⊥) (was.small t) (λ x. found_not_large lower here f w b (large_is x) right);
            inside = λ a t. absurd (some old.refuted a);
          })
            where
              some : (o : Option (ℕ × Word × Bound)) → first_or o (n, w, b) ≡ None → ⊥
              some None q = cc
              some (Some x) q = cc
          answered LargeAnswer right least same = subst (AreFound lower rename cs ns (suc m)) (sym same) (record {
            first = first_kept old.refuted was.first (λ w b x. found_not_large lower here f w b right (found_is w b x));
            large = λ t. (m, omega arith, subst (LargeIn lower here) (sym e) right);
            small = λ t. cc;
            inside = λ a t. cc;
          })

pub nothing_yet : (lower : ℕ → Pat) (rename : Pat → Pat) (cs : List Constraint) (ns : List ℕ) → AreFound lower rename cs ns 0 (record { refuted = None; large = false })
nothing_yet lower rename cs ns = record {
  first = λ j w b l. absurd (omega arith);
  large = λ t. cc;
  small = λ t j l. absurd (omega arith);
  inside = λ a t j l. absurd (omega arith);
}

-- ---- of those that are picked

pub picked_at : (zs : List Constraint) (ns : List ℕ) (m : ℕ) → m < length ns → side_at (picked zs ns) m ≡ side_at zs (get_or ns m 0)
picked_at zs ns m l = get_or-map (side_at zs) ns m 0 _ l

pub each_at : {A : Type 0} (P : A → Type 0) (f : ℕ → A) (ns : List ℕ) (m : ℕ) → m < length ns → AllByRecursion P (map f ns) → P (f (get_or ns m 0))
each_at P f [] m l h = absurd (omega arith)
each_at P f (n ∷ ns) zero l h = h.0
each_at P f (n ∷ ns) (suc m) l h = each_at P f ns m (omega arith) h.1

pub turn : (lower : ℕ → Pat) (rename : Pat → Pat) (zs : List Constraint) (ns : List ℕ) (m : ℕ) (old new : Findings) → m < length ns → AreFound lower rename (picked zs ns) ns m old → IsSearched lower rename (side_at zs (get_or ns m 0)) (get_or ns m 0) old new → AreFound lower rename (picked zs ns) ns (m + 1) new
turn lower rename zs ns m old new l was h =
    let one : suc m ≡ m + 1 = omega arith in
    subst (λ i. AreFound lower rename (picked zs ns) ns i new) one
    (searched_more lower rename (picked zs ns) ns m (get_or ns m 0) old new refl was
    (subst (λ c. IsSearched lower rename c (get_or ns m 0) old new) (sym (picked_at zs ns m l)) h))
