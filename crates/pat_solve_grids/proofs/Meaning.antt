-- The grids that are made, and what is found, are the interface's.
use Rattle.std.proofs.Common.{◌≡◌, ℕ, zero, suc, ◌<◌, ◌≤◌, ◌⊎◌, inl, inr, ⊎_elim, Bool, true, false, nat_eq, List, [], ◌∷◌, length, map, Option, Some, None, option_map, refl, sym, ap, ◌∙◌, subst, arith, ◌↔◌}
use Rattle.std.specs.Prelude.{get_or, slice_get}
use Rattle.std.specs.List.{AllByRecursion, list_any}
use Rattle.std.proofs.lemmas.Bool.{and_from, cases_Bool, cases_lt, eq-eqb, eqb-true}
use Rattle.std.proofs.lemmas.Option.{slice_get_past, slice_get-get_or}
use Rattle.pat_words_spec.specs.Words.{Word}
use Rattle.pat_words_spec.specs.Patterns.{Pat, Zero, Var, is_closed}
use Rattle.pat_words_spec.specs.Cuts.{CutOf}
use Rattle.pat_words_spec.specs.Languages.{MemberOf}
use Rattle.pat_semantics_spec.specs.Programs as core
use Rattle.pat_semantics_spec.specs.Programs.{is_among}
use Rattle.pat_bags.specs.declared.Bag.{Bag}
use Rattle.pat_bags.specs.Views.{word_of}
use Rattle.pat_inclusion_spec.specs.Counts.{same_below, counted}
use Rattle.pat_inclusion_spec.specs.Points.{grid_fits, points_fit}
use Rattle.pat_inclusion_spec.specs.bounds.Trees.{Bound, LowerTree, Shows, bounds_of, derivable, tree_size}
use Rattle.pat_inclusion_spec.specs.bounds.Assignments as bounds
use Rattle.pat_inclusion_spec.specs.bounds.Assignments.{lower_of}
use Rattle.pat_inclusion_spec.specs.bounds.CutSets.{IsPoint}
use Rattle.pat_inclusion_spec.specs.bounds.Searches.{Refutes, IsInside, IsFound, IsLarge}
use Rattle.pat_inclusion_spec.specs.bounds.LeastGrids.{AreLeastPoints}
use Rattle.pat_infer_spec.specs.Constraints.{Constraint}
use Rattle.pat_infer_spec.specs.Shapes.{PatternFits, ConstraintFits, is_simple}
use Rattle.pat_infer_spec.specs.Walk.{inferred, all_vars}
use Rattle.pat_grid_points.specs.declared.grid.Grid.{Grid}
use Rattle.pat_grid_points.specs.Views.{HasPoint, points_of}
use Rattle.pat_grid.specs.tables.Views.{AreGrids}
use Rattle.pat_witnesses.specs.declared.search.Refutation.{Refutation}
use Rattle.pat_witnesses.specs.Views.{bound_view}
use Rattle.pat_solve_spec.specs.LowerBounds.{sides_of, lowers_of, lowers_in}
use Rattle.pat_solve_spec.specs.Answers.{tags_of, IsConstraint}
use Rattle.pat_solve_bounds.specs.lower_bounds.Rows.{numbers}
use Rattle.pat_solve_bounds.proofs.Numbering.{numbers_are, numbers_have, numbers_ascend}
use Rattle.pat_solve_bounds.specs.renumbered.Renaming.{place_in, renamed}
use Rattle.pat_solve_bounds.specs.renumbered.Systems.{side_at, picked}
use Rattle.pat_solve_bounds.proofs.PlaceLaws.{at_place, place_missing, out_of}
use Rattle.pat_solve_bounds.proofs.Systematic.{SideWithin, tree_from, tree_to, no_lower}
use Rattle.pat_solve_grids.specs.Findings.{FoundAt, LargeAt, InsideAt, IsFirst, AreFound, FoundIn, LargeIn, InsideIn}
use Rattle.pat_solve_grids.specs.Views.{refuted_view}
use Rattle.pat_solve_grids.specs.Points.{AreListed, points_by, counts_in}
use Rattle.pat_solve_grids.specs.Grids.{IsClosedOf}
use Rattle.pat_solve_grids.proofs.Turning.{none_of_zero, picked_at}
use Rattle.pat_solve_grids.proofs.Own.{side_is}
use Rattle.pat_solve_grids.proofs.PointLists.{listed_count, listing_at, any_point}
use Rattle.pat_solve_grids.proofs.Trees.{SameTrees, same_trees, vars, sides, system, found_to, found_from, large_to, large_from, inside_to, found_moves, found_back, large_moves, large_back, inside_moves}
use Rattle.pat_limits.specs.Limits.{most_tree_nodes}

fits_at : (p : core.Program) (cs : List Constraint) (n : ℕ) (c : Constraint) → AllByRecursion (ConstraintFits p (all_vars p)) cs → slice_get cs n ≡ Some c → ConstraintFits p (all_vars p) c
fits_at p [] n c h at = cc
fits_at p (d ∷ ds) zero c h at = let same : d ≡ c = cc in subst (ConstraintFits p (all_vars p)) same h.0
fits_at p (d ∷ ds) (suc n) c h at = fits_at p ds n c h.1 at

module _ (p : core.Program) (i : ℕ) (fits : AllByRecursion (ConstraintFits p (all_vars p)) (inferred p).constraints) (within : AllByRecursion (SideWithin (tags_of p i) (vars p i fits)) (sides p i fits)) where
  abbrev cs : List Constraint
  cs = (inferred p).constraints

  abbrev vs : List ℕ
  vs = vars p i fits

  abbrev sys : List Pat
  sys = system p i fits within

  abbrev ns : List ℕ
  ns = numbers (λ (c : Constraint). nat_eq c.interface i) 0 cs

  abbrev picks : List bounds.Constraint
  picks = picked (map sides_of cs) ns

  abbrev ren : Pat → Pat
  ren = renamed (place_in vs)

  -- ---- places of constraints

  -- the j-th constraint of the interface is constraint n
  record IsAt (j n : ℕ) (c : Constraint) : Type 0 where
    inside : j < length ns
    number : get_or ns j 0 ≡ n
    at : IsConstraint p n c
    own_interface : c.interface ≡ i

  side : (j n : ℕ) (c : Constraint) → IsAt j n c → side_at picks j ≡ sides_of c
  side j n c h =
      picked_at (map sides_of cs) ns j h.inside ∙ ap (side_at (map sides_of cs)) h.number ∙ side_is cs n c h.at

  by_number : (n : ℕ) (c : Constraint) → IsClosedOf p i n c → (j : ℕ) × IsAt j n c
  by_number n c h =
      let has = numbers_have (λ (d : Constraint). nat_eq d.interface i) 0 cs n c h.at (eq-eqb c.interface i h.own) in (
        has.place,
        record {
          inside = has.within;
          number = let e = has.is in omega (arith, e);
          at = h.at;
          own_interface = h.own;
        },
      )

  by_place : (j : ℕ) → j < length ns → (n : ℕ) × (c : Constraint) × IsAt j n c
  by_place j l =
      let is = numbers_are (λ (d : Constraint). nat_eq d.interface i) 0 cs j l in (
        is.place,
        is.item,
        record {
          inside = l;
          number = let e = is.number in omega (arith, e);
          at = is.at;
          own_interface = eqb-true is.item.interface i is.passes;
        },
      )

  ordered : (a b m n : ℕ) (c d : Constraint) → IsAt a m c → IsAt b n d → m < n → a < b
  ordered a b m n c d x y l =
      ⊎_elim (λ r. r)
      (λ r. absurd (above a b x.number y.number x.inside r l))
      (cases_lt a b)
    where
      split : (x y : ℕ) → x ≤ y → (x ≡ y) ⊎ (x < y)
      split x y r = ⊎_elim (λ l. inr l) (λ l. inl (omega arith)) (cases_lt x y)

      above : (a b : ℕ) → get_or ns a 0 ≡ m → get_or ns b 0 ≡ n → a < length ns → b ≤ a → m < n → ⊥
      above a b e f inside r l =
          ⊎_elim
          (λ (same : b ≡ a). let g = ap (λ j. get_or ns j 0) same in omega (arith, e, f, g, l))
          (λ (less : b < a). let g = numbers_ascend (λ (d : Constraint). nat_eq d.interface i) 0 cs b a less inside in omega (arith, e, f, g, l))
          (split b a r)

  -- ---- what is found

  trees : (j n : ℕ) (c : Constraint) → IsAt j n c → SameTrees (bounds_of sys) (lowers_of p) (ren c.left) c.left
  trees j n c h =
      same_trees p i fits within c.left (subst (λ k. PatternFits p (all_vars p) k c.left) h.own_interface (fits_at p cs n c fits h.at).left)

  simple : (n : ℕ) (c : Constraint) → IsConstraint p n c → is_simple c.right ≡ true
  simple n c at = (fits_at p cs n c fits at).simple

  found_program : (j n : ℕ) (c : Constraint) (w : Word) (b : Bound) → IsAt j n c → FoundAt (bounds_of sys) ren picks j w b → IsClosedOf p i n c × IsFound most_tree_nodes (lowers_of p) c.left c.right w b
  found_program j n c w b h f =
      let r = found_to (bounds_of sys) (ren c.left) c.right w b (simple n c h.at) (subst (λ (d : bounds.Constraint). FoundIn (bounds_of sys) (ren d.left) d.right w b) (side j n c h) f) in (
        record { at = h.at; own = h.own_interface; closed = r.0 },
        found_moves (bounds_of sys) (lowers_of p) (ren c.left) c.left (trees j n c h) c.right w b r.1,
      )

  program_found : (j n : ℕ) (c : Constraint) (w : Word) (b : Bound) → IsAt j n c → is_closed c.right ≡ true → IsFound most_tree_nodes (lowers_of p) c.left c.right w b → FoundAt (bounds_of sys) ren picks j w b
  program_found j n c w b h shut f =
      subst (λ (d : bounds.Constraint). FoundIn (bounds_of sys) (ren d.left) d.right w b) (sym (side j n c h))
      (found_from (bounds_of sys) (ren c.left) c.right w b shut (found_back (bounds_of sys) (lowers_of p) (ren c.left) c.left (trees j n c h) c.right w b f))

  large_program : (j n : ℕ) (c : Constraint) → IsAt j n c → LargeAt (bounds_of sys) ren picks j → IsClosedOf p i n c × IsLarge most_tree_nodes (lowers_of p) c.left c.right
  large_program j n c h f =
      let r = large_to (bounds_of sys) (ren c.left) c.right (simple n c h.at) (subst (λ (d : bounds.Constraint). LargeIn (bounds_of sys) (ren d.left) d.right) (side j n c h) f) in (
        record { at = h.at; own = h.own_interface; closed = r.0 },
        large_moves (bounds_of sys) (lowers_of p) (ren c.left) c.left (trees j n c h) c.right r.1,
      )

  program_large : (j n : ℕ) (c : Constraint) → IsAt j n c → is_closed c.right ≡ true → IsLarge most_tree_nodes (lowers_of p) c.left c.right → LargeAt (bounds_of sys) ren picks j
  program_large j n c h shut f =
      subst (λ (d : bounds.Constraint). LargeIn (bounds_of sys) (ren d.left) d.right) (sym (side j n c h))
      (large_from (bounds_of sys) (ren c.left) c.right shut (large_back (bounds_of sys) (lowers_of p) (ren c.left) c.left (trees j n c h) c.right f))

  inside_program : (j n : ℕ) (c : Constraint) → IsAt j n c → is_closed c.right ≡ true → InsideAt (bounds_of sys) ren picks j → IsInside (lowers_of p) c.left c.right
  inside_program j n c h shut f =
      inside_moves (bounds_of sys) (lowers_of p) (ren c.left) c.left (trees j n c h) c.right
      (inside_to (bounds_of sys) (ren c.left) c.right shut (subst (λ (d : bounds.Constraint). InsideIn (bounds_of sys) (ren d.left) d.right) (side j n c h) f))

  module _ (o : Option (ℕ × Refutation)) (large : Bool) (all : AreFound (bounds_of sys) ren picks ns (length ns) (record { refuted = option_map refuted_view o; large = large })) where
    first_of : (n : ℕ) (r : Refutation) → o ≡ Some (n, r) → IsFirst (bounds_of sys) ren picks ns (length ns) (Some (n, word_of r.word, bound_view r.tree))
    first_of n r e = subst (λ x. IsFirst (bounds_of sys) ren picks ns (length ns) (option_map refuted_view x)) e all.first

    pub found_is : (n : ℕ) (r : Refutation) → o ≡ Some (n, r) → (c : Constraint) × IsClosedOf p i n c × IsFound most_tree_nodes (lowers_of p) c.left c.right (word_of r.word) (bound_view r.tree)
    found_is n r e =
        let f = first_of n r e in
        let h = by_place f.0 f.1 in
        let same : h.0 ≡ n = sym (h.2.number) ∙ f.2 in
        let x = subst (λ k. IsAt f.0 k h.1) same h.2 in
        let y = found_program f.0 n h.1 (word_of r.word) (bound_view r.tree) x f.3 in
        (h.1, y.0, y.1)

    pub least_is : (n : ℕ) (r : Refutation) (c : Constraint) (w : Word) (b : Bound) → o ≡ Some (n, r) → IsClosedOf p i n c → Refutes (lowers_of p) c.left c.right w b → tree_size (bound_view r.tree) ≤ tree_size b
    least_is n r c w b e closed refutes =
        let f = first_of n r e in
        let x : IsAt f.0 n c = record { inside = f.1; number = f.2; at = closed.at; own_interface = closed.own } in
        let size = (found_program f.0 n c (word_of r.word) (bound_view r.tree) x f.3).1.1 in
        ⊎_elim
        (λ more. omega (arith, more, size))
        (λ small. f.4 w b (program_found f.0 n c w b x closed.closed (refutes, small)))
        (cases_lt most_tree_nodes (tree_size b))

    pub first_is : (n m : ℕ) (r : Refutation) (c : Constraint) (w : Word) (b : Bound) → o ≡ Some (n, r) → m < n → IsClosedOf p i m c → IsFound most_tree_nodes (lowers_of p) c.left c.right w b → ⊥
    first_is n m r c w b e l closed found =
        let f = first_of n r e in
        let h = by_place f.0 f.1 in
        let same : h.0 ≡ n = sym (h.2.number) ∙ f.2 in
        let x = subst (λ k. IsAt f.0 k h.1) same h.2 in
        let y = by_number m c closed in
        f.5 y.0 w b (ordered y.0 f.0 m n c h.1 y.1 x l) (program_found y.0 m c w b y.1 closed.closed found)

    pub none_is : (m : ℕ) (c : Constraint) (w : Word) (b : Bound) → o ≡ None → IsClosedOf p i m c → IsFound most_tree_nodes (lowers_of p) c.left c.right w b → ⊥
    none_is m c w b e closed found =
        let none : IsFirst (bounds_of sys) ren picks ns (length ns) None = subst (λ x. IsFirst (bounds_of sys) ren picks ns (length ns) (option_map refuted_view x)) e all.first in
        let y = by_number m c closed in
        none y.0 w b y.1.inside (program_found y.0 m c w b y.1 closed.closed found)

    pub large_is : large ≡ true → (n : ℕ) × (c : Constraint) × IsClosedOf p i n c × IsLarge most_tree_nodes (lowers_of p) c.left c.right
    large_is t =
        let f = all.large t in
        let h = by_place f.0 f.1 in
        let y = large_program f.0 h.0 h.1 h.2 f.2 in
        (h.0, h.1, y.0, y.1)

    pub small_is : (n : ℕ) (c : Constraint) → large ≡ false → IsClosedOf p i n c → IsLarge most_tree_nodes (lowers_of p) c.left c.right → ⊥
    small_is n c t closed found =
        let y = by_number n c closed in
        all.small t y.0 y.1.inside (program_large y.0 n c y.1 closed.closed found)

    pub inside_is : (n : ℕ) (c : Constraint) → o ≡ None → large ≡ false → IsClosedOf p i n c → IsInside (lowers_of p) c.left c.right
    inside_is n c e t closed =
        let y = by_number n c closed in
        inside_program y.0 n c y.1 closed.closed (all.inside (ap (option_map refuted_view) e) t y.0 y.1.inside)

  -- ---- points

  module _ (law : (g : Grid) (u : Word) → MemberOf (points_of g) u ↔ HasPoint g u) (k : ℕ) (fit : grid_fits k (tags_of p i) ≡ true) (grids : List Grid) (points : List (List Bag)) (count : length grids ≡ length vs) (like : AreGrids k (tags_of p i) grids) (least : (j : ℕ) (g : Grid) (u : Word) → slice_get grids j ≡ Some g → IsPoint k (tags_of p i) u → HasPoint g u ↔ CutOf k (derivable (bounds_of sys) j) u) (listed : AreListed grids points) where
    derivable_to : (j : ℕ) (w : Word) → derivable (bounds_of sys) (place_in vs j) w → derivable (lowers_in p i) j w
    derivable_to j w d = (d.0, tree_from (tags_of p i) vs (sides p i fits) within d.0 (Var j) w d.1)

    derivable_from : (j : ℕ) (w : Word) → derivable (lowers_in p i) j w → derivable (bounds_of sys) (place_in vs j) w
    derivable_from j w d = (d.0, tree_to (tags_of p i) vs (sides p i fits) within d.0 (Var j) w d.1)

    abbrev IsLeastAt : ℕ → Option (List Bag) → Type 0
    IsLeastAt j o =
        (points_fit k (tags_of p i) (counts_in o) ≡ true)
        × ((u : Word) → IsPoint k (tags_of p i) u → (list_any (λ q. same_below (tags_of p i) u (counted q)) (counts_in o) ≡ true) ↔ CutOf k (derivable (lowers_in p i) j) u)

    there : (j : ℕ) (bs : List Bag) → slice_get points (place_in vs j) ≡ Some bs → IsLeastAt j (Some bs)
    there j bs at =
        let h = listing_at grids points (place_in vs j) bs listed at in
        let same = like (place_in vs j) h.0 h.1 in
        let list = h.2 in (
          subst (λ b. points_fit b (tags_of p i) (map (λ (x : Bag). x.counts) bs) ≡ true) same.0
              (subst (λ n. points_fit h.0.k n (map (λ (x : Bag). x.counts) bs) ≡ true) same.1 list.ascend),
          λ u point.
              let own : IsPoint h.0.k h.0.tags u = subst (λ b. IsPoint b h.0.tags u) (sym same.0) (subst (λ n. IsPoint k n u) (sym same.1) point) in
              let any = subst (λ n. (list_any (λ q. same_below n u (counted q)) (map (λ (x : Bag). x.counts) bs) ≡ true) ↔ HasPoint h.0 u) same.1 (any_point law h.0 bs u list own) in
              let cut = least (place_in vs j) h.0 u h.1 point in (
                λ t. let c = cut.0 (any.0 t) in (c.0, derivable_to j c.0 c.1, c.2),
                λ c. any.1 (cut.1 (c.0, derivable_from j c.0 c.1, c.2)),
              ),
        )

    missing : (j : ℕ) → is_among j vs ≡ false → IsLeastAt j None
    missing j out = (
      and_from (grid_fits k (tags_of p i)) true fit refl,
      λ u point. (
        λ t. let clash : false ≡ true = t in absurd (cc),
        λ c. absurd (shown j c.0 c.1.0 c.1.1 (no_lower (tags_of p i) vs (sides p i fits) within j out)),
      ),
    )
      where
        shown : (j : ℕ) (w : Word) (b : Bound) → Shows (lowers_in p i) b (Var j) w → lowers_in p i j ≡ Zero → ⊥
        shown j w (LowerTree b) h none = none_of_zero (lowers_in p i) w b (subst (λ e. Shows (lowers_in p i) b e w) none h)
        shown j w b h none = absurd h

    pub least_points : AreLeastPoints k (tags_of p i) (lowers_in p i) (points_by vs points)
    least_points j =
        ⊎_elim
        (λ t.
        let at = at_place vs j t in
        let inside : place_in vs j < length points = let many = listed_count grids points listed in let l = at.1 in omega (arith, many, count, l) in
        let get = slice_get-get_or points (place_in vs j) [] inside in
        subst (IsLeastAt j) (sym get) (there j (get_or points (place_in vs j) []) get))
        (λ f.
        let past : length vs ≡ place_in vs j = place_missing vs j (out_of j vs f) in
        let many = listed_count grids points listed in
        subst (IsLeastAt j) (sym (slice_get_past points (place_in vs j) (omega (arith, many, count, past)))) (missing j f))
        (cases_Bool (is_among j vs))
