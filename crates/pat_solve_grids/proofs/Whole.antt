-- What is made of a problem by its index is what the definitions say of the program.
use Rattle.std.proofs.Common.{◌≡◌, ℕ, suc, ◌<◌, ◌≤◌, Bool, true, nat_eq, List, [], ◌∷◌, zero, false, ◌+◌, ◌-◌, ◌^◌, min, length, map, option_map, Option, Some, sym, ap, ap₂, ◌∙◌, subst, arith, ◌↔◌}
use Rattle.std.specs.Prelude.{get_or, slice_get, replicate}
use Rattle.std.specs.List.{AllByRecursion, list_all}
use Rattle.std.proofs.lemmas.Bool.{and_parts}
use Rattle.pat_words_spec.specs.Words.{Word}
use Rattle.pat_words_spec.specs.Flats.{is_flat}
use Rattle.pat_words_spec.specs.Tags.{tags_below}
use Rattle.pat_words_spec.specs.Patterns.{Pat, Zero}
use Rattle.pat_words_spec.specs.Cuts.{CutOf}
use Rattle.pat_words_spec.specs.Languages.{MemberOf}
use Rattle.pat_bags.specs.declared.Bag.{Bag}
use Rattle.pat_inclusion_spec.specs.Points.{grid_fits}
use Rattle.pat_inclusion_spec.specs.bounds.Trees.{bounds_of, derivable}
use Rattle.pat_inclusion_spec.specs.bounds.Assignments as bounds
use Rattle.pat_inclusion_spec.specs.bounds.CutSets.{IsPoint}
use Rattle.pat_infer_spec.specs.Constraints.{Constraint}
use Rattle.pat_semantics_spec.specs.Programs as core
use Rattle.pat_semantics_spec.specs.WellFormed.{WellFormed, InterfaceFits}
use Rattle.pat_derivation_spec.specs.Derivations.{tag_count}
use Rattle.pat_infer_spec.specs.Shapes.{ConstraintFits, is_simple}
use Rattle.pat_infer_spec.specs.Walk.{inferred, all_vars}
use Rattle.pat_core.specs.declared.program.Program.{Program}
use Rattle.pat_core.specs.Views.{program_view}
use Rattle.pat_grid_points.specs.declared.grid.Grid.{Grid}
use Rattle.pat_grid_points.specs.Views.{HasPoint, points_of}
use Rattle.pat_grid.specs.tables.Views.{AreGrids}
use Rattle.pat_witnesses.specs.declared.search.Refutation.{Refutation}
use Rattle.pat_infer_problems.specs.declared.problem.Problem.{Problem}
use Rattle.pat_infer_problems.specs.Problems.{IsProblemOf}
use Rattle.pat_inclusion_spec.specs.bounds.LeastGrids.{AreLeastPoints}
use Rattle.pat_solve_spec.specs.LowerBounds.{sides_of, constraints_in, lowers_in}
use Rattle.pat_solve_spec.specs.Assignments.{vars_in, closed_rights, bound_of}
use Rattle.pat_solve_spec.specs.Answers.{tags_of, constraints_of, grid_bound, IsInBounds}
use Rattle.pat_solve_bounded.specs.replacing.Ascending.{IsAscending}
use Rattle.pat_solve_bounds.specs.declared.lower_bounds.indexing.Index.{Index}
use Rattle.pat_solve_bounds.specs.lower_bounds.Indexes.{IsIndexOf}
use Rattle.pat_solve_bounds.specs.lower_bounds.Rows.{numbers}
use Rattle.pat_solve_bounds.specs.lower_bounds.Sides.{sides_list}
use Rattle.pat_solve_bounds.proofs.Ties.{sides_same, constraint_numbers, var_numbers}
use Rattle.pat_solve_bounds.specs.renumbered.Renaming.{place_in, renamed}
use Rattle.pat_solve_bounds.specs.renumbered.Systems.{picked, renamed_side, all_added}
use Rattle.pat_solve_bounds.proofs.Systematic.{SideWithin, system_tags}
use Rattle.pat_solve_grids.specs.Rights.{all_flat, greatest}
use Rattle.pat_solve_grids.specs.Findings.{IsSearchable, AreFound}
use Rattle.pat_solve_grids.specs.Views.{refuted_view}
use Rattle.pat_solve_grids.specs.Points.{AreListed, points_by}
use Rattle.pat_solve_grids.specs.Grids.{AreGridsOf}
use Rattle.pat_solve_grids.proofs.Own.{variables_ascend, picked_own, own_fit, all_within, all_simple, all_searchable}
use Rattle.pat_solve_grids.proofs.Degrees.{bound_small, in_bounds, not_flat, not_fitting, too_high}
use Rattle.pat_solve_grids.proofs.PointLists.{listed_count}
use Rattle.pat_solve_grids.proofs.Trees.{vars, sides, system, system_length}
use Rattle.pat_solve_grids.proofs.Meaning.{found_is, least_is, first_is, none_is, large_is, small_is, inside_is, least_points}

some_tags : (p : core.Program) (js : List core.Interface) (i : ℕ) → AllByRecursion (InterfaceFits p) js → i < length js → 1 ≤ tag_count (slice_get js i)
some_tags p [] i h l = absurd (omega arith)
some_tags p (j ∷ js) zero h l = h.0.some
some_tags p (j ∷ js) (suc i) h l = some_tags p js i h.1 (omega arith)

-- ---- numbers and sides

module _ (p : Program) (q : Problem) (x : Index) (i : ℕ) (is : IsProblemOf p q) (index : IsIndexOf q x) (inside : i < length x.constraints) (zs : List bounds.Constraint) (ns vs : List ℕ) (ez : zs ≡ sides_list q.constraints) (en : ns ≡ get_or x.constraints i []) (ev : vs ≡ get_or x.variables i []) where
  abbrev cs : List Constraint
  cs = (inferred (program_view p)).constraints

  abbrev own_numbers : List ℕ
  own_numbers = numbers (λ (c : Constraint). nat_eq c.interface i) 0 cs

  abbrev own_vars : List ℕ
  own_vars = vars_in i 1 (all_vars (program_view p))

  pub numbers_are : ns ≡ own_numbers
  numbers_are = en ∙ index.constraints i inside ∙ constraint_numbers p q is i

  pub vars_are : vs ≡ own_vars
  vars_are = ev ∙ index.variables i inside ∙ var_numbers p q is i

  pub ascends : IsAscending vs
  ascends = subst IsAscending (sym (ev ∙ index.variables i inside)) (variables_ascend i q)

  picks_own : picked zs ns ≡ picked (map sides_of cs) own_numbers
  picks_own = ap₂ picked (ez ∙ sides_same p q is) numbers_are

  pub picks_are : picked zs ns ≡ map sides_of (constraints_in i cs)
  picks_are = picks_own ∙ picked_own i cs

  module _ (fits : AllByRecursion (ConstraintFits (program_view p) (all_vars (program_view p))) cs) where
    simple : AllByRecursion (λ (c : Constraint). is_simple c.right ≡ true) (constraints_in i cs)
    simple = all_simple (program_view p) i (constraints_in i cs) (own_fit (program_view p) i cs fits)

    -- a right side isn't flat
    pub out_of_bounds : all_flat (picked zs ns) ≡ false → IsInBounds (program_view p) i → ⊥
    out_of_bounds f h =
        not_flat (tags_of (program_view p) i) (constraints_in i cs) simple (sym (ap all_flat picks_are) ∙ f) h

    -- the bound is one more than the degree, where that is small
    pub bound_is : (degree : ℕ) → degree ≡ min (greatest (picked zs ns)) (2 ^ 32 - 1) → degree < 2 ^ 32 - 1 → degree + 1 ≡ grid_bound (program_view p) i
    bound_is degree e l =
        bound_small (tags_of (program_view p) i) (constraints_in i cs) simple degree (e ∙ ap (λ ps. min (greatest ps) (2 ^ 32 - 1)) picks_are) l

    pub bounded_by : (degree tags : ℕ) → tags ≡ tags_of (program_view p) i → degree ≡ min (greatest (picked zs ns)) (2 ^ 32 - 1) → degree < 2 ^ 32 - 1 → all_flat (picked zs ns) ≡ true → grid_fits (degree + 1) tags ≡ true → IsInBounds (program_view p) i
    bounded_by degree tags et e l flat fits_grid =
        in_bounds (tags_of (program_view p) i) (constraints_in i cs) simple (degree + 1) (bound_is degree e l) (sym (ap all_flat picks_are) ∙ flat) (subst (λ n. grid_fits (degree + 1) n ≡ true) et fits_grid)

    pub not_bounded : (degree tags : ℕ) → tags ≡ tags_of (program_view p) i → degree ≡ min (greatest (picked zs ns)) (2 ^ 32 - 1) → degree < 2 ^ 32 - 1 → grid_fits (degree + 1) tags ≡ false → IsInBounds (program_view p) i → ⊥
    not_bounded degree tags et e l fits_not h =
        not_fitting (tags_of (program_view p) i) (constraints_in i cs) simple (degree + 1) (bound_is degree e l) (subst (λ n. grid_fits (degree + 1) n ≡ false) et fits_not) h

    pub too_great : (degree : ℕ) → WellFormed (program_view p) → i < length (program_view p).interfaces → degree ≡ min (greatest (picked zs ns)) (2 ^ 32 - 1) → 2 ^ 32 - 1 ≤ degree → IsInBounds (program_view p) i → ⊥
    too_great degree well there e l h =
        too_high (tags_of (program_view p) i) (constraints_in i cs) simple degree (some_tags (program_view p) (program_view p).interfaces i well.interfaces there) (e ∙ ap (λ ps. min (greatest ps) (2 ^ 32 - 1)) picks_are) l h

    pub within : AllByRecursion (SideWithin (tags_of (program_view p) i) (vars (program_view p) i fits)) (sides (program_view p) i fits)
    within =
        all_within (program_view p) i (constraints_in i cs) (own_fit (program_view p) i cs fits)

    abbrev whole : List Pat
    whole = system (program_view p) i fits within

    module _ (made : List Pat) (made_is : made ≡ all_added (map (renamed_side (place_in vs)) (picked zs ns)) vs (replicate (length vs) Zero)) where
      pub made_whole : made ≡ whole
      made_whole =
          made_is ∙ ap₂ (λ ks ps. all_added (map (renamed_side (place_in ks)) ps) ks (replicate (length ks) Zero)) vars_are picks_are

      module _ (k tags : ℕ) (ek : k ≡ grid_bound (program_view p) i) (et : tags ≡ tags_of (program_view p) i) (bounded : IsInBounds (program_view p) i) where
        pub fit : grid_fits k tags ≡ true
        fit =
            let t = (and_parts (list_all is_flat (closed_rights (constraints_of (program_view p) i))) (grid_fits (bound_of (constraints_of (program_view p) i)) (tags_of (program_view p) i)) bounded).1 in
            subst (λ n. grid_fits k n ≡ true) (sym et) (subst (λ b. grid_fits b (tags_of (program_view p) i) ≡ true) (sym ek) t)

        pub tags_fit : AllByRecursion (λ e. tags_below tags e ≡ true) made
        tags_fit =
            subst (λ n. AllByRecursion (λ e. tags_below n e ≡ true) made) (sym et)
            (subst (AllByRecursion (λ e. tags_below (tags_of (program_view p) i) e ≡ true)) (sym made_whole)
            (system_tags (tags_of (program_view p) i) (vars (program_view p) i fits) (sides (program_view p) i fits) within))

        pub searchable : AllByRecursion (IsSearchable k tags) (picked zs ns)
        searchable =
            let flat = (and_parts (list_all is_flat (closed_rights (constraints_of (program_view p) i))) (grid_fits (bound_of (constraints_of (program_view p) i)) (tags_of (program_view p) i)) bounded).0 in
            subst (λ n. AllByRecursion (IsSearchable k n) (picked zs ns)) (sym et)
            (subst (AllByRecursion (IsSearchable k (tags_of (program_view p) i))) (sym picks_are)
            (all_searchable (program_view p) i k (constraints_in i cs) (own_fit (program_view p) i cs fits) flat (omega (arith, ek))))

        module _ (law : (g : Grid) (u : Word) → MemberOf (points_of g) u ↔ HasPoint g u) (grids : List Grid) (points : List (List Bag)) (count : length grids ≡ length made) (like : AreGrids k tags grids) (least : (j : ℕ) (g : Grid) (u : Word) → slice_get grids j ≡ Some g → IsPoint k tags u → HasPoint g u ↔ CutOf k (derivable (bounds_of made) j) u) (listed : AreListed grids points) (o : Option (ℕ × Refutation)) (large : Bool) (found : AreFound (bounds_of made) (renamed (place_in vs)) (picked zs ns) ns (length ns) (record { refuted = option_map refuted_view o; large = large })) where
          found_whole : AreFound (bounds_of whole) (renamed (place_in own_vars)) (picked (map sides_of cs) own_numbers) own_numbers (length own_numbers) (record { refuted = option_map refuted_view o; large = large })
          found_whole =
              subst (λ es. AreFound (bounds_of es) (renamed (place_in own_vars)) (picked (map sides_of cs) own_numbers) own_numbers (length own_numbers) (record { refuted = option_map refuted_view o; large = large })) made_whole
              (subst (λ ks. AreFound (bounds_of made) (renamed (place_in ks)) (picked (map sides_of cs) own_numbers) own_numbers (length own_numbers) (record { refuted = option_map refuted_view o; large = large })) vars_are
              (subst (λ ps. AreFound (bounds_of made) (renamed (place_in vs)) ps own_numbers (length own_numbers) (record { refuted = option_map refuted_view o; large = large })) picks_own
              (subst (λ ms. AreFound (bounds_of made) (renamed (place_in vs)) (picked zs ns) ms (length ms) (record { refuted = option_map refuted_view o; large = large })) numbers_are found)))

          vars_count : length grids ≡ length own_vars
          vars_count = count ∙ ap length made_whole ∙ system_length (program_view p) i fits within

          pub grids_of : AreGridsOf (program_view p) i (record { points = points; refuted = o; is_oversized = large })
          grids_of = record {
            count = listed_count grids points listed ∙ vars_count;
            least =
                subst (λ b. AreLeastPoints b (tags_of (program_view p) i) (lowers_in (program_view p) i) (points_by own_vars points)) ek
                (least_points (program_view p) i fits within law k
                (subst (λ n. grid_fits k n ≡ true) et fit)
                grids points vars_count
                (subst (λ n. AreGrids k n grids) et like)
                (subst (λ n. (j : ℕ) (g : Grid) (u : Word) → slice_get grids j ≡ Some g → IsPoint k n u → HasPoint g u ↔ CutOf k (derivable (bounds_of whole) j) u) et
                (subst (λ es. (j : ℕ) (g : Grid) (u : Word) → slice_get grids j ≡ Some g → IsPoint k tags u → HasPoint g u ↔ CutOf k (derivable (bounds_of es) j) u) made_whole least))
                listed);
            found = found_is (program_view p) i fits within o large found_whole;
            least_tree = least_is (program_view p) i fits within o large found_whole;
            first = first_is (program_view p) i fits within o large found_whole;
            none = none_is (program_view p) i fits within o large found_whole;
            large = large_is (program_view p) i fits within o large found_whole;
            small = small_is (program_view p) i fits within o large found_whole;
            inside = inside_is (program_view p) i fits within o large found_whole;
          }
