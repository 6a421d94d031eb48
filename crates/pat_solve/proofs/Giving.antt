-- What is found of an interface, by its values.
use Rattle.std.proofs.Common.{◌≡◌, ℕ, ◌<◌, Bool, true, false, List, [], length, map, Option, Some, None, Result, Ok, Err, refl, sym, ap, ◌∙◌, subst, inl, inr, ⊎_elim}
use Rattle.std.specs.Prelude.{IfOk, IfSome, IfNone}
use Rattle.std.proofs.lemmas.Option.{same_Some}
use Rattle.std.proofs.lemmas.List.{length-map}
use Rattle.pat_words_spec.specs.Words.{Word}
use Rattle.pat_words_spec.specs.Patterns.{Pat}
use Rattle.pat_semantics_spec.specs.Programs.{Program}
use Rattle.pat_bags.specs.declared.Bag.{Bag}
use Rattle.pat_bags.specs.Views.{word_of}
use Rattle.pat_inclusion_spec.specs.bounds.Trees.{Bound}
use Rattle.pat_inclusion_spec.specs.Values.{PatternForm, GridForm}
use Rattle.pat_witnesses.specs.declared.search.Refutation.{Refutation}
use Rattle.pat_witnesses.specs.Views.{bound_view}
use Rattle.pat_derivations.specs.declared.data.VarValue.{VarValue}
use Rattle.pat_derivations.specs.Views.{value_view, counts_of}
use Rattle.pat_infer_spec.specs.Constraints.{Constraint}
use Rattle.pat_infer_spec.specs.Walk.{all_vars}
use Rattle.pat_solve_spec.specs.Assignments.{vars_in, value_in}
use Rattle.pat_solve_spec.specs.Answers.{IsConstraint, IsSmall, IsInBounds, grid_bound, values_of, HasPatterns, HasGrids, HasNeither, IsSearched, IsRefuted, IsUndecided, IsOversized, IsTooLarge, value_by}
use Rattle.pat_solve_bounded.specs.declared.measured.Measured.{Measured}
use Rattle.pat_solve_bounded.specs.Views.{measured_list, measured_view}
use Rattle.pat_solve_bounded.specs.replacing.Ascending.{paired}
use Rattle.pat_solve_closed_forms.specs.Values.{AreValuesOf, IsFirstUncovered}
use Rattle.pat_solve_grids.specs.Grids.{AreGridsOf, IsClosedOf}
use Rattle.pat_solve_grids.specs.Points.{points_by}
use Rattle.pat_solve_grids.specs.declared.entry.InterfaceGrids.{InterfaceGrids}
use Rattle.pat_solve.specs.Smallest.{IsLeastRefutation}
use Rattle.pat_solve.specs.declared.interface.forms.InterfaceForm.{InterfaceForm}
use Rattle.pat_solve.specs.declared.interface.forms.InterfaceForm.TheVariants.{Solved, TooLarge, Unsolved}
use Rattle.pat_solve.specs.interface.Found.{IsShut, AreFormOf, IsFirstUnshown, FormGives, IsUncovered, ArePatterns, IsWithout, AreGrids, IsByGridsOf, IsByGrids}
use Rattle.pat_solve.proofs.Valued.{patterns_are, grids_are}

module _ (p : Program) (i : ℕ) where
  -- two constraints with one number are of one interface
  same_interface : (n : ℕ) (c d : Constraint) → IsConstraint p n c → IsConstraint p n d → c.interface ≡ i → d.interface ≡ i
  same_interface n c d a b own = ap (λ (e : Constraint). e.interface) (same_Some d c (sym b ∙ a)) ∙ own

  -- ---- patterns

  module _ (patterns : HasPatterns p i) where
    no_grids : (j : ℕ) → j ≡ i → HasGrids p j → ⊥
    no_grids j own grids = (subst (HasGrids p) own grids).other patterns

    no_neither : (j : ℕ) → j ≡ i → HasNeither p j → ⊥
    no_neither j own neither = (subst (HasNeither p) own neither).other patterns

    shut_by_patterns : (n : ℕ) (c : Constraint) → IsConstraint p n c → c.interface ≡ i → IsShut p n
    shut_by_patterns n c at own = record {
      refuted = λ w b is. no_grids is.constraint.interface (same_interface n c is.constraint at is.at own) is.searched.grids;
      undecided = λ is. no_neither is.constraint.interface (same_interface n c is.constraint at is.at own) is.neither;
    }

    small_by_patterns : IsTooLarge p i → ⊥
    small_by_patterns large =
        ⊎_elim
        (λ (h : HasNeither p i × (IsSmall p i → ⊥)). no_neither i refl h.0)
        (λ (h : (n : ℕ) × (c : Constraint) × IsConstraint p n c × (c.interface ≡ i) × IsOversized p c). no_grids h.1.interface h.3 h.4.searched.grids)
        large

    pub form_by_patterns : (ms : List Measured) (f : InterfaceForm) → AreValuesOf p i ms → ArePatterns (measured_list ms) f → FormGives p i f
    form_by_patterns ms (Solved bound values) values_are is =
        let none : AreFormOf p i None values = record {
          points = λ k. [];
          form = patterns;
          values_are =
              is.1
              ∙ sym (patterns_are i 1 (all_vars p) (measured_list ms) (length-map ms measured_view ∙ values_are.as_many))
              ∙ ap (λ vs. map (λ k. PatternForm (value_in vs k)) (vars_in i 1 (all_vars p))) values_are.values;
          inside = λ n c at own searched. absurd (no_grids c.interface own searched.grids);
          small = small_by_patterns;
          shut = shut_by_patterns;
        } in
        subst (λ b. AreFormOf p i b values) (sym is.0) none
    form_by_patterns ms TooLarge values_are is = absurd is
    form_by_patterns ms (Unsolved o) values_are is = absurd is

  -- ---- no patterns

  pub other_than_patterns : (o : Option ℕ) → IsUncovered p i o → HasPatterns p i → ⊥
  other_than_patterns None large patterns = large patterns.small
  other_than_patterns (Some n) first patterns = first.uncovered (patterns.covered n first.constraint first.at first.own)

  -- ---- neither patterns nor grids

  module _ (o : Option ℕ) (uncovered : IsUncovered p i o) (out : IsInBounds p i → ⊥) where
    neither : HasNeither p i
    neither = record { other = other_than_patterns o uncovered; out_of_bounds = out }

    never_grids : (j : ℕ) → j ≡ i → HasGrids p j → ⊥
    never_grids j own grids = out (subst (HasGrids p) own grids).in_bounds

  pub form_without : (o : Option ℕ) (f : InterfaceForm) → IsUncovered p i o → (IsInBounds p i → ⊥) → IsWithout o f → FormGives p i f
  form_without None f large out is =
      let all : FormGives p i TooLarge = inl (neither None large out, large) in
      subst (FormGives p i) (sym is) all
  form_without (Some n) f first out is =
      let all : IsFirstUnshown p i (record { constraint = n; refutation = None }) = record {
        small = λ large.
            ⊎_elim
            (λ (h : HasNeither p i × (IsSmall p i → ⊥)). h.1 first.small)
            (λ (h : (m : ℕ) × (c : Constraint) × IsConstraint p m c × (c.interface ≡ i) × IsOversized p c). never_grids (Some n) first out h.1.interface h.3 h.4.searched.grids)
            large;
        constraint = first.constraint;
        at = first.at;
        own = first.own;
        unshown = record { constraint = first.constraint; at = first.at; neither = subst (HasNeither p) (sym first.own) (neither (Some n) first out); uncovered = first.uncovered };
        before = λ m c less at own. record {
          refuted = λ w b is. never_grids (Some n) first out is.constraint.interface (same_interface m c is.constraint at is.at own) is.searched.grids;
          undecided = λ is. is.uncovered (first.before m is.constraint less is.at (same_interface m c is.constraint at is.at own));
        };
      } in
      subst (FormGives p i) (sym is) all

  -- ---- grids

  module _ (k : ℕ) (g : InterfaceGrids) (grids : HasGrids p i) (bound : k ≡ grid_bound p i) (are : AreGridsOf p i g) where
    in_grids : (j : ℕ) → j ≡ i → HasGrids p j
    in_grids j own = subst (HasGrids p) (sym own) grids

    not_neither : (j : ℕ) → j ≡ i → HasNeither p j → ⊥
    not_neither j own h = (subst (HasNeither p) own h).out_of_bounds grids.in_bounds

    small_by_grids : g.is_oversized ≡ false → IsTooLarge p i → ⊥
    small_by_grids small large =
        ⊎_elim
        (λ (h : HasNeither p i × (IsSmall p i → ⊥)). not_neither i refl h.0)
        (λ (h : (n : ℕ) × (c : Constraint) × IsConstraint p n c × (c.interface ≡ i) × IsOversized p c). are.small h.0 h.1 small (record { at = h.2; own = h.3; closed = h.4.searched.closed }) h.4.large)
        large

    large_by_grids : g.is_oversized ≡ true → IsTooLarge p i
    large_by_grids large =
        let h = are.large large in
        inr (h.0, h.1, h.2.at, h.2.own, record { searched = record { grids = in_grids h.1.interface h.2.own; closed = h.2.closed }; large = h.3 })

    least_by_grids : (x : ℕ × Refutation) → g.refuted ≡ Some x → IsLeastRefutation p x.0 (bound_view x.1.tree)
    least_by_grids x is c w b at refutes =
        let h = are.found x.0 x.1 is in
        let same : h.0 ≡ c = same_Some h.0 c (sym h.1.at ∙ at) in
        are.least_tree x.0 x.1 c w b is (subst (IsClosedOf p i x.0) same h.1) refutes

    first_by_grids : (x : ℕ × Refutation) → g.is_oversized ≡ false → g.refuted ≡ Some x → IsFirstUnshown p i (record { constraint = x.0; refutation = Some x.1 })
    first_by_grids x small is =
        let h = are.found x.0 x.1 is in
        record {
          small = small_by_grids small;
          constraint = h.0;
          at = h.1.at;
          own = h.1.own;
          unshown = (
            record { constraint = h.0; at = h.1.at; searched = record { grids = in_grids h.0.interface h.1.own; closed = h.1.closed }; found = h.2 },
            least_by_grids x is,
          );
          before = λ m c less at own. record {
            refuted = λ w b f. are.first x.0 m x.1 f.constraint w b is less (record { at = f.at; own = same_interface m c f.constraint at f.at own; closed = f.searched.closed }) f.found;
            undecided = λ u. not_neither u.constraint.interface (same_interface m c u.constraint at u.at own) u.neither;
          };
        }

    solved_by_grids : (values : List VarValue) → g.is_oversized ≡ false → g.refuted ≡ None → map value_view values ≡ map (λ ps. GridForm k (map counts_of ps)) g.points → AreFormOf p i (Some k) values
    solved_by_grids values small none values_are = record {
      points = points_by (vars_in i 1 (all_vars p)) g.points;
      form = (grids, bound, are.least);
      values_are = values_are ∙ sym (grids_are i k 1 (all_vars p) g.points are.count);
      inside = λ n c at own searched. are.inside n c none small (record { at = at; own = own; closed = searched.closed });
      small = small_by_grids small;
      shut = λ n c at own. record {
        refuted = λ w b f. are.none n f.constraint w b none (record { at = f.at; own = same_interface n c f.constraint at f.at own; closed = f.searched.closed }) f.found;
        undecided = λ u. not_neither u.constraint.interface (same_interface n c u.constraint at u.at own) u.neither;
      };
    }

    by_grids : (b : Bool) (r : Option (ℕ × Refutation)) (f : InterfaceForm) → g.is_oversized ≡ b → g.refuted ≡ r → IsByGridsOf k b r g.points f → FormGives p i f
    by_grids true r f large found is =
        let all : FormGives p i TooLarge = large_by_grids large in
        subst (FormGives p i) (sym is) all
    by_grids false (Some x) f small found is =
        let all : FormGives p i (Unsolved (record { constraint = x.0; refutation = Some x.1 })) = first_by_grids x small found in
        subst (FormGives p i) (sym is) all
    by_grids false None (Solved b values) small found is =
        subst (λ c. AreFormOf p i c values) (sym is.0) (solved_by_grids values small found is.1)
    by_grids false None TooLarge small found is = absurd is
    by_grids false None (Unsolved o) small found is = absurd is

    pub form_by_grids : (f : InterfaceForm) → IsByGrids k g f → FormGives p i f
    form_by_grids f is = by_grids g.is_oversized g.refuted f refl refl is

-- ---- what the code comes to

module _ {E : Type 0} (p : Program) (i : ℕ) (r : Result InterfaceForm E) where
  pub if_patterns : (ms : List Measured) → HasPatterns p i × AreValuesOf p i ms → IfOk r (ArePatterns (measured_list ms)) → IfOk r (FormGives p i)
  if_patterns ms has is = go r is
    where
      go : (s : Result InterfaceForm E) → IfOk s (ArePatterns (measured_list ms)) → IfOk s (FormGives p i)
      go (Ok f) h = form_by_patterns p i has.0 ms f has.1 h
      go (Err e) h = tt

  pub if_grids : (o b : Option ℕ) (k : ℕ) (g : InterfaceGrids) → IsUncovered p i o → b ≡ Some k → IfSome b (λ j. IsInBounds p i × (j ≡ grid_bound p i)) → AreGridsOf p i g → IfOk r (IsByGrids k g) → IfOk r (FormGives p i)
  if_grids o b k g uncovered is bounds are by = go r by
    where
      has : IsInBounds p i × (k ≡ grid_bound p i)
      has = subst (λ c. IfSome c (λ j. IsInBounds p i × (j ≡ grid_bound p i))) is bounds

      go : (s : Result InterfaceForm E) → IfOk s (IsByGrids k g) → IfOk s (FormGives p i)
      go (Ok f) h = form_by_grids p i k g (record { other = other_than_patterns p i o uncovered; in_bounds = has.0 }) has.1 are f h
      go (Err e) h = tt

pub gives_without : (p : Program) (i : ℕ) (o b : Option ℕ) (f : InterfaceForm) → IsUncovered p i o → b ≡ None → IfNone b (IsInBounds p i → ⊥) → IsWithout o f → FormGives p i f
gives_without p i o b f uncovered is out without = form_without p i o f uncovered (subst (λ c. IfNone c (IsInBounds p i → ⊥)) is out) without
