-- What is found of an interface's constraints is what the definition says of its closed-form values.
use Rattle.std.proofs.Common.{◌≡◌, ℕ, zero, suc, ◌<◌, ◌≤◌, Bool, true, false, ◌&&◌, List, [], ◌∷◌, length, Option, Some, None, ⊎_elim, refl, sym, ap, ap₂, ◌∙◌, subst, arith}
use Rattle.std.specs.Prelude.{nat_eq, get_or, map, slice_get, is_some, IfOk, Result, Ok, Err}
use Rattle.std.specs.List.{list_all, AllByRecursion}
use Rattle.std.proofs.lemmas.Bool.{and_parts, and_from, eq-eqb, eqb-true, cond_both, cond-true, cases_lt}
use Rattle.std.proofs.lemmas.Option.{slice_get_within}
use Rattle.pat_words_spec.specs.Patterns.{Pat, Zero, One, Tag, Sum, Prod, Star, Var, subst_of}
use Rattle.pat_words_spec.specs.Tags.{tags_below}
use Rattle.pat_semantics_laws.proofs.Lists.{all_at}
use Rattle.pat_core.specs.declared.program.Program.{Program}
use Rattle.pat_core.specs.Views.{program_view}
use Rattle.pat_inclusion_spec.specs.bounds.Assignments.{lower_of}
use Rattle.pat_inclusion_spec.specs.Counts.{most_tags}
use Rattle.pat_inclusion_spec.specs.ClosedForms.{closed_form}
use Rattle.pat_types.specs.Views.{right_form}
use Rattle.pat_infer_spec.specs.Constraints.{Constraint}
use Rattle.pat_infer_spec.specs.Shapes.{ConstraintFits, PatternFits, FoundFits}
use Rattle.pat_infer_spec.specs.Walk.{inferred, all_vars}
use Rattle.pat_infer_problems.specs.Views.{PlacedConstraint, placed_constraint, constraint_view}
use Rattle.pat_infer_problems.specs.declared.problem.Constraint as code
use Rattle.pat_infer_problems.specs.declared.problem.VarDecl.{VarDecl}
use Rattle.pat_infer_problems.specs.declared.problem.Problem.{Problem}
use Rattle.pat_solve_spec.specs.LowerBounds.{lowers, constraints_in}
use Rattle.pat_solve_spec.specs.Assignments.{vars_in, value_in, assigned, sides_under}
use Rattle.pat_solve_spec.specs.Derived.{IsCovered}
use Rattle.pat_solve_spec.specs.Answers.{tags_of, constraints_of, values_of, IsSmall, IsConstraint, IsCoveredUnder}
use Rattle.pat_solve_bounded.specs.declared.measured.Measured.{Measured}
use Rattle.pat_solve_bounded.specs.Views.{measured_list}
use Rattle.pat_solve_bounded.specs.replacing.Ascending.{IsAscending, paired}
use Rattle.pat_solve_elimination.specs.assignment.Results.{rounds_fit}
use Rattle.pat_solve_elimination.specs.covers.Fits.{FitsLaw}
use Rattle.pat_solve_bounds.specs.declared.lower_bounds.indexing.Index.{Index}
use Rattle.pat_solve_bounds.specs.lower_bounds.Rows.{numbers}
use Rattle.pat_solve_bounds.specs.lower_bounds.Sides.{left_at, sides_list}
use Rattle.pat_solve_bounds.specs.lower_bounds.Indexes.{IsIndexOf}
use Rattle.pat_solve_bounds.specs.lower_bounds.Laws.{IndexLaw}
use Rattle.pat_solve_bounds.proofs.Numbering.{numbers_are, numbers_have, numbers_ascend}
use Rattle.pat_solve_bounds.proofs.Ties.{map_as, through}
use Rattle.pat_solve_closed_forms.specs.declared.checking.Finding.{Finding}
use Rattle.pat_solve_closed_forms.specs.declared.checking.Finding.TheVariants.{Covered, Uncovered, TooLarge}
use Rattle.pat_solve_closed_forms.specs.Sides.{right_pattern, right_at, left_under, right_under}
use Rattle.pat_solve_closed_forms.specs.Findings.{have_forms, Finds}
use Rattle.pat_solve_closed_forms.specs.Rounds.{RoundsGive}
use Rattle.pat_solve_closed_forms.specs.declared.values.ClosedValues.{ClosedValues}
use Rattle.pat_solve_closed_forms.specs.Values.{IsInferred, ValuesAre, AnswersBy, answer_of}
use Rattle.pat_solve_closed_forms.proofs.Rounding.{lowers_same}
use Rattle.pat_solve_closed_forms.proofs.Steps.{covered_forms}
use Rattle.pat_solve_closed_forms.proofs.Tagged.{value_most, side_most, side_form}

-- ---- lists of sides

module _ (F : Pat → Bool) (values : ℕ → Pat) (i : ℕ) where
  all_sides : (xs : List Constraint) → ((m : ℕ) (c : Constraint) → slice_get xs m ≡ Some c → c.interface ≡ i → (F (subst_of values c.left) && F (subst_of values c.right)) ≡ true) → list_all F (sides_under values (constraints_in i xs)) ≡ true
  all_sides [] h = refl
  all_sides (x ∷ xs) h =
      let rest = all_sides xs (λ m c at own. h (suc m) c at own) in
      cond_both (nat_eq x.interface i) (x ∷ constraints_in i xs) (constraints_in i xs) (λ ys. list_all F (sides_under values ys) ≡ true)
      (λ e.
      let own = and_parts (F (subst_of values x.left)) (F (subst_of values x.right)) (h 0 x refl (eqb-true x.interface i e)) in
      and_from (F (subst_of values x.left)) (F (subst_of values x.right) && list_all F (sides_under values (constraints_in i xs))) own.0
      (and_from (F (subst_of values x.right)) (list_all F (sides_under values (constraints_in i xs))) own.1 rest))
      (λ _. rest)

  a_side : (xs : List Constraint) (m : ℕ) (c : Constraint) → slice_get xs m ≡ Some c → c.interface ≡ i → (F (subst_of values c.left) && F (subst_of values c.right)) ≡ false → list_all F (sides_under values (constraints_in i xs)) ≡ false
  a_side [] m c at own bad = cc
  a_side (x ∷ xs) zero c at own bad =
      let same : x ≡ c = cc in
      let here : nat_eq x.interface i ≡ true = eq-eqb x.interface i (ap (λ (y : Constraint). y.interface) same ∙ own) in
      let rest : Bool = list_all F (sides_under values (constraints_in i xs)) in
      ap (λ ys. list_all F (sides_under values ys)) (cond-true (nat_eq x.interface i) (x ∷ constraints_in i xs) (constraints_in i xs) here)
      ∙ first_two (F (subst_of values x.left)) (F (subst_of values x.right)) rest (ap (λ (y : Constraint). F (subst_of values y.left) && F (subst_of values y.right)) same ∙ bad)
    where
      first_two : (a b r : Bool) → (a && b) ≡ false → (a && (b && r)) ≡ false
      first_two false b r e = refl
      first_two true false r e = refl
      first_two true true r e = let clash : true ≡ false = e in cc
  a_side (x ∷ xs) (suc m) c at own bad =
      let rest = a_side xs m c at own bad in
      cond_both (nat_eq x.interface i) (x ∷ constraints_in i xs) (constraints_in i xs) (λ ys. list_all F (sides_under values ys) ≡ false)
      (λ _. last_of (F (subst_of values x.left)) (F (subst_of values x.right)) (list_all F (sides_under values (constraints_in i xs))) rest)
      (λ _. rest)
    where
      last_of : (a b r : Bool) → r ≡ false → (a && (b && r)) ≡ false
      last_of false b r e = refl
      last_of true false r e = refl
      last_of true true r e = e

got : {A : Type 0} (f : A → Pat) (xs : List A) (m : ℕ) (x : A) → slice_get xs m ≡ Some x → get_or (map f xs) m Zero ≡ f x
got f [] m x h = cc
got f (y ∷ ys) zero x h = let same : y ≡ x = cc in ap f same
got f (y ∷ ys) (suc m) x h = got f ys m x h

right_same : (e : Pat) → right_pattern (right_form e) ≡ e
right_same Zero = refl
right_same One = refl
right_same (Tag m) = refl
right_same (Sum e f) = refl
right_same (Prod e f) = refl
right_same (Star e) = refl
right_same (Var k) = refl

module _ (p : Program) (q : Problem) (i : ℕ) (h : IsInferred p q) (found : FoundFits) where
  abbrev pub own_values : ℕ → Pat
  own_values = value_in (values_of (program_view p) i)

  abbrev pub all_constraints : List Constraint
  all_constraints = (inferred (program_view p)).constraints

  abbrev pub own_numbers : List ℕ
  own_numbers = numbers (λ (d : Constraint). nat_eq d.interface i) 0 all_constraints

  abbrev pub own_vars : List ℕ
  own_vars = vars_in i 1 (all_vars (program_view p))

  fits : AllByRecursion (ConstraintFits (program_view p) (all_vars (program_view p))) all_constraints
  fits = (found (program_view p) h.well h.clean).0

  -- ---- each constraint

  left_is : (m : ℕ) (c : Constraint) → IsConstraint (program_view p) m c → left_at q.constraints m ≡ c.left
  left_is m c at =
      ap (λ es. get_or es m Zero) (through constraint_view (placed_constraint p) (λ (d : PlacedConstraint). d.left) q.constraints all_constraints h.problem.constraints)
      ∙ got (λ (d : Constraint). d.left) all_constraints m c at

  right_is : (m : ℕ) (c : Constraint) → IsConstraint (program_view p) m c → right_at q.constraints m ≡ c.right
  right_is m c at =
      ap (λ es. get_or es m Zero)
      (through constraint_view (placed_constraint p) (λ (d : PlacedConstraint). right_pattern d.right) q.constraints all_constraints h.problem.constraints
      ∙ map_as (λ (d : Constraint). right_pattern (right_form d.right)) (λ (d : Constraint). d.right) (λ d. right_same d.right) all_constraints)
      ∙ got (λ (d : Constraint). d.right) all_constraints m c at

  fits_at : (m : ℕ) (c : Constraint) → IsConstraint (program_view p) m c → ConstraintFits (program_view p) (all_vars (program_view p)) c
  fits_at m c at = all_at (ConstraintFits (program_view p) (all_vars (program_view p))) all_constraints m c fits at

  left_fits : (m : ℕ) (c : Constraint) → IsConstraint (program_view p) m c → c.interface ≡ i → PatternFits (program_view p) (all_vars (program_view p)) i c.left
  left_fits m c at own = subst (λ j. PatternFits (program_view p) (all_vars (program_view p)) j c.left) own (fits_at m c at).left

  right_fits : (m : ℕ) (c : Constraint) → IsConstraint (program_view p) m c → c.interface ≡ i → PatternFits (program_view p) (all_vars (program_view p)) i c.right
  right_fits m c at own = subst (λ j. PatternFits (program_view p) (all_vars (program_view p)) j c.right) own (fits_at m c at).right

  left_form : (m : ℕ) (c : Constraint) → IsConstraint (program_view p) m c → c.interface ≡ i → closed_form most_tags (left_under own_values q.constraints m) ≡ closed_form (tags_of (program_view p) i) (subst_of own_values c.left)
  left_form m c at own =
      ap (λ e. closed_form most_tags (subst_of own_values e)) (left_is m c at)
      ∙ side_form (program_view p) i h.well fits c.left (left_fits m c at own)

  right_form_is : (m : ℕ) (c : Constraint) → IsConstraint (program_view p) m c → c.interface ≡ i → closed_form most_tags (right_under own_values q.constraints m) ≡ closed_form (tags_of (program_view p) i) (subst_of own_values c.right)
  right_form_is m c at own =
      ap (λ e. closed_form most_tags (subst_of own_values e)) (right_is m c at)
      ∙ side_form (program_view p) i h.well fits c.right (right_fits m c at own)

  forms_are : (m : ℕ) (c : Constraint) → IsConstraint (program_view p) m c → c.interface ≡ i → have_forms most_tags (left_under own_values q.constraints m) (right_under own_values q.constraints m) ≡ have_forms (tags_of (program_view p) i) (subst_of own_values c.left) (subst_of own_values c.right)
  forms_are m c at own =
      ap₂ (λ a b. is_some a && is_some b) (left_form m c at own) (right_form_is m c at own)

  abbrev CoveredBy : ℕ → Constraint → Type 0
  CoveredBy j c =
      IsCovered (tags_of (program_view p) j) (subst_of (value_in (values_of (program_view p) j)) c.left) (subst_of (value_in (values_of (program_view p) j)) c.right)

  covered_to : (m : ℕ) (c : Constraint) → IsConstraint (program_view p) m c → c.interface ≡ i → IsCovered most_tags (left_under own_values q.constraints m) (right_under own_values q.constraints m) → IsCoveredUnder (program_view p) c
  covered_to m c at own k =
      let own_covered : CoveredBy i c = record {
        left = k.left;
        right = k.right;
        left_is = sym (left_form m c at own) ∙ k.left_is;
        right_is = sym (right_form_is m c at own) ∙ k.right_is;
        covered = k.covered;
      } in
      subst (λ j. CoveredBy j c) (sym own) own_covered

  covered_from : (m : ℕ) (c : Constraint) → IsConstraint (program_view p) m c → c.interface ≡ i → IsCoveredUnder (program_view p) c → IsCovered most_tags (left_under own_values q.constraints m) (right_under own_values q.constraints m)
  covered_from m c at own under =
      let k : CoveredBy i c = subst (λ j. CoveredBy j c) own under in
      record {
        left = k.left;
        right = k.right;
        left_is = left_form m c at own ∙ k.left_is;
        right_is = right_form_is m c at own ∙ k.right_is;
        covered = k.covered;
      }

  -- ---- its place

  pub record AtPlace (j : ℕ) : Type 0 where
    pub constraint : Constraint
    pub at : IsConstraint (program_view p) (get_or own_numbers j 0) constraint
    pub own : constraint.interface ≡ i

  at_place : (j : ℕ) → j < length own_numbers → AtPlace j
  at_place j l =
      let k = numbers_are (λ (d : Constraint). nat_eq d.interface i) 0 all_constraints j l in
      let same : k.place ≡ get_or own_numbers j 0 = let e = k.number in omega arith in
      record {
        constraint = k.item;
        at = subst (λ m. slice_get all_constraints m ≡ Some k.item) same k.at;
        own = eqb-true k.item.interface i k.passes;
      }

  pub record HasPlace (m : ℕ) : Type 0 where
    pub place : ℕ
    pub within : place < length own_numbers
    pub is : get_or own_numbers place 0 ≡ m

  has_place : (m : ℕ) (c : Constraint) → IsConstraint (program_view p) m c → c.interface ≡ i → HasPlace m
  has_place m c at own =
      let k = numbers_have (λ (d : Constraint). nat_eq d.interface i) 0 all_constraints m c at (eq-eqb c.interface i own) in
      record { place = k.place; within = k.within; is = let e = k.is in omega arith }

  -- a number below that of a place has an earlier place
  earlier : (a b : ℕ) → a < length own_numbers → get_or own_numbers a 0 < get_or own_numbers b 0 → a < b
  earlier a b la l =
      ⊎_elim
      (λ (x : a < b). x)
      (λ (y : b ≤ a).
      absurd
      (⊎_elim
      (λ (z : b < a). let k = numbers_ascend (λ (d : Constraint). nat_eq d.interface i) 0 all_constraints b a z la in omega arith)
      (λ (w : a ≤ b).
      let e : a ≡ b = omega arith in
      let k : get_or own_numbers b 0 < get_or own_numbers b 0 = subst (λ z. get_or own_numbers z 0 < get_or own_numbers b 0) e l in
      omega arith)
      (cases_lt b a)))
      (cases_lt a b)

  -- ---- whether it is small

  abbrev has_form : Pat → Bool
  has_form e = is_some (closed_form (tags_of (program_view p) i) e)

  module _ (law : FitsLaw) where
    small_is : rounds_fit (constraints_of (program_view p) i) own_vars ≡ true → ((m : ℕ) (c : Constraint) → IsConstraint (program_view p) m c → c.interface ≡ i → have_forms (tags_of (program_view p) i) (subst_of own_values c.left) (subst_of own_values c.right) ≡ true) → IsSmall (program_view p) i
    small_is rounds forms =
        law (tags_of (program_view p) i) (constraints_of (program_view p) i) own_vars
        ∙ and_from (rounds_fit (constraints_of (program_view p) i) own_vars) (list_all has_form (sides_under own_values (constraints_in i all_constraints))) rounds
        (all_sides has_form own_values i all_constraints forms)

    small_rounds : IsSmall (program_view p) i → rounds_fit (constraints_of (program_view p) i) own_vars ≡ true
    small_rounds s =
        (and_parts (rounds_fit (constraints_of (program_view p) i) own_vars) (list_all has_form (sides_under own_values (constraints_in i all_constraints)))
        (sym (law (tags_of (program_view p) i) (constraints_of (program_view p) i) own_vars) ∙ s)).0

    small_sides : IsSmall (program_view p) i → list_all has_form (sides_under own_values (constraints_in i all_constraints)) ≡ true
    small_sides s =
        (and_parts (rounds_fit (constraints_of (program_view p) i) own_vars) (list_all has_form (sides_under own_values (constraints_in i all_constraints)))
        (sym (law (tags_of (program_view p) i) (constraints_of (program_view p) i) own_vars) ∙ s)).1

    pub rounds_large : rounds_fit (constraints_of (program_view p) i) own_vars ≡ false → IsSmall (program_view p) i → ⊥
    rounds_large r s = let clash : true ≡ false = sym (small_rounds s) ∙ r in cc

    -- ---- what is found

    meant : (ms : List Measured) (finding : Finding) → RoundsGive (constraints_of (program_view p) i) own_vars (Some ms) → Finds own_values q.constraints own_numbers (length own_numbers) finding → ValuesAre (program_view p) i (answer_of finding ms)
    meant ms Covered r f =
        let covered : (m : ℕ) (c : Constraint) → IsConstraint (program_view p) m c → c.interface ≡ i → IsCovered most_tags (left_under own_values q.constraints m) (right_under own_values q.constraints m) = λ m c at own. let k = has_place m c at own in subst (λ n. IsCovered most_tags (left_under own_values q.constraints n) (right_under own_values q.constraints n)) k.is (f k.place k.within) in (
          record {
            small =
                small_is r.2
                (λ m c at own. sym (forms_are m c at own) ∙ covered_forms most_tags (left_under own_values q.constraints m) (right_under own_values q.constraints m) (covered m c at own));
            covered = λ m c at own. covered_to m c at own (covered m c at own);
          },
          record { as_many = r.1; values = r.0 },
        )
    meant ms (Uncovered n) r f =
        let k = at_place f.place f.within in
        record {
          small =
              small_is r.2
              (λ m c at own.
              let k = has_place m c at own in
              sym (forms_are m c at own)
              ∙ subst (λ x. have_forms most_tags (left_under own_values q.constraints x) (right_under own_values q.constraints x) ≡ true) k.is (f.forms k.place k.within));
          constraint = k.constraint;
          at = subst (λ m. IsConstraint (program_view p) m k.constraint) (sym f.is) k.at;
          own = k.own;
          uncovered = λ u. f.uncovered (covered_from (get_or own_numbers f.place 0) k.constraint k.at k.own u);
          before = λ m c l at own.
              let b = has_place m c at own in
              let less : get_or own_numbers b.place 0 < get_or own_numbers f.place 0 = let e = b.is in let g = f.is in omega arith in
              covered_to m c at own (subst (λ x. IsCovered most_tags (left_under own_values q.constraints x) (right_under own_values q.constraints x)) b.is (f.before b.place (earlier b.place f.place b.within less)));
        }
    meant ms TooLarge r f = λ s.
        let k = at_place f.place f.within in
        let bad : have_forms (tags_of (program_view p) i) (subst_of own_values k.constraint.left) (subst_of own_values k.constraint.right) ≡ false = sym (forms_are (get_or own_numbers f.place 0) k.constraint k.at k.own) ∙ f.none in
        let clash : true ≡ false = sym (small_sides s) ∙ a_side has_form own_values i all_constraints (get_or own_numbers f.place 0) k.constraint k.at k.own bad in
        cc

    -- ---- along the lists of the index

    module _ (vars ns : List ℕ) (vars_are : vars ≡ own_vars) (ns_are : ns ≡ own_numbers) where
      values_are : (ms : List Measured) → RoundsGive (constraints_of (program_view p) i) vars (Some ms) → (k : ℕ) → value_in (paired vars (measured_list ms)) k ≡ own_values k
      values_are ms r k =
          ap (λ vs. value_in vs k) (r.0 ∙ ap (assigned (constraints_of (program_view p) i)) vars_are)

      pub answered : (ms : List Measured) (finding : Finding) → RoundsGive (constraints_of (program_view p) i) vars (Some ms) → Finds (value_in (paired vars (measured_list ms))) q.constraints ns (length ns) finding → ValuesAre (program_view p) i (answer_of finding ms)
      answered ms finding r f =
          let by : paired vars (measured_list ms) ≡ values_of (program_view p) i = r.0 ∙ ap (assigned (constraints_of (program_view p) i)) vars_are in
          meant ms finding (subst (λ ks. RoundsGive (constraints_of (program_view p) i) ks (Some ms)) vars_are r)
          (subst (λ xs. Finds own_values q.constraints xs (length xs) finding) ns_are
          (subst (λ vs. Finds (value_in vs) q.constraints ns (length ns) finding) by f))

      pub all_answered : (ms : List Measured) → RoundsGive (constraints_of (program_view p) i) vars (Some ms) → (cs : List code.Constraint) → cs ≡ q.constraints → {E : Type 0} (res : Result ClosedValues E) → IfOk res (AnswersBy (Finds (value_in (paired vars (measured_list ms))) cs ns (length ns)) ms) → IfOk res (ValuesAre (program_view p) i)
      all_answered ms r cs e (Ok x) a =
          subst (ValuesAre (program_view p) i) (sym a.2)
          (answered ms a.0 r (subst (λ xs. Finds (value_in (paired vars (measured_list ms))) xs ns (length ns) a.0) e a.1))
      all_answered ms r cs e (Err x) a = tt

      pub none_answered : RoundsGive (constraints_of (program_view p) i) vars None → IsSmall (program_view p) i → ⊥
      none_answered r = rounds_large (subst (λ ks. rounds_fit (constraints_of (program_view p) i) ks ≡ false) vars_are r)

      pub values_tagged : (ms : List Measured) → RoundsGive (constraints_of (program_view p) i) vars (Some ms) → (k : ℕ) → tags_below most_tags (value_in (paired vars (measured_list ms)) k) ≡ true
      values_tagged ms r k =
          subst (λ e. tags_below most_tags e ≡ true) (sym (values_are ms r k)) (value_most (program_view p) i h.well fits k)

      pub lefts_tagged : (ms : List Measured) → RoundsGive (constraints_of (program_view p) i) vars (Some ms) → (j : ℕ) → j < length ns → tags_below most_tags (left_under (value_in (paired vars (measured_list ms))) q.constraints (get_or ns j 0)) ≡ true
      lefts_tagged ms r j l =
          let by : paired vars (measured_list ms) ≡ values_of (program_view p) i = r.0 ∙ ap (assigned (constraints_of (program_view p) i)) vars_are in
          let k = at_place j (subst (λ xs. j < length xs) ns_are l) in
          subst (λ vs. tags_below most_tags (left_under (value_in vs) q.constraints (get_or ns j 0)) ≡ true) (sym by)
          (subst (λ xs. tags_below most_tags (left_under own_values q.constraints (get_or xs j 0)) ≡ true) (sym ns_are)
          (subst (λ e. tags_below most_tags (subst_of own_values e) ≡ true) (sym (left_is (get_or own_numbers j 0) k.constraint k.at))
          (side_most (program_view p) i h.well fits k.constraint.left (left_fits (get_or own_numbers j 0) k.constraint k.at k.own))))

      pub rights_tagged : (ms : List Measured) → RoundsGive (constraints_of (program_view p) i) vars (Some ms) → (j : ℕ) → j < length ns → tags_below most_tags (right_under (value_in (paired vars (measured_list ms))) q.constraints (get_or ns j 0)) ≡ true
      rights_tagged ms r j l =
          let by : paired vars (measured_list ms) ≡ values_of (program_view p) i = r.0 ∙ ap (assigned (constraints_of (program_view p) i)) vars_are in
          let k = at_place j (subst (λ xs. j < length xs) ns_are l) in
          subst (λ vs. tags_below most_tags (right_under (value_in vs) q.constraints (get_or ns j 0)) ≡ true) (sym by)
          (subst (λ xs. tags_below most_tags (right_under own_values q.constraints (get_or xs j 0)) ≡ true) (sym ns_are)
          (subst (λ e. tags_below most_tags (subst_of own_values e) ≡ true) (sym (right_is (get_or own_numbers j 0) k.constraint k.at))
          (side_most (program_view p) i h.well fits k.constraint.right (right_fits (get_or own_numbers j 0) k.constraint k.at k.own))))

      -- the lower bounds by the interface's own constraints are those by all of the problem's
      pub lowers_tied : (x : Index) → IsIndexOf q x → IndexLaw → map (lowers (constraints_of (program_view p) i)) vars ≡ map (lower_of (sides_list q.constraints)) vars
      lowers_tied x is index =
          ap (map (lowers (constraints_of (program_view p) i))) vars_are
          ∙ lowers_same (program_view p) i fits
          ∙ ap (λ s. map (lower_of s) own_vars) (sym (index p q x h.problem is).sides)
          ∙ ap (map (lower_of (sides_list q.constraints))) (sym vars_are)

-- ---- what the rounds give

pub rounds_by : (cs : List Constraint) (vars : List ℕ) (o : Option (List Measured)) (ms : List Measured) → o ≡ Some ms → RoundsGive cs vars o → RoundsGive cs vars (Some ms)
rounds_by cs vars o ms e r = subst (RoundsGive cs vars) e r

pub rounds_none : (cs : List Constraint) (vars : List ℕ) (o : Option (List Measured)) → o ≡ None → RoundsGive cs vars o → RoundsGive cs vars None
rounds_none cs vars o e r = subst (RoundsGive cs vars) e r

-- ---- numbers that an index lists

module _ (q : Problem) (x : Index) (i : ℕ) (h : IsIndexOf q x) (there : i < length x.constraints) where
  pub vars_ascend : (vars : List ℕ) → vars ≡ get_or x.variables i [] → IsAscending vars
  vars_ascend vars e =
      subst IsAscending (sym (e ∙ h.variables i there)) (numbers_ascend (λ (v : VarDecl). nat_eq v.interface i) 1 q.vars)

  pub vars_within : (vars : List ℕ) → vars ≡ get_or x.variables i [] → (j : ℕ) → j < length vars → get_or vars j 0 ≤ length q.vars
  vars_within vars e j l =
      let is : vars ≡ numbers (λ (v : VarDecl). nat_eq v.interface i) 1 q.vars = e ∙ h.variables i there in
      let k = numbers_are (λ (v : VarDecl). nat_eq v.interface i) 1 q.vars j (subst (λ ks. j < length ks) is l) in
      let place : k.place < length q.vars = slice_get_within q.vars k.place k.item k.at in
      subst (λ ks. get_or ks j 0 ≤ length q.vars) (sym is) (let n = k.number in omega arith)

  pub numbers_within : (ns : List ℕ) → ns ≡ get_or x.constraints i [] → (j : ℕ) → j < length ns → get_or ns j 0 < length q.constraints
  numbers_within ns e j l =
      let is : ns ≡ numbers (λ (c : code.Constraint). nat_eq c.interface i) 0 q.constraints = e ∙ h.constraints i there in
      let k = numbers_are (λ (c : code.Constraint). nat_eq c.interface i) 0 q.constraints j (subst (λ ks. j < length ks) is l) in
      let place : k.place < length q.constraints = slice_get_within q.constraints k.place k.item k.at in
      subst (λ ks. get_or ks j 0 < length q.constraints) (sym is) (let n = k.number in omega arith)
