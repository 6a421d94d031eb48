-- The constraints and the variables of an interface, by their numbers.
use Rattle.std.proofs.Common.{◌≡◌, ℕ, suc, ◌+◌, ◌<◌, ⊎_elim, Bool, true, false, nat_eq, List, [], ◌∷◌, map, option_map, Some, refl, sym, ap, ap₂, ◌∙◌, subst, arith}
use Rattle.std.specs.Prelude.{slice_get, filter}
use Rattle.std.specs.List.{AllByRecursion, list_all}
use Rattle.std.proofs.lemmas.Bool.{and_parts, cond_both, cond-true, cond-false, cases_Bool, eqb-true}
use Rattle.std.proofs.lemmas.Option.{get_or_from_slice_get, slice_get-map}
use Rattle.pat_words_spec.specs.Patterns.{Pat, Zero, One, Tag, Sum, Prod, Star, Var, is_closed}
use Rattle.pat_words_spec.specs.Flats.{is_flat, degree_of}
use Rattle.pat_words_spec.specs.Tags.{tags_below}
use Rattle.pat_semantics_spec.specs.Programs as core
use Rattle.pat_inclusion_spec.specs.bounds.Assignments as bounds
use Rattle.pat_inclusion_spec.specs.bounds.Assignments.{Right, PatternRight, VarRight}
use Rattle.pat_infer_spec.specs.Constraints.{Constraint}
use Rattle.pat_infer_spec.specs.Shapes.{PatternFits, ConstraintFits, is_simple}
use Rattle.pat_infer_spec.specs.Walk.{all_vars}
use Rattle.pat_infer_problems.specs.declared.problem.Problem.{Problem}
use Rattle.pat_infer_problems.specs.declared.problem.VarDecl.{VarDecl}
use Rattle.pat_solve_spec.specs.LowerBounds.{right_side, sides_of, constraints_in}
use Rattle.pat_solve_spec.specs.Assignments.{vars_in, closed_rights, greatest_degree}
use Rattle.pat_solve_spec.specs.Answers.{tags_of}
use Rattle.pat_solve_bounds.proofs.Closed.{Among, within_tags, fits_within}
use Rattle.pat_solve_bounded.specs.replacing.Ascending.{IsAscending}
use Rattle.pat_solve_bounds.specs.lower_bounds.Rows.{numbers}
use Rattle.pat_solve_bounds.proofs.Numbering.{numbers_ascend}
use Rattle.pat_solve_bounds.specs.renumbered.Systems.{side_at, picked}
use Rattle.pat_solve_bounds.proofs.Systematic.{RightWithin, SideWithin}
use Rattle.pat_solve_grids.specs.Findings.{RightSearchable, IsSearchable}

-- ---- numbers

-- the items with these numbers are those that pass
pub picked_pass : {A : Type 0} (test : A → Bool) (see : A → bounds.Constraint) (zs : List bounds.Constraint) (n : ℕ) (xs : List A) → ((j : ℕ) (x : A) → slice_get xs j ≡ Some x → side_at zs (n + j) ≡ see x) → picked zs (numbers test n xs) ≡ map see (filter test xs)
picked_pass test see zs n [] h = refl
picked_pass test see zs n (x ∷ xs) h =
    let zero_place : n + 0 ≡ n = omega arith in
    let own : side_at zs n ≡ see x = ap (side_at zs) (sym zero_place) ∙ h 0 x refl in
    let rest = picked_pass test see zs (suc n) xs (λ j y at. let place : suc n + j ≡ n + suc j = omega arith in ap (side_at zs) place ∙ h (suc j) y at) in
    ⊎_elim
    (λ t.
    ap (picked zs) (cond-true (test x) (n ∷ numbers test (suc n) xs) (numbers test (suc n) xs) t)
    ∙ ap₂ (λ c cs. c ∷ cs) own rest
    ∙ sym (ap (map see) (cond-true (test x) (x ∷ filter test xs) (filter test xs) t)))
    (λ f.
    ap (picked zs) (cond-false (test x) (n ∷ numbers test (suc n) xs) (numbers test (suc n) xs) f)
    ∙ rest
    ∙ sym (ap (map see) (cond-false (test x) (x ∷ filter test xs) (filter test xs) f)))
    (cases_Bool (test x))

pub variables_ascend : (i : ℕ) (q : Problem) → IsAscending (numbers (λ (v : VarDecl). nat_eq v.interface i) 1 q.vars)
variables_ascend i q a b l n = numbers_ascend (λ (v : VarDecl). nat_eq v.interface i) 1 q.vars a b l n

-- the side with a constraint's number
pub side_is : (cs : List Constraint) (n : ℕ) (c : Constraint) → slice_get cs n ≡ Some c → side_at (map sides_of cs) n ≡ sides_of c
side_is cs n c at =
    get_or_from_slice_get (map sides_of cs) n (sides_of c) _ (slice_get-map sides_of cs n ∙ ap (option_map sides_of) at)

pub picked_own : (i : ℕ) (cs : List Constraint) → picked (map sides_of cs) (numbers (λ (c : Constraint). nat_eq c.interface i) 0 cs) ≡ map sides_of (constraints_in i cs)
picked_own i cs =
    picked_pass (λ (c : Constraint). nat_eq c.interface i) sides_of (map sides_of cs) 0 cs
    (λ j c at. let place : 0 + j ≡ j = omega arith in ap (side_at (map sides_of cs)) place ∙ side_is cs j c at)

-- ---- constraints that fit

module _ (p : core.Program) (i : ℕ) where
  abbrev vars : List ℕ
  vars = vars_in i 1 (all_vars p)

  right_within : (f : Pat) → PatternFits p (all_vars p) i f → RightWithin (tags_of p i) vars (right_side f)
  right_within Zero h = tt
  right_within One h = tt
  right_within (Tag m) h = tt
  right_within (Sum e f) h = tt
  right_within (Prod e f) h = tt
  right_within (Star e) h = tt
  right_within (Var k) h = fits_within p i (Var k) h

  -- each constraint of the interface fits it
  pub own_fit : (cs : List Constraint) → AllByRecursion (ConstraintFits p (all_vars p)) cs → AllByRecursion (λ (c : Constraint). ConstraintFits p (all_vars p) c × (c.interface ≡ i)) (constraints_in i cs)
  own_fit [] h = tt
  own_fit (c ∷ cs) h =
      cond_both (nat_eq c.interface i) (c ∷ constraints_in i cs) (constraints_in i cs) (AllByRecursion (λ (d : Constraint). ConstraintFits p (all_vars p) d × (d.interface ≡ i)))
      (λ e. ((h.0, eqb-true c.interface i e), own_fit cs h.1))
      (λ _. own_fit cs h.1)

  pub all_within : (ds : List Constraint) → AllByRecursion (λ (c : Constraint). ConstraintFits p (all_vars p) c × (c.interface ≡ i)) ds → AllByRecursion (SideWithin (tags_of p i) vars) (map sides_of ds)
  all_within [] h = tt
  all_within (c ∷ ds) h =
      let fits = h.0.0 in (
        record {
          left = fits_within p i c.left (subst (λ j. PatternFits p (all_vars p) j c.left) h.0.1 fits.left);
          right = right_within c.right (subst (λ j. PatternFits p (all_vars p) j c.right) h.0.1 fits.right);
        },
        all_within ds h.1,
      )

  pub all_simple : (ds : List Constraint) → AllByRecursion (λ (c : Constraint). ConstraintFits p (all_vars p) c × (c.interface ≡ i)) ds → AllByRecursion (λ (c : Constraint). is_simple c.right ≡ true) ds
  all_simple [] h = tt
  all_simple (c ∷ ds) h = (h.0.0.simple, all_simple ds h.1)

  right_searchable : (k : ℕ) (f : Pat) → tags_below (tags_of p i) f ≡ true → (is_closed f ≡ true → (is_flat f ≡ true) × (degree_of f < k)) → is_simple f ≡ true → RightSearchable k (tags_of p i) (right_side f)
  right_searchable k Zero t h s = let q = h refl in (t, q.0, q.1)
  right_searchable k One t h s = let q = h refl in (t, q.0, q.1)
  right_searchable k (Tag m) t h s = let q = h refl in (t, q.0, q.1)
  right_searchable k (Sum e f) t h s = let q = h s in (t, q.0, q.1)
  right_searchable k (Prod e f) t h s = let q = h s in (t, q.0, q.1)
  right_searchable k (Star e) t h s = let q = h s in (t, q.0, q.1)
  right_searchable k (Var j) t h s = tt

  pub all_searchable : (k : ℕ) (ds : List Constraint) → AllByRecursion (λ (c : Constraint). ConstraintFits p (all_vars p) c × (c.interface ≡ i)) ds → list_all is_flat (closed_rights ds) ≡ true → greatest_degree (closed_rights ds) < k → AllByRecursion (IsSearchable k (tags_of p i)) (map sides_of ds)
  all_searchable k [] h flat l = tt
  all_searchable k (c ∷ ds) h flat l =
      ⊎_elim
      (λ t.
      let rights = cond-true (is_closed c.right) (c.right ∷ closed_rights ds) (closed_rights ds) t in
      let both = and_parts (is_flat c.right) (list_all is_flat (closed_rights ds)) (sym (ap (list_all is_flat) rights) ∙ flat) in
      let degree = ap greatest_degree rights in
      (one (λ _. (both.0, omega arith)), all_searchable k ds h.1 both.1 (omega arith)))
      (λ f.
      let rights = cond-false (is_closed c.right) (c.right ∷ closed_rights ds) (closed_rights ds) f in
      let degree = ap greatest_degree rights in
      (one (λ t. let clash : true ≡ false = sym t ∙ f in cc), all_searchable k ds h.1 (sym (ap (list_all is_flat) rights) ∙ flat) (omega arith)))
      (cases_Bool (is_closed c.right))
    where
      one : (is_closed c.right ≡ true → (is_flat c.right ≡ true) × (degree_of c.right < k)) → IsSearchable k (tags_of p i) (sides_of c)
      one shut = record {
        left = within_tags (tags_of p i) (Among vars) c.left (fits_within p i c.left (subst (λ j. PatternFits p (all_vars p) j c.left) h.0.1 h.0.0.left));
        right = right_searchable k c.right (within_tags (tags_of p i) (Among vars) c.right (fits_within p i c.right (subst (λ j. PatternFits p (all_vars p) j c.right) h.0.1 h.0.0.right))) shut h.0.0.simple;
      }
