-- What is found of a problem is so of its program.
use Rattle.std.proofs.Common.{◌≡◌, ℕ, zero, suc, ◌+◌, ◌<◌, ◌≤◌, ⊎_elim, Bool, true, false, List, [], ◌∷◌, ◌++◌, length, length-append, map, Option, Some, None, option_map, refl, sym, ap, ◌∙◌, subst, arith}
use Rattle.std.specs.Prelude.{slice_get}
use Rattle.std.specs.List.{AllByRecursion}
use Rattle.std.proofs.lemmas.Bool.{cases_Bool}
use Rattle.std.proofs.lemmas.List.{length-map}
use Rattle.std.proofs.lemmas.Option.{slice_get-map, slice_get_within, slice_get_cases}
use Rattle.pat_words_spec.specs.Words.{Word}
use Rattle.pat_words_spec.specs.Patterns.{Pat, Zero, One, Tag, Sum, Prod, Star, Var}
use Rattle.pat_semantics_spec.specs.Programs.{Sending}
use Rattle.pat_inclusion_spec.specs.bounds.Trees.{derivable}
use Rattle.pat_inclusion_spec.specs.bounds.Assignments.{VarRight, Constraint, lower_of}
use Rattle.pat_type_schemes_spec.specs.Signatures.{Variable, signature_vars}
use Rattle.pat_infer_spec.specs.Constraints as found
use Rattle.pat_infer_spec.specs.Shapes.{PatternFits, ConstraintFits}
use Rattle.pat_infer_spec.specs.Walk.{inferred, all_vars}
use Rattle.pat_solve_spec.specs.LowerBounds as solving
use Rattle.pat_solve_spec.specs.LowerBounds.{right_side, lowers_of}
use Rattle.pat_solve_spec.specs.Answers.{IsUnusable, AllUsable}
use Rattle.pat_core.specs.declared.program.Function.{Function}
use Rattle.pat_core.specs.declared.program.Program.{Program}
use Rattle.pat_core.specs.Views.{program_view, function_view}
use Rattle.pat_infer_problems.specs.declared.problem.Problem.{Problem}
use Rattle.pat_infer_problems.specs.declared.problem.Constraint.{Constraint as CodeConstraint}
use Rattle.pat_infer_problems.specs.declared.problem.VarDecl.{VarDecl}
use Rattle.pat_infer_problems.specs.Views.{PlacedVariable, placed_variable, placed_variable_of}
use Rattle.pat_infer_problems.specs.Problems.{IsProblemOf}
use Rattle.pat_solve_bounds.specs.productive.Flags.{flag_of}
use Rattle.pat_solve_bounds.specs.lower_bounds.Sides.{sides_list}
use Rattle.pat_solve_bounds.proofs.Ties.{sides_same}
use Rattle.pat_solve_bounds.specs.productive.Rights.{RightsBelow}
use Rattle.pat_solve_bounds.specs.productive.Counts.{omitted_by_all}
use Rattle.pat_solve_bounds.specs.productive.Found.{IsSender, IsOpen, IsFirstOpen, NoneOpen}
use Rattle.pat_solve_bounds.proofs.Counted.{signatures_counted}

-- ---- constraints

vars_many : (p : Program) (q : Problem) → IsProblemOf p q → length q.vars ≡ length (all_vars (program_view p))
vars_many p q is =
    sym (length-map q.vars placed_variable_of) ∙ ap length is.vars ∙ length-map (all_vars (program_view p)) (placed_variable p)

right_variable : (f : Pat) (k : ℕ) → right_side f ≡ VarRight k → f ≡ Var k
right_variable Zero k e = cc
right_variable One k e = cc
right_variable (Tag m) k e = cc
right_variable (Sum a b) k e = cc
right_variable (Prod a b) k e = cc
right_variable (Star a) k e = cc
right_variable (Var j) k e = let same : j ≡ k = cc in ap Var same

module _ (p : Program) (vars : List Variable) where
  rights_fit : (cs : List found.Constraint) → AllByRecursion (ConstraintFits (program_view p) vars) cs → RightsBelow (length vars + 1) (map solving.sides_of cs)
  rights_fit [] fits n k c at r = cc
  rights_fit (d ∷ ds) fits zero k c at r =
      let same : solving.sides_of d ≡ c = cc in
      let var = right_variable d.right k (ap (λ (x : Constraint). x.right) same ∙ r) in
      let number = (subst (PatternFits (program_view p) vars d.interface) var fits.0.right).1 in
      let within = slice_get_within vars number.0 _ number.2 in
      let is = number.1 in
      omega arith
  rights_fit (d ∷ ds) fits (suc n) k c at r = rights_fit ds fits.1 n k c at r

pub rights_below : (p : Program) (q : Problem) (vs : List VarDecl) (cs : List CodeConstraint) → IsProblemOf p q → AllByRecursion (ConstraintFits (program_view p) (all_vars (program_view p))) (inferred (program_view p)).constraints → vs ≡ q.vars → cs ≡ q.constraints → RightsBelow (length vs + 1) (sides_list cs)
rights_below p q vs cs is fits e f =
    subst (λ m. RightsBelow m (sides_list cs)) (ap (λ m. m + 1) (sym (ap length e ∙ vars_many p q is)))
    (subst (RightsBelow (length (all_vars (program_view p)) + 1)) (sym (ap sides_list f ∙ sides_same p q is))
    (rights_fit p (all_vars (program_view p)) (inferred (program_view p)).constraints fits))

-- ---- variables

pub count_within : (p : Program) (q : Problem) (vs : List VarDecl) (fs : List Function) → IsProblemOf p q → vs ≡ q.vars → fs ≡ p.functions → omitted_by_all (map function_view fs) ≤ length vs
count_within p q vs fs is e f =
    let v = program_view p in
    let vars = ap length e in
    let functions = ap (λ gs. omitted_by_all (map function_view gs)) f in
    let many = vars_many p q is in
    let all = length-append (signature_vars v) (inferred v).vars in
    let own = signatures_counted v in
    omega arith

front : (xs ys : List Variable) (i : ℕ) (v : Variable) → slice_get xs i ≡ Some v → slice_get (xs ++ ys) i ≡ Some v
front [] ys i v h = cc
front (x ∷ xs) ys zero v h = h
front (x ∷ xs) ys (suc i) v h = front xs ys i v h

sender_to : (p : Program) (o : Option VarDecl) (v : Variable) → option_map placed_variable_of o ≡ Some (placed_variable p v) → IsSender o → v.polarity ≡ Sending
sender_to p None v e h = absurd h
sender_to p (Some d) v e h =
    let same : placed_variable_of d ≡ placed_variable p v = cc in
    sym (ap (λ (x : PlacedVariable). x.polarity) same) ∙ h

sender_from : (p : Program) (o : Option VarDecl) (v : Variable) → option_map placed_variable_of o ≡ Some (placed_variable p v) → v.polarity ≡ Sending → IsSender o
sender_from p None v e h = cc
sender_from p (Some d) v e h =
    let same : placed_variable_of d ≡ placed_variable p v = cc in
    ap (λ (x : PlacedVariable). x.polarity) same ∙ h

module _ (p : Program) (q : Problem) (flags : List Bool) (is : IsProblemOf p q) (exact : (k : ℕ) → (flag_of flags k ≡ true → (w : Word) × derivable (lower_of (sides_list q.constraints)) k w) × (((w : Word) × derivable (lower_of (sides_list q.constraints)) k w) → flag_of flags k ≡ true)) where
  at_place : (j : ℕ) (v : Variable) → slice_get (signature_vars (program_view p)) j ≡ Some v → option_map placed_variable_of (slice_get q.vars j) ≡ Some (placed_variable p v)
  at_place j v h =
      let view = program_view p in
      sym (slice_get-map placed_variable_of q.vars j)
      ∙ ap (λ vs. slice_get vs j) is.vars
      ∙ slice_get-map (placed_variable p) (all_vars view) j
      ∙ ap (option_map (placed_variable p)) (front (signature_vars view) (inferred view).vars j v h)

  flag_derivable : (k : ℕ) → flag_of flags k ≡ true → (w : Word) × derivable (lowers_of (program_view p)) k w
  flag_derivable k h =
      subst (λ cs. (w : Word) × derivable (lower_of cs) k w) (sides_same p q is) ((exact k).0 h)

  derivable_flag : (k : ℕ) (w : Word) → derivable (lowers_of (program_view p)) k w → flag_of flags k ≡ true
  derivable_flag k w h =
      (exact k).1 (subst (λ cs. (w : Word) × derivable (lower_of cs) k w) (sym (sides_same p q is)) (w, h))

  none_both : (k : ℕ) → flag_of flags k ≡ false → flag_of flags k ≡ true → ⊥
  none_both k f t = let clash : true ≡ false = sym t ∙ f in cc

  -- a variable that is open is unusable, and the other way round
  open_unusable : (j : ℕ) (v : Variable) → slice_get (signature_vars (program_view p)) j ≡ Some v → IsOpen q.vars flags j → IsUnusable (program_view p) (suc j)
  open_unusable j v at o = record {
    variable = v;
    number = (j, refl, at);
    sending = sender_to p (slice_get q.vars j) v (at_place j v at) o.0;
    none = λ w h. none_both (suc j) o.1 (derivable_flag (suc j) w h);
  }

  unusable_open : (k : ℕ) → IsUnusable (program_view p) k → (j : ℕ) × (k ≡ suc j) × (j < length (signature_vars (program_view p))) × IsOpen q.vars flags j
  unusable_open k u =
      let j = u.number.0 in (
        j,
        u.number.1,
        slice_get_within (signature_vars (program_view p)) j u.variable u.number.2,
        (
          sender_from p (slice_get q.vars j) u.variable (at_place j u.variable u.number.2) u.sending,
          ⊎_elim
              (λ t. let found = flag_derivable (suc j) t in absurd (u.none found.0 (subst (λ i. derivable (lowers_of (program_view p)) i found.0) (sym u.number.1) found.1)))
              (λ f. f)
              (cases_Bool (flag_of flags (suc j))),
        ),
      )

  counted : (count : ℕ) → count ≡ omitted_by_all (map function_view p.functions) → length (signature_vars (program_view p)) ≡ count
  counted count e = signatures_counted (program_view p) ∙ sym e

  variable_at : (j count : ℕ) → count ≡ omitted_by_all (map function_view p.functions) → j < count → (v : Variable) × (slice_get (signature_vars (program_view p)) j ≡ Some v)
  variable_at j count e l =
      let many = counted count e in
      ⊎_elim (λ h. (h.0, h.2)) (λ h. let past = h.0 in absurd (omega arith)) (slice_get_cases (signature_vars (program_view p)) j).1

  pub first_is : (count place number : ℕ) → count ≡ omitted_by_all (map function_view p.functions) → IsFirstOpen q.vars flags count place → number ≡ place + 1 → IsUnusable (program_view p) number × ((j : ℕ) → j < number → IsUnusable (program_view p) j → ⊥)
  first_is count place number e first n =
      let v = variable_at place count e first.0 in
      let same : suc place ≡ number = omega (arith, n) in (
        subst (IsUnusable (program_view p)) same (open_unusable place v.0 v.1 first.1),
        λ j l u.
            let o = unusable_open j u in
            let is_j = o.1 in
            first.2 o.0 (omega arith) o.3,
      )

  pub all_are : (count : ℕ) → count ≡ omitted_by_all (map function_view p.functions) → NoneOpen q.vars flags count → AllUsable (program_view p)
  all_are count e none k v number sending =
      let j = number.0 in
      let many = counted count e in
      let within = slice_get_within (signature_vars (program_view p)) j v number.2 in
      let found = flag_derivable (suc j) (⊎_elim (λ t. t)
      (λ f. absurd (none j (omega arith) (sender_from p (slice_get q.vars j) v (at_place j v number.2) sending, f)))
      (cases_Bool (flag_of flags (suc j)))) in
      (found.0, subst (λ i. derivable (lowers_of (program_view p)) i found.0) (sym number.1) found.1)

-- ---- by slices

module _ (p : Program) (q : Problem) (is : IsProblemOf p q) (vs : List VarDecl) (cs : List CodeConstraint) (fs : List Function) (flags slice : List Bool) (count : ℕ) (e : vs ≡ q.vars) (f : cs ≡ q.constraints) (g : fs ≡ p.functions) (h : slice ≡ flags) (exact : (k : ℕ) → (flag_of flags k ≡ true → (w : Word) × derivable (lower_of (sides_list cs)) k w) × (((w : Word) × derivable (lower_of (sides_list cs)) k w) → flag_of flags k ≡ true)) (counts : count ≡ omitted_by_all (map function_view fs)) where
  exactly : (k : ℕ) → (flag_of flags k ≡ true → (w : Word) × derivable (lower_of (sides_list q.constraints)) k w) × (((w : Word) × derivable (lower_of (sides_list q.constraints)) k w) → flag_of flags k ≡ true)
  exactly = subst (λ ds. (k : ℕ) → (flag_of flags k ≡ true → (w : Word) × derivable (lower_of (sides_list ds)) k w) × (((w : Word) × derivable (lower_of (sides_list ds)) k w) → flag_of flags k ≡ true)) f exact

  counted_by : count ≡ omitted_by_all (map function_view p.functions)
  counted_by = counts ∙ ap (λ gs. omitted_by_all (map function_view gs)) g

  pub some_right : (place number : ℕ) → IsFirstOpen vs slice count place → number ≡ place + 1 → IsUnusable (program_view p) number × ((j : ℕ) → j < number → IsUnusable (program_view p) j → ⊥)
  some_right place number first n =
      first_is p q flags is exactly count place number counted_by
      (subst (λ bs. IsFirstOpen q.vars bs count place) h (subst (λ us. IsFirstOpen us slice count place) e first))
      n

  pub none_right : NoneOpen vs slice count → AllUsable (program_view p)
  none_right none =
      all_are p q flags is exactly count counted_by
      (subst (λ bs. NoneOpen q.vars bs count) h (subst (λ us. NoneOpen us slice count) e none))
