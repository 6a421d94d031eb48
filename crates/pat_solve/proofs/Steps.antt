-- One interface more.
use Rattle.std.proofs.Common.{◌≡◌, ℕ, zero, suc, ◌+◌, ◌<◌, ◌≤◌, ◌⊎◌, nat_eq, if◌then◌else◌, List, [], ◌∷◌, ◌++◌, length, map, Option, Some, None, Result, Ok, Err, slice_get, refl, sym, ap, ◌∙◌, subst, arith, ⊎_elim, inl, inr}
use Rattle.std.specs.Prelude.{IfOk, IfErr}
use Rattle.std.proofs.lemmas.List.{length-map}
use Rattle.std.proofs.lemmas.Bool.{eq-eqb, ne_eqb}
use Rattle.pat_semantics_spec.specs.Programs.{Program}
use Rattle.pat_inclusion_spec.specs.Values.{VarValue}
use Rattle.pat_inclusion_spec.specs.bounds.LeastGrids.{AreLeastPoints}
use Rattle.pat_derivations.specs.declared.data.VarValue.{VarValue as CodeValue}
use Rattle.pat_derivations.specs.Views.{value_view, var_view, vars_view}
use Rattle.pat_type_schemes_spec.specs.Signatures.{Variable}
use Rattle.pat_infer_spec.specs.Constraints.{Constraint}
use Rattle.pat_infer_spec.specs.Walk.{all_vars}
use Rattle.pat_solve_spec.specs.LowerBounds.{lowers_in}
use Rattle.pat_solve_spec.specs.Assignments.{vars_in}
use Rattle.pat_solve_spec.specs.Derived.{Form, Patterns, Grids}
use Rattle.pat_solve_spec.specs.Answers.{AllUsable, IsConstraint, IsTooLarge, NoneTooLarge, FormIs, value_by, grid_bound, tags_of}
use Rattle.pat_solve_bounds.specs.results.Views.{form_of, forms_of, IsRefusal}
use Rattle.pat_solve_bounds.specs.declared.results.error.SolveError.{SolveError}
use Rattle.pat_solve_bounds.specs.declared.results.error.SolveError.TheVariants as error
use Rattle.pat_solve.specs.interface.Found.{IsShut, AreFormOf, IsFirstUnshown, FormGives}
use Rattle.pat_solve.specs.declared.interface.forms.Unshown.{Unshown}
use Rattle.pat_solve.specs.declared.interface.forms.InterfaceForm.{InterfaceForm}
use Rattle.pat_solve.specs.declared.interface.forms.InterfaceForm.TheVariants.{Solved, TooLarge, Unsolved}
use Rattle.pat_solve.specs.declared.states.Progress.{Progress}
use Rattle.pat_solve.specs.Smallest.{IsBestRefusal}
use Rattle.pat_solve.specs.Steps.{put_lines, IsSolvedMore, MeetsUnshown, IsEarlier, TookIn}
use Rattle.pat_solve.specs.States.{IsFirstOf, FirstIs, AreSolved, Stands}
use Rattle.pat_solve.proofs.Lines.{put_long, put_own, put_other}

-- one of the first, or the last
split_last : (j i : ℕ) → j < i + 1 → (j < i) ⊎ (j ≡ i)
split_last zero zero h = inr refl
split_last zero (suc i) h = inl (omega arith)
split_last (suc j) zero h = absurd (omega (arith, h))
split_last (suc j) (suc i) h = ⊎_elim (λ (l : j < i). inl (omega (arith, l))) (λ (e : j ≡ i). inr (ap suc e)) (split_last j i (omega (arith, h)))

front_same : {A : Type 0} (xs ys : List A) (j : ℕ) → j < length xs → slice_get (xs ++ ys) j ≡ slice_get xs j
front_same [] ys j h = absurd (omega (arith, h))
front_same (x ∷ xs) ys zero h = refl
front_same (x ∷ xs) ys (suc j) h = front_same xs ys j (omega (arith, h))

last_is : {A : Type 0} (xs : List A) (y : A) (j : ℕ) → j ≡ length xs → slice_get (xs ++ y ∷ []) j ≡ Some y
last_is [] y zero h = refl
last_is [] y (suc j) h = absurd (omega (arith, h))
last_is (x ∷ xs) y zero h = absurd (omega (arith, h))
last_is (x ∷ xs) y (suc j) h = last_is xs y j (omega (arith, h))

long_one : {A : Type 0} (xs : List A) (y : A) → length (xs ++ y ∷ []) ≡ length xs + 1
long_one [] y = refl
long_one (x ∷ xs) y = let more = long_one xs y in omega (arith, more)

module _ (p : Program) where
  -- a form speaks of its own interface's points alone
  form_points : (f g : ℕ → ℕ → List (List ℕ)) (j : ℕ) (form : Form) → f j ≡ g j → FormIs p f j form → FormIs p g j form
  form_points f g j Patterns e h = h
  form_points f g j (Grids k) e h = (h.0, h.1, subst (AreLeastPoints (grid_bound p j) (tags_of p j) (lowers_in p j)) e h.2)

  value_points : (f g : ℕ → ℕ → List (List ℕ)) (j k : ℕ) (form : Form) → f j ≡ g j → value_by p f form j k ≡ value_by p g form j k
  value_points f g j k Patterns e = refl
  value_points f g j k (Grids b) e = let same : f j k ≡ g j k = ap (λ (h : ℕ → List (List ℕ)). h k) e in cc

  module _ (i : ℕ) where
    -- ---- an interface whose values are known

    open_shut : (o : Option Unshown) → FirstIs p i o → ((n : ℕ) (c : Constraint) → IsConstraint p n c → c.interface ≡ i → IsShut p n) → FirstIs p (i + 1) o
    open_shut None h shut = λ m c at below. ⊎_elim (λ (l : c.interface < i). h m c at l) (λ (e : c.interface ≡ i). shut m c at e) (split_last c.interface i below)
    open_shut (Some o) h shut = record {
      constraint = h.constraint;
      at = h.at;
      own = let l = h.own in omega (arith, l);
      unshown = h.unshown;
      before = λ m c less at below. ⊎_elim (λ (l : c.interface < i). h.before m c less at l) (λ (e : c.interface ≡ i). shut m c at e) (split_last c.interface i below);
    }

    -- points of one interface more
    abbrev more_points : (ℕ → ℕ → List (List ℕ)) → (ℕ → List (List ℕ)) → ℕ → ℕ → List (List ℕ)
    more_points f own j = if nat_eq j i then own else f j

    points_before : (f : ℕ → ℕ → List (List ℕ)) (own : ℕ → List (List ℕ)) (j : ℕ) → (j ≡ i → ⊥) → f j ≡ more_points f own j
    points_before f own j other = subst (λ b. f j ≡ (if b then own else f j)) (sym (ne_eqb j i other)) refl

    points_here : (f : ℕ → ℕ → List (List ℕ)) (own : ℕ → List (List ℕ)) (j : ℕ) → j ≡ i → own ≡ more_points f own j
    points_here f own j same = subst (λ b. own ≡ (if b then own else f j)) (sym (eq-eqb j i same)) refl

    module _ (s t : Progress) (variables : List ℕ) (bound : Option ℕ) (own : List CodeValue) (vars : variables ≡ vars_in i 1 (all_vars p)) (form : AreFormOf p i bound own) (more : IsSolvedMore i variables s bound own t) (was : AreSolved p i s.bounds s.values) where
      abbrev points : ℕ → ℕ → List (List ℕ)
      points = more_points was.points form.points

      abbrev own_value : ℕ → VarValue
      own_value = value_by p (λ j. form.points) (form_of (Some bound)) i

      bound_before : (j : ℕ) → j < i → forms_of t.bounds j ≡ forms_of s.bounds j
      bound_before j l =
          let count = was.count in
          ap (λ bs. forms_of bs j) more.bounds ∙ ap form_of (front_same s.bounds (bound ∷ []) j (omega (arith, l, count)))

      bound_here : (j : ℕ) → j ≡ i → forms_of t.bounds j ≡ form_of (Some bound)
      bound_here j e =
          let count = was.count in
          ap (λ bs. forms_of bs j) more.bounds ∙ ap form_of (last_is s.bounds bound j (omega (arith, e, count)))

      values_put : vars_view t.values ≡ put_lines i (vars_in i 1 (all_vars p)) (map own_value (vars_in i 1 (all_vars p))) (vars_view s.values)
      values_put =
          let a : length (map value_view own) ≡ length own = length-map own value_view in
          let b : length (map value_view own) ≡ length (map own_value (vars_in i 1 (all_vars p))) = ap length form.values_are in
          let c : length (map own_value (vars_in i 1 (all_vars p))) ≡ length (vars_in i 1 (all_vars p)) = length-map (vars_in i 1 (all_vars p)) own_value in
          let d : length variables ≡ length (vars_in i 1 (all_vars p)) = ap length vars in
          more.values (omega (arith, a, b, c, d))
          ∙ ap (λ ks. put_lines i ks (map value_view own) (vars_view s.values)) vars
          ∙ ap (λ vs. put_lines i (vars_in i 1 (all_vars p)) vs (vars_view s.values)) form.values_are

      all_long : length (vars_view s.values) ≡ length (all_vars p)
      all_long = let a = length-map s.values var_view in let b = was.as_many in omega (arith, a, b)

      filled_more : (k : ℕ) (v : Variable) → slice_get (all_vars p) k ≡ Some v → v.interface < i + 1 → slice_get (vars_view t.values) k ≡ Some (record { interface = v.interface; value = value_by p points (forms_of t.bounds v.interface) v.interface (suc k) })
      filled_more k v at below =
          ⊎_elim
          (λ (l : v.interface < i).
          let other : v.interface ≡ i → ⊥ = λ e. omega (arith, e, l) in
          let value : value_by p was.points (forms_of s.bounds v.interface) v.interface (suc k) ≡ value_by p points (forms_of t.bounds v.interface) v.interface (suc k) =
          ap (λ f. value_by p was.points f v.interface (suc k)) (sym (bound_before v.interface l))
          ∙ value_points was.points points v.interface (suc k) (forms_of t.bounds v.interface) (points_before was.points form.points v.interface other) in
          ap (λ ls. slice_get ls k) values_put
          ∙ put_other i own_value 0 (all_vars p) (vars_view s.values) k k v (omega arith) at other
          ∙ was.filled k v at l
          ∙ ap (λ x. Some (record { interface = v.interface; value = x })) value)
          (λ (e : v.interface ≡ i).
          let value : own_value (suc k) ≡ value_by p points (forms_of t.bounds v.interface) v.interface (suc k) =
          value_points (λ j. form.points) points i (suc k) (form_of (Some bound)) (points_here was.points form.points i refl)
          ∙ ap (λ f. value_by p points f i (suc k)) (sym (bound_here v.interface e))
          ∙ ap (λ j. value_by p points (forms_of t.bounds v.interface) j (suc k)) (sym e) in
          let long = all_long in
          ap (λ ls. slice_get ls k) values_put
          ∙ put_own i own_value 0 (all_vars p) (vars_view s.values) k k v (omega (arith, long)) (omega arith) at e
          ∙ ap (λ x. Some (record { interface = i; value = x })) value
          ∙ ap (λ j. Some (record { interface = j; value = value_by p points (forms_of t.bounds v.interface) v.interface (suc k) })) (sym e))
          (split_last v.interface i below)

      pub solved_more : AreSolved p (i + 1) t.bounds t.values
      solved_more = record {
        points = points;
        count =
            let a : length t.bounds ≡ length (s.bounds ++ bound ∷ []) = ap length more.bounds in
            let b = long_one s.bounds bound in
            let c = was.count in
            omega (arith, a, b, c);
        as_many =
            let a : length (vars_view t.values) ≡ length t.values = length-map t.values var_view in
            let b : length (vars_view t.values) ≡ length (put_lines i (vars_in i 1 (all_vars p)) (map own_value (vars_in i 1 (all_vars p))) (vars_view s.values)) = ap length values_put in
            let c = put_long i own_value (vars_in i 1 (all_vars p)) (vars_view s.values) in
            let d = all_long in
            omega (arith, a, b, c, d);
        forms = λ j below.
            ⊎_elim
            (λ (l : j < i).
            subst (FormIs p points j) (sym (bound_before j l)) (form_points was.points points j (forms_of s.bounds j) (points_before was.points form.points j (λ e. omega (arith, e, l))) (was.forms j l)))
            (λ (e : j ≡ i).
            subst (FormIs p points j) (sym (bound_here j e))
            (subst (λ k. FormIs p points k (form_of (Some bound))) (sym e) (form_points (λ k. form.points) points i (form_of (Some bound)) (points_here was.points form.points i refl) form.form)))
            (split_last j i below);
        inside = λ n c at below searched.
            ⊎_elim (λ (l : c.interface < i). was.inside n c at l searched) (λ (e : c.interface ≡ i). form.inside n c at e searched) (split_last c.interface i below);
        filled = filled_more;
      }

    small_more : (s : NoneTooLarge p i) → (IsTooLarge p i → ⊥) → NoneTooLarge p (i + 1)
    small_more s own = λ j below large. ⊎_elim (λ (l : j < i). s j l large) (λ (e : j ≡ i). own (subst (IsTooLarge p) e large)) (split_last j i below)

    pub solved_stands : (s t : Progress) (variables : List ℕ) (bound : Option ℕ) (own : List CodeValue) → variables ≡ vars_in i 1 (all_vars p) → AreFormOf p i bound own → IsSolvedMore i variables s bound own t → Stands p i s → Stands p (i + 1) t
    solved_stands s t variables bound own vars form more stands = record {
      usable = stands.usable;
      small = small_more stands.small form.small;
      first = subst (FirstIs p (i + 1)) (sym more.first) (open_shut s.first stands.first form.shut);
      solved = λ none. solved_more s t variables bound own vars form more (stands.solved (sym more.first ∙ none));
    }

    -- ---- an interface with a constraint that isn't shown

    own_first : (o : Unshown) → IsFirstUnshown p i o → ((m : ℕ) (c : Constraint) → m < o.constraint → IsConstraint p m c → c.interface < i → IsShut p m) → IsFirstOf p (i + 1) o
    own_first o first shut = record {
      constraint = first.constraint;
      at = first.at;
      own = let e = first.own in omega (arith, e);
      unshown = first.unshown;
      before = λ m c less at below. ⊎_elim (λ (l : c.interface < i). shut m c less at l) (λ (e : c.interface ≡ i). first.before m c less at e) (split_last c.interface i below);
    }

    open_first : (before : Option Unshown) (o : Unshown) (now : Option Unshown) → IsFirstUnshown p i o → FirstIs p i before → IsEarlier before o now → (r : Unshown) × (now ≡ Some r) × IsFirstOf p (i + 1) r
    open_first None o now first was earlier = (o, earlier, own_first o first (λ m c less at l. was m c at l))
    open_first (Some b) o now first was earlier =
        ⊎_elim
        (λ (w : (b.constraint < o.constraint) × (now ≡ Some b)).
        let lower = w.0 in
        let r : IsFirstOf p (i + 1) b = record {
          constraint = was.constraint;
          at = was.at;
          own = let l = was.own in omega (arith, l);
          unshown = was.unshown;
          before = λ m c less at below. ⊎_elim (λ (l : c.interface < i). was.before m c less at l) (λ (e : c.interface ≡ i). first.before m c (omega (arith, less, lower)) at e) (split_last c.interface i below);
        } in
        (b, w.1, r))
        (λ (w : (o.constraint ≤ b.constraint) × (now ≡ Some o)).
        let lower = w.0 in (o, w.1, own_first o first (λ m c less at l. was.before m c (omega (arith, less, lower)) at l)))
        earlier

    pub opened_stands : (s t : Progress) (o : Unshown) → IsFirstUnshown p i o → MeetsUnshown s o t → Stands p i s → Stands p (i + 1) t
    opened_stands s t o first more stands =
        let found = open_first s.first o t.first first stands.first more.first in
        record {
          usable = stands.usable;
          small = small_more stands.small first.small;
          first = subst (FirstIs p (i + 1)) (sym found.1) found.2;
          solved = λ none. let clash : None ≡ Some found.0 = sym none ∙ found.1 in absurd cc;
        }

    -- ---- one interface more

    pub step_stands : (s : Progress) (variables : List ℕ) (form : InterfaceForm) (r : Result Progress SolveError) → variables ≡ vars_in i 1 (all_vars p) → FormGives p i form → TookIn i variables s form r → Stands p i s → IfOk r (Stands p (i + 1))
    step_stands s variables form (Err e) vars found took stands = tt
    step_stands s variables (Solved bound own) (Ok t) vars found took stands = solved_stands s t variables bound own vars found took stands
    step_stands s variables TooLarge (Ok t) vars found took stands = absurd took
    step_stands s variables (Unsolved o) (Ok t) vars found took stands = opened_stands s t o found took stands

    large_refusal : (j : ℕ) → j ≡ i → IsTooLarge p i → i < length p.interfaces → AllUsable p → NoneTooLarge p i → IsRefusal p (error.TooLarge j)
    large_refusal j same large there usable small =
        subst (λ k. IsRefusal p (error.TooLarge k)) (sym same) (usable, there, large, small)

    pub step_refusal : (s : Progress) (variables : List ℕ) (form : InterfaceForm) (r : Result Progress SolveError) → i < length p.interfaces → FormGives p i form → TookIn i variables s form r → Stands p i s → IfErr r (IsBestRefusal p)
    step_refusal s variables form (Ok t) there found took stands = tt
    step_refusal s variables (Solved bound own) (Err e) there found took stands = subst (IsBestRefusal p) (sym took) tt
    step_refusal s variables TooLarge (Err (error.TooLarge j)) there found took stands = large_refusal j took found there stands.usable stands.small
    step_refusal s variables TooLarge (Err error.NoMemory) there found took stands = tt
    step_refusal s variables TooLarge (Err (error.Unusable k)) there found took stands = absurd took
    step_refusal s variables TooLarge (Err (error.Refuted n r)) there found took stands = absurd took
    step_refusal s variables TooLarge (Err (error.Undecided n)) there found took stands = absurd took
    step_refusal s variables (Unsolved o) (Err e) there found took stands = subst (IsBestRefusal p) (sym took) tt
