-- Where the values of an interface are the least grids, the grid certificate of each of its constraints shows.
use Rattle.std.proofs.Common.{◌≡◌, ℕ, ◌≤◌, ◌<◌, true, ◌&&◌, nat_eq, List, [], ◌∷◌, Some, ◌⊎◌, inl, inr, ⊎_elim, refl, sym, ap, ap₂, ◌∙◌, subst, arith}
use Rattle.std.specs.Prelude.{map, nat_lt}
use Rattle.std.specs.List.{AllByRecursion, list_all}
use Rattle.std.proofs.lemmas.Bool.{and_parts, and_from, cond_both, cond-true, eq-eqb, eqb-true, lt-ltb}
use Rattle.pat_words_spec.specs.Words.{Word}
use Rattle.pat_words_spec.specs.Flats.{is_flat, degree_of}
use Rattle.pat_words_spec.specs.Patterns.{Pat, Zero, One, Tag, Sum, Prod, Star, Var, In, Included, is_closed, sum_of, prod_of, star_of, subst_of}
use Rattle.pat_semantics_spec.specs.Programs.{Program}
use Rattle.pat_semantics_spec.specs.Faults.{IsIn}
use Rattle.pat_semantics_spec.specs.WellFormed.{WellFormed}
use Rattle.pat_semantics_laws.proofs.Lists.{is_in_all}
use Rattle.pat_inclusion_spec.specs.CutWords.{cuts_lie}
use Rattle.pat_inclusion_spec.specs.Points.{grid_fits, points_pattern}
use Rattle.pat_inclusion_spec.specs.Values.{GridForm, VarLine, Scope, values_fit, var_at, line_pattern, pattern_of}
use Rattle.pat_inclusion_spec.specs.Certificates.{has_bound, is_large_enough, grid_shows}
use Rattle.pat_inclusion_laws.proofs.LawParts.{grid_law}
use Rattle.pat_inclusion_laws.proofs.Shown.{closed_from}
use Rattle.pat_inclusion_spec.specs.bounds.Assignments as bounds
use Rattle.pat_inclusion_spec.specs.bounds.Assignments.{right_pattern}
use Rattle.pat_inclusion_spec.specs.bounds.Searches.{IsInside}
use Rattle.pat_inclusion_spec.specs.bounds.LeastGrids.{AreLeastPoints, RightFits, FitGrid}
use Rattle.pat_inclusion_laws.specs.bounds.Laws.{GridSolvesLaw}
use Rattle.pat_type_schemes_spec.specs.Signatures.{Variable}
use Rattle.pat_infer_spec.specs.Constraints.{Constraint}
use Rattle.pat_infer_spec.specs.Walk.{inferred, all_vars}
use Rattle.pat_infer_spec.specs.Shapes.{PatternFits, ConstraintFits, is_simple, IsNumber}
use Rattle.pat_derivation_spec.specs.Derivations.{Derivation}
use Rattle.pat_solve_spec.specs.LowerBounds.{right_side, sides_of, lowers_in, constraints_in}
use Rattle.pat_solve_spec.specs.Assignments.{vars_in, closed_rights, greatest_degree}
use Rattle.pat_solve_spec.specs.Derived.{derivation_with, no_certs, scope_by}
use Rattle.pat_solve_spec.specs.Answers.{tags_of, constraints_of, grid_bound, IsInBounds}
use Rattle.pat_solve_laws.proofs.Closed.{Among, within_tags, fits_within}
use Rattle.pat_solve_laws.proofs.Formed.{formed_fits}

-- ---- right sides

degree_least : (f : Pat) (es : List Pat) → IsIn f es → degree_of f ≤ greatest_degree es
degree_least f [] h = absurd h
degree_least f (e ∷ es) h =
    ⊎_elim
    (λ l. let same : degree_of e ≡ degree_of f = ap degree_of l in omega arith)
    (λ r. let deeper = degree_least f es r in omega arith)
    h

flat_in : (f : Pat) (es : List Pat) → IsIn f es → list_all is_flat es ≡ true → is_flat f ≡ true
flat_in f [] h a = absurd h
flat_in f (e ∷ es) h a =
    let q = and_parts (is_flat e) (list_all is_flat es) a in
    ⊎_elim (λ l. subst (λ g. is_flat g ≡ true) l q.0) (λ r. flat_in f es r q.1) h

right_in : (c : Constraint) (ds : List Constraint) → IsIn c ds → is_closed c.right ≡ true → IsIn c.right (closed_rights ds)
right_in c [] h closed = absurd h
right_in c (d ∷ ds) h closed =
    ⊎_elim
    (λ l.
    let shut : is_closed d.right ≡ true = subst (λ (x : Constraint). is_closed x.right ≡ true) (sym l) closed in
    subst (IsIn c.right) (sym (cond-true (is_closed d.right) (d.right ∷ closed_rights ds) (closed_rights ds) shut))
    (inl (ap (λ (x : Constraint). x.right) l)))
    (λ r.
    let later = right_in c ds r closed in
    cond_both (is_closed d.right) (d.right ∷ closed_rights ds) (closed_rights ds) (IsIn c.right) (λ _. inr later) (λ _. later))
    h

pub simple_right : (f : Pat) → is_simple f ≡ true → ((k : ℕ) × (f ≡ Var k)) ⊎ (is_closed f ≡ true)
simple_right Zero h = inr h
simple_right One h = inr h
simple_right (Tag m) h = inr h
simple_right (Sum e f) h = inr h
simple_right (Prod e f) h = inr h
simple_right (Star e) h = inr h
simple_right (Var k) h = inl (k, refl)

large_closed : (s : Scope) (k : ℕ) (f : Pat) → is_closed f ≡ true → (is_flat f && nat_lt (degree_of f) k) ≡ true → is_large_enough s k f ≡ true
large_closed s k Zero c h = h
large_closed s k One c h = h
large_closed s k (Tag m) c h = h
large_closed s k (Sum e f) c h = h
large_closed s k (Prod e f) c h = h
large_closed s k (Star e) c h = h
large_closed s k (Var m) c h = cc

-- ---- the constraints of an interface

in_own : (i : ℕ) (c : Constraint) (cs : List Constraint) → IsIn c cs → c.interface ≡ i → IsIn c (constraints_in i cs)
in_own i c [] h same = absurd h
in_own i c (d ∷ cs) h same =
    ⊎_elim
    (λ l.
    let of : nat_eq d.interface i ≡ true = eq-eqb d.interface i (ap (λ (x : Constraint). x.interface) l ∙ same) in
    subst (IsIn c) (sym (cond-true (nat_eq d.interface i) (d ∷ constraints_in i cs) (constraints_in i cs) of)) (inl l))
    (λ r.
    let later = in_own i c cs r same in
    cond_both (nat_eq d.interface i) (d ∷ constraints_in i cs) (constraints_in i cs) (IsIn c) (λ _. inr later) (λ _. later))
    h

own_in : (i : ℕ) (c : Constraint) (cs : List Constraint) → IsIn c (constraints_in i cs) → IsIn c cs × (c.interface ≡ i)
own_in i c [] h = absurd h
own_in i c (d ∷ cs) h =
    cond_both (nat_eq d.interface i) (d ∷ constraints_in i cs) (constraints_in i cs) (λ xs. IsIn c xs → IsIn c (d ∷ cs) × (c.interface ≡ i))
    (λ e k. ⊎_elim
    (λ l. (inl l, sym (ap (λ (x : Constraint). x.interface) l) ∙ eqb-true d.interface i e))
    (λ r. let q = own_in i c cs r in (inr q.0, q.1))
    k)
    (λ _ k. let q = own_in i c cs k in (inr q.0, q.1))
    h

-- what holds of the sides of each constraint of a list holds of each of their sides
all_sides : (F : bounds.Constraint → Type 0) (ds : List Constraint) → ((d : Constraint) → IsIn d ds → F (sides_of d)) → AllByRecursion F (map sides_of ds)
all_sides F [] f = tt
all_sides F (d ∷ ds) f = (f d (inl refl), all_sides F ds (λ e i. f e (inr i)))

one_side : (F : bounds.Constraint → Type 0) (c : Constraint) (ds : List Constraint) → IsIn c ds → AllByRecursion F (map sides_of ds) → F (sides_of c)
one_side F c [] h all = absurd h
one_side F c (d ∷ ds) h all =
    ⊎_elim (λ l. subst (λ (x : Constraint). F (sides_of x)) l all.0) (λ r. one_side F c ds r all.1) h

module _ (grids : GridSolvesLaw) (p : Program) (wf : WellFormed p) (vars : List VarLine) (fits : AllByRecursion (ConstraintFits p (all_vars p)) (inferred p).constraints) (interfaces : map (λ (v : VarLine). v.interface) vars ≡ map (λ (v : Variable). v.interface) (all_vars p)) (values : values_fit (scope_by p vars) ≡ true) (i : ℕ) (points : ℕ → List (List ℕ)) (at : (k : ℕ) (v : Variable) → IsNumber (all_vars p) k v → v.interface ≡ i → var_at vars k ≡ Some (record { interface = i; value = GridForm (grid_bound p i) (points k) })) (bounded : IsInBounds p i) (least : AreLeastPoints (grid_bound p i) (tags_of p i) (lowers_in p i) points) (inside : (d : Constraint) → IsIn d (inferred p).constraints → d.interface ≡ i → is_closed d.right ≡ true → IsInside (lowers_in p i) d.left d.right) where
  abbrev s : Scope
  s = scope_by p vars

  abbrev k : ℕ
  k = grid_bound p i

  abbrev n : ℕ
  n = tags_of p i

  abbrev cs : List Constraint
  cs = constraints_of p i

  abbrev patterns : ℕ → Pat
  patterns j = points_pattern (grid_bound p i) (tags_of p i) (points j)

  of_all : (d : Constraint) → IsIn d (inferred p).constraints → d.interface ≡ i → PatternFits p (all_vars p) i d.left × PatternFits p (all_vars p) i d.right × (is_simple d.right ≡ true)
  of_all d h same =
      let f = is_in_all (ConstraintFits p (all_vars p)) (inferred p).constraints d fits h in
      (subst (λ j. PatternFits p (all_vars p) j d.left) same f.left, subst (λ j. PatternFits p (all_vars p) j d.right) same f.right, f.simple)

  bounds_are : (list_all is_flat (closed_rights cs) ≡ true) × (grid_fits k n ≡ true)
  bounds_are = and_parts (list_all is_flat (closed_rights cs)) (grid_fits k n) bounded

  some : 1 ≤ k
  some = omega arith

  flat_below : (d : Constraint) → IsIn d cs → is_closed d.right ≡ true → (is_flat d.right ≡ true) × (degree_of d.right < k)
  flat_below d h closed =
      let there = right_in d cs h closed in
      let degree = degree_least d.right (closed_rights cs) there in
      (flat_in d.right (closed_rights cs) there bounds_are.0, omega arith)

  -- each constraint of the interface is one that least grids solve
  right_fits : (d : Constraint) (f : Pat) → (is_closed f ≡ true → (is_flat f ≡ true) × (degree_of f < k) × IsInside (lowers_in p i) d.left f) → is_simple f ≡ true → RightFits k (lowers_in p i) d.left (right_side f)
  right_fits d (Var j) g h = tt
  right_fits d Zero g h = g h
  right_fits d One g h = g h
  right_fits d (Tag m) g h = g h
  right_fits d (Sum e f) g h = g h
  right_fits d (Prod e f) g h = g h
  right_fits d (Star e) g h = g h

  fit_grid : FitGrid k n (map sides_of cs)
  fit_grid = all_sides _ cs (λ d h.
      let own = own_in i d (inferred p).constraints h in
      let f = of_all d own.0 own.1 in (
        within_tags n (Among (vars_in i 1 (all_vars p))) d.left (fits_within p i d.left f.0),
        right_fits d d.right (λ closed. let b = flat_below d h closed in (b.0, b.1, inside d own.0 own.1 closed)) f.2,
      ))

  -- the values are the grids
  same_under : (e : Pat) → PatternFits p (all_vars p) i e → subst_of patterns e ≡ subst_of (pattern_of s) e
  same_under Zero f = refl
  same_under One f = refl
  same_under (Tag m) f = refl
  same_under (Sum e g) f = ap₂ sum_of (same_under e f.0) (same_under g f.1)
  same_under (Prod e g) f = ap₂ prod_of (same_under e f.0) (same_under g f.1)
  same_under (Star e) f = ap star_of (same_under e f)
  same_under (Var j) f = sym (ap (line_pattern s.tags) (at j f.0 f.1 f.2))

  module _ (c : Constraint) (here : IsIn c (inferred p).constraints) (of : c.interface ≡ i) where
    right_to : (w : Word) → In (right_pattern patterns (right_side c.right)) w → In (subst_of (pattern_of s) c.right) w
    right_to w h = go c.right ((of_all c here of).1) ((of_all c here of).2) h
      where
        go : (f : Pat) → PatternFits p (all_vars p) i f → is_simple f ≡ true → In (right_pattern patterns (right_side f)) w → In (subst_of (pattern_of s) f) w
        go (Var j) f simple h = subst (λ e. In e w) (same_under (Var j) f) h
        go Zero f simple h = closed_from s Zero simple w h
        go One f simple h = closed_from s One simple w h
        go (Tag m) f simple h = closed_from s (Tag m) simple w h
        go (Sum e g) f simple h = closed_from s (Sum e g) simple w h
        go (Prod e g) f simple h = closed_from s (Prod e g) simple w h
        go (Star e) f simple h = closed_from s (Star e) simple w h

    included : Included (subst_of (pattern_of s) c.left) (subst_of (pattern_of s) c.right)
    included w h =
        let solved = grids k n points (map sides_of cs) least fit_grid in
        right_to w
        (one_side (λ d. Included (subst_of patterns d.left) (right_pattern patterns d.right)) c cs (in_own i c (inferred p).constraints here of) solved w
        (subst (λ e. In e w) (sym (same_under c.left (of_all c here of).0)) h))

    large : is_large_enough s k c.right ≡ true
    large = ⊎_elim var_large closed_large (simple_right c.right (of_all c here of).2)
      where
        var_large : (j : ℕ) × (c.right ≡ Var j) → is_large_enough s k c.right ≡ true
        var_large (j, is) =
            let f : PatternFits p (all_vars p) i (Var j) = subst (PatternFits p (all_vars p) i) is (of_all c here of).1 in
            subst (λ e. is_large_enough s k e ≡ true) (sym is) (ap (has_bound k) (at j f.0 f.1 f.2) ∙ eq-eqb k k refl)

        closed_large : is_closed c.right ≡ true → is_large_enough s k c.right ≡ true
        closed_large shut =
            let b = flat_below c (in_own i c (inferred p).constraints here of) shut in
            large_closed s k c.right shut (and_from (is_flat c.right) (nat_lt (degree_of c.right) k) b.0 (lt-ltb (degree_of c.right) k b.1))

    pub shows_grid : grid_shows s k n c.left c.right ≡ true
    shows_grid =
        let d : Derivation = derivation_with p vars no_certs in
        let left = formed_fits p wf d interfaces i c.left (of_all c here of).0 in
        let right = formed_fits p wf d interfaces i c.right (of_all c here of).1 in
        and_from (grid_fits k n) (is_large_enough s k c.right && cuts_lie k n (subst_of (pattern_of s) c.left) (subst_of (pattern_of s) c.right)) bounds_are.1
        (and_from (is_large_enough s k c.right) (cuts_lie k n (subst_of (pattern_of s) c.left) (subst_of (pattern_of s) c.right)) large
        ((grid_law s k i c.left c.right values left right some large).1 included))
