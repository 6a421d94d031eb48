-- What is solved: its values show all constraints, so it is a valid derivation; and just typable programs are solved.
use Rattle.std.proofs.Common.{◌≡◌, ℕ, zero, suc, ◌+◌, ◌<◌, Bool, true, false, ◌&&◌, List, [], ◌∷◌, length, Some, None, inl, inr, ⊎_elim, refl, sym, ap, ap₂, ◌∙◌, subst, arith}
use Rattle.std.specs.Prelude.{map, slice_get, nat_lt, Option}
use Rattle.std.specs.List.{AllByRecursion, list_all}
use Rattle.std.proofs.lemmas.Bool.{and_from, lt-ltb}
use Rattle.pat_words_spec.specs.Words.{Word}
use Rattle.pat_words_spec.specs.Patterns.{Pat, Zero, One, Tag, Sum, Prod, Star, Var, In, is_closed, sum_of, prod_of, star_of, subst_of}
use Rattle.pat_words_spec.specs.Tags.{tags_below}
use Rattle.pat_semantics_spec.specs.Programs.{Program, Polarity, Sending, Receiving, Interface}
use Rattle.pat_semantics_spec.specs.Faults.{IsIn}
use Rattle.pat_semantics_spec.specs.WellFormed.{WellFormed, InterfaceFits}
use Rattle.pat_semantics_laws.proofs.Lists.{all_at}
use Rattle.pat_type_system_spec.specs.Typings.{HasWord, IsTypable}
use Rattle.pat_inclusion_spec.specs.Points.{points_fit}
use Rattle.pat_inclusion_spec.specs.Values.{VarLine, Scope, var_at, line_pattern, pattern_of, value_fits, values_fit}
use Rattle.pat_inclusion_laws.specs.bounds.Laws.{GridSolvesLaw}
use Rattle.pat_type_schemes_spec.specs.Signatures.{Variable, signature_vars}
use Rattle.pat_derivation_spec.specs.Derivations.{tag_count}
use Rattle.pat_infer_spec.specs.Constraints.{Constraint}
use Rattle.pat_infer_spec.specs.Walk.{inferred, all_vars}
use Rattle.pat_infer_spec.specs.Solutions.{IsPatternSolution, SendersHaveWords}
use Rattle.pat_infer_spec.specs.Shapes.{PatternFits, ConstraintFits, IsNumber}
use Rattle.pat_solve_spec.specs.Assignments.{value_in, assignment_fits, vars_in}
use Rattle.pat_solve_spec.specs.Derived.{Form, Patterns, Grids, HasForm, IsCovered, SidesShown, ConstraintShown, ValuesShow, scope_by}
use Rattle.pat_solve_spec.specs.Answers.{Answer, Unusable, TooLarge, Refuted, Undecided, Solved, tags_of, constraints_of, values_of, IsSmall, IsConstraint, HasGrids, IsUndecided, FormIs, value_by, values_from, solution, IsRight}
use Rattle.pat_solve_spec.specs.Laws.{AreThere, is_solved, UndecidedSays, SolvedShows, SolvedIsValid, SolvedExactly}
use Rattle.pat_solve_laws.proofs.Known.{Known}
use Rattle.pat_solve_laws.proofs.Values.{solve_by}
use Rattle.pat_solve_laws.proofs.Apart.{apart_from}
use Rattle.pat_solve_laws.proofs.Untypable.{derivable_in, refuted_untypable, large_untypable}
use Rattle.pat_solve_laws.proofs.Closed.{within_closed, within_tags, Nowhere, values_within}
use Rattle.pat_solve_laws.proofs.Grids.{shows_grid}
use Rattle.pat_solve_laws.proofs.InterfacesThere.{interfaces_there}
use Rattle.pat_solve_laws.proofs.Alike.{derived_valid, shown_typable}

in_at : {A : Type 0} (xs : List A) (x : A) → IsIn x xs → (n : ℕ) × (slice_get xs n ≡ Some x)
in_at [] x h = absurd h
in_at (y ∷ xs) x h =
    ⊎_elim (λ l. (0, ap (λ z. Some z) l)) (λ r. let q = in_at xs x r in (suc q.0, q.1)) h

all_of : {A : Type 0} (P : A → Type 0) (xs : List A) → ((n : ℕ) (x : A) → slice_get xs n ≡ Some x → P x) → AllByRecursion P xs
all_of P [] f = tt
all_of P (x ∷ xs) f = (f 0 x refl, all_of P xs (λ n y h. f (suc n) y h))

-- ---- the values

module _ (p : Program) (forms : ℕ → Form) (points : ℕ → ℕ → List (List ℕ)) where
  interfaces_from : (k : ℕ) (vs : List Variable) → map (λ (v : VarLine). v.interface) (values_from p forms points k vs) ≡ map (λ (v : Variable). v.interface) vs
  interfaces_from k [] = refl
  interfaces_from k (v ∷ vs) = ap (λ xs. v.interface ∷ xs) (interfaces_from (suc k) vs)

  value_form : (f : Form) (i k : ℕ) → HasForm (value_by p points f i k) f
  value_form Patterns i k = tt
  value_form (Grids b) i k = refl

  formed_from : (k : ℕ) (vs : List Variable) → AllByRecursion (λ (v : VarLine). HasForm v.value (forms v.interface)) (values_from p forms points k vs)
  formed_from k [] = tt
  formed_from k (v ∷ vs) = (value_form (forms v.interface) v.interface k, formed_from (suc k) vs)

  values_at : (k : ℕ) (vs : List Variable) (j : ℕ) (v : Variable) → slice_get vs j ≡ Some v → slice_get (values_from p forms points k vs) j ≡ Some (record { interface = v.interface; value = value_by p points (forms v.interface) v.interface (k + j) })
  values_at k [] j v h = cc
  values_at k (u ∷ vs) zero v h =
      let same : u ≡ v = cc in
      let place : k ≡ k + 0 = omega arith in
      ap (λ (x : Variable). Some (record { interface = x.interface; value = value_by p points (forms x.interface) x.interface k })) same
      ∙ ap (λ n. Some (record { interface = v.interface; value = value_by p points (forms v.interface) v.interface n })) place
  values_at k (u ∷ vs) (suc j) v h =
      let place : suc k + j ≡ k + suc j = omega arith in
      values_at (suc k) vs j v h ∙ ap (λ n. Some (record { interface = v.interface; value = value_by p points (forms v.interface) v.interface n })) place

  var_there : (k i : ℕ) (v : Variable) → IsNumber (all_vars p) k v → v.interface ≡ i → var_at (solution p forms points) k ≡ Some (record { interface = i; value = value_by p points (forms i) i k })
  var_there k i v num same =
      let place : 1 + num.0 ≡ k = let e = num.1 in omega arith in
      ap (var_at (solution p forms points)) num.1
      ∙ values_at 1 (all_vars p) num.0 v num.2
      ∙ ap (λ n. Some (record { interface = v.interface; value = value_by p points (forms v.interface) v.interface n })) place
      ∙ ap (λ j. Some (record { interface = j; value = value_by p points (forms j) j k })) same

  -- in pattern form the sides are those under the assignment
  under_same : (i : ℕ) → forms i ≡ Patterns → (e : Pat) → PatternFits p (all_vars p) i e → subst_of (value_in (values_of p i)) e ≡ subst_of (pattern_of (scope_by p (solution p forms points))) e
  under_same i is Zero f = refl
  under_same i is One f = refl
  under_same i is (Tag m) f = refl
  under_same i is (Sum e g) f = ap₂ sum_of (under_same i is e f.0) (under_same i is g f.1)
  under_same i is (Prod e g) f = ap₂ prod_of (under_same i is e f.0) (under_same i is g f.1)
  under_same i is (Star e) f = ap star_of (under_same i is e f)
  under_same i is (Var k) f =
      let s : Scope = scope_by p (solution p forms points) in
      sym (ap (line_pattern s.tags) (var_there k i f.0 f.1 f.2 ∙ ap (λ x. Some (record { interface = i; value = value_by p points x i k })) is))

-- a word of each sending variable
senders_from : (values : ℕ → Pat) (c : ℕ) (us : List Variable) → ((j : ℕ) (v : Variable) → slice_get us j ≡ Some v → v.polarity ≡ Sending → (w : Word) × In (values (c + j)) w) → SendersHaveWords values c us
senders_from values c [] f = tt
senders_from values c (u ∷ us) f =
    let place : c + 0 ≡ c = omega arith in (
      go u.polarity (λ s. let q = f 0 u refl s in (q.0, subst (λ n. In (values n) q.0) place q.1)),
      senders_from values (suc c) us (λ j v h s. let next : c + suc j ≡ suc c + j = omega arith in let q = f (suc j) v h s in (q.0, subst (λ n. In (values n) q.0) next q.1)),
    )
  where
    go : (q : Polarity) → (q ≡ Sending → (w : Word) × In (values c) w) → HasWord q (values c)
    go Sending f = f refl
    go Receiving f = tt

-- ---- what is solved

module _ (known : Known) (grids : GridSolvesLaw) (p : Program) (forms : ℕ → Form) (points : ℕ → ℕ → List (List ℕ)) (wf : WellFormed p) (clean : (inferred p).findings ≡ []) (there : AreThere p) (right : IsRight p (Solved forms points)) where
  abbrev vars : List VarLine
  vars = solution p forms points

  abbrev s : Scope
  s = scope_by p (solution p forms points)

  fits : AllByRecursion (ConstraintFits p (all_vars p)) (inferred p).constraints
  fits = (known.fits p wf clean).0

  interfaces : map (λ (v : VarLine). v.interface) vars ≡ map (λ (v : Variable). v.interface) (all_vars p)
  interfaces = interfaces_from p forms points 1 (all_vars p)

  -- an interface that is there has a tag
  some_tag : (i : ℕ) → i < length p.interfaces → nat_lt 0 (tags_of p i) ≡ true
  some_tag i l = go (slice_get p.interfaces i) refl
    where
      within : {A : Type 0} (xs : List A) (j : ℕ) → j < length xs → slice_get xs j ≡ None → ⊥
      within [] j l h = absurd (omega arith)
      within (x ∷ xs) zero l h = cc
      within (x ∷ xs) (suc j) l h = within xs j (omega arith) h

      go : (o : Option Interface) → slice_get p.interfaces i ≡ o → nat_lt 0 (tag_count o) ≡ true
      go None q = absurd (within p.interfaces i l q)
      go (Some j) q =
          let f = (all_at (InterfaceFits p) p.interfaces i j wf.interfaces q).some in lt-ltb 0 (length j.tags) (omega arith)

  value_fit : (i k : ℕ) → i < length p.interfaces → (f : Form) → FormIs p points i f → value_fits (tags_of p i) (value_by p points f i k) ≡ true
  value_fit i k l Patterns h =
      let within = values_within p i fits k in
      let e = value_in (values_of p i) k in
      and_from (nat_lt 0 (tags_of p i)) (is_closed e && tags_below (tags_of p i) e) (some_tag i l)
      (and_from (is_closed e) (tags_below (tags_of p i) e) (within_closed (tags_of p i) e within) (within_tags (tags_of p i) Nowhere e within))
  value_fit i k l (Grids b) h =
      and_from (nat_lt 0 (tags_of p i)) (points_fit b (tags_of p i) (points i k)) (some_tag i l)
      (subst (λ c. points_fit c (tags_of p i) (points i k) ≡ true) (sym h.1) (h.2 k).0)

  values_fit_from : (k : ℕ) (vs : List Variable) → ((j : ℕ) (v : Variable) → slice_get vs j ≡ Some v → v.interface < length p.interfaces) → list_all (λ (v : VarLine). value_fits (tags_of p v.interface) v.value) (values_from p forms points k vs) ≡ true
  values_fit_from k [] f = refl
  values_fit_from k (v ∷ vs) f =
      and_from (value_fits (tags_of p v.interface) (value_by p points (forms v.interface) v.interface k)) (list_all (λ (u : VarLine). value_fits (tags_of p u.interface) u.value) (values_from p forms points (suc k) vs))
      (value_fit v.interface k (f 0 v refl) (forms v.interface) (right.1 v.interface (f 0 v refl)))
      (values_fit_from (suc k) vs (λ j u h. f (suc j) u h))

  values : values_fit s ≡ true
  values = values_fit_from 1 (all_vars p) (λ j v h. there.variables (suc j) v (j, refl, h))

  shown_one : (n : ℕ) (c : Constraint) → IsConstraint p n c → ConstraintShown s forms c
  shown_one n c at = go (forms c.interface) refl (right.1 c.interface (there.constraints n c at))
    where
      f : ConstraintFits p (all_vars p) c
      f = all_at (ConstraintFits p (all_vars p)) (inferred p).constraints n c fits at

      here : IsIn c (inferred p).constraints
      here = place (inferred p).constraints n at
        where
          place : (xs : List Constraint) (m : ℕ) → slice_get xs m ≡ Some c → IsIn c xs
          place [] m h = cc
          place (x ∷ xs) zero h = let same : x ≡ c = cc in inl same
          place (x ∷ xs) (suc m) h = inr (place xs m h)

      go : (form : Form) → forms c.interface ≡ form → FormIs p points c.interface form → ConstraintShown s forms c
      go Patterns is h =
          subst (SidesShown s c.interface c.left c.right) (sym is)
          (subst (λ x. IsCovered (tags_of p c.interface) x (subst_of (pattern_of s) c.right)) (under_same p forms points c.interface is c.left f.left)
          (subst (λ x. IsCovered (tags_of p c.interface) (subst_of (value_in (values_of p c.interface)) c.left) x) (under_same p forms points c.interface is c.right f.right)
          (h.covered n c at refl)))
      go (Grids k) is h =
          subst (SidesShown s c.interface c.left c.right) (sym (is ∙ ap Grids h.1))
          (shows_grid grids p wf vars fits interfaces values c.interface (points c.interface)
          (λ j v num same. var_there p forms points j c.interface v num same ∙ ap (λ x. Some (record { interface = c.interface; value = value_by p points x c.interface j })) (is ∙ ap Grids h.1))
          h.0.in_bounds h.2
          (λ d inside same closed w t.
          let at_d = in_at (inferred p).constraints d inside in
          let fits_d = all_at (ConstraintFits p (all_vars p)) (inferred p).constraints at_d.0 d fits at_d.1 in
          right.2 at_d.0 d at_d.1 (record { grids = subst (HasGrids p) (sym same) h.0; closed = closed }) w
          (t.0, apart_from p fits c.interface d.left t.0 w (subst (λ j. PatternFits p (all_vars p) j d.left) same fits_d.left) t.1))
          c here refl)

  shown : AllByRecursion (ConstraintShown s forms) (inferred p).constraints
  shown = all_of (ConstraintShown s forms) (inferred p).constraints shown_one

  solved : IsPatternSolution p (pattern_of s)
  solved = solve_by p vars forms wf fits interfaces values shown

  senders : SendersHaveWords (pattern_of s) 1 (signature_vars p)
  senders = senders_from (pattern_of s) 1 (signature_vars p) (λ j v h sending.
      let place : suc j ≡ 1 + j = omega arith in
      let word = right.0 (suc j) v (j, refl, h) sending in
      (word.0, subst (λ n. In (pattern_of s n) word.0) place (derivable_in p (λ n. In (pattern_of s n)) solved (Var (suc j)) word.0 word.1)))

  pub values_show : ValuesShow p vars forms
  values_show = record { interfaces = interfaces; fit = values; formed = formed_from p forms points 1 (all_vars p); shown = shown; senders = senders }

-- ---- the laws

pub solved_shows : Known → GridSolvesLaw → SolvedShows
solved_shows known grids p forms points wf clean right = values_show known grids p forms points wf clean (interfaces_there p wf) right

pub solved_valid : Known → GridSolvesLaw → SolvedIsValid
solved_valid known grids p forms points certs wf clean right made =
    derived_valid known p (solution p forms points) forms certs wf clean (values_show known grids p forms points wf clean (interfaces_there p wf) right) made

pub undecided_says : UndecidedSays
undecided_says p n wf right = (u.constraint, u.at, u.neither.out_of_bounds, small, u.uncovered)
  where
    u : IsUndecided p n
    u = right.2

    i : ℕ
    i = u.constraint.interface

    there : AreThere p
    there = interfaces_there p wf

    sure : (b : Bool) → ((b ≡ true → ⊥) → ⊥) → b ≡ true
    sure true h = refl
    sure false h = absurd (h (λ q. cc))

    small : IsSmall p i
    small =
        sure (assignment_fits (tags_of p i) (constraints_of p i) (vars_in i 1 (all_vars p)))
        (λ large. right.1 i (there.constraints n u.constraint u.at) (inl (u.neither, large)))

pub solved_exactly : Known → GridSolvesLaw → SolvedExactly
solved_exactly known grids p a wf clean bounded usable right = (to a right, from a right)
  where
    there : AreThere p
    there = interfaces_there p wf

    to : (a : Answer) → IsRight p a → is_solved a ≡ true → IsTypable p
    to (Solved forms points) r h =
        shown_typable known p (solution p forms points) forms wf clean (values_show known grids p forms points wf clean there r)
    to (Unusable k) r h = cc
    to (TooLarge i) r h = cc
    to (Refuted n w b) r h = cc
    to (Undecided n) r h = cc

    from : (a : Answer) → IsRight p a → IsTypable p → is_solved a ≡ true
    from (Solved forms points) r typable = refl
    from (Unusable k) r typable =
        let word = usable k r.0.variable r.0.number r.0.sending in absurd (r.0.none word.0 word.1)
    from (TooLarge i) r typable = absurd (large_untypable known.unbound p i wf r (bounded i r.1) typable)
    from (Refuted n w b) r typable = absurd (refuted_untypable known.unbound p n w b wf r typable)
    from (Undecided n) r typable =
        let u : IsUndecided p n = r.2 in
        absurd (u.neither.out_of_bounds (bounded u.constraint.interface (there.constraints n u.constraint u.at)))
