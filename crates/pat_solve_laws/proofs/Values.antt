-- Values that show all constraints are a solution.
use Rattle.std.proofs.Common.{◌≡◌, ℕ, zero, suc, true, ◌&&◌, List, Option, Some, None, refl, sym, ap, ap₂, ◌∙◌, subst}
use Rattle.std.specs.Prelude.{map, nat_lt, nat_le, ◌+◌, ◌^◌}
use Rattle.std.specs.List.{AllByRecursion}
use Rattle.std.proofs.lemmas.Bool.{and_parts, leb-true, eqb-true}
use Rattle.pat_words_spec.specs.Words.{Word}
use Rattle.pat_words_spec.specs.Patterns.{Pat, Zero, One, Tag, Sum, Prod, Star, Var, In, Included, no_values, is_closed, sum_of, prod_of, star_of, subst_of}
use Rattle.pat_words_spec.specs.Tags.{tags_below}
use Rattle.pat_words_laws.proofs.FormLaws.{subst_to, subst_from}
use Rattle.pat_semantics_spec.specs.Programs.{Program}
use Rattle.pat_semantics_spec.specs.WellFormed.{WellFormed}
use Rattle.pat_inclusion_spec.specs.CutWords.{cuts_lie}
use Rattle.pat_inclusion_spec.specs.Points.{grid_fits}
use Rattle.pat_inclusion_spec.specs.Values.{VarValue, PatternForm, GridForm, VarLine, Scope, var_at, value_pattern, line_pattern, pattern_of, replaced, plain_or_var, has_interface, is_formed, values_fit}
use Rattle.pat_inclusion_spec.specs.Certificates.{covers_forms, is_large_enough}
use Rattle.pat_inclusion_laws.proofs.Shown.{ValuesFit, value_fits_at, replaced_tags}
use Rattle.pat_inclusion_laws.proofs.LawParts.{grid_law}
use Rattle.pat_inclusion_laws.proofs.CoverLaws.{cover_includes}
use Rattle.pat_inclusion_laws.proofs.Exact.{direct_cover}
use Rattle.pat_semantics_laws.proofs.Lists.{all_at}
use Rattle.pat_type_schemes_spec.specs.Signatures.{Variable}
use Rattle.pat_infer_spec.specs.Constraints.{Constraint}
use Rattle.pat_infer_spec.specs.Walk.{inferred, all_vars}
use Rattle.pat_infer_spec.specs.Solutions.{MeetsUnder, IsPatternSolution}
use Rattle.pat_infer_spec.specs.Shapes.{ConstraintFits}
use Rattle.pat_infer_spec.specs.Inclusions.{ValuesCover}
use Rattle.pat_inclusion_laws.proofs.Replaced.{closed_same}
use Rattle.pat_infer_laws.proofs.Gathering.{all_with}
use Rattle.pat_infer_laws.proofs.Shown.{subst_sum, subst_prod}
use Rattle.pat_solve_spec.specs.Derived.{Form, Patterns, Grids, HasForm, SidesShown, ConstraintShown, ValuesShow, derivation_with, no_certs, scope_by}
use Rattle.pat_solve_laws.proofs.Formed.{formed_fits}
use Rattle.pat_limits.specs.Limits.{most_points}

module _ (s : Scope) (fit : ValuesFit s) where
  pub sides_included : (i : ℕ) (e f : Pat) (form : Form) → is_formed s i e ≡ true → is_formed s i f ≡ true → SidesShown s i e f form → Included (subst_of (pattern_of s) e) (subst_of (pattern_of s) f)
  sides_included i e f Patterns a b h =
      let n : ℕ = s.tags i in
      let c = direct_cover n h.left h.right h.covered in
      cover_includes n c.0 (subst_of (pattern_of s) e) (subst_of (pattern_of s) f) (replaced_tags s i e fit a) (replaced_tags s i f fit b)
      (ap₂ (λ x y. covers_forms n c.0 x y) h.left_is h.right_is ∙ c.1)
  sides_included i e f (Grids k) a b h =
      let n : ℕ = s.tags i in
      let x = and_parts (grid_fits k n) (is_large_enough s k f && cuts_lie k n (subst_of (pattern_of s) e) (subst_of (pattern_of s) f)) h in
      let y = and_parts (is_large_enough s k f) (cuts_lie k n (subst_of (pattern_of s) e) (subst_of (pattern_of s) f)) x.1 in
      let z = and_parts (nat_le 1 k) (nat_le ((k + 1) ^ n) most_points) x.0 in
      (grid_law s k i e f fit a b (leb-true 1 k z.0) y.0).0 y.1

  -- ---- values in pattern form, and those that aren't

  abbrev pub plain : ℕ → Pat
  plain k = plain_or_var k (var_at s.vars k)

  cover_by : (k i : ℕ) (val : VarValue) → var_at s.vars k ≡ Some (record { interface = i; value = val }) → (w : Word) → In (value_pattern (s.tags i) val) w → In (replaced (pattern_of s) (plain_or_var k (Some (record { interface = i; value = val })))) w
  cover_by k i (PatternForm e) q w h =
      let fits = value_fits_at s k (record { interface = i; value = PatternForm e }) fit q in
      let a = and_parts (nat_lt 0 (s.tags i)) (is_closed e && tags_below (s.tags i) e) fits in
      let b = and_parts (is_closed e) (tags_below (s.tags i) e) a.1 in
      subst (λ x. In x w) (sym (closed_same (pattern_of s) e b.0)) h
  cover_by k i (GridForm b points) q w h = subst (λ o. In (line_pattern s.tags o) w) (sym q) h

  pub values_cover : ValuesCover (pattern_of s) plain
  values_cover k w h = go (var_at s.vars k) refl h
    where
      go : (o : Option VarLine) → var_at s.vars k ≡ o → In (line_pattern s.tags o) w → In (replaced (pattern_of s) (plain_or_var k o)) w
      go None q i = absurd i
      go (Some l) q i = cover_by k l.interface l.value q w i

  -- ---- of one form in an interface

  module _ (forms : ℕ → Form) (formed : AllByRecursion (λ (v : VarLine). HasForm v.value (forms v.interface)) s.vars) where
    var_form : (k : ℕ) (l : VarLine) → var_at s.vars k ≡ Some l → HasForm l.value (forms l.interface)
    var_form zero l h = cc
    var_form (suc k) l h = all_at (λ (v : VarLine). HasForm v.value (forms v.interface)) s.vars k l formed h

    plain_value : (k j : ℕ) (val : VarValue) → HasForm val Patterns → plain_or_var k (Some (record { interface = j; value = val })) ≡ value_pattern (s.tags j) val
    plain_value k j (PatternForm e) h = refl
    plain_value k j (GridForm b points) h = absurd h

    grid_value : (k j b : ℕ) (val : VarValue) → HasForm val (Grids b) → plain_or_var k (Some (record { interface = j; value = val })) ≡ Var k
    grid_value k j b (PatternForm e) h = absurd h
    grid_value k j b (GridForm c points) h = refl

    -- in pattern form all variables are replaced
    pub patterns_same : (i : ℕ) → forms i ≡ Patterns → (e : Pat) → is_formed s i e ≡ true → subst_of plain e ≡ subst_of (pattern_of s) e
    patterns_same i is Zero h = refl
    patterns_same i is One h = refl
    patterns_same i is (Tag m) h = refl
    patterns_same i is (Sum e f) h =
        let q = and_parts (is_formed s i e) (is_formed s i f) h in ap₂ sum_of (patterns_same i is e q.0) (patterns_same i is f q.1)
    patterns_same i is (Prod e f) h =
        let q = and_parts (is_formed s i e) (is_formed s i f) h in ap₂ prod_of (patterns_same i is e q.0) (patterns_same i is f q.1)
    patterns_same i is (Star e) h = ap star_of (patterns_same i is e h)
    patterns_same i is (Var k) h = go (var_at s.vars k) refl h
      where
        go : (o : Option VarLine) → var_at s.vars k ≡ o → has_interface i o ≡ true → plain_or_var k o ≡ line_pattern s.tags o
        go None q t = cc
        go (Some l) q t =
            plain_value k l.interface l.value (subst (HasForm l.value) (ap forms (eqb-true l.interface i t) ∙ is) (var_form k l q))

    -- in grid form none is
    star_values : (v : ℕ → Pat) (e : Pat) → subst_of v (star_of e) ≡ star_of (subst_of v e)
    star_values v Zero = refl
    star_values v One = refl
    star_values v (Tag m) = refl
    star_values v (Sum e f) = refl
    star_values v (Prod e f) = refl
    star_values v (Star e) = refl
    star_values v (Var k) = refl

    pub grids_same : (i b : ℕ) → forms i ≡ Grids b → (e : Pat) → is_formed s i e ≡ true → subst_of (pattern_of s) (subst_of plain e) ≡ subst_of (pattern_of s) e
    grids_same i b is Zero h = refl
    grids_same i b is One h = refl
    grids_same i b is (Tag m) h = refl
    grids_same i b is (Sum e f) h =
        let q = and_parts (is_formed s i e) (is_formed s i f) h in
        subst_sum (pattern_of s) (subst_of plain e) (subst_of plain f) ∙ ap₂ sum_of (grids_same i b is e q.0) (grids_same i b is f q.1)
    grids_same i b is (Prod e f) h =
        let q = and_parts (is_formed s i e) (is_formed s i f) h in
        subst_prod (pattern_of s) (subst_of plain e) (subst_of plain f) ∙ ap₂ prod_of (grids_same i b is e q.0) (grids_same i b is f q.1)
    grids_same i b is (Star e) h = star_values (pattern_of s) (subst_of plain e) ∙ ap star_of (grids_same i b is e h)
    grids_same i b is (Var k) h = go (var_at s.vars k) refl h
      where
        go : (o : Option VarLine) → var_at s.vars k ≡ o → has_interface i o ≡ true → subst_of (pattern_of s) (plain_or_var k o) ≡ pattern_of s k
        go None q t = cc
        go (Some l) q t = ap (subst_of (pattern_of s)) (grid_value k l.interface b l.value (subst (HasForm l.value) (ap forms (eqb-true l.interface i t) ∙ is) (var_form k l q)))

-- ---- the solution

pub solve_by : (p : Program) (vars : List VarLine) (forms : ℕ → Form) → WellFormed p → AllByRecursion (ConstraintFits p (all_vars p)) (inferred p).constraints → map (λ (v : VarLine). v.interface) vars ≡ map (λ (v : Variable). v.interface) (all_vars p) → values_fit (scope_by p vars) ≡ true → AllByRecursion (ConstraintShown (scope_by p vars) forms) (inferred p).constraints → IsPatternSolution p (pattern_of (scope_by p vars))
solve_by p vars forms w fits interfaces fit shown =
    all_with (ConstraintFits p (all_vars p)) (ConstraintShown s forms) (MeetsUnder (λ k. In (pattern_of s k))) meets (inferred p).constraints fits shown
  where
    s : Scope
    s = scope_by p vars

    meets : (c : Constraint) → ConstraintFits p (all_vars p) c → ConstraintShown s forms c → MeetsUnder (λ k. In (pattern_of s k)) c
    meets c f h x i =
        let d = derivation_with p vars no_certs in
        let l = formed_fits p w d interfaces c.interface c.left f.left in
        let r = formed_fits p w d interfaces c.interface c.right f.right in
        subst_to (pattern_of s) no_values c.right x
        (sides_included s fit c.interface c.left c.right (forms c.interface) l r h x (subst_from (pattern_of s) no_values c.left x i))

pub values_solve : (p : Program) (vars : List VarLine) (forms : ℕ → Form) → WellFormed p → AllByRecursion (ConstraintFits p (all_vars p)) (inferred p).constraints → ValuesShow p vars forms → IsPatternSolution p (pattern_of (scope_by p vars))
values_solve p vars forms w fits show = solve_by p vars forms w fits show.interfaces show.fit show.shown
