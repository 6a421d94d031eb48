-- What trees show of a pattern of an interface rests on the constraints of that interface alone.
use Rattle.std.proofs.Common.{◌≡◌, ℕ, suc, Bool, true, false, nat_eq, if◌then◌else◌, List, [], ◌∷◌, Some, refl, sym, ap, ◌∙◌, subst, arith}
use Rattle.std.specs.Prelude.{map, slice_get}
use Rattle.std.specs.List.{AllByRecursion}
use Rattle.std.proofs.lemmas.Bool.{cond_both, cond-false, eqb-true, eqb-false, ne_eqb}
use Rattle.pat_words_spec.specs.Words.{Word}
use Rattle.pat_words_spec.specs.Patterns.{Pat, Zero, One, Tag, Sum, Prod, Star, Var, sum_of}
use Rattle.pat_semantics_spec.specs.Programs.{Program}
use Rattle.pat_inclusion_spec.specs.bounds.Trees.{Bound, EmptyTree, TagTree, LeftTree, RightTree, BothTree, StarEndTree, StarMoreTree, LowerTree, Shows}
use Rattle.pat_inclusion_spec.specs.bounds.Assignments.{with_left, with_lefts}
use Rattle.pat_type_schemes_spec.specs.Signatures.{Variable}
use Rattle.pat_infer_spec.specs.Constraints.{Constraint}
use Rattle.pat_infer_spec.specs.Shapes.{IsNumber, PatternFits, ConstraintFits, FoundFits}
use Rattle.pat_infer_spec.specs.Walk.{inferred, all_vars}
use Rattle.pat_infer_laws.proofs.ShapeLaws.{fits_sum}
use Rattle.pat_solve_spec.specs.LowerBounds.{right_side, sides_of, constraints_in, lowers_of, lowers_in}
use Rattle.pat_solve_spec.specs.Laws.{InterfacesApart}

module _ (p : Program) (vars : List Variable) where
  -- a number has one variable
  pub number_same : (k : ℕ) (u v : Variable) → IsNumber vars k u → IsNumber vars k v → u ≡ v
  number_same k u v a b =
      let places : suc a.0 ≡ suc b.0 = sym a.1 ∙ b.1 in
      let same : a.0 ≡ b.0 = omega arith in
      let there : Some u ≡ Some v = sym a.2 ∙ ap (slice_get vars) same ∙ b.2 in
      cc

  -- ---- lower bounds

  left_kept : (k : ℕ) (made left r : Pat) → (r ≡ Var k → ⊥) → with_left k made left (right_side r) ≡ made
  left_kept k made left (Var j) h =
      cond-false (nat_eq j k) (sum_of made left) made (ne_eqb j k (λ q. h (ap Var q)))
  left_kept k made left Zero h = refl
  left_kept k made left One h = refl
  left_kept k made left (Tag m) h = refl
  left_kept k made left (Sum e f) h = refl
  left_kept k made left (Prod e f) h = refl
  left_kept k made left (Star e) h = refl

  -- the constraints whose right side is a variable of interface i are of that interface
  of_interface : (i k : ℕ) (v : Variable) → IsNumber vars k v → v.interface ≡ i → (c : Constraint) → ConstraintFits p vars c → c.right ≡ Var k → c.interface ≡ i
  of_interface i k v num same c f r =
      let fits : PatternFits p vars c.interface (Var k) = subst (PatternFits p vars c.interface) r f.right in
      sym fits.2 ∙ ap (λ (u : Variable). u.interface) (number_same k fits.0 v fits.1 num) ∙ same

  lefts_same : (i k : ℕ) (v : Variable) → IsNumber vars k v → v.interface ≡ i → (made : Pat) (ds : List Constraint) → AllByRecursion (ConstraintFits p vars) ds → with_lefts k made (map sides_of ds) ≡ with_lefts k made (map sides_of (constraints_in i ds))
  lefts_same i k v num same made [] f = refl
  lefts_same i k v num same made (c ∷ ds) f = go (nat_eq c.interface i) refl (λ m. lefts_same i k v num same m ds f.1)
    where
      go : (b : Bool) → nat_eq c.interface i ≡ b → ((m : Pat) → with_lefts k m (map sides_of ds) ≡ with_lefts k m (map sides_of (constraints_in i ds))) → with_lefts k made (map sides_of (c ∷ ds)) ≡ with_lefts k made (map sides_of (if b then c ∷ constraints_in i ds else constraints_in i ds))
      go true e later = later (with_left k made c.left (right_side c.right))
      go false e later =
          ap (λ m. with_lefts k m (map sides_of ds))
          (left_kept k made c.left c.right (λ r. eqb-false c.interface i e (of_interface i k v num same c f.0 r)))
          ∙ later made

  -- a sum of left sides of interface i is of that interface
  pub lefts_fit : (i k : ℕ) (made : Pat) (ds : List Constraint) → PatternFits p vars i made → AllByRecursion (λ (c : Constraint). c.right ≡ Var k → PatternFits p vars i c.left) ds → PatternFits p vars i (with_lefts k made (map sides_of ds))
  lefts_fit i k made [] h f = h
  lefts_fit i k made (c ∷ ds) h f = lefts_fit i k (with_left k made c.left (right_side c.right)) ds (one c.right f.0) f.1
    where
      one : (r : Pat) → (r ≡ Var k → PatternFits p vars i c.left) → PatternFits p vars i (with_left k made c.left (right_side r))
      one (Var j) g =
          cond_both (nat_eq j k) (sum_of made c.left) made (PatternFits p vars i)
          (λ e. fits_sum p vars i made c.left h (g (ap Var (eqb-true j k e))))
          (λ _. h)
      one Zero g = h
      one One g = h
      one (Tag m) g = h
      one (Sum e f) g = h
      one (Prod e f) g = h
      one (Star e) g = h

  all_left : (i k : ℕ) (v : Variable) → IsNumber vars k v → v.interface ≡ i → (ds : List Constraint) → AllByRecursion (ConstraintFits p vars) ds → AllByRecursion (λ (c : Constraint). c.right ≡ Var k → PatternFits p vars i c.left) ds
  all_left i k v num same [] f = tt
  all_left i k v num same (c ∷ ds) f =
      (λ r. subst (λ j. PatternFits p vars j c.left) (of_interface i k v num same c f.0 r) f.0.left, all_left i k v num same ds f.1)

  -- constraints of the interface alone are so for each variable
  pub all_left_in : (i k : ℕ) (ds : List Constraint) → AllByRecursion (ConstraintFits p vars) ds → AllByRecursion (λ (c : Constraint). c.right ≡ Var k → PatternFits p vars i c.left) (constraints_in i ds)
  all_left_in i k [] f = tt
  all_left_in i k (c ∷ ds) f =
      cond_both (nat_eq c.interface i) (c ∷ constraints_in i ds) (constraints_in i ds) (AllByRecursion (λ (d : Constraint). d.right ≡ Var k → PatternFits p vars i d.left))
      (λ e. (λ r. subst (λ j. PatternFits p vars j c.left) (eqb-true c.interface i e) f.0.left, all_left_in i k ds f.1))
      (λ _. all_left_in i k ds f.1)

  -- ---- trees

  moved : (i : ℕ) (L M : ℕ → Pat) → ((k : ℕ) (v : Variable) → IsNumber vars k v → v.interface ≡ i → (L k ≡ M k) × PatternFits p vars i (L k)) → (b : Bound) (e : Pat) (w : Word) → PatternFits p vars i e → Shows L b e w → Shows M b e w
  moved i L M agree EmptyTree One w f h = h
  moved i L M agree TagTree (Tag m) w f h = h
  moved i L M agree (LeftTree b) (Sum e g) w f h = moved i L M agree b e w f.0 h
  moved i L M agree (RightTree b) (Sum e g) w f h = moved i L M agree b g w f.1 h
  moved i L M agree (BothTree a b) (Prod e g) w f h =
      (h.0, h.1, moved i L M agree a e h.0 f.0 h.2, moved i L M agree b g h.1 f.1 h.3, h.4)
  moved i L M agree StarEndTree (Star e) w f h = h
  moved i L M agree (StarMoreTree a b) (Star e) w f h =
      (h.0, h.1, moved i L M agree a e h.0 f h.2, moved i L M agree b (Star e) h.1 f h.3, h.4, h.5)
  moved i L M agree (LowerTree b) (Var k) w f h =
      let q = agree k f.0 f.1 f.2 in subst (λ x. Shows M b x w) q.0 (moved i L M agree b (L k) w q.1 h)
  moved i L M agree _ _ w f h = absurd h

module _ (p : Program) (fits : AllByRecursion (ConstraintFits p (all_vars p)) (inferred p).constraints) where
  pub lower_fits_in : (i k : ℕ) → PatternFits p (all_vars p) i (lowers_in p i k)
  lower_fits_in i k =
      lefts_fit p (all_vars p) i k Zero (constraints_in i (inferred p).constraints) tt
      (all_left_in p (all_vars p) i k (inferred p).constraints fits)

  pub lower_same : (i k : ℕ) (v : Variable) → IsNumber (all_vars p) k v → v.interface ≡ i → lowers_of p k ≡ lowers_in p i k
  lower_same i k v num same = lefts_same p (all_vars p) i k v num same Zero (inferred p).constraints fits

  lower_fits : (i k : ℕ) (v : Variable) → IsNumber (all_vars p) k v → v.interface ≡ i → PatternFits p (all_vars p) i (lowers_of p k)
  lower_fits i k v num same =
      lefts_fit p (all_vars p) i k Zero (inferred p).constraints tt (all_left p (all_vars p) i k v num same (inferred p).constraints fits)

  pub apart_to : (i : ℕ) (e : Pat) (b : Bound) (w : Word) → PatternFits p (all_vars p) i e → Shows (lowers_of p) b e w → Shows (lowers_in p i) b e w
  apart_to i e b w f h =
      moved p (all_vars p) i (lowers_of p) (lowers_in p i) (λ k v num same. (lower_same i k v num same, lower_fits i k v num same)) b e w f h

  pub apart_from : (i : ℕ) (e : Pat) (b : Bound) (w : Word) → PatternFits p (all_vars p) i e → Shows (lowers_in p i) b e w → Shows (lowers_of p) b e w
  apart_from i e b w f h =
      moved p (all_vars p) i (lowers_in p i) (lowers_of p) (λ k v num same. (sym (lower_same i k v num same), lower_fits_in i k)) b e w f h

pub interfaces_apart : FoundFits → InterfacesApart
interfaces_apart found p i e b w wf clean f =
    let fits = (found p wf clean).0 in (apart_to p fits i e b w f, apart_from p fits i e b w f)
