-- The values of a closed-form assignment have no variables, and their interface's tags alone.
use Rattle.std.proofs.Common.{◌≡◌, ℕ, zero, suc, ◌+◌, true, false, ◌||◌, nat_eq, if◌then◌else◌, List, [], ◌∷◌, ◌++◌, length, Option, Some, None, ⊎_elim, refl, sym, ap, ◌∙◌, subst, arith}
use Rattle.std.specs.Prelude.{nat_lt, option_and_then, slice_get}
use Rattle.std.specs.Map.{lookup}
use Rattle.std.specs.List.{AllByRecursion}
use Rattle.std.proofs.lemmas.Bool.{and_from, or_cases, or_left, or_right, cond_both, cond-true, eq-eqb, lt-ltb}
use Rattle.std.proofs.lemmas.Option.{slice_get_within}
use Rattle.pat_words_spec.specs.Patterns.{Pat, Zero, One, Tag, Sum, Prod, Star, Var, is_closed, is_zero, is_one, pat_eq, sum_of, prod_of, star_of, subst_of}
use Rattle.pat_words_spec.specs.Tags.{tags_below}
use Rattle.pat_semantics_spec.specs.Programs.{Program, TagDecl, Interface, tag_at, is_among}
use Rattle.pat_type_schemes_spec.specs.Signatures.{Variable}
use Rattle.pat_derivation_spec.specs.Derivations.{tag_count}
use Rattle.pat_infer_spec.specs.Constraints.{Constraint}
use Rattle.pat_infer_spec.specs.Shapes.{IsNumber, PatternFits, ConstraintFits}
use Rattle.pat_infer_spec.specs.Walk.{inferred, all_vars}
use Rattle.pat_solve_spec.specs.LowerBounds.{lowers}
use Rattle.pat_solve_spec.specs.Assignments.{vars_in, put_one, Values, put_in_turn, derivative, base_of, slope_of, solved_for, first_round, second_round, assigned, value_or_zero, value_in}
use Rattle.pat_solve_spec.specs.Answers.{tags_of, values_of, constraints_of}
use Rattle.pat_solve_laws.proofs.Apart.{lower_fits_in}

-- the pattern has tags below n, and variables as P says
abbrev pub Within : ℕ → (ℕ → Type 0) → Pat → Type 0
Within n P Zero = Unit {0}
Within n P One = Unit {0}
Within n P (Tag m) = nat_lt m n ≡ true
Within n P (Sum e f) = Within n P e × Within n P f
Within n P (Prod e f) = Within n P e × Within n P f
Within n P (Star e) = Within n P e
Within n P (Var j) = P j

abbrev pub Among : List ℕ → ℕ → Type 0
Among ls j = is_among j ls ≡ true

abbrev pub Nowhere : ℕ → Type 0
Nowhere j = ⊥

pub within_closed : (n : ℕ) (e : Pat) → Within n Nowhere e → is_closed e ≡ true
within_closed n Zero h = refl
within_closed n One h = refl
within_closed n (Tag m) h = refl
within_closed n (Sum e f) h = and_from (is_closed e) (is_closed f) (within_closed n e h.0) (within_closed n f h.1)
within_closed n (Prod e f) h = and_from (is_closed e) (is_closed f) (within_closed n e h.0) (within_closed n f h.1)
within_closed n (Star e) h = within_closed n e h
within_closed n (Var j) h = absurd h

pub within_tags : (n : ℕ) (P : ℕ → Type 0) (e : Pat) → Within n P e → tags_below n e ≡ true
within_tags n P Zero h = refl
within_tags n P One h = refl
within_tags n P (Tag m) h = h
within_tags n P (Sum e f) h = and_from (tags_below n e) (tags_below n f) (within_tags n P e h.0) (within_tags n P f h.1)
within_tags n P (Prod e f) h = and_from (tags_below n e) (tags_below n f) (within_tags n P e h.0) (within_tags n P f h.1)
within_tags n P (Star e) h = within_tags n P e h
within_tags n P (Var j) h = refl

module _ (n : ℕ) where
  within_sum : (P : ℕ → Type 0) (e f : Pat) → Within n P e → Within n P f → Within n P (sum_of e f)
  within_sum P e f h k =
      cond_both (is_zero e) f (if is_zero f then e else if pat_eq e f then e else Sum e f) (Within n P)
      (λ _. k)
      (λ _. cond_both (is_zero f) e (if pat_eq e f then e else Sum e f) (Within n P) (λ _. h) (λ _. cond_both (pat_eq e f) e (Sum e f) (Within n P) (λ _. h) (λ _. (h, k))))

  within_prod : (P : ℕ → Type 0) (e f : Pat) → Within n P e → Within n P f → Within n P (prod_of e f)
  within_prod P e f h k =
      cond_both (is_zero e || is_zero f) Zero (if is_one e then f else if is_one f then e else Prod e f) (Within n P)
      (λ _. tt)
      (λ _. cond_both (is_one e) f (if is_one f then e else Prod e f) (Within n P) (λ _. k) (λ _. cond_both (is_one f) e (Prod e f) (Within n P) (λ _. h) (λ _. (h, k))))

  within_star : (P : ℕ → Type 0) (e : Pat) → Within n P e → Within n P (star_of e)
  within_star P Zero h = tt
  within_star P One h = tt
  within_star P (Tag m) h = h
  within_star P (Sum e f) h = h
  within_star P (Prod e f) h = h
  within_star P (Star e) h = h
  within_star P (Var j) h = h

  within_more : (P Q : ℕ → Type 0) → ((j : ℕ) → P j → Q j) → (e : Pat) → Within n P e → Within n Q e
  within_more P Q f Zero h = tt
  within_more P Q f One h = tt
  within_more P Q f (Tag m) h = h
  within_more P Q f (Sum e g) h = (within_more P Q f e h.0, within_more P Q f g h.1)
  within_more P Q f (Prod e g) h = (within_more P Q f e h.0, within_more P Q f g h.1)
  within_more P Q f (Star e) h = within_more P Q f e h
  within_more P Q f (Var j) h = f j h

  pub within_subst : (P Q : ℕ → Type 0) (v : ℕ → Pat) → ((j : ℕ) → P j → Within n Q (v j)) → (e : Pat) → Within n P e → Within n Q (subst_of v e)
  within_subst P Q v f Zero h = tt
  within_subst P Q v f One h = tt
  within_subst P Q v f (Tag m) h = h
  within_subst P Q v f (Sum e g) h =
      within_sum Q (subst_of v e) (subst_of v g) (within_subst P Q v f e h.0) (within_subst P Q v f g h.1)
  within_subst P Q v f (Prod e g) h =
      within_prod Q (subst_of v e) (subst_of v g) (within_subst P Q v f e h.0) (within_subst P Q v f g h.1)
  within_subst P Q v f (Star e) h = within_star Q (subst_of v e) (within_subst P Q v f e h)
  within_subst P Q v f (Var j) h = f j h

  -- ---- one variable

  put_within : (k : ℕ) (ls : List ℕ) (e f : Pat) → Within n (Among ls) e → Within n (Among (k ∷ ls)) f → Within n (Among ls) (put_one k e f)
  put_within k ls e f he hf =
      within_subst (Among (k ∷ ls)) (Among ls) (λ j. if nat_eq j k then e else Var j)
      (λ j h. cond_both (nat_eq j k) e (Var j) (Within n (Among ls)) (λ _. he) (λ q. other j q h))
      f hf
    where
      other : (j : ℕ) → nat_eq j k ≡ false → is_among j (k ∷ ls) ≡ true → is_among j ls ≡ true
      other j q h =
          ⊎_elim (λ l. let clash : true ≡ false = sym l ∙ q in cc) (λ r. r) (or_cases (nat_eq j k) (is_among j ls) h)

  derivative_within : (k : ℕ) (P : ℕ → Type 0) (f : Pat) → Within n P f → Within n P (derivative k f)
  derivative_within k P Zero h = tt
  derivative_within k P One h = tt
  derivative_within k P (Tag m) h = tt
  derivative_within k P (Sum e f) h =
      within_sum P (derivative k e) (derivative k f) (derivative_within k P e h.0) (derivative_within k P f h.1)
  derivative_within k P (Prod e f) h =
      within_sum P (prod_of (derivative k e) f) (prod_of e (derivative k f))
      (within_prod P (derivative k e) f (derivative_within k P e h.0) h.1)
      (within_prod P e (derivative k f) h.0 (derivative_within k P f h.1))
  derivative_within k P (Star e) h =
      within_prod P (star_of e) (derivative k e) (within_star P e h) (derivative_within k P e h)
  derivative_within k P (Var j) h = cond_both (nat_eq j k) One Zero (Within n P) (λ _. tt) (λ _. tt)

  solved_within : (k : ℕ) (rest : List ℕ) (f : Pat) → Within n (Among (k ∷ rest)) f → Within n (Among rest) (solved_for k f)
  solved_within k rest f h =
      let base = put_within k rest Zero f tt h in
      let slope = put_within k rest (base_of k f) (derivative k f) base (derivative_within k (Among (k ∷ rest)) f h) in
      within_prod (Among rest) (star_of (slope_of k f)) (base_of k f) (within_star (Among rest) (slope_of k f) slope) base

  -- ---- all of them in turn

  -- values of the first of these variables, each with later ones of them alone; the rest are left
  abbrev pub Chain : List ℕ → Values → List ℕ → Type 0
  Chain ls [] rest = ls ≡ rest
  Chain [] (v ∷ vs) rest = ⊥
  Chain (k ∷ ls) (v ∷ vs) rest = (k ≡ v.0) × Within n (Among ls) v.1 × Chain ls vs rest

  put_turn : (ls : List ℕ) (vs : Values) (rest : List ℕ) (f : Pat) → Chain ls vs rest → Within n (Among ls) f → Within n (Among rest) (put_in_turn vs f)
  put_turn ls [] rest f c h = subst (λ xs. Within n (Among xs) f) c h
  put_turn [] (v ∷ vs) rest f c h = absurd c
  put_turn (k ∷ ls) (v ∷ vs) rest f c h =
      put_turn ls vs rest (put_one v.0 v.1 f) c.2 (put_within v.0 ls v.1 f c.1 (subst (λ j. Within n (Among (j ∷ ls)) f) c.0 h))

  chain_more : (ls : List ℕ) (vs : Values) (k : ℕ) (rest : List ℕ) (e : Pat) → Chain ls vs (k ∷ rest) → Within n (Among rest) e → Chain ls (vs ++ (k, e) ∷ []) rest
  chain_more ls [] k rest e c h = subst (λ xs. Chain xs ((k, e) ∷ []) rest) (sym c) (refl, h, refl)
  chain_more [] (v ∷ vs) k rest e c h = absurd c
  chain_more (j ∷ ls) (v ∷ vs) k rest e c h = (c.0, c.1, chain_more ls vs k rest e c.2 h)

  first_chain : (cs : List Constraint) (all : List ℕ) (done : Values) (ks : List ℕ) → ((k : ℕ) → Within n (Among all) (lowers cs k)) → Chain all done ks → Chain all (first_round cs done ks) []
  first_chain cs all done [] low c = c
  first_chain cs all done (k ∷ ks) low c =
      let f : Pat = put_in_turn done (lowers cs k) in
      first_chain cs all (done ++ (k, solved_for k f) ∷ []) ks low
      (chain_more all done k ks (solved_for k f) c (solved_within k ks f (put_turn all done (k ∷ ks) (lowers cs k) c (low k))))

  none_left : (e : Pat) → Within n (Among []) e → Within n Nowhere e
  none_left e h = within_more (Among []) Nowhere (λ j q. let clash : false ≡ true = q in cc) e h

  second_chain : (ls : List ℕ) (vs : Values) → Chain ls vs [] → Chain ls (second_round vs) [] × AllByRecursion (λ (v : ℕ × Pat). Within n Nowhere v.1) (second_round vs)
  second_chain ls [] c = (c, tt)
  second_chain [] (v ∷ vs) c = absurd c
  second_chain (k ∷ ls) (v ∷ vs) c =
      let deeper = second_chain ls vs c.2 in
      let value : Within n Nowhere (put_in_turn (second_round vs) v.1) = none_left (put_in_turn (second_round vs) v.1) (put_turn ls (second_round vs) [] v.1 deeper.0 c.1) in
      ((c.0, within_more Nowhere (Among ls) (λ j x. absurd x) (put_in_turn (second_round vs) v.1) value, deeper.0), (value, deeper.1))

  value_within : (vs : Values) (k : ℕ) → AllByRecursion (λ (v : ℕ × Pat). Within n Nowhere v.1) vs → Within n Nowhere (value_in vs k)
  value_within [] k h = tt
  value_within (v ∷ vs) k h =
      cond_both (nat_eq k v.0) (Some v.1) (lookup (nat_eq k) vs) (λ o. Within n Nowhere (value_or_zero o)) (λ _. h.0) (λ _. value_within vs k h.1)

  assigned_within : (cs : List Constraint) (ks : List ℕ) → ((k : ℕ) → Within n (Among ks) (lowers cs k)) → (k : ℕ) → Within n Nowhere (value_in (assigned cs ks) k)
  assigned_within cs ks low k =
      value_within (assigned cs ks) k (second_chain ks (first_round cs [] ks) (first_chain cs ks [] ks low refl)).1

-- ---- an interface

pub among_vars : (i start : ℕ) (vs : List Variable) (j : ℕ) (v : Variable) → slice_get vs j ≡ Some v → v.interface ≡ i → is_among (start + j) (vars_in i start vs) ≡ true
among_vars i start [] j v h same = cc
among_vars i start (u ∷ us) zero v h same =
    let is : u ≡ v = cc in
    let here : nat_eq u.interface i ≡ true = eq-eqb u.interface i (ap (λ (x : Variable). x.interface) is ∙ same) in
    let place : start + 0 ≡ start = omega arith in
    subst (λ xs. is_among (start + 0) xs ≡ true) (sym (cond-true (nat_eq u.interface i) (start ∷ vars_in i (suc start) us) (vars_in i (suc start) us) here))
    (or_left (nat_eq (start + 0) start) (is_among (start + 0) (vars_in i (suc start) us)) (eq-eqb (start + 0) start place))
among_vars i start (u ∷ us) (suc j) v h same =
    let place : suc start + j ≡ start + suc j = omega arith in
    let deeper : is_among (start + suc j) (vars_in i (suc start) us) ≡ true = subst (λ m. is_among m (vars_in i (suc start) us) ≡ true) place (among_vars i (suc start) us j v h same) in
    cond_both (nat_eq u.interface i) (start ∷ vars_in i (suc start) us) (vars_in i (suc start) us) (λ xs. is_among (start + suc j) xs ≡ true)
    (λ _. or_right (nat_eq (start + suc j) start) (is_among (start + suc j) (vars_in i (suc start) us)) deeper)
    (λ _. deeper)

module _ (p : Program) (i : ℕ) where
  tag_within : (m : ℕ) (decl : TagDecl) → tag_at p i m ≡ Some decl → nat_lt m (tags_of p i) ≡ true
  tag_within m decl = go (slice_get p.interfaces i)
    where
      go : (o : Option Interface) → option_and_then (λ (j : Interface). slice_get j.tags m) o ≡ Some decl → nat_lt m (tag_count o) ≡ true
      go None h = cc
      go (Some j) h = lt-ltb m (length j.tags) (slice_get_within j.tags m decl h)

  pub fits_within : (e : Pat) → PatternFits p (all_vars p) i e → Within (tags_of p i) (Among (vars_in i 1 (all_vars p))) e
  fits_within Zero h = tt
  fits_within One h = tt
  fits_within (Tag m) h = tag_within m h.0 h.1
  fits_within (Sum e f) h = (fits_within e h.0, fits_within f h.1)
  fits_within (Prod e f) h = (fits_within e h.0, fits_within f h.1)
  fits_within (Star e) h = fits_within e h
  fits_within (Var k) h =
      let num : IsNumber (all_vars p) k h.0 = h.1 in
      let place : 1 + num.0 ≡ k = let e = num.1 in omega arith in
      subst (λ j. is_among j (vars_in i 1 (all_vars p)) ≡ true) place (among_vars i 1 (all_vars p) num.0 h.0 num.2 h.2)

  -- the values of the closed-form assignment
  pub values_within : AllByRecursion (ConstraintFits p (all_vars p)) (inferred p).constraints → (k : ℕ) → Within (tags_of p i) Nowhere (value_in (values_of p i) k)
  values_within fits k =
      assigned_within (tags_of p i) (constraints_of p i) (vars_in i 1 (all_vars p))
      (λ j. fits_within (lowers (constraints_of p i) j) (lower_fits_in p fits i j)) k
