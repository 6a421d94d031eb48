-- Lower bounds of an interface's variables: what they are by its own constraints, and that one which is too large makes the assignment
-- so.
use Rattle.std.proofs.Common.{◌≡◌, ℕ, suc, ◌+◌, ◌<◌, ◌≤◌, Bool, true, false, ◌&&◌, if◌then◌else◌, List, [], ◌∷◌, ◌++◌, length, Some, None, ⊎_elim, refl, sym, ap, ap₂, ◌∙◌, subst, arith}
use Rattle.std.specs.Prelude.{nat_eq, map, slice_get, get_or, drop}
use Rattle.std.specs.List.{list_all, AllByRecursion}
use Rattle.std.proofs.lemmas.Bool.{cases_Bool, eqb-true}
use Rattle.std.proofs.lemmas.List.{append-nil, append_assoc, map-append, length-map, get_or-map, drop_more, drop_all}
use Rattle.std.proofs.lemmas.List.Folds.{list_all-append, list_all_at}
use Rattle.pat_words_spec.specs.Patterns.{Pat}
use Rattle.pat_semantics_spec.specs.Programs.{Program}
use Rattle.pat_inclusion_spec.specs.ClosedForms.{is_small}
use Rattle.pat_type_schemes_spec.specs.Signatures.{Variable}
use Rattle.pat_infer_spec.specs.Constraints.{Constraint}
use Rattle.pat_infer_spec.specs.Shapes.{ConstraintFits}
use Rattle.pat_infer_spec.specs.Walk.{inferred, all_vars}
use Rattle.pat_solve_spec.specs.LowerBounds.{lowers, lowers_of, lowers_in}
use Rattle.pat_solve_spec.specs.Assignments.{Values, put_in_turn, made_in_turn, base_of, derivative, slope_of, solved_for, made_for, made_first, made_second, first_round, vars_in}
use Rattle.pat_solve_laws.proofs.Apart.{lower_same}
use Rattle.pat_solve_bounded.specs.declared.measured.Measured.{Measured}
use Rattle.pat_solve_bounded.specs.Limits.{within}
use Rattle.pat_solve_bounded.specs.Views.{measured_view, measured_list}
use Rattle.pat_solve_elimination.specs.assignment.Results.{rounds_fit}

-- ---- one that is too large

abbrev others_for : List Constraint → Values → ℕ → List Pat
others_for cs done k =
    let f = put_in_turn done (lowers cs k) in
    made_in_turn done (lowers cs k) ++ base_of k f ∷ derivative k f ∷ slope_of k f ∷ solved_for k f ∷ []

none_after : (b : Bool) → (b && false) ≡ false
none_after true = refl
none_after false = refl

lowers_made : (cs : List Constraint) (done : Values) (ks : List ℕ) → list_all is_small (map (lowers cs) ks) ≡ false → list_all is_small (made_first cs done ks) ≡ false
lowers_made cs done [] h = let clash : true ≡ false = h in cc
lowers_made cs done (k ∷ ks) h =
    let more : Values = done ++ (k, solved_for k (put_in_turn done (lowers cs k))) ∷ [] in
    let own : Bool = list_all is_small (others_for cs done k) in
    let rest : Bool = list_all is_small (made_first cs more ks) in
    list_all-append is_small (made_for cs done k) (made_first cs more ks)
    ∙ ⊎_elim
    (λ (t : is_small (lowers cs k) ≡ true).
    ap (λ b. (is_small (lowers cs k) && own) && b) (lowers_made cs more ks (sym (ap (λ b. b && list_all is_small (map (lowers cs) ks)) t) ∙ h))
    ∙ none_after (is_small (lowers cs k) && own))
    (λ (f : is_small (lowers cs k) ≡ false). ap (λ b. (b && own) && rest) f)
    (cases_Bool (is_small (lowers cs k)))

pub lowers_large : (cs : List Constraint) (ks : List ℕ) → list_all is_small (map (lowers cs) ks) ≡ false → rounds_fit cs ks ≡ false
lowers_large cs ks h =
    ap (λ b. b && list_all is_small (made_second (first_round cs [] ks))) (lowers_made cs [] ks h)

-- ---- by the interface's own constraints

map_vars : (f g : ℕ → Pat) (i n : ℕ) (vs : List Variable) → ((j : ℕ) (v : Variable) → slice_get vs j ≡ Some v → v.interface ≡ i → f (n + j) ≡ g (n + j)) → map f (vars_in i n vs) ≡ map g (vars_in i n vs)
map_vars f g i n [] same = refl
map_vars f g i n (v ∷ vs) same = go (nat_eq v.interface i) refl (map_vars f g i (suc n) vs later)
  where
    later : (j : ℕ) (u : Variable) → slice_get vs j ≡ Some u → u.interface ≡ i → f (suc n + j) ≡ g (suc n + j)
    later j u at own = subst (λ m. f m ≡ g m) (let e : n + suc j ≡ suc n + j = omega arith in e) (same (suc j) u at own)

    here : v.interface ≡ i → f n ≡ g n
    here own = subst (λ m. f m ≡ g m) (let e : n + 0 ≡ n = omega arith in e) (same 0 v refl own)

    go : (b : Bool) → nat_eq v.interface i ≡ b → map f (vars_in i (suc n) vs) ≡ map g (vars_in i (suc n) vs) → map f (if b then n ∷ vars_in i (suc n) vs else vars_in i (suc n) vs) ≡ map g (if b then n ∷ vars_in i (suc n) vs else vars_in i (suc n) vs)
    go true e rest = ap₂ (λ x xs. x ∷ xs) (here (eqb-true v.interface i e)) rest
    go false e rest = rest

pub lowers_same : (p : Program) (i : ℕ) → AllByRecursion (ConstraintFits p (all_vars p)) (inferred p).constraints → map (lowers_in p i) (vars_in i 1 (all_vars p)) ≡ map (lowers_of p) (vars_in i 1 (all_vars p))
lowers_same p i fits =
    map_vars (lowers_in p i) (lowers_of p) i 1 (all_vars p)
    (λ j v at own. sym (lower_same p fits i (1 + j) v (j, (let e : 1 + j ≡ suc j = omega arith in e), at) own))

-- ---- lower bounds in order

is_none_if : (e : Pat) → None ≡ within e → is_small e ≡ false
is_none_if e h =
    ⊎_elim (λ (t : is_small e ≡ true). absurd (clash (h ∙ rw t refl))) (λ (f : is_small e ≡ false). f) (cases_Bool (is_small e))
  where
    clash : None ≡ Some e → ⊥
    clash p = cc

is_own_if : (e x : Pat) → Some x ≡ within e → x ≡ e
is_own_if e x h =
    ⊎_elim (λ (t : is_small e ≡ true). own (h ∙ rw t refl)) (λ (f : is_small e ≡ false). absurd (clash (h ∙ rw f refl))) (cases_Bool (is_small e))
  where
    own : Some x ≡ Some e → x ≡ e
    own p = cc

    clash : Some x ≡ None → ⊥
    clash p = cc

module _ (f : ℕ → Pat) (ks : List ℕ) (i : ℕ) (l : i < length ks) where
  pub lower_more : (old new : List Measured) (m : Measured) → Some (measured_view m) ≡ within (f (get_or ks i 0)) → new ≡ old ++ m ∷ [] → measured_list old ++ map f (drop i ks) ≡ map f ks → measured_list new ++ map f (drop (i + 1) ks) ≡ map f ks
  lower_more old new m own pushed h =
      ap (λ ms. measured_list ms ++ map f (drop (i + 1) ks)) pushed
      ∙ ap (λ es. es ++ map f (drop (i + 1) ks)) (map-append measured_view old (m ∷ []))
      ∙ append_assoc (measured_list old) (measured_view m ∷ []) (map f (drop (i + 1) ks))
      ∙ ap (λ e. measured_list old ++ (e ∷ map f (drop (i + 1) ks))) (is_own_if (f (get_or ks i 0)) (measured_view m) own)
      ∙ ap (λ js. measured_list old ++ map f js) (sym (drop_more ks i 0 l))
      ∙ h

  pub lower_none : None ≡ within (f (get_or ks i 0)) → list_all is_small (map f ks) ≡ false
  lower_none own =
      list_all_at is_small (map f ks) i (f 0) (subst (λ n. i < n) (sym (length-map ks f)) l)
      (ap is_small (get_or-map f ks i 0 (f 0) l) ∙ is_none_if (f (get_or ks i 0)) own)

pub lower_all : (f : ℕ → Pat) (ks : List ℕ) (i : ℕ) (ms : List Measured) → length ks ≤ i → measured_list ms ++ map f (drop i ks) ≡ map f ks → measured_list ms ≡ map f ks
lower_all f ks i ms l h =
    sym (append-nil (measured_list ms)) ∙ sym (ap (λ js. measured_list ms ++ map f js) (drop_all i ks l)) ∙ h
