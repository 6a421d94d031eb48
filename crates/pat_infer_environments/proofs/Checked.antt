-- A rule of each variable that one of two parts needs, looked at by the variables of the first part alone.
use Rattle.std.proofs.Common.{◌≡◌, ℕ, Bool, true, false, ◌&&◌, nat_eq, nat_lt, if◌then◌else◌, List, [], ◌∷◌, ◌++◌, Some, None, refl, sym, ap, ◌∙◌, ⊎_elim}
use Rattle.std.specs.Prelude.{Result, Ok, Err, option_map}
use Rattle.std.specs.List.{list_all}
use Rattle.std.specs.Map.{keys_of}
use Rattle.std.proofs.lemmas.Bool.{cond-true, cond-false, cases_Bool, eqb-true}
use Rattle.pat_type_schemes_spec.specs.NodeTypes.{Needs, need_of}
use Rattle.pat_infer_spec.specs.Needs.{add, add_all, names_of_two}
use Rattle.pat_infer_spec.specs.BothParts.{in_order, one_receives}
use Rattle.pat_infer_spec.specs.Constraints.{Rule, Place, AtNode, OrderRule, DoubleRule, Finding, each_unless, unless}
use Rattle.pat_core.specs.declared.program.Program.{Program}
use Rattle.pat_infer_problems.specs.Views.{placed_finding}
use Rattle.pat_infer_problems.specs.Results.{first_of, Meets}
use Rattle.pat_infer_problems.specs.declared.error.InferError.{InferError}
use Rattle.pat_infer_problems.specs.declared.error.InferError.TheVariants.{Untypable, NoMemory}

both_twice : (a b : Bool) → (a && b) ≡ (a && (a && b))
both_twice true b = refl
both_twice false b = refl

both_turned : (a b c : Bool) → (a && (b && c)) ≡ (b && (a && c))
both_turned true b c = refl
both_turned false true c = refl
both_turned false false c = refl

both_apart : (a b c : Bool) → (a && (b && c)) ≡ ((a && b) && c)
both_apart true b c = refl
both_apart false b c = refl

module _ (test : ℕ → Bool) where
  all_add : (x : ℕ) (zs : List ℕ) → list_all test (add x zs) ≡ (test x && list_all test zs)
  all_add x [] = refl
  all_add x (z ∷ zs) =
      let behind : List ℕ = if nat_eq x z then z ∷ zs else z ∷ add x zs in
      ⊎_elim
      (λ l. ap (list_all test) (cond-true (nat_lt x z) (x ∷ z ∷ zs) behind l))
      (λ l.
      ap (list_all test) (cond-false (nat_lt x z) (x ∷ z ∷ zs) behind l)
      ∙ ⊎_elim
      (λ s.
      ap (list_all test) (cond-true (nat_eq x z) (z ∷ zs) (z ∷ add x zs) s)
      ∙ both_twice (test z) (list_all test zs)
      ∙ ap (λ k. test k && (test z && list_all test zs)) (sym (eqb-true x z s)))
      (λ s.
      ap (list_all test) (cond-false (nat_eq x z) (z ∷ zs) (z ∷ add x zs) s)
      ∙ ap (λ b. test z && b) (all_add x zs)
      ∙ both_turned (test z) (test x) (list_all test zs))
      (cases_Bool (nat_eq x z)))
      (cases_Bool (nat_lt x z))

  all_added : (xs zs : List ℕ) → list_all test (add_all xs zs) ≡ (list_all test xs && list_all test zs)
  all_added [] zs = refl
  all_added (x ∷ xs) zs =
      all_add x (add_all xs zs)
      ∙ ap (λ b. test x && b) (all_added xs zs)
      ∙ both_apart (test x) (list_all test xs) (list_all test zs)

  first_found : (r : Rule) (at : Place) (xs : List ℕ) → first_of (unless (list_all test xs) r at) ≡ first_of (each_unless test r (λ z. at) xs)
  first_found r at [] = refl
  first_found r at (x ∷ xs) = go (test x) (first_found r at xs)
    where
      go : (b : Bool) → first_of (unless (list_all test xs) r at) ≡ first_of (each_unless test r (λ z. at) xs) → first_of (unless (b && list_all test xs) r at) ≡ first_of (unless b r at ++ each_unless test r (λ z. at) xs)
      go true h = h
      go false h = refl

  module _ (bound body : Needs) (others : (z : ℕ) → need_of bound z ≡ None → test z ≡ true) where
    of_needed : (needs : Needs) (z : ℕ) → list_all test (keys_of needs) ≡ true → (need_of needs z ≡ None → test z ≡ true) → test z ≡ true
    of_needed [] z h o = o refl
    of_needed (e ∷ needs) z h o =
        ⊎_elim
        (λ s. ap test (eqb-true z e.0 s) ∙ front (test e.0) (list_all test (keys_of needs)) h)
        (λ s. of_needed needs z (behind (test e.0) (list_all test (keys_of needs)) h)
        (λ n. o (cond-false (nat_eq z e.0) (Some e.1) (need_of needs z) s ∙ n)))
        (cases_Bool (nat_eq z e.0))
      where
        front : (a b : Bool) → (a && b) ≡ true → a ≡ true
        front true b h = refl
        front false b h = h

        behind : (a b : Bool) → (a && b) ≡ true → b ≡ true
        behind true b h = h
        behind false b h = cc

    all_hold : list_all test (keys_of bound) ≡ true → (xs : List ℕ) → list_all test xs ≡ true
    all_hold h [] = refl
    all_hold h (x ∷ xs) = ap (λ b. b && list_all test xs) (of_needed bound x h (others x)) ∙ all_hold h xs

    by_bound : list_all test (keys_of bound) ≡ list_all test (names_of_two bound body)
    by_bound = go (list_all test (keys_of bound)) refl
      where
        go : (b : Bool) → list_all test (keys_of bound) ≡ b → list_all test (keys_of bound) ≡ list_all test (names_of_two bound body)
        go true h = h ∙ sym (all_hold h (names_of_two bound body))
        go false h = h ∙ sym (all_added (keys_of bound) (add_all (keys_of body) []) ∙ ap (λ b. b && list_all test (add_all (keys_of body) [])) h)

    same_found : (r : Rule) (at : Place) → first_of (unless (list_all test (keys_of bound)) r at) ≡ first_of (each_unless test r (λ z. at) (names_of_two bound body))
    same_found r at = ap (λ b. first_of (unless b r at)) by_bound ∙ first_found r at (names_of_two bound body)

meets_same : {A : Type 0} (p : Program) (r : Result A InferError) (xs ys : List Finding) → first_of xs ≡ first_of ys → Meets p r xs → Meets p r ys
meets_same p (Ok a) xs ys e h = sym e ∙ h
meets_same p (Err (Untypable s r)) xs ys e h = ap (option_map (placed_finding p)) (sym e) ∙ h
meets_same p (Err NoMemory) xs ys e h = tt

abbrev order_at : Needs → Needs → ℕ → Bool
order_at bound body z = in_order (need_of bound z) (need_of body z)

abbrev once_at : Needs → Needs → ℕ → Bool
once_at bound body z = one_receives (need_of bound z) (need_of body z)

pub meets_order : {A : Type 0} (p : Program) (r : Result A InferError) (n : ℕ) (bound body : Needs) (holds : Bool) → holds ≡ list_all (λ z. in_order (need_of bound z) (need_of body z)) (keys_of bound) → Meets p r (unless holds OrderRule (AtNode n)) → Meets p r (each_unless (λ z. in_order (need_of bound z) (need_of body z)) OrderRule (λ z. AtNode n) (names_of_two bound body))
meets_order p r n bound body holds e h =
    meets_same p r (unless holds OrderRule (AtNode n)) (each_unless (order_at bound body) OrderRule (λ z. AtNode n) (names_of_two bound body))
    (ap (λ b. first_of (unless b OrderRule (AtNode n))) e
    ∙ same_found (order_at bound body) bound body (λ z none. ap (λ o. in_order o (need_of body z)) none) OrderRule (AtNode n)) h

pub meets_double : {A : Type 0} (p : Program) (r : Result A InferError) (n : ℕ) (bound body : Needs) (holds : Bool) → holds ≡ list_all (λ z. one_receives (need_of bound z) (need_of body z)) (keys_of bound) → Meets p r (unless holds DoubleRule (AtNode n)) → Meets p r (each_unless (λ z. one_receives (need_of bound z) (need_of body z)) DoubleRule (λ z. AtNode n) (names_of_two bound body))
meets_double p r n bound body holds e h =
    meets_same p r (unless holds DoubleRule (AtNode n)) (each_unless (once_at bound body) DoubleRule (λ z. AtNode n) (names_of_two bound body))
    (ap (λ b. first_of (unless b DoubleRule (AtNode n))) e
    ∙ same_found (once_at bound body) bound body (λ z none. ap (λ o. one_receives o (need_of body z)) none) DoubleRule (AtNode n)) h
