-- A problem that is made function after function is the program's, and what it gives.
use Rattle.std.proofs.Common.{◌≡◌, ℕ, zero, suc, ◌<◌, true, false, nat_eq, List, [], ◌∷◌, length, map, Some, None, Result, Ok, Err, refl, sym, ap, ◌∙◌, subst, arith, ⊎_elim, slice_set}
use Rattle.std.specs.Prelude.{slice_get, IfOk, OnOk, IfErr}
use Rattle.std.specs.Map.{lookup}
use Rattle.std.specs.List.{AllByRecursion}
use Rattle.std.proofs.lemmas.Bool.{eqb-true, eq-eqb, cond-false, cases_Bool}
use Rattle.std.proofs.lemmas.List.{length-map}
use Rattle.std.proofs.lemmas.Option.{slice_get_within}
use Rattle.pat_semantics_spec.specs.WellFormed.{WellFormed}
use Rattle.pat_type_schemes_spec.specs.NodeTypes.{NodeType}
use Rattle.pat_infer_spec.specs.Constraints.{Finding}
use Rattle.pat_infer_spec.specs.Laws.{BrokenIsUntypable, SolutionTypes}
use Rattle.pat_infer_spec.specs.Shapes.{FoundFits, EachNodeOnce}
use Rattle.pat_infer_spec.specs.Walk.{inferred}
use Rattle.pat_core.specs.declared.program.Program.{Program}
use Rattle.pat_core.specs.Views.{program_view, node_view}
use Rattle.pat_types.specs.Views.{node_type_view}
use Rattle.pat_infer_problems.specs.Results.{Refuses, first_of}
use Rattle.pat_infer_problems.specs.Growing.{settled}
use Rattle.pat_infer_problems.specs.declared.problem.Problem.{Problem}
use Rattle.pat_infer_problems.specs.declared.error.InferError.{InferError}
use Rattle.pat_infer_problems.specs.declared.error.InferError.TheVariants.{Untypable, NoMemory}
use Rattle.pat_infer_problems.specs.Problems.{IsProblemOf, IsEnough}
use Rattle.pat_infer.specs.Answers.{IsUntypable, IsMade, Answers}

-- ---- types that are set one after another

set_here : (ts : List NodeType) (n : ℕ) (x : NodeType) → n < length ts → slice_get (slice_set ts n x) n ≡ Some x
set_here [] n x l = absurd (none n l)
  where
    none : (k : ℕ) → k < 0 → ⊥
    none k h = omega (arith, h)
set_here (t ∷ ts) zero x l = refl
set_here (t ∷ ts) (suc n) x l = set_here ts n x (omega (arith, l))

set_other : (ts : List NodeType) (n m : ℕ) (x : NodeType) → (m ≡ n → ⊥) → slice_get (slice_set ts n x) m ≡ slice_get ts m
set_other [] n m x h = refl
set_other (t ∷ ts) zero zero x h = absurd (h refl)
set_other (t ∷ ts) zero (suc m) x h = refl
set_other (t ∷ ts) (suc n) zero x h = refl
set_other (t ∷ ts) (suc n) (suc m) x h = set_other ts n m x (λ e. h (ap suc e))

set_length : (ts : List NodeType) (n : ℕ) (x : NodeType) → length (slice_set ts n x) ≡ length ts
set_length [] n x = refl
set_length (t ∷ ts) zero x = refl
set_length (t ∷ ts) (suc n) x = ap suc (set_length ts n x)

settled_length : (es : List (ℕ × NodeType)) (ts : List NodeType) → length (settled es ts) ≡ length ts
settled_length [] ts = refl
settled_length (e ∷ es) ts = settled_length es (slice_set ts e.0 e.1) ∙ set_length ts e.0 e.1

some_same : (a b : NodeType) → Some a ≡ Some b → a ≡ b
some_same a b h = cc

module _ (all : List (ℕ × NodeType)) where
  -- the only type that a number has
  abbrev Agrees : List (ℕ × NodeType) → Type 0
  Agrees es = AllByRecursion (λ e. lookup (nat_eq e.0) all ≡ Some e.1) es

  -- what is set stays
  kept : (es : List (ℕ × NodeType)) (ts : List NodeType) (n : ℕ) (t : NodeType) → Agrees es → lookup (nat_eq n) all ≡ Some t → slice_get ts n ≡ Some t → slice_get (settled es ts) n ≡ Some t
  kept [] ts n t a h g = g
  kept (e ∷ es) ts n t a h g =
      kept es (slice_set ts e.0 e.1) n t a.1 h
      (⊎_elim
      (λ q.
      let same : n ≡ e.0 = eqb-true n e.0 q in
      let one : e.1 ≡ t = some_same e.1 t (sym a.0 ∙ ap (λ k. lookup (nat_eq k) all) (sym same) ∙ h) in
      let within : e.0 < length ts = subst (λ k. k < length ts) same (slice_get_within ts n t g) in
      ap (slice_get (slice_set ts e.0 e.1)) same ∙ set_here ts e.0 e.1 within ∙ ap (λ z. Some z) one)
      (λ q. set_other ts e.0 n e.1 (λ s. apart n e.0 q s) ∙ g)
      (cases_Bool (nat_eq n e.0)))
    where
      apart : (x y : ℕ) → nat_eq x y ≡ false → x ≡ y → ⊥
      apart x y q s = let yes : nat_eq x y ≡ true = eq-eqb x y s in let clash : true ≡ false = sym yes ∙ q in cc

  -- what is found is set
  set_to : (es : List (ℕ × NodeType)) (ts : List NodeType) (n : ℕ) (t : NodeType) → Agrees es → n < length ts → lookup (nat_eq n) es ≡ Some t → slice_get (settled es ts) n ≡ lookup (nat_eq n) all
  set_to [] ts n t a l h = cc
  set_to (e ∷ es) ts n t a l h =
      ⊎_elim
      (λ q.
      let same : n ≡ e.0 = eqb-true n e.0 q in
      let there : lookup (nat_eq n) all ≡ Some e.1 = ap (λ k. lookup (nat_eq k) all) same ∙ a.0 in
      let within : e.0 < length ts = subst (λ k. k < length ts) same l in
      kept es (slice_set ts e.0 e.1) n e.1 a.1 there (ap (slice_get (slice_set ts e.0 e.1)) same ∙ set_here ts e.0 e.1 within)
      ∙ sym there)
      (λ q.
      set_to es (slice_set ts e.0 e.1) n t a.1 (subst (λ k. n < k) (sym (set_length ts e.0 e.1)) l)
      (sym (cond-false (nat_eq n e.0) (Some e.1) (lookup (nat_eq n) es) q) ∙ h))
      (cases_Bool (nat_eq n e.0))

-- ---- what is answered

none_found : (fs : List Finding) → first_of fs ≡ None → fs ≡ []
none_found [] e = refl
none_found (x ∷ fs) e = cc

made_is : (p : Program) (q : Problem) → EachNodeOnce → WellFormed (program_view p) → IsMade p q → IsProblemOf p q
made_is p q once w m =
    let found : List (ℕ × NodeType) = (inferred (program_view p)).nodes in
    let each = once (program_view p) w in record {
      vars = m.vars;
      constraints = m.constraints;
      count = sym (length-map q.nodes node_type_view) ∙ ap length m.nodes ∙ settled_length found m.blank ∙ m.count;
      nodes = λ n d there.
          let t = each.0 n d there in
          let within : n < length m.blank = subst (λ k. n < k) (length-map p.nodes node_view ∙ sym m.count) (slice_get_within (map node_view p.nodes) n d there) in
          ap (λ ts. slice_get ts n) m.nodes ∙ set_to found found m.blank n t.0 each.1 within t.1;
    }

pub is_problem : (p : Program) (res : Result Problem InferError) → EachNodeOnce → WellFormed (program_view p) → Answers p res → IfOk res (IsProblemOf p)
is_problem p (Ok q) once w m = made_is p q once w m
is_problem p (Err e) once w m = tt

pub is_enough : (p : Program) (res : Result Problem InferError) → SolutionTypes → FoundFits → WellFormed (program_view p) → Answers p res → OnOk res (IsEnough (program_view p))
is_enough p (Ok q) types fits w m =
    let v = program_view p in
    let clean = none_found (inferred v).findings m.clean in
    let shapes = fits v w clean in
    record { clean = clean; sides = shapes.0; types = shapes.1; typing = λ s h g. types v s w clean h g }
is_enough p (Err e) types fits w m = tt

pub is_refused : (p : Program) (res : Result Problem InferError) → Answers p res → IfErr res (λ e. Refuses p e (inferred (program_view p)).findings)
is_refused p (Ok q) m = tt
is_refused p (Err e) m = m

some_found : (p : Program) (e : InferError) (fs : List Finding) → BrokenIsUntypable → WellFormed (program_view p) → (inferred (program_view p)).findings ≡ fs → Refuses p e fs → IsUntypable (program_view p) e
some_found p (Untypable s r) [] broken w same h = cc
some_found p (Untypable s r) (x ∷ xs) broken w same h = λ t. broken (program_view p) x xs w same t
some_found p NoMemory fs broken w same h = tt

pub is_untypable : (p : Program) (res : Result Problem InferError) → BrokenIsUntypable → WellFormed (program_view p) → Answers p res → IfErr res (IsUntypable (program_view p))
is_untypable p (Ok q) broken w m = tt
is_untypable p (Err e) broken w m = some_found p e (inferred (program_view p)).findings broken w refl m
