-- Functions, by their signatures.
use Rattle.std.proofs.Common.{◌≡◌, ℕ, suc, ◌<◌, drop, arith, ◌+◌, List, [], ◌∷◌, ◌++◌, length, map, Option, Some, None, Result, Err, refl, sym, ap, ◌∙◌, subst}
use Rattle.std.specs.Prelude.{slice_get}
use Rattle.std.proofs.lemmas.List.{append-nil, append_assoc, at_drop_more}
use Rattle.pat_semantics_spec.specs.Programs.{Function}
use Rattle.pat_semantics_spec.specs.Programs as core
use Rattle.pat_type_system_spec.specs.Types.{TypeEnv, MailboxType as MailboxTypeOf}
use Rattle.pat_type_schemes_spec.specs.NodeTypes.{Needs, need_of}
use Rattle.pat_type_schemes_spec.specs.Signatures.{open_param, open_result}
use Rattle.pat_infer_spec.specs.Constraints.{Found}
use Rattle.pat_infer_spec.specs.Binders.{Binder, binder_findings, binder_constraints, name_before, names_bound, param_names}
use Rattle.pat_infer_spec.specs.Walk.{function_binders, function_found}
use Rattle.pat_core.specs.declared.program.Program.{Program}
use Rattle.pat_core.specs.declared.program.Sort.{Sort as CodeSort}
use Rattle.pat_core.specs.Views.{program_view, sort_view}
use Rattle.pat_types.specs.Views.{needs_view}
use Rattle.pat_types.specs.declared.types.MailboxType.{MailboxType}
use Rattle.pat_infer_problems.specs.Views.{placed_variable_of, placed_constraint}
use Rattle.pat_infer_problems.specs.Results.{first_of, Refuses}
use Rattle.pat_infer_problems.specs.Growing.{Grows}
use Rattle.pat_infer_problems.specs.declared.problem.Problem.{Problem}
use Rattle.pat_infer_problems.specs.declared.error.InferError.{InferError}
use Rattle.pat_infer_problems.specs.signatures.Opened.{Signature, signatures_from}
use Rattle.pat_infer_environments.specs.Types.{types_at}
use Rattle.pat_infer.specs.walk.Walking.{HasGrown, Finds}
use Rattle.pat_infer_problems.specs.Walked.{IsWalked}
use Rattle.pat_infer_terms.proofs.Payloads.{names_same}
use Rattle.pat_infer.proofs.Parts.{grows_then}
use Rattle.pat_infer_problems.proofs.Joining.{first_behind, refuses_behind}
use Rattle.pat_infer.proofs.SignedNumbers.{signed_as}

some_is : (a b : Signature) → Some a ≡ Some b → a ≡ b
some_is a b h = cc

module _ (p : core.Program) (f : ℕ) (g : Function) (s : Signature) where
  -- a signature that is at hand has the types of the definition
  pub result_same : slice_get p.functions f ≡ Some g → slice_get (signatures_from 1 p.functions) f ≡ Some s → s.result ≡ open_result p f g
  result_same h e =
      let q = signed_as 1 p.functions f g h in
      sym (ap (λ (z : Signature). z.result) (some_is q.signature s (sym q.there ∙ e))) ∙ q.result

  pub binders_same : (needs : Needs) → slice_get p.functions f ≡ Some g → slice_get (signatures_from 1 p.functions) f ≡ Some s → names_bound (types_at s.params) 0 (param_names 0 g.params) needs ≡ function_binders p f g needs
  binders_same needs h e =
      let q = signed_as 1 p.functions f g h in
      let same : q.signature ≡ s = some_is q.signature s (sym q.there ∙ e) in
      names_same (types_at s.params) (open_param p f g) (λ j. sym (ap (λ (z : Signature). types_at z.params j) same) ∙ q.params j) 0 (param_names 0 g.params) needs

-- a function, whose body is walked, and whose parameters are constrained
pub function_walked : (p : Program) (old mid new : Problem) (f : ℕ) (g : Function) (needs : List (ℕ × MailboxType)) (bs : List Binder) (b : Found) → IsWalked p old mid needs b → bs ≡ function_binders (program_view p) f g (needs_view needs) → first_of (binder_findings f bs) ≡ None → Grows mid new [] (map (placed_constraint p) (binder_constraints f bs)) [] → HasGrown p old new (function_found (program_view p) f g b)
function_walked p old mid new f g needs bs b w e clean h =
    let own : List Binder = function_binders (program_view p) f g b.needs in
    let same : bs ≡ own = e ∙ ap (function_binders (program_view p) f g) w.needed in
    let i : Grows mid new [] (map (placed_constraint p) (binder_constraints f own)) [] =
    subst (λ (z : List Binder). Grows mid new [] (map (placed_constraint p) (binder_constraints f z)) []) same h in
    let j : first_of (binder_findings f own) ≡ None = subst (λ (z : List Binder). first_of (binder_findings f z) ≡ None) same clean in
    record {
      grows = record {
        vars = i.vars ∙ append-nil (map placed_variable_of mid.vars) ∙ w.grows.vars;
        constraints = (grows_then p old mid new b.vars [] b.constraints (binder_constraints f own) b.nodes w.grows i).constraints;
        nodes = i.nodes ∙ w.grows.nodes;
      };
      clean = first_behind b.findings (binder_findings f own) w.clean ∙ j;
    }

-- names that break a rule
pub function_refused : (p : Program) (old mid : Problem) (f : ℕ) (g : Function) (e : InferError) (needs : List (ℕ × MailboxType)) (bs : List Binder) (b : Found) → IsWalked p old mid needs b → bs ≡ function_binders (program_view p) f g (needs_view needs) → Refuses p e (binder_findings f bs) → Refuses p e (function_found (program_view p) f g b).findings
function_refused p old mid f g e needs bs b w h r =
    let own : List Binder = function_binders (program_view p) f g b.needs in
    refuses_behind p e b.findings (binder_findings f own) w.clean
    (subst (λ (z : List Binder). Refuses p e (binder_findings f z)) (h ∙ ap (function_binders (program_view p) f g) w.needed) r)

-- the exit of a `?`
pub finds_exits : {A : Type 0} (p : Program) (res : Result A InferError) (given e : InferError) (old new : Problem) (r : Found) → res ≡ Err given → given ≡ e → Refuses p e r.findings → Finds p old new res r
finds_exits {A} p res given e old new r is from h =
    subst (λ (v : Result A InferError). Finds p old new v r) (sym (is ∙ ap (λ (z : InferError). Err z) from)) h

name_then : (x : ℕ) (o : Option MailboxTypeOf) (need : Option MailboxTypeOf) (bs : List Binder) → name_before x o need [] ++ bs ≡ name_before x o need bs
name_then x None need bs = refl
name_then x (Some a) need bs = refl

-- one parameter's name more
pub bound_more : (types : TypeEnv) (needs : Needs) (xs : List CodeSort) (n : ℕ) (bs more : List Binder) → n < length xs → more ≡ bs ++ name_before n (types n) (need_of needs n) [] → more ++ names_bound types (n + 1) (param_names (n + 1) (map sort_view (drop (n + 1) xs))) needs ≡ bs ++ names_bound types n (param_names n (map sort_view (drop n xs))) needs
bound_more types needs [] n bs more h e = absurd (not_below n h)
  where
    not_below : (k : ℕ) → k < 0 → ⊥
    not_below k l = omega (arith, l)
bound_more types needs (y ∷ ys) n bs more h e =
    let row = at_drop_more (λ zs. zs) (y ∷ ys) n y h in
    let next : n + 1 ≡ suc n = omega arith in
    let left : List CodeSort = drop (n + 1) (y ∷ ys) in
    let own : List Binder = name_before n (types n) (need_of needs n) [] in
    ap (λ zs. zs ++ names_bound types (n + 1) (param_names (n + 1) (map sort_view left)) needs) e
    ∙ append_assoc bs own (names_bound types (n + 1) (param_names (n + 1) (map sort_view left)) needs)
    ∙ ap (λ z. bs ++ (own ++ names_bound types z (param_names z (map sort_view left)) needs)) next
    ∙ ap (λ zs. bs ++ zs) (name_then n (types n) (need_of needs n) (names_bound types (suc n) (param_names (suc n) (map sort_view left)) needs))
    ∙ ap (λ zs. bs ++ names_bound types n (param_names n (map sort_view zs)) needs) (sym row)
