-- The whole walk: patterns keep to their interfaces, and right sides are one variable or have none.
use Rattle.std.proofs.Common.{◌≡◌, ℕ, zero, suc, ◌+◌, ◌≤◌, true, nat_eq, List, [], ◌∷◌, length, Option, Some, None, refl, sym, ◌∙◌, subst, arith}
use Rattle.std.specs.Prelude.{slice_get, option_and_then}
use Rattle.std.specs.List.{AllByRecursion}
use Rattle.std.proofs.lemmas.Bool.{or_right}
use Rattle.std.proofs.lemmas.Option.{slice_get_within}
use Rattle.pat_words_spec.specs.Patterns.{Var}
use Rattle.pat_semantics_spec.specs.Values.{MailboxOf}
use Rattle.pat_semantics_spec.specs.Programs.{Sort, Function, Core, Val, Let, Call, If, Print, New, Send, Spawn, Guard, Node, Program, node_at, function_at, is_among, parts}
use Rattle.pat_semantics_spec.specs.WellFormed.{WellFormed, IsSignature, IsPartOf}
use Rattle.pat_semantics_laws.proofs.Lists.{nil_parts, all_at, all_join, all_snoc, among_head}
use Rattle.pat_type_system_spec.specs.Types.{MailboxType, TypeOf, BaseTerm, MailboxTerm, kind_of_type}
use Rattle.pat_type_system_spec.specs.Typings.{sort_type}
use Rattle.pat_type_schemes_spec.specs.Signatures.{OfParameter, OfResult, Variable, signature_vars, number_at, result_number, first_number, open_param, open_result}
use Rattle.pat_infer_spec.specs.Constraints.{Found}
use Rattle.pat_infer_spec.specs.Binders.{binder_findings, binder_constraints, param_names}
use Rattle.pat_infer_spec.specs.Walk.{Part, core_found, node_found, walk, function_binders, walk_function, walk_functions, inferred, all_vars}
use Rattle.pat_infer_spec.specs.Shapes.{IsNumber, ConstraintFits, ResultFits, NodeTypeFits, FoundFits}
use Rattle.pat_infer_laws.proofs.BinderLaws.{binder_at, names_all, param_places}
use Rattle.pat_infer_laws.proofs.TermTyped.{result_kind}
use Rattle.pat_infer_laws.proofs.WalkTyped.{need_kind, open_kind}
use Rattle.pat_infer_laws.proofs.Numbering.{Numbered, numbered_parts, signature_numbered, all_numbers}
use Rattle.pat_infer_laws.proofs.ShapeLaws.{Declared, SimpleResult, sort_shape, result_shape}
use Rattle.pat_infer_laws.proofs.TermShaped.{Shaped, AskedFits, PartShapes, SignatureShapes, nothing_shaped, value_shaped, new_shaped, call_shaped, send_shaped, spawn_shaped, let_shaped}
use Rattle.pat_infer_laws.proofs.ArmsShaped.{NameShaped, if_shaped, guard_shaped, names_shaped}

-- ---- signatures

signature_shapes : (p : Program) (wf : WellFormed p) (vars : List Variable) → Numbered (IsNumber vars) 1 (signature_vars p) → SignatureShapes p vars
signature_shapes p wf vars h = record {
  params = λ f g at k a e. param f g at k a (slice_get g.params k) refl e;
  results = λ f g at.
      result_shape p vars (result_number (first_number p f) g) (OfResult f) g.result (wf.functions f g at).signature.1
      (signature_numbered (IsNumber vars) p h f g at).result;
}
  where
    param : (f : ℕ) (g : Function) → function_at p f ≡ Some g → (k : ℕ) (a : MailboxType) (o : Option Sort) → slice_get g.params k ≡ o → option_and_then (sort_type (Var (number_at (first_number p f) g.params k))) o ≡ Some a → Declared p vars a
    param f g at k a None e w = cc
    param f g at k a (Some t) e w =
        sort_shape p vars (number_at (first_number p f) g.params k) (OfParameter f k) t a (all_at (IsSignature p) g.params k t (wf.functions f g at).signature.0 e)
        ((signature_numbered (IsNumber vars) p h f g at).params k t e) w

module _ (p : Program) (wf : WellFormed p) (vars : List Variable) (shapes : SignatureShapes p vars) where
  core_shaped : (part : Part) (n : ℕ) (d : Node) (core : Core) (at : node_at p n ≡ Some d) → d.core ≡ core → ((m : ℕ) → is_among m (parts core) ≡ true → IsPartOf p n d m × PartShapes p vars part m) → (asked : TypeOf) (k : ℕ) → kind_of_type asked ≡ d.kind → AskedFits p vars asked → (core_found p part d.function n k asked core).findings ≡ [] → Numbered (IsNumber vars) k (core_found p part d.function n k asked core).vars → Shaped p vars n (core_found p part d.function n k asked core)
  core_shaped part n d (Val e) at is inner asked k kind ask clean numbers = value_shaped p wf vars n d at e is asked kind ask
  core_shaped part n d (Print e) at is inner asked k kind ask clean numbers = nothing_shaped p vars n
  core_shaped part n d (New i) at is inner asked k kind ask clean numbers = new_shaped p wf vars n d at i is asked kind ask clean
  core_shaped part n d (Call f args) at is inner asked k kind ask clean numbers = call_shaped p wf vars shapes n d at f args is asked kind ask clean
  core_shaped part n d (Send x m args) at is inner asked k kind ask clean numbers = send_shaped p wf vars n d at x m args is
  core_shaped part n d (Spawn m) at is inner asked k kind ask clean numbers =
      let q = inner m (among_head m []) in spawn_shaped p wf vars part n d at m is q.0 q.1 k clean numbers
  core_shaped part n d (Let x m b) at is inner asked k kind ask clean numbers =
      let qm = inner m (among_head m (b ∷ [])) in
      let qb = inner b (or_right (nat_eq b m) (is_among b (b ∷ [])) (among_head b [])) in
      let_shaped p wf vars part n d at x m b is qm.0 qb.0 qm.1 qb.1 asked k kind ask clean numbers
  core_shaped part n d (If e a b) at is inner asked k kind ask clean numbers =
      let qa = inner a (among_head a (b ∷ [])) in
      let qb = inner b (or_right (nat_eq b a) (is_among b (b ∷ [])) (among_head b [])) in
      if_shaped p wf vars part n d at e a b is qa.0 qb.0 qa.1 qb.1 asked k kind ask clean numbers
  core_shaped part n d (Guard x e free cs) at is inner asked k kind ask clean numbers =
      guard_shaped p wf vars part n d at x e free cs is inner asked k kind ask clean numbers

  asked_result : (asked : TypeOf) → AskedFits p vars asked → ResultFits p vars asked
  asked_result (BaseTerm b) h = tt
  asked_result (MailboxTerm i q e) h = h.pattern

  -- the walk of a node, with levels enough for all that comes after it
  walk_shaped : (levels n : ℕ) → length p.nodes ≤ levels + n → PartShapes p vars (walk levels p) n
  walk_shaped zero n enough asked k d at kind ask clean numbers =
      let within = slice_get_within p.nodes n d at in absurd (omega arith)
  walk_shaped (suc levels) n enough asked k d at kind ask clean numbers =
      let inner : (m : ℕ) → is_among m (parts d.core) ≡ true → IsPartOf p n d m × PartShapes p vars (walk levels p) m =
      λ m on.
      let q = (wf.nodes n d at).parts_after m on in
      let after = q.0 in
      (q, walk_shaped levels m (omega arith)) in
      let r : Found = core_found p (walk levels p) d.function n k asked d.core in
      let core = core_shaped (walk levels p) n d d.core at refl inner asked k kind ask
      (subst (λ o. (node_found p (walk levels p) n asked k o).findings ≡ []) at clean)
      (subst (λ o. Numbered (IsNumber vars) k (node_found p (walk levels p) n asked k o).vars) at numbers) in
      let own : NodeTypeFits p vars (record { result = asked; needs = r.needs }) = record { result = asked_result asked ask; needs = λ z a h. (core.needs z a h).word } in
      subst (λ o. Shaped p vars n (node_found p (walk levels p) n asked k o)) (sym at)
      (record {
        needs = core.needs;
        constraints = core.constraints;
        nodes = all_snoc (λ e. NodeTypeFits p vars e.1) r.nodes (n, record { result = asked; needs = r.needs }) core.nodes own;
      })

  -- ---- functions

  result_asked : (t : TypeOf) → SimpleResult p vars t → AskedFits p vars t
  result_asked (BaseTerm b) h = tt
  result_asked (MailboxTerm i q e) h = record { pattern = h.0; simple = λ _. h.1 }

  -- what functions find
  record AllShaped (r : Found) : Type 0 where
    constraints : AllByRecursion (ConstraintFits p vars) r.constraints
    nodes : AllByRecursion (λ e. NodeTypeFits p vars e.1) r.nodes

  function_shaped : (f : ℕ) (g : Function) (k : ℕ) (at : function_at p f ≡ Some g) → (walk_function p f g k).findings ≡ [] → Numbered (IsNumber vars) k (walk_function p f g k).vars → AllShaped (walk_function p f g k)
  function_shaped f g k at clean numbers =
      let fits = wf.functions f g at in
      let body : Found = walk (length p.nodes) p g.body (open_result p f g) k in
      let rules = nil_parts body.findings (binder_findings f (function_binders p f g body.needs)) clean in
      let part = walk_shaped (length p.nodes) g.body (omega arith) (open_result p f g) k fits.body.0 fits.body.1
      (result_kind (Var (result_number (first_number p f) g)) g.result ∙ sym fits.body.3)
      (result_asked (open_result p f g) (shapes.results f g at)) rules.0 numbers in
      let names = names_all (NameShaped p vars) (open_param p f g) 0 (param_names 0 g.params) body.needs
      (param_places (λ z a. NameShaped p vars (binder_at body.needs z a)) (open_param p f g) 0 g.params
      (λ j a e. record {
        type = shapes.params f g at j a e;
        face = λ b h. one_face j a.interface b.interface (open_kind p wf f g at j a e) (need_kind p wf f g at j (MailboxOf b.interface) (part.needs j b h).kind);
        need = λ b h. (part.needs j b h).word;
      })) in
      record {
        constraints = all_join (ConstraintFits p vars) body.constraints (binder_constraints f (function_binders p f g body.needs)) part.constraints
            (names_shaped p vars f (function_binders p f g body.needs) names rules.1);
        nodes = part.nodes;
      }
    where
      one_face : (j a b : ℕ) → slice_get g.vars j ≡ Some (MailboxOf a) → slice_get g.vars j ≡ Some (MailboxOf b) → a ≡ b
      one_face j a b h k = let same : Some (MailboxOf a) ≡ Some (MailboxOf b) = sym h ∙ k in cc

  functions_shaped : (f k : ℕ) (gs : List Function) → ((j : ℕ) (g : Function) → slice_get gs j ≡ Some g → function_at p (f + j) ≡ Some g) → (walk_functions p f k gs).findings ≡ [] → Numbered (IsNumber vars) k (walk_functions p f k gs).vars → AllShaped (walk_functions p f k gs)
  functions_shaped f k [] there clean numbers = record { constraints = tt; nodes = tt }
  functions_shaped f k (g ∷ gs) there clean numbers =
      let first : Found = walk_function p f g k in
      let rest : Found = walk_functions p (suc f) (k + length first.vars) gs in
      let rules = nil_parts first.findings rest.findings clean in
      let q = numbered_parts (IsNumber vars) k first.vars rest.vars numbers in
      let place : f + 0 ≡ f = omega arith in
      let here = function_shaped f g k (subst (λ n. function_at p n ≡ Some g) place (there 0 g refl)) rules.0 q.0 in
      let later = functions_shaped (suc f) (k + length first.vars) gs
      (λ j e is. let next : f + suc j ≡ suc f + j = omega arith in subst (λ n. function_at p n ≡ Some e) next (there (suc j) e is))
      rules.1 q.1 in
      record {
        constraints = all_join (ConstraintFits p vars) first.constraints rest.constraints here.constraints later.constraints;
        nodes = all_join (λ e. NodeTypeFits p vars e.1) first.nodes rest.nodes here.nodes later.nodes;
      }

pub found_fits : FoundFits
found_fits p wf clean =
    let vars : List Variable = all_vars p in
    let q = numbered_parts (IsNumber vars) 1 (signature_vars p) (inferred p).vars (all_numbers vars) in
    let all = functions_shaped p wf vars (signature_shapes p wf vars q.0) 0 (1 + length (signature_vars p)) p.functions
    (λ j g e. let place : 0 + j ≡ j = omega arith in subst (λ n. function_at p n ≡ Some g) (sym place) e) clean q.1 in
    (all.constraints, all.nodes)
