-- The interface of each constraint and of each variable that inference finds is one of the program's.
use Rattle.std.proofs.Common.{◌≡◌, ℕ, zero, suc, ◌+◌, ◌<◌, true, false, not, nat_eq, if◌then◌else◌, List, [], ◌∷◌, ◌++◌, length, Option, Some, None, refl, sym, ap, ◌∙◌, subst, arith}
use Rattle.std.specs.Prelude.{slice_get, option_and_then, nat_lt}
use Rattle.std.specs.List.{AllByRecursion, list_any}
use Rattle.std.proofs.lemmas.Bool.{cond_both, or_left, or_right, eq-eqb}
use Rattle.pat_words_spec.specs.Patterns.{Pat, Var}
use Rattle.pat_semantics_spec.specs.Values.{BaseUnit, Kind, Plain, MailboxOf, Expr, VarExpr, Literal, OpExpr}
use Rattle.pat_semantics_spec.specs.Programs.{Polarity, Sending, Receiving, TagDecl, Sort, BaseSort, MailboxSort, Function, Clause, Core, Val, Let, Call, If, Print, New, Send, Spawn, Guard, Node, Program, node_at, function_at, tag_at, is_among, is_free, option_list, parts, clause_bodies, clause_uses}
use Rattle.pat_semantics_spec.specs.WellFormed.{WellFormed, IsPayload, IsSignature, ClauseKinds, CoreKinds, IsPartOf}
use Rattle.pat_semantics_laws.proofs.Lists.{all_at, all_join}
use Rattle.pat_type_system_spec.specs.Types.{MailboxType, mailbox_type, TypeOf, BaseTerm, MailboxTerm, TypeEnv}
use Rattle.pat_type_system_spec.specs.Typings.{sort_type, result_of, payload_sort, payload_type}
use Rattle.pat_type_system_spec.specs.Holdings.{declared_types}
use Rattle.pat_type_schemes_spec.specs.NodeTypes.{Needs, need_of}
use Rattle.pat_type_schemes_spec.specs.Signatures.{Origin, OfParameter, OfResult, Variable, omitted, params_omitted, function_vars, functions_vars, signature_vars, number_at, result_number, first_number, open_param, open_result}
use Rattle.pat_infer_spec.specs.Constraints.{AtName, Place, Constraint, Found, nothing_found}
use Rattle.pat_infer_spec.specs.Needs.{put, put_option, args_needs, needs_but, needs_second, names_of_two, Combined, just, vars_with, constraints_with, need_before, gather}
use Rattle.pat_infer_spec.specs.Binders.{Binder, name_constraints, binder_constraints, name_before, names_bound, param_names}
use Rattle.pat_infer_spec.specs.BothParts.{new_var, parts_joined, both_parts}
use Rattle.pat_infer_spec.specs.Branches.{Branch, Arm, arm_names, arm_needs, outer_needs, first_need, each_receives, branches_with, branches_by, branches, all_by, branch_usage, own_names}
use Rattle.pat_infer_spec.specs.Walk.{Part, interface_of, kinds_of, var_interface, asked_as, asked_of, name_need, value_needs, new_found, result_constraints, call_found, send_found, spawn_found, body_needs, let_gathered, let_found, bound_found, Arms, walk_arms, two_branches, clause_branch, branches_of, arm_binders, guard_binders, arms_gathered, if_from, guard_from, core_found, node_found, walk, function_binders, walk_function, walk_functions, inferred, all_vars}
use Rattle.pat_infer_laws.proofs.SignatureLaws.{declared_payloads}
use Rattle.pat_solve_spec.specs.Laws.{InterfacesThere}
use Rattle.pat_solve_laws.proofs.KindsThere.{pattern_there, tag_there, signature_there, payload_there, VarsThere, first_down, body_down, then_down, else_down, spawn_down, free_down, clause_down, kind_there, body_vars}

module _ (p : Program) where
  abbrev Ok : ℕ → Type 0
  Ok i = i < length p.interfaces

  abbrev NeedOk : Option MailboxType → Type 0
  NeedOk o = (a : MailboxType) → o ≡ Some a → Ok a.interface

  abbrev NeedsOk : Needs → Type 0
  NeedsOk needs = AllByRecursion (λ (e : ℕ × MailboxType). Ok e.1.interface) needs

  abbrev VarsOk : List Variable → Type 0
  VarsOk vs = AllByRecursion (λ (v : Variable). Ok v.interface) vs

  abbrev SidesOk : List Constraint → Type 0
  SidesOk cs = AllByRecursion (λ (c : Constraint). Ok c.interface) cs

  abbrev TypeOk : TypeOf → Type 0
  TypeOk (BaseTerm b) = Unit {0}
  TypeOk (MailboxTerm i q e) = Ok i

  record FoundOk (r : Found) : Type 0 where
    needs : NeedsOk r.needs
    vars : VarsOk r.vars
    constraints : SidesOk r.constraints

  none_ok : NeedOk None
  none_ok a h = cc

  some_ok : (a : MailboxType) → Ok a.interface → NeedOk (Some a)
  some_ok a h b q = let same : a ≡ b = cc in subst (λ (c : MailboxType). Ok c.interface) same h

  -- ---- needs

  need_ok : (needs : Needs) (x : ℕ) → NeedsOk needs → NeedOk (need_of needs x)
  need_ok [] x h = none_ok
  need_ok (e ∷ needs) x h =
      cond_both (nat_eq x e.0) (Some e.1) (need_of needs x) NeedOk (λ _. some_ok e.1 h.0) (λ _. need_ok needs x h.1)

  put_ok : (x : ℕ) (a : MailboxType) (needs : Needs) → Ok a.interface → NeedsOk needs → NeedsOk (put x a needs)
  put_ok x a [] k h = (k, tt)
  put_ok x a (e ∷ needs) k h =
      cond_both (nat_lt x e.0) ((x, a) ∷ e ∷ needs) (if nat_eq x e.0 then (x, a) ∷ needs else e ∷ put x a needs) NeedsOk
      (λ _. (k, h))
      (λ _. cond_both (nat_eq x e.0) ((x, a) ∷ needs) (e ∷ put x a needs) NeedsOk (λ _. (k, h.1)) (λ _. (h.0, put_ok x a needs k h.1)))

  option_ok : (x : ℕ) (o : Option MailboxType) (needs : Needs) → NeedOk o → NeedsOk needs → NeedsOk (put_option x o needs)
  option_ok x None needs k h = h
  option_ok x (Some a) needs k h = put_ok x a needs (k a refl) h

  args_ok : (types : TypeEnv) (k : ℕ) (es : List Expr) → ((j : ℕ) → NeedOk (types j)) → NeedsOk (args_needs types k es)
  args_ok types k [] t = tt
  args_ok types k (VarExpr x ∷ es) t = option_ok x (types k) (args_needs types (suc k) es) (t k) (args_ok types (suc k) es t)
  args_ok types k (Literal c ∷ es) t = args_ok types (suc k) es t
  args_ok types k (OpExpr op a b ∷ es) t = args_ok types (suc k) es t

  but_ok : (xs : List ℕ) (needs : Needs) → NeedsOk needs → NeedsOk (needs_but xs needs)
  but_ok xs [] h = tt
  but_ok xs (e ∷ needs) h =
      cond_both (not (is_among e.0 xs)) (e ∷ needs_but xs needs) (needs_but xs needs) NeedsOk (λ _. (h.0, but_ok xs needs h.1)) (λ _. but_ok xs needs h.1)

  second_ok : (needs : Needs) → NeedsOk needs → NeedsOk (needs_second needs)
  second_ok [] h = tt
  second_ok (e ∷ needs) h = (h.0, second_ok needs h.1)

  -- ---- what is taken together

  record WithOk (o : Option Combined) : Type 0 where
    need : (c : Combined) → o ≡ Some c → Ok c.need.interface
    vars : VarsOk (vars_with o)
    constraints : SidesOk (constraints_with o)

  just_ok : (a : MailboxType) → Ok a.interface → WithOk (Some (record { need = a; vars = []; constraints = [] }))
  just_ok a h = record {
    need = λ c q. let same : record { need = a; vars = []; constraints = [] } ≡ c = cc in subst (λ (d : Combined). Ok d.need.interface) same h;
    vars = tt;
    constraints = tt;
  }

  own_ok : (c : Combined) → Ok c.need.interface → VarsOk c.vars → SidesOk c.constraints → WithOk (Some c)
  own_ok c h v s = record { need = λ d q. let same : c ≡ d = cc in subst (λ (e : Combined). Ok e.need.interface) same h; vars = v; constraints = s }

  nothing_ok : WithOk None
  nothing_ok = record { need = λ c q. cc; vars = tt; constraints = tt }

  before_ok : (x : ℕ) (o : Option Combined) (rest : Needs) → WithOk o → NeedsOk rest → NeedsOk (need_before x o rest)
  before_ok x None rest w h = h
  before_ok x (Some c) rest w h = (w.need c refl, h)

  record GatheredOk (f : ℕ → ℕ → Option Combined) (k : ℕ) (xs : List ℕ) : Type 0 where
    needs : NeedsOk (gather f k xs).needs
    vars : VarsOk (gather f k xs).vars
    constraints : SidesOk (gather f k xs).constraints

  gather_ok : (f : ℕ → ℕ → Option Combined) → ((j x : ℕ) → WithOk (f j x)) → (k : ℕ) (xs : List ℕ) → GatheredOk f k xs
  gather_ok f each k [] = record { needs = tt; vars = tt; constraints = tt }
  gather_ok f each k (x ∷ xs) =
      let j : ℕ = k + length (vars_with (f k x)) in
      let rest = gather_ok f each j xs in
      record {
        needs = before_ok x (f k x) (gather f j xs).needs (each k x) rest.needs;
        vars = all_join (λ (v : Variable). Ok v.interface) (vars_with (f k x)) (gather f j xs).vars (each k x).vars rest.vars;
        constraints = all_join (λ (c : Constraint). Ok c.interface) (constraints_with (f k x)) (gather f j xs).constraints (each k x).constraints rest.constraints;
      }

  joined_ok : (n k x : ℕ) (q r : Polarity) (b c : MailboxType) → Ok c.interface → WithOk (parts_joined n k x q r b c)
  joined_ok n k x Sending Sending b c h = just_ok _ h
  joined_ok n k x Sending Receiving b c h = own_ok _ h (h, tt) (h, tt)
  joined_ok n k x Receiving r b c h = own_ok _ h (h, tt) (h, tt)

  both_ok : (n k x : ℕ) (o q : Option MailboxType) → NeedOk o → NeedOk q → WithOk (both_parts n k x o q)
  both_ok n k x None None h g = nothing_ok
  both_ok n k x (Some b) None h g = just_ok b (h b refl)
  both_ok n k x None (Some c) h g = just_ok c (g c refl)
  both_ok n k x (Some b) (Some c) h g = joined_ok n k x b.polarity c.polarity b c (g c refl)

  first_ok : (os : List (Option MailboxType)) → AllByRecursion NeedOk os → NeedOk (first_need os)
  first_ok [] h = none_ok
  first_ok (None ∷ os) h = first_ok os h.1
  first_ok (Some a ∷ os) h = h.0

  receives_ok : (n k i : ℕ) (os : List (Option MailboxType)) → Ok i → SidesOk (each_receives n k i os)
  receives_ok n k i [] h = tt
  receives_ok n k i (None ∷ os) h = receives_ok n k i os h
  receives_ok n k i (Some a ∷ os) h = (h, receives_ok n k i os h)

  with_ok : (n k x : ℕ) (q : Polarity) (a : MailboxType) (os : List (Option MailboxType)) → Ok a.interface → WithOk (branches_with n k x q a os)
  with_ok n k x Sending a os h = just_ok _ h
  with_ok n k x Receiving a os h =
      let same : Option Combined = just (mailbox_type a.interface Receiving a.pattern (branch_usage os)) in
      let new : Option Combined = Some (record { need = mailbox_type a.interface Receiving (Var k) (branch_usage os); vars = new_var n x a.interface ∷ []; constraints = each_receives n k a.interface os }) in
      cond_both (all_by a.pattern os) same new WithOk
      (λ _. just_ok (mailbox_type a.interface Receiving a.pattern (branch_usage os)) h)
      (λ _. own_ok _ h (h, tt) (receives_ok n k a.interface os h))

  by_ok : (n k x : ℕ) (o : Option MailboxType) (os : List (Option MailboxType)) → NeedOk o → WithOk (branches_by n k x o os)
  by_ok n k x None os h = nothing_ok
  by_ok n k x (Some a) os h = with_ok n k x a.polarity a os (h a refl)

  -- ---- names

  name_ok : (at : Place) (i : ℕ) (q : Polarity) (e : Pat) (o : Option MailboxType) → Ok i → SidesOk (name_constraints at i q e o)
  name_ok at i Sending e None h = (h, tt)
  name_ok at i Sending e (Some b) h = (h, tt)
  name_ok at i Receiving e None h = tt
  name_ok at i Receiving e (Some b) h = (h, tt)

  abbrev BinderOk : Binder → Type 0
  BinderOk b = Ok b.type.interface

  binders_ok : (f : ℕ) (bs : List Binder) → AllByRecursion BinderOk bs → SidesOk (binder_constraints f bs)
  binders_ok f [] h = tt
  binders_ok f (b ∷ bs) h =
      all_join (λ (c : Constraint). Ok c.interface) (name_constraints (AtName f b.name) b.type.interface b.type.polarity b.type.pattern b.need) (binder_constraints f bs)
      (name_ok (AtName f b.name) b.type.interface b.type.polarity b.type.pattern b.need h.0)
      (binders_ok f bs h.1)

  name_before_ok : (x : ℕ) (o need : Option MailboxType) (bs : List Binder) → NeedOk o → AllByRecursion BinderOk bs → AllByRecursion BinderOk (name_before x o need bs)
  name_before_ok x None need bs k h = h
  name_before_ok x (Some a) need bs k h = (k a refl, h)

  names_ok : (types : TypeEnv) (k : ℕ) (xs : List ℕ) (needs : Needs) → ((j : ℕ) → NeedOk (types j)) → AllByRecursion BinderOk (names_bound types k xs needs)
  names_ok types k [] needs t = tt
  names_ok types k (x ∷ xs) needs t = name_before_ok x (types k) (need_of needs x) (names_bound types (suc k) xs needs) (t k) (names_ok types (suc k) xs needs t)

  module _ (wf : WellFormed p) where
    -- ---- signatures and payloads

    sort_ok : (e : Pat) (t : Sort) → IsSignature p t → NeedOk (sort_type e t)
    sort_ok e (BaseSort b) h = none_ok
    sort_ok e (MailboxSort i q o) h = some_ok _ (signature_there p wf (MailboxSort i q o) i h refl)

    param_ok : (f : ℕ) (g : Function) → function_at p f ≡ Some g → (k : ℕ) → NeedOk (open_param p f g k)
    param_ok f g at k = go (slice_get g.params k) refl
      where
        go : (o : Option Sort) → slice_get g.params k ≡ o → NeedOk (option_and_then (sort_type (Var (number_at (first_number p f) g.params k))) o)
        go None q = none_ok
        go (Some t) q =
            sort_ok (Var (number_at (first_number p f) g.params k)) t (all_at (IsSignature p) g.params k t (wf.functions f g at).signature.0 q)

    result_type_ok : (e : Pat) (t : Sort) → IsSignature p t → TypeOk (result_of e t)
    result_type_ok e (BaseSort b) h = tt
    result_type_ok e (MailboxSort i q o) h = signature_there p wf (MailboxSort i q o) i h refl

    payload_ok : (t : Sort) → IsPayload p t → NeedOk (payload_sort t)
    payload_ok (BaseSort b) h = none_ok
    payload_ok (MailboxSort i q None) h = none_ok
    payload_ok (MailboxSort i q (Some e)) h = some_ok _ (payload_there p wf (MailboxSort i q (Some e)) i h refl)

    declared_ok : (i m : ℕ) (decl : TagDecl) → tag_at p i m ≡ Some decl → (k : ℕ) → NeedOk (payload_type decl k)
    declared_ok i m decl at k = go (slice_get decl.payloads k) refl
      where
        go : (o : Option Sort) → slice_get decl.payloads k ≡ o → NeedOk (option_and_then payload_sort o)
        go None q = none_ok
        go (Some t) q = payload_ok t (all_at (IsPayload p) decl.payloads k t (declared_payloads p wf i m decl at) q)

    types_ok : (i m : ℕ) (o : Option TagDecl) → tag_at p i m ≡ o → (k : ℕ) → NeedOk (declared_types o k)
    types_ok i m None q k = none_ok
    types_ok i m (Some decl) q k = declared_ok i m decl q k

    -- ---- terms

    abbrev PartOk : Part → ℕ → Type 0
    PartOk part m = (asked : TypeOf) (k : ℕ) → TypeOk asked → VarsThere p wf m → FoundOk (part m asked k)

    clean_ok : FoundOk nothing_found
    clean_ok = record { needs = tt; vars = tt; constraints = tt }

    value_ok : (t : TypeOf) (e : Expr) → TypeOk t → NeedsOk (value_needs t e)
    value_ok (BaseTerm b) e h = tt
    value_ok (MailboxTerm i q f) (VarExpr x) h = (h, tt)
    value_ok (MailboxTerm i q f) (Literal c) h = tt
    value_ok (MailboxTerm i q f) (OpExpr op a b) h = tt

    new_ok : (n i : ℕ) (t : TypeOf) → Ok i → FoundOk (new_found n i t)
    new_ok n i (BaseTerm b) h = record { needs = tt; vars = tt; constraints = tt }
    new_ok n i (MailboxTerm j Sending e) h = record { needs = tt; vars = tt; constraints = tt }
    new_ok n i (MailboxTerm j Receiving e) h = record { needs = tt; vars = tt; constraints = (h, tt) }

    result_ok : (n : ℕ) (t u : TypeOf) → TypeOk t → SidesOk (result_constraints n t u)
    result_ok n (BaseTerm b) u h = tt
    result_ok n (MailboxTerm i Sending e) (BaseTerm b) h = tt
    result_ok n (MailboxTerm i Receiving e) (BaseTerm b) h = tt
    result_ok n (MailboxTerm i Sending e) (MailboxTerm j r f) h = (h, tt)
    result_ok n (MailboxTerm i Receiving e) (MailboxTerm j r f) h = (h, tt)

    call_ok : (n : ℕ) (asked : TypeOf) (f : ℕ) (args : List Expr) (o : Option Function) → function_at p f ≡ o → FoundOk (call_found p n asked f args o)
    call_ok n asked f args None at = clean_ok
    call_ok n asked f args (Some g) at = record {
      needs = args_ok (open_param p f g) 0 args (param_ok f g at);
      vars = tt;
      constraints = result_ok n (open_result p f g) asked
          (result_type_ok (Var (result_number (first_number p f) g)) g.result (wf.functions f g at).signature.1);
    }

    send_ok : (n i x m : ℕ) (args : List Expr) → Ok i → FoundOk (send_found n (declared_types (tag_at p i m)) i x m args)
    send_ok n i x m args h = record {
      needs = put_ok x _ (args_needs (declared_types (tag_at p i m)) 0 args) h (args_ok (declared_types (tag_at p i m)) 0 args (types_ok i m (tag_at p i m) refl));
      vars = tt;
      constraints = tt;
    }

    spawn_ok : (r : Found) → FoundOk r → FoundOk (spawn_found r)
    spawn_ok r h = record { needs = second_ok r.needs h.needs; vars = h.vars; constraints = h.constraints }

    let_ok : (n k : ℕ) (x : Option ℕ) (body bound : Found) → FoundOk body → FoundOk bound → FoundOk (let_found n k x body bound)
    let_ok n k x body bound h g =
        let inner = but_ok (option_list x) body.needs h.needs in
        let own = gather_ok (λ j z. both_parts n j z (need_of bound.needs z) (need_of (body_needs x body.needs) z))
        (λ j z. both_ok n j z (need_of bound.needs z) (need_of (body_needs x body.needs) z) (need_ok bound.needs z g.needs) (need_ok (body_needs x body.needs) z inner)) k (names_of_two bound.needs (body_needs x body.needs)) in
        let gathered = let_gathered n k bound.needs (body_needs x body.needs) in
        record {
          needs = own.needs;
          vars = all_join (λ (v : Variable). Ok v.interface) body.vars (bound.vars ++ gathered.vars) h.vars (all_join (λ (v : Variable). Ok v.interface) bound.vars gathered.vars g.vars own.vars);
          constraints = all_join (λ (c : Constraint). Ok c.interface) body.constraints (bound.constraints ++ gathered.constraints) h.constraints (all_join (λ (c : Constraint). Ok c.interface) bound.constraints gathered.constraints g.constraints own.constraints);
        }

    asked_ok : (o : Option Node) (need : Option MailboxType) → ((d : Node) → o ≡ Some d → (i : ℕ) → d.kind ≡ MailboxOf i → Ok i) → TypeOk (asked_of o need)
    asked_ok None need h = tt
    asked_ok (Some d) need h = go d.kind need (h d refl)
      where
        go : (k : Kind) (need : Option MailboxType) → ((i : ℕ) → k ≡ MailboxOf i → Ok i) → TypeOk (asked_as k need)
        go (Plain b) need f = tt
        go (MailboxOf i) None f = f i refl
        go (MailboxOf i) (Some a) f = f i refl

    bound_ok : (part : Part) (n k : ℕ) (x : Option ℕ) (m : ℕ) (body : Found) → PartOk part m → VarsThere p wf m → FoundOk body → FoundOk (bound_found p part n k x m body)
    bound_ok part n k x m body inner vars h =
        let asked = asked_of (node_at p m) (name_need x body.needs) in
        let bound = inner asked (k + length body.vars)
        (asked_ok (node_at p m) (name_need x body.needs) (λ d at. kind_there p wf (length p.nodes) m d (omega arith) at vars)) vars in
        let_ok n (k + length body.vars + length (part m asked (k + length body.vars)).vars) x body (part m asked (k + length body.vars)) h bound

    -- ---- branches

    record ArmsOk (all : Arms) : Type 0 where
      arms : AllByRecursion (λ (a : Arm). NeedsOk a.needs) all.arms
      vars : VarsOk all.vars
      constraints : SidesOk all.constraints

    abbrev BranchOk : Part → Branch → Type 0
    BranchOk part b = VarsThere p wf b.body × PartOk part b.body

    arms_ok : (part : Part) (asked : TypeOf) → TypeOk asked → (k : ℕ) (bs : List Branch) → AllByRecursion (BranchOk part) bs → ArmsOk (walk_arms part asked k bs)
    arms_ok part asked t k [] h = record { arms = tt; vars = tt; constraints = tt }
    arms_ok part asked t k (b ∷ bs) h =
        let first : Found = part b.body asked k in
        let here = h.0.1 asked k t h.0.0 in
        let j : ℕ = k + length first.vars in
        let rest = arms_ok part asked t j bs h.1 in
        record {
          arms = (here.needs, rest.arms);
          vars = all_join (λ (v : Variable). Ok v.interface) first.vars (walk_arms part asked j bs).vars here.vars rest.vars;
          constraints = all_join (λ (c : Constraint). Ok c.interface) first.constraints (walk_arms part asked j bs).constraints here.constraints rest.constraints;
        }

    outer_ok : (z : ℕ) (arms : List Arm) → AllByRecursion (λ (a : Arm). NeedsOk a.needs) arms → AllByRecursion NeedOk (arm_needs z arms)
    outer_ok z [] h = tt
    outer_ok z (a ∷ arms) h =
        (need_ok (outer_needs a) z (but_ok (own_names a.clause) a.needs h.0), outer_ok z arms h.1)

    own_arms : (n k : ℕ) (arms : List Arm) → AllByRecursion (λ (a : Arm). NeedsOk a.needs) arms → NeedsOk (arms_gathered n k arms).needs × VarsOk (arms_gathered n k arms).vars × SidesOk (arms_gathered n k arms).constraints
    own_arms n k arms h =
        let own = gather_ok (λ j z. branches n j z (arm_needs z arms))
        (λ j z. by_ok n j z (first_need (arm_needs z arms)) (arm_needs z arms) (first_ok (arm_needs z arms) (outer_ok z arms h))) k (arm_names arms) in
        (own.needs, own.vars, own.constraints)

    if_ok : (n k : ℕ) (all : Arms) → ArmsOk all → FoundOk (if_from n k all)
    if_ok n k all h =
        let own = own_arms n (k + length all.vars) all.arms h.arms in
        let gathered = arms_gathered n (k + length all.vars) all.arms in
        record {
          needs = own.0;
          vars = all_join (λ (v : Variable). Ok v.interface) all.vars gathered.vars h.vars own.1;
          constraints = all_join (λ (c : Constraint). Ok c.interface) all.constraints gathered.constraints h.constraints own.2;
        }

    arm_binders_ok : (i : ℕ) (e : Pat) (needs : Needs) (o : Option Clause) → Ok i → AllByRecursion BinderOk (arm_binders p i e needs o)
    arm_binders_ok i e needs None h = tt
    arm_binders_ok i e needs (Some r) h =
        (h, names_ok (declared_types (tag_at p i r.tag)) 0 r.vars needs (types_ok i r.tag (tag_at p i r.tag) refl))

    guard_binders_ok : (i : ℕ) (e : Pat) (arms : List Arm) → Ok i → AllByRecursion BinderOk (guard_binders p i e arms)
    guard_binders_ok i e [] h = tt
    guard_binders_ok i e (a ∷ arms) h =
        all_join BinderOk (arm_binders p i e a.needs a.clause) (guard_binders p i e arms) (arm_binders_ok i e a.needs a.clause h) (guard_binders_ok i e arms h)

    guard_ok : (f n k x : ℕ) (e : Pat) (free : Option ℕ) (cs : List Clause) (all : Arms) → Ok (var_interface p f x) → ArmsOk all → FoundOk (guard_from p f n k x e free cs all)
    guard_ok f n k x e free cs all i h =
        let own = own_arms n (k + length all.vars) all.arms h.arms in
        let gathered = arms_gathered n (k + length all.vars) all.arms in
        let names = binder_constraints f (guard_binders p (var_interface p f x) e all.arms) in
        record {
          needs = put_ok x _ gathered.needs i own.0;
          vars = all_join (λ (v : Variable). Ok v.interface) all.vars gathered.vars h.vars own.1;
          constraints = all_join (λ (c : Constraint). Ok c.interface) all.constraints (names ++ gathered.constraints) h.constraints
              (all_join (λ (c : Constraint). Ok c.interface) names gathered.constraints
              (binders_ok f (guard_binders p (var_interface p f x) e all.arms) (guard_binders_ok (var_interface p f x) e all.arms i)) own.2);
        }

    -- ---- all terms

    branches_all : (P : Branch → Type 0) (free : Option ℕ) (cs : List Clause) → ((m : ℕ) → free ≡ Some m → P (record { body = m; clause = None })) → AllByRecursion (λ r. P (clause_branch r)) cs → AllByRecursion P (branches_of free cs)
    branches_all P None [] f h = tt
    branches_all P (Some m) [] f h = (f m refl, tt)
    branches_all P None (r ∷ cs) f h = (h.0, branches_all P None cs f h.1)
    branches_all P (Some m) (r ∷ cs) f h =
        cond_both (nat_lt m r.body) (record { body = m; clause = None } ∷ clause_branch r ∷ branches_of None cs) (clause_branch r ∷ branches_of (Some m) cs) (AllByRecursion P)
        (λ _. (f m refl, (h.0, branches_all P None cs (λ k q. cc) h.1)))
        (λ _. (h.0, branches_all P (Some m) cs f h.1))

    core_ok : (part : Part) (n : ℕ) (d : Node) (at : node_at p n ≡ Some d) (core : Core) → d.core ≡ core → CoreKinds p (wf.nodes n d at).function.vars d.kind core → ((m : ℕ) → is_among m (parts core) ≡ true → IsPartOf p n d m) → ((m : ℕ) → PartOk part m) → VarsThere p wf n → (asked : TypeOf) (k : ℕ) → TypeOk asked → FoundOk (core_found p part d.function n k asked core)
    core_ok part n d at (Val e) is kinds below inner vars asked k t = record { needs = value_ok asked e t; vars = tt; constraints = tt }
    core_ok part n d at (Print e) is kinds below inner vars asked k t = clean_ok
    core_ok part n d at (New i) is kinds below inner vars asked k t = new_ok n i asked kinds.1
    core_ok part n d at (Call f args) is kinds below inner vars asked k t = call_ok n asked f args (function_at p f) refl
    core_ok part n d at (Send x m args) is kinds below inner vars asked k t =
        let same : var_interface p d.function x ≡ kinds.1.0 = ap (λ o. interface_of (slice_get (kinds_of o) x)) (wf.nodes n d at).of ∙ ap interface_of kinds.1.2 in
        send_ok n (var_interface p d.function x) x m args (subst Ok (sym same) (tag_there p wf kinds.1.0 m kinds.1.1 kinds.1.3))
    core_ok part n d at (Spawn m) is kinds below inner vars asked k t =
        let part_m = below m (or_left (nat_eq m m) false (eq-eqb m m refl)) in
        spawn_ok (part m (BaseTerm BaseUnit) k) (inner m (BaseTerm BaseUnit) k tt (spawn_down p wf n d at vars m is part_m))
    core_ok part n d at (Let x m b) is kinds below inner vars asked k t =
        let part_m = below m (or_left (nat_eq m m) (is_among m (b ∷ [])) (eq-eqb m m refl)) in
        let part_b = below b (or_right (nat_eq b m) (is_among b (b ∷ [])) (or_left (nat_eq b b) false (eq-eqb b b refl))) in
        let vars_m = first_down p wf n d at vars x m b is part_m in
        let body = inner b asked k t (body_down p wf n d at vars x m b is part_b (name x kinds vars_m)) in
        bound_ok part n k x m (part b asked k) (inner m) vars_m body
      where
        name : (x : Option ℕ) → CoreKinds p (wf.nodes n d at).function.vars d.kind (Let x m b) → VarsThere p wf m → (z i : ℕ) → x ≡ Some z → slice_get (wf.nodes n d at).function.vars z ≡ Some (MailboxOf i) → Ok i
        name None c v z i e s = cc
        name (Some y) c v z i e s =
            let same : y ≡ z = cc in
            let both : Some c.0 ≡ Some (MailboxOf i) = sym c.1 ∙ ap (slice_get (wf.nodes n d at).function.vars) same ∙ s in
            let kind : c.0 ≡ MailboxOf i = cc in
            kind_there p wf (length p.nodes) m c.2.0 (omega arith) c.2.1 v i (c.2.2 ∙ kind)
    core_ok part n d at (If e a b) is kinds below inner vars asked k t =
        let part_a = below a (or_left (nat_eq a a) (is_among a (b ∷ [])) (eq-eqb a a refl)) in
        let part_b = below b (or_right (nat_eq b a) (is_among b (b ∷ [])) (or_left (nat_eq b b) false (eq-eqb b b refl))) in
        if_ok n k (walk_arms part asked k (two_branches a b))
        (arms_ok part asked t k (two_branches a b)
        ((then_down p wf n d at vars e a b is part_a, inner a), ((else_down p wf n d at vars e a b is part_b, inner b), tt)))
    core_ok part n d at (Guard x e free cs) is kinds below inner vars asked k t =
        let g : ℕ = kinds.0 in
        let there = pattern_there p wf g e kinds.2 in
        let same : var_interface p d.function x ≡ g = ap (λ o. interface_of (slice_get (kinds_of o) x)) (wf.nodes n d at).of ∙ ap interface_of kinds.1 in
        guard_ok d.function n k x e free cs (walk_arms part asked k (branches_of free cs)) (subst Ok (sym same) there)
        (arms_ok part asked t k (branches_of free cs)
        (branches_all (BranchOk part) free cs
        (λ m q. (free_vars free is (λ j h. below j h) m q, inner m))
        (clause_vars cs (λ z h. h) (λ j h. below j (among_right j (option_list free) (clause_bodies cs) h)) g kinds.4 there)))
      where
        among_right : (j : ℕ) (xs ys : List ℕ) → is_among j ys ≡ true → is_among j (xs ++ ys) ≡ true
        among_right j [] ys h = h
        among_right j (y ∷ xs) ys h = or_right (nat_eq j y) (is_among j (xs ++ ys)) (among_right j xs ys h)

        free_vars : (o : Option ℕ) → d.core ≡ Guard x e o cs → ((j : ℕ) → is_among j (parts (Guard x e o cs)) ≡ true → IsPartOf p n d j) → (m : ℕ) → o ≡ Some m → VarsThere p wf m
        free_vars None is below m q = cc
        free_vars (Some j) is below m q =
            let same : j ≡ m = cc in
            subst (VarsThere p wf) same
            (free_down p wf n d at vars x e j cs is (below j (or_left (nat_eq j j) (is_among j (clause_bodies cs)) (eq-eqb j j refl))))

        clause_vars : (rs : List Clause) → ((z : ℕ) → list_any (clause_uses (λ w. is_free p z w) z) rs ≡ true → list_any (clause_uses (λ w. is_free p z w) z) cs ≡ true) → ((j : ℕ) → is_among j (clause_bodies rs) ≡ true → IsPartOf p n d j) → (g : ℕ) → AllByRecursion (ClauseKinds p (wf.nodes n d at).function.vars g d.kind) rs → Ok g → AllByRecursion (λ r. BranchOk part (clause_branch r)) rs
        clause_vars [] into below g own there = tt
        clause_vars (r ∷ rs) into below g own there = (
          (
            clause_down p wf n d at vars x e free cs g d.kind r is (below r.body (or_left (nat_eq r.body r.body) (is_among r.body (clause_bodies rs)) (eq-eqb r.body r.body refl))) own.0 there
                (λ z h. into z (or_left (clause_uses (λ w. is_free p z w) z r) (list_any (clause_uses (λ w. is_free p z w) z) rs) h)),
            inner r.body,
          ),
          clause_vars rs
              (λ z h. into z (or_right (clause_uses (λ w. is_free p z w) z r) (list_any (clause_uses (λ w. is_free p z w) z) rs) h))
              (λ j h. below j (or_right (nat_eq j r.body) (is_among j (clause_bodies rs)) h))
              g own.1 there,
        )

    node_ok : (part : Part) → ((m : ℕ) → PartOk part m) → (n : ℕ) (asked : TypeOf) (k : ℕ) → TypeOk asked → VarsThere p wf n → (o : Option Node) → node_at p n ≡ o → FoundOk (node_found p part n asked k o)
    node_ok part inner n asked k t vars None at = clean_ok
    node_ok part inner n asked k t vars (Some d) at =
        let own = core_ok part n d at d.core refl (wf.nodes n d at).kinds (λ m. (wf.nodes n d at).parts_after m) inner vars asked k t in
        record { needs = own.needs; vars = own.vars; constraints = own.constraints }

    walk_ok : (levels m : ℕ) → PartOk (walk levels p) m
    walk_ok zero m asked k t vars = clean_ok
    walk_ok (suc levels) m asked k t vars = node_ok (walk levels p) (λ j. walk_ok levels j) m asked k t vars (node_at p m) refl

    -- ---- functions

    function_ok : (f : ℕ) (g : Function) (k : ℕ) → function_at p f ≡ Some g → FoundOk (walk_function p f g k)
    function_ok f g k at =
        let body : Found = walk (length p.nodes) p g.body (open_result p f g) k in
        let own = walk_ok (length p.nodes) g.body (open_result p f g) k
        (result_type_ok (Var (result_number (first_number p f) g)) g.result (wf.functions f g at).signature.1) (body_vars p wf f g at) in
        record {
          needs = tt;
          vars = own.vars;
          constraints = all_join (λ (c : Constraint). Ok c.interface) body.constraints (binder_constraints f (function_binders p f g body.needs)) own.constraints
              (binders_ok f (function_binders p f g body.needs) (names_ok (open_param p f g) 0 (param_names 0 g.params) body.needs (param_ok f g at)));
        }

    functions_ok : (f k : ℕ) (gs : List Function) → ((j : ℕ) (g : Function) → slice_get gs j ≡ Some g → function_at p (f + j) ≡ Some g) → FoundOk (walk_functions p f k gs)
    functions_ok f k [] there = clean_ok
    functions_ok f k (g ∷ gs) there =
        let place : f + 0 ≡ f = omega arith in
        let first : Found = walk_function p f g k in
        let rest : Found = walk_functions p (suc f) (k + length first.vars) gs in
        let here = function_ok f g k (subst (λ n. function_at p n ≡ Some g) place (there 0 g refl)) in
        let later = functions_ok (suc f) (k + length first.vars) gs
        (λ j e is. let next : f + suc j ≡ suc f + j = omega arith in subst (λ n. function_at p n ≡ Some e) next (there (suc j) e is)) in
        record {
          needs = tt;
          vars = all_join (λ (v : Variable). Ok v.interface) first.vars rest.vars here.vars later.vars;
          constraints = all_join (λ (c : Constraint). Ok c.interface) first.constraints rest.constraints here.constraints later.constraints;
        }

    -- ---- signatures

    omitted_ok : (o : Origin) (t : Sort) → IsSignature p t → VarsOk (omitted o t)
    omitted_ok o (BaseSort b) h = tt
    omitted_ok o (MailboxSort i q None) h = (h, tt)
    omitted_ok o (MailboxSort i q (Some e)) h = tt

    params_ok : (f k : ℕ) (ss : List Sort) → AllByRecursion (IsSignature p) ss → VarsOk (params_omitted f k ss)
    params_ok f k [] h = tt
    params_ok f k (s ∷ ss) h =
        all_join (λ (v : Variable). Ok v.interface) (omitted (OfParameter f k) s) (params_omitted f (suc k) ss) (omitted_ok (OfParameter f k) s h.0) (params_ok f (suc k) ss h.1)

    signatures_ok : (f : ℕ) (gs : List Function) → ((j : ℕ) (g : Function) → slice_get gs j ≡ Some g → AllByRecursion (IsSignature p) g.params × IsSignature p g.result) → VarsOk (functions_vars f gs)
    signatures_ok f [] h = tt
    signatures_ok f (g ∷ gs) h =
        let own = h 0 g refl in
        all_join (λ (v : Variable). Ok v.interface) (function_vars f g) (functions_vars (suc f) gs)
        (all_join (λ (v : Variable). Ok v.interface) (params_omitted f 0 g.params) (omitted (OfResult f) g.result) (params_ok f 0 g.params own.0) (omitted_ok (OfResult f) g.result own.1))
        (signatures_ok (suc f) gs (λ j e is. h (suc j) e is))

pub interfaces_there : InterfacesThere
interfaces_there p wf =
    let place : (j : ℕ) → 0 + j ≡ j = λ j. omega arith in
    let all = functions_ok p wf 0 (1 + length (signature_vars p)) p.functions (λ j g e. subst (λ n. function_at p n ≡ Some g) (sym (place j)) e) in
    let own = signatures_ok p wf 0 p.functions (λ j g e. (wf.functions j g e).signature) in
    let vars = all_join (λ (v : Variable). v.interface < length p.interfaces) (signature_vars p) (inferred p).vars own all.vars in
    record {
      constraints = λ n c at. all_at (λ (d : Constraint). d.interface < length p.interfaces) (inferred p).constraints n c all.constraints at;
      variables = λ k v num. all_at (λ (u : Variable). u.interface < length p.interfaces) (all_vars p) num.0 v vars num.2;
    }
