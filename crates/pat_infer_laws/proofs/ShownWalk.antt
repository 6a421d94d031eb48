-- The inclusions that are needed at the found nodes are shown.
use Rattle.std.proofs.Common.{◌≡◌, ℕ, zero, suc, ◌+◌, ◌≤◌, true, false, not, ◌||◌, nat_eq, if◌then◌else◌, List, [], ◌∷◌, ◌++◌, length, map, Option, Some, None, refl, sym, ap, ◌∙◌, subst, arith, inl, inr, ⊎_elim}
use Rattle.std.specs.Prelude.{is_some, is_none, slice_get, option_map, option_and_then}
use Rattle.std.specs.Map.{lookup}
use Rattle.std.specs.List.{AllByRecursion, flat_map}
use Rattle.std.proofs.lemmas.Bool.{cond-true, cond-false, eq-eqb, eqb-true, or_cases, or_right, cases_Bool}
use Rattle.std.proofs.lemmas.Option.{slice_get_within}
use Rattle.pat_words_spec.specs.Patterns.{Pat, Tag, Var, residual, covers}
use Rattle.pat_semantics_spec.specs.Values.{BaseUnit, Kind, Expr, VarExpr, Literal, OpExpr, MailboxOf}
use Rattle.pat_semantics_spec.specs.Programs.{Sending, Receiving, Sort, TagDecl, Function, Clause, Core, Val, Let, Call, If, Print, New, Send, Spawn, Guard, Node, Program, node_at, function_at, tag_at, kind_of, is_among, parts, binders, option_list, clause_bodies, clause_binders}
use Rattle.pat_semantics_spec.specs.Faults.{IsIn}
use Rattle.pat_semantics_spec.specs.WellFormed.{WellFormed, CoreKinds, ClauseKinds, VarsHaveKinds}
use Rattle.pat_semantics_laws.proofs.Lists.{clash, nil_parts, all_join, all_snoc, append_among, among_head, among_first, among_second}
use Rattle.pat_type_system_spec.specs.Types.{Second, Returnable, MailboxType, mailbox_type, TypeOf, BaseTerm, MailboxTerm, TypeEnv, with_type, without}
use Rattle.pat_type_system_spec.specs.Typings.{IsTyping, HasWord, sort_type, param_type, result_type, result_of, payload_type, args_need, clause_env, with_payloads, without_name, is_received, mailbox_args}
use Rattle.pat_type_system_spec.specs.Holdings.{declared_types}
use Rattle.pat_type_system_laws.specs.Laws.{BoundIsUnnamed}
use Rattle.pat_inclusion_spec.specs.Values.{replaced}
use Rattle.pat_type_schemes_spec.specs.NodeTypes.{type_under, need_under, Needs, need_of, NodeType, result_open, env_open}
use Rattle.pat_type_schemes_spec.specs.Signatures.{signature_vars, number_at, first_number, open_param, open_result}
use Rattle.pat_type_schemes_spec.specs.Typings.{param_pattern_open, result_pattern_open}
use Rattle.pat_infer_spec.specs.Constraints.{Place, AtName, AtNode, AliasRule, OrderRule, DoubleRule, BranchRule, PayloadRule, CoversRule, UnusedRule, PolarityRule, SecondRule, unless, each_unless, Constraint, Found}
use Rattle.pat_infer_spec.specs.Needs.{put, args_needs, needs_but, needs_second, names_of_two, Combined}
use Rattle.pat_infer_spec.specs.Binders.{Binder, used_as, polarity_as, usage_as, binder_findings, name_constraints, binder_constraints, names_bound, param_names}
use Rattle.pat_infer_spec.specs.BothParts.{in_order, one_receives, both_parts}
use Rattle.pat_infer_spec.specs.Branches.{Branch, Arm, own_names, outer_needs, arm_names, arm_needs, branches_agree, branches}
use Rattle.pat_infer_spec.specs.Walk.{Part, Arms, var_interface, has_twice, asked_of, name_need, value_needs, new_found, result_agrees, result_constraints, call_found, send_found, body_needs, let_gathered, let_findings, walk_arms, arms_gathered, arms_findings, two_branches, clause_branch, branches_of, keeps_own, arm_binders, guard_binders, guard_found, core_found, node_found, walk, function_binders, walk_function, walk_functions, inferred}
use Rattle.pat_infer_spec.specs.Solutions.{typing_open, typing_found}
use Rattle.pat_infer_spec.specs.Inclusions.{IsShown, PassShown, EnvShown, SplitShown, ResultShown, NewShown, ValueShown, ClauseShown, CoreShown, ValuesCover, InclusionsShown}
use Rattle.pat_infer_laws.proofs.Lookups.{eq_turn, need_put, need_but, as_second, need_second, need_args, no_name}
use Rattle.pat_infer_laws.proofs.Gathering.{all_parts, all_map, all_with, none_each, none_unless, all_each, each_with, Each, EachHolds, holds_gather, EachNeed, gather_needs}
use Rattle.pat_infer_laws.proofs.BinderLaws.{flat_all, Places, all_names}
use Rattle.pat_infer_laws.proofs.SignatureLaws.{declared_payloads}
use Rattle.pat_infer_laws.proofs.TermSound.{face_of}
use Rattle.pat_infer_laws.proofs.ArmsSound.{clause_outside, clause_from}
use Rattle.pat_infer_laws.proofs.Facts.{here_kind}
use Rattle.pat_infer_laws.proofs.ArmsTyped.{Over, over_with, over_arms, arms_over, over_all, arm_of, needs_all}
use Rattle.pat_infer_laws.proofs.GuardSound.{branches_all}
use Rattle.pat_infer_laws.proofs.GuardTyped.{bodies_among, all_branches, NameCases, mailbox, base, name_cases, base_places}
use Rattle.pat_infer_laws.proofs.WalkTyped.{param_at}
use Rattle.pat_infer_laws.proofs.Blocks.{looked_up}
use Rattle.pat_infer_laws.proofs.Enough.{solution_types, each_node_once}
use Rattle.pat_infer_laws.proofs.Shown.{pattern_refl, pass_refl, Listed, parts_shown, name_shown, branches_shown}

-- what the body needs beside the name
beside_open : (x : Option ℕ) (needs : Needs) (z : ℕ) → need_of (body_needs x needs) z ≡ without_name x (λ w. need_of needs w) z
beside_open None needs z = need_but [] needs z
beside_open (Some x) needs z =
    need_but (x ∷ []) needs z
    ∙ (elim (nat_eq z x) as (λ b. (if b || false then None else need_of needs z) ≡ (if b then None else need_of needs z)) [ true ↦ refl | false ↦ refl ])
    ∙ ap (λ b. if b then None else need_of needs z) (eq_turn z x)

module _ (unnamed : BoundIsUnnamed) (p : Program) (wf : WellFormed p) (s v : ℕ → Pat) (typing : IsTyping p (typing_found p s)) (cover : ValuesCover s v) where
  -- what is shown
  abbrev R : ℕ → Pat → Pat → Type 0
  R = IsShown (inferred p).constraints v

  abbrev Ready : Constraint → Type 0
  Ready = Listed (inferred p).constraints v

  abbrev Looked : (ℕ × NodeType) → Type 0
  Looked e = lookup (nat_eq e.0) (inferred p).nodes ≡ Some e.1

  abbrev EntryShown : (ℕ × NodeType) → Type 0
  EntryShown e = (d : Node) → node_at p e.0 ≡ Some d → CoreShown R p (typing_open p) d.function ((typing_open p).envs e.0) ((typing_open p).results e.0) d.core

  -- a part as it is found
  record PartOpen (m : ℕ) (asked : TypeOf) (needs : Needs) : Type 0 where
    result : (typing_open p).results m ≡ asked
    env : (typing_open p).envs m ≡ (λ x. need_of needs x)
    look : lookup (nat_eq m) (inferred p).nodes ≡ Some (record { result = asked; needs = needs })

  abbrev PartShows : Part → ℕ → Type 0
  PartShows part m =
      (asked : TypeOf) (k : ℕ) → (part m asked k).findings ≡ [] → AllByRecursion Ready (part m asked k).constraints → AllByRecursion Looked (part m asked k).nodes → PartOpen m asked (part m asked k).needs × AllByRecursion EntryShown (part m asked k).nodes

  -- a sending need of a found node has a word
  word_at : (m : ℕ) (e : Node) → node_at p m ≡ Some e → (asked : TypeOf) (needs : Needs) → lookup (nat_eq m) (inferred p).nodes ≡ Some (record { result = asked; needs = needs }) → (z : ℕ) (a : MailboxType) → need_of needs z ≡ Some a → HasWord a.polarity (replaced s a.pattern)
  word_at m e at asked needs look z a h =
      (typing.nodes m e at).words z (type_under s a) (ap (λ o. need_under s (env_open o z)) look ∙ ap (need_under s) h)

  -- ---- calls

  open_same : (c : ℕ) (h : Function) → function_at p c ≡ Some h → param_type (typing_open p) c h ≡ open_param p c h
  open_same c h at = ap (λ o k. option_and_then (sort_type (param_pattern_open p c k o)) (slice_get h.params k)) at

  result_open_same : (c : ℕ) (h : Function) → function_at p c ≡ Some h → result_type (typing_open p) c h ≡ open_result p c h
  result_open_same c h at = ap (λ o. result_of (result_pattern_open p c o) h.result) at

  result_ready : (n : ℕ) (a b : TypeOf) → result_agrees a b ≡ true → AllByRecursion Ready (result_constraints n a b) → ResultShown R a b
  result_ready n (BaseTerm b) c agree h = tt
  result_ready n (MailboxTerm i Sending e) (BaseTerm c) agree h = tt
  result_ready n (MailboxTerm i Receiving e) (BaseTerm c) agree h = tt
  result_ready n (MailboxTerm i Sending e) (MailboxTerm j Sending f) agree h = h.0
  result_ready n (MailboxTerm i Receiving e) (MailboxTerm j Receiving f) agree h = h.0
  result_ready n (MailboxTerm i Sending e) (MailboxTerm j Receiving f) agree h = cc
  result_ready n (MailboxTerm i Receiving e) (MailboxTerm j Sending f) agree h = cc

  env_refl : (g h : TypeEnv) → ((z : ℕ) → g z ≡ h z) → EnvShown R g h
  env_refl g h e z = subst (PassShown R (g z)) (e z) (pass_refl (inferred p).constraints v (g z))

  call_shows : (n c : ℕ) (args : List Expr) (asked : TypeOf) → (call_found p n asked c args (function_at p c)).findings ≡ [] → AllByRecursion Ready (call_found p n asked c args (function_at p c)).constraints → CoreShown R p (typing_open p) 0 (λ x. need_of (call_found p n asked c args (function_at p c)).needs x) asked (Call c args)
  call_shows n c args asked clean ready h at =
      let there = subst (λ o. (call_found p n asked c args o).findings ≡ []) at clean in
      let held = subst (λ o. AllByRecursion Ready (call_found p n asked c args o).constraints) at ready in
      let rules = nil_parts (unless (not (has_twice (mailbox_args (open_param p c h) 0 args))) AliasRule (AtNode n)) (unless (result_agrees (open_result p c h) asked) PolarityRule (AtNode n)) there in (
        subst (λ o. EnvShown R (λ x. need_of (call_found p n asked c args o).needs x) (args_need (param_type (typing_open p) c h) 0 args)) (sym at)
            (subst (λ (types : TypeEnv). EnvShown R (λ x. need_of (args_needs (open_param p c h) 0 args) x) (args_need types 0 args)) (sym (open_same c h at))
            (env_refl (λ x. need_of (args_needs (open_param p c h) 0 args) x) (args_need (open_param p c h) 0 args) (need_args (open_param p c h) 0 args))),
        subst (λ t. ResultShown R t asked) (sym (result_open_same c h at))
            (result_ready n (open_result p c h) asked (none_unless (result_agrees (open_result p c h) asked) PolarityRule (AtNode n) rules.1) held),
      )

  send_shows : (n i x m : ℕ) (args : List Expr) (decl : TagDecl) → tag_at p i m ≡ Some decl → EnvShown R (λ z. need_of (send_found n (declared_types (tag_at p i m)) i x m args).needs z) (with_type x (mailbox_type i Sending (Tag m) Second) (args_need (payload_type decl) 0 args))
  send_shows n i x m args decl at =
      let target : MailboxType = mailbox_type i Sending (Tag m) Second in
      let types : TypeEnv = payload_type decl in
      subst (λ o. EnvShown R (λ z. need_of (send_found n (declared_types o) i x m args).needs z) (with_type x target (args_need types 0 args))) (sym at)
      (env_refl (λ z. need_of (put x target (args_needs types 0 args)) z) (with_type x target (args_need types 0 args))
      (λ z.
      need_put x target (args_needs types 0 args) z
      ∙ ap (λ o. if nat_eq x z then Some target else o) (need_args types 0 args z)))

  value_shows : (asked : TypeOf) (e : Expr) → ValueShown R asked e (λ x. need_of (value_needs asked e) x)
  value_shows (BaseTerm b) e = tt
  value_shows (MailboxTerm i q f) (Literal c) = tt
  value_shows (MailboxTerm i q f) (OpExpr op a b) = tt
  value_shows (MailboxTerm i q f) (VarExpr x) =
      let a : MailboxType = mailbox_type i q f Returnable in
      subst (λ o. PassShown R o (Some a)) (sym (cond-true (nat_eq x x) (Some a) None (eq-eqb x x refl))) (pass_refl (inferred p).constraints v (Some a))

  new_shows : (n i : ℕ) (asked : TypeOf) → (new_found n i asked).findings ≡ [] → AllByRecursion Ready (new_found n i asked).constraints → NewShown (R i) asked
  new_shows n i (BaseTerm b) clean ready = tt
  new_shows n i (MailboxTerm j Sending e) clean ready = cc
  new_shows n i (MailboxTerm j Receiving e) clean ready = ready.0

  second_shows : (o : Option MailboxType) → PassShown R (option_map as_second o) o
  second_shows None = tt
  second_shows (Some a) = pattern_refl (inferred p).constraints v a.interface a.polarity a.pattern

  -- ---- lets

  let_shows : (n l : ℕ) (outer inner : Needs) → let_findings n outer inner ≡ [] → AllByRecursion Ready (let_gathered n l outer inner).constraints → (z : ℕ) → SplitShown R (need_of (let_gathered n l outer inner).needs z) (need_of outer z) (need_of inner z)
  let_shows n l outer inner clean ready z =
      let names : List ℕ = names_of_two outer inner in
      let one : ℕ → ℕ → Option Combined = λ i z. both_parts n i z (need_of outer z) (need_of inner z) in
      let Split : ℕ → Option MailboxType → Type 0 = λ z o. SplitShown R o (need_of outer z) (need_of inner z) in
      let rules = nil_parts (each_unless (λ z. in_order (need_of outer z) (need_of inner z)) OrderRule (λ z. AtNode n) names) (each_unless (λ z. one_receives (need_of outer z) (need_of inner z)) DoubleRule (λ z. AtNode n) names) clean in
      let doubles = none_each (λ z. one_receives (need_of outer z) (need_of inner z)) DoubleRule (λ z. AtNode n) names rules.1 in
      let split : Each (EachNeed Split) one l names =
      each_with (λ i z o. one_receives (need_of outer z) (need_of inner z) ≡ true) (EachHolds Ready) (EachNeed Split) one
      (λ i z q h. parts_shown (inferred p).constraints v n i z (need_of outer z) (need_of inner z) q h)
      l names (all_each (λ z. one_receives (need_of outer z) (need_of inner z) ≡ true) one l names doubles) (holds_gather Ready one l names ready) in
      gather_needs Split one l names split z
      (λ off.
      let none = no_name outer inner z off in
      subst (λ o. SplitShown R None o (need_of inner z)) (sym none.0) (subst (λ o. SplitShown R None None o) (sym none.1) tt))

  -- ---- branches

  -- what is found of branches
  record ArmsOpen (part : Part) (asked : TypeOf) (k : ℕ) (bs : List Branch) : Type 0 where
    open_parts : Over (λ b needs. PartOpen b.body asked needs × ((z : ℕ) (a : MailboxType) → need_of needs z ≡ Some a → HasWord a.polarity (replaced s a.pattern))) part asked k bs
    entries : AllByRecursion EntryShown (walk_arms part asked k bs).nodes

  arms_show : (part : Part) (asked : TypeOf) (k : ℕ) (bs : List Branch) → AllByRecursion (λ b. (e : Node) × (node_at p b.body ≡ Some e) × PartShows part b.body) bs → (walk_arms part asked k bs).findings ≡ [] → AllByRecursion Ready (walk_arms part asked k bs).constraints → AllByRecursion Looked (walk_arms part asked k bs).nodes → ArmsOpen part asked k bs
  arms_show part asked k [] h clean ready looked = record { open_parts = tt; entries = tt }
  arms_show part asked k (b ∷ bs) h clean ready looked =
      let first : Found = part b.body asked k in
      let rest : Arms = walk_arms part asked (k + length first.vars) bs in
      let rules = nil_parts first.findings rest.findings clean in
      let held = all_parts Ready first.constraints rest.constraints ready in
      let found = all_parts Looked first.nodes rest.nodes looked in
      let here = h.0.2 asked k rules.0 held.0 found.0 in
      let later = arms_show part asked (k + length first.vars) bs h.1 rules.1 held.1 found.1 in
      record {
        open_parts = ((here.0, word_at b.body h.0.0 h.0.1 asked first.needs here.0.look), later.open_parts);
        entries = all_join EntryShown first.nodes rest.nodes here.1 later.entries;
      }

  all_needs : (P : Option MailboxType → Type 0) (x : ℕ) (arms : List Arm) → AllByRecursion P (arm_needs x arms) → AllByRecursion (λ a. P (need_of (outer_needs a) x)) arms
  all_needs P x [] h = tt
  all_needs P x (a ∷ arms) h = (h.0, all_needs P x arms h.1)

  for_each : (P : ℕ → Arm → Type 0) (arms : List Arm) → ((z : ℕ) → AllByRecursion (P z) arms) → AllByRecursion (λ a. (z : ℕ) → P z a) arms
  for_each P [] h = tt
  for_each P (a ∷ arms) h = (λ z. (h z).0, for_each P arms (λ z. (h z).1))

  all_pass_none : (os : List (Option MailboxType)) → AllByRecursion (λ w. PassShown R None w) os
  all_pass_none [] = tt
  all_pass_none (o ∷ os) = (tt, all_pass_none os)

  gathered_shows : (n k : ℕ) (arms : List Arm) → AllByRecursion (λ a. (z : ℕ) (c : MailboxType) → need_of (outer_needs a) z ≡ Some c → HasWord c.polarity (replaced s c.pattern)) arms → arms_findings n arms ≡ [] → AllByRecursion Ready (arms_gathered n k arms).constraints → AllByRecursion (λ a. (z : ℕ) → PassShown R (need_of (arms_gathered n k arms).needs z) (need_of (outer_needs a) z)) arms
  gathered_shows n k arms words clean ready =
      let names : List ℕ = arm_names arms in
      let one : ℕ → ℕ → Option Combined = λ j z. branches n j z (arm_needs z arms) in
      let Passes : ℕ → Option MailboxType → Type 0 = λ z o. AllByRecursion (λ w. PassShown R o w) (arm_needs z arms) in
      let word : (z : ℕ) → AllByRecursion (λ o. (a : MailboxType) → o ≡ Some a → HasWord a.polarity (replaced s a.pattern)) (arm_needs z arms) =
      λ z. needs_all (λ o. (a : MailboxType) → o ≡ Some a → HasWord a.polarity (replaced s a.pattern)) z arms
      (all_map (λ a. (z : ℕ) (c : MailboxType) → need_of (outer_needs a) z ≡ Some c → HasWord c.polarity (replaced s c.pattern)) (λ a. (c : MailboxType) → need_of (outer_needs a) z ≡ Some c → HasWord c.polarity (replaced s c.pattern)) (λ a f. f z) arms words) in
      let agree = none_each (λ z. branches_agree (arm_needs z arms)) BranchRule (λ z. AtNode n) names clean in
      let each : Each (EachNeed Passes) one k names =
      each_with (λ j z o. branches_agree (arm_needs z arms) ≡ true) (EachHolds Ready) (EachNeed Passes) one
      (λ j z a h. branches_shown (inferred p).constraints v s cover n j z (arm_needs z arms) (word z) a h)
      k names (all_each (λ z. branches_agree (arm_needs z arms) ≡ true) one k names agree) (holds_gather Ready one k names ready) in
      for_each (λ z a. PassShown R (need_of (arms_gathered n k arms).needs z) (need_of (outer_needs a) z)) arms
      (λ z. all_needs (λ w. PassShown R (need_of (arms_gathered n k arms).needs z) w) z arms
      (gather_needs Passes one k names each z (λ off. all_pass_none (arm_needs z arms))))

  but_word : (xs : List ℕ) (needs : Needs) → ((z : ℕ) (a : MailboxType) → need_of needs z ≡ Some a → HasWord a.polarity (replaced s a.pattern)) → (z : ℕ) (a : MailboxType) → need_of (needs_but xs needs) z ≡ Some a → HasWord a.polarity (replaced s a.pattern)
  but_word xs needs words z a h =
      (elim (is_among z xs) as (λ t. (if t then None else need_of needs z) ≡ Some a → HasWord a.polarity (replaced s a.pattern)) [ true ↦ λ q. cc | false ↦ λ q. words z a q ]) (sym (need_but xs needs z) ∙ h)

  -- ---- guards

  -- what is known of a branch of a guard that needs `own` beside x
  record BranchOpen (x i : ℕ) (e : Pat) (own : Needs) (asked : TypeOf) (b : Branch) (needs : Needs) : Type 0 where
    part : PartOpen b.body asked needs
    passes : (z : ℕ) → PassShown R (need_of own z) (need_of (needs_but (own_names b.clause) needs) z)
    names : AllByRecursion (λ w. PassShown R (Some w.type) w.need) (arm_binders p i e needs b.clause)

  beside_put : (x : ℕ) (t : MailboxType) (own : Needs) (z : ℕ) → nat_eq x z ≡ false → without x (λ w. need_of (put x t own) w) z ≡ need_of own z
  beside_put x t own z off =
      cond-false (nat_eq x z) None (need_of (put x t own) z) off ∙ need_put x t own z ∙ cond-false (nat_eq x z) (Some t) (need_of own z) off

  -- a variable that isn't one of the branch's own names
  outside_shows : (x : ℕ) (t : MailboxType) (own : Needs) (xs : List ℕ) (needs : Needs) (z : ℕ) → is_among z xs ≡ false → PassShown R (need_of own z) (need_of (needs_but xs needs) z) → PassShown R (without x (λ w. need_of (put x t own) w) z) (need_of needs z)
  outside_shows x t own xs needs z out h =
      (elim (nat_eq x z) as (λ b. nat_eq x z ≡ b → PassShown R (without x (λ w. need_of (put x t own) w) z) (need_of needs z)) [
        | true ↦ λ q. subst (λ o. PassShown R o (need_of needs z)) (sym (cond-true (nat_eq x z) None (need_of (put x t own) z) q)) tt
        | false ↦ λ q.
            subst (λ o. PassShown R o (need_of needs z)) (sym (beside_put x t own z q))
            (subst (PassShown R (need_of own z)) (need_but xs needs z ∙ cond-false (is_among z xs) None (need_of needs z) out) h)
      ]) refl

  none_off : (x : ℕ) (t : MailboxType) (own : Needs) (z : ℕ) (o : Option MailboxType) → need_of own z ≡ None → PassShown R (without x (λ w. need_of (put x t own) w) z) o
  none_off x t own z o none =
      (elim (nat_eq x z) as (λ b. nat_eq x z ≡ b → PassShown R (without x (λ w. need_of (put x t own) w) z) o) [
        | true ↦ λ q. subst (λ w. PassShown R w o) (sym (cond-true (nat_eq x z) None (need_of (put x t own) z) q)) tt
        | false ↦ λ q. subst (λ w. PassShown R w o) (sym (beside_put x t own z q ∙ none)) tt
      ]) refl

  clause_shows : (n : ℕ) (d : Node) (at : node_at p n ≡ Some d) (x i : ℕ) (e : Pat) (own : Needs) (asked : TypeOf) (r : Clause) (needs : Needs) → ClauseKinds p (wf.nodes n d at).function.vars i d.kind r → ((z : ℕ) → is_among z (clause_binders r) ≡ true → need_of own z ≡ None) → BranchOpen x i e own asked (clause_branch r) needs → ClauseShown R p (typing_open p) (λ w. need_of (put x (mailbox_type i Receiving e Returnable) own) w) x i e r
  clause_shows n d at x i e own asked r needs kinds fresh b decl declared =
      let t : MailboxType = mailbox_type i Receiving e Returnable in
      let g : TypeEnv = λ w. need_of (put x t own) w in
      let types : TypeEnv = payload_type decl in
      let vars : List Kind = (wf.nodes n d at).function.vars in
      let one_decl : Some kinds.decl ≡ Some decl = sym kinds.declared ∙ declared in
      let same : kinds.decl ≡ decl = decl_in one_decl in
      let payloads : VarsHaveKinds vars r.vars (map kind_of decl.payloads) = subst (λ (w : TagDecl). VarsHaveKinds vars r.vars (map kind_of w.payloads)) same kinds.payloads in
      let names = subst (λ o. AllByRecursion (λ w. PassShown R (Some w.type) w.need) (names_bound (declared_types o) 0 r.vars needs)) declared b.names.1 in
      let places : Places (λ z a. PassShown R (Some a) (need_of needs z)) types 0 r.vars = all_names (λ w. PassShown R (Some w.type) w.need) types 0 r.vars needs names in
      let passes : (z : ℕ) → PassShown R (clause_env g x i e decl r z) (need_of needs z) =
      λ z.
      ⊎_elim
      (λ on. ⊎_elim
      (λ from.
      let is : r.from ≡ z = eqb-true r.from z from in
      subst (λ w. PassShown R (clause_env g x i e decl r w) (need_of needs w)) is
      (subst (λ o. PassShown R o (need_of needs r.from)) (sym (clause_from g x i e decl r)) b.names.0))
      (λ apart.
      let among : is_among z r.vars ≡ true =
      ⊎_elim (λ l. l) (λ l. absurd (clash (⊎_elim (λ q. eq-eqb r.from z (sym (eqb-true z r.from q))) (λ q. absurd (no_false q)) (or_cases (nat_eq z r.from) false l)) apart)) (append_among z r.vars (r.from ∷ []) on) in
      subst (λ o. PassShown R o (need_of needs z)) (sym (cond-false (nat_eq r.from z) (Some (mailbox_type i Receiving (residual e r.tag) Returnable)) (with_payloads types 0 r.vars (without x g) z) apart))
      (by_name decl z (fresh z on) (name_cases vars (λ w a. PassShown R (Some a) (need_of needs w)) types 0 r.vars decl.payloads (without x g) z payloads
      (base_places p types 0 decl.payloads (declared_payloads p wf i r.tag decl declared) (λ j. let place : 0 + j ≡ j = omega arith in ap types place))
      places among)))
      (cases_Bool (nat_eq r.from z)))
      (λ off.
      subst (λ o. PassShown R o (need_of needs z)) (sym (clause_outside g x i e decl r z off)) (outside_shows x t own (clause_binders r) needs z off (b.passes z)))
      (cases_Bool (is_among z (clause_binders r))) in
      λ z. subst (λ (h : TypeEnv). PassShown R (clause_env g x i e decl r z) (h z)) (sym b.part.env) (passes z)
    where
      decl_in : {u w : TagDecl} → Some u ≡ Some w → u ≡ w
      decl_in h = cc

      no_false : false ≡ true → ⊥
      no_false q = cc

      by_name : (decl : TagDecl) (z : ℕ) → need_of own z ≡ None → NameCases (wf.nodes n d at).function.vars (λ w a. PassShown R (Some a) (need_of needs w)) (payload_type decl) 0 r.vars (without x (λ w. need_of (put x (mailbox_type i Receiving e Returnable) own) w)) z → PassShown R (with_payloads (payload_type decl) 0 r.vars (without x (λ w. need_of (put x (mailbox_type i Receiving e Returnable) own) w)) z) (need_of needs z)
      by_name decl z none (mailbox a is h) = subst (λ o. PassShown R o (need_of needs z)) (sym is) h
      by_name decl z none (base c is kind) = subst (λ o. PassShown R o (need_of needs z)) (sym is) (none_off x (mailbox_type i Receiving e Returnable) own z (need_of needs z) none)

  names_show : (f : ℕ) (bs : List Binder) → binder_findings f bs ≡ [] → AllByRecursion Ready (binder_constraints f bs) → AllByRecursion (λ w. PassShown R (Some w.type) w.need) bs
  names_show f bs clean ready =
      let at : Binder → Place = λ b. AtName f b.name in
      let q = nil_parts (each_unless (λ b. used_as b.type.polarity b.need) UnusedRule at bs ++ each_unless (λ b. polarity_as b.type.polarity b.need) PolarityRule at bs) (each_unless (λ b. usage_as b.type.usage b.need) SecondRule at bs) clean in
      let r = nil_parts (each_unless (λ b. used_as b.type.polarity b.need) UnusedRule at bs) (each_unless (λ b. polarity_as b.type.polarity b.need) PolarityRule at bs) q.0 in
      all_with (λ b. polarity_as b.type.polarity b.need ≡ true) (λ b. AllByRecursion Ready (name_constraints (AtName f b.name) b.type.interface b.type.polarity b.type.pattern b.need)) (λ w. PassShown R (Some w.type) w.need)
      (λ b pol h. name_shown (inferred p).constraints v (AtName f b.name) b.type b.need pol h) bs
      (none_each (λ b. polarity_as b.type.polarity b.need) PolarityRule at bs r.1)
      (flat_all Ready (λ b. name_constraints (AtName f b.name) b.type.interface b.type.polarity b.type.pattern b.need) bs ready)

  -- ---- a node

  -- what is shown of a term
  abbrev CoreShows : ℕ → TypeOf → Core → Found → Type 0
  CoreShows f asked core r = CoreShown R p (typing_open p) f (λ x. need_of r.needs x) asked core × AllByRecursion EntryShown r.nodes

  abbrev Inner : Part → List ℕ → Type 0
  Inner part ms = (m : ℕ) → is_among m ms ≡ true → (e : Node) × (node_at p m ≡ Some e) × PartShows part m

  guard_shows : (part : Part) (n : ℕ) (d : Node) (at : node_at p n ≡ Some d) (x i : ℕ) (e : Pat) (free : Option ℕ) (cs : List Clause) → d.core ≡ Guard x e free cs → AllByRecursion (ClauseKinds p (wf.nodes n d at).function.vars i d.kind) cs → AllByRecursion (λ b. (w : Node) × (node_at p b.body ≡ Some w) × PartShows part b.body) (branches_of free cs) → (asked : TypeOf) (k : ℕ) → (guard_found p d.function n (k + length (walk_arms part asked k (branches_of free cs)).vars) x e i (is_some free) cs (walk_arms part asked k (branches_of free cs))).findings ≡ [] → AllByRecursion Ready (guard_found p d.function n (k + length (walk_arms part asked k (branches_of free cs)).vars) x e i (is_some free) cs (walk_arms part asked k (branches_of free cs))).constraints → AllByRecursion Looked (walk_arms part asked k (branches_of free cs)).nodes → lookup (nat_eq n) (inferred p).nodes ≡ Some (record { result = asked; needs = put x (mailbox_type i Receiving e Returnable) (arms_gathered n (k + length (walk_arms part asked k (branches_of free cs)).vars) (walk_arms part asked k (branches_of free cs)).arms).needs }) → (PassShown R (need_of (put x (mailbox_type i Receiving e Returnable) (arms_gathered n (k + length (walk_arms part asked k (branches_of free cs)).vars) (walk_arms part asked k (branches_of free cs)).arms).needs) x) (Some (mailbox_type i Receiving e Returnable)) × ((m : ℕ) → free ≡ Some m → EnvShown R (without x (λ w. need_of (put x (mailbox_type i Receiving e Returnable) (arms_gathered n (k + length (walk_arms part asked k (branches_of free cs)).vars) (walk_arms part asked k (branches_of free cs)).arms).needs) w)) ((typing_open p).envs m)) × AllByRecursion (ClauseShown R p (typing_open p) (λ w. need_of (put x (mailbox_type i Receiving e Returnable) (arms_gathered n (k + length (walk_arms part asked k (branches_of free cs)).vars) (walk_arms part asked k (branches_of free cs)).arms).needs) w) x i e) cs) × AllByRecursion EntryShown (walk_arms part asked k (branches_of free cs)).nodes
  guard_shows part n d at x i e free cs is clauses inner asked k clean ready looked look =
      let bs : List Branch = branches_of free cs in
      let all : Arms = walk_arms part asked k bs in
      let j : ℕ = k + length all.vars in
      let own : Needs = (arms_gathered n j all.arms).needs in
      let t : MailboxType = mailbox_type i Receiving e Returnable in
      let bound : List Binder = guard_binders p i e all.arms in
      let found_order = each_unless (λ a. is_none (need_of a.needs x)) OrderRule (λ a. AtNode n) all.arms in
      let found_payload = each_unless (keeps_own p i) PayloadRule (λ a. AtNode n) all.arms in
      let found_covers = unless (covers e (is_received cs) (is_some free)) CoversRule (AtNode n) in
      let found_names = binder_findings d.function bound in
      let clean1 = nil_parts all.findings (found_order ++ (arms_findings n all.arms ++ (found_payload ++ (found_covers ++ found_names)))) clean in
      let clean2 = nil_parts found_order (arms_findings n all.arms ++ (found_payload ++ (found_covers ++ found_names))) clean1.1 in
      let clean3 = nil_parts (arms_findings n all.arms) (found_payload ++ (found_covers ++ found_names)) clean2.1 in
      let clean4 = nil_parts found_payload (found_covers ++ found_names) clean3.1 in
      let clean5 = nil_parts found_covers found_names clean4.1 in
      let ready1 = all_parts Ready all.constraints (binder_constraints d.function bound ++ (arms_gathered n j all.arms).constraints) ready in
      let ready2 = all_parts Ready (binder_constraints d.function bound) (arms_gathered n j all.arms).constraints ready1.1 in
      let arms = arms_show part asked k bs inner clean1.0 ready1.0 looked in
      let Known : Branch → Needs → Type 0 = λ b needs. PartOpen b.body asked needs × ((z : ℕ) (a : MailboxType) → need_of needs z ≡ Some a → HasWord a.polarity (replaced s a.pattern)) in
      let Words : Arm → Type 0 = λ a. (z : ℕ) (c : MailboxType) → need_of (outer_needs a) z ≡ Some c → HasWord c.polarity (replaced s c.pattern) in
      let words : AllByRecursion Words all.arms =
      over_arms Words part asked k bs (over_with Known Known (λ b needs. Words (arm_of b needs)) (λ b needs f g. but_word (own_names b.clause) needs f.1) part asked k bs arms.open_parts arms.open_parts) in
      let Passes : Arm → Type 0 = λ a. (z : ℕ) → PassShown R (need_of own z) (need_of (outer_needs a) z) in
      let Names : Arm → Type 0 = λ a. AllByRecursion (λ w. PassShown R (Some w.type) w.need) (arm_binders p i e a.needs a.clause) in
      let passes = gathered_shows n j all.arms words clean3.0 ready2.1 in
      let names = flat_all (λ w. PassShown R (Some w.type) w.need) (λ a. arm_binders p i e a.needs a.clause) all.arms (names_show d.function bound clean5.1 ready2.0) in
      let both = all_with Passes Names (λ a. Passes a × Names a) (λ a f g. (f, g)) all.arms passes names in
      let known = over_all (BranchOpen x i e own asked) part asked k bs
      (over_with Known (λ b needs. Passes (arm_of b needs) × Names (arm_of b needs)) (BranchOpen x i e own asked) (λ b needs f g. record { part = f.0; passes = g.0; names = g.1 }) part asked k bs arms.open_parts
      (arms_over (λ a. Passes a × Names a) part asked k bs both)) in
      let each = all_branches (λ b. (needs : Needs) × BranchOpen x i e own asked b needs) free cs known in
      let fresh : (z : ℕ) → is_among z (flat_map clause_binders cs) ≡ true → need_of own z ≡ None = fresh_in own look in (
        (
          subst (λ o. PassShown R o (Some t)) (sym (need_put x t own x ∙ cond-true (nat_eq x x) (Some t) (need_of own x) (eq-eqb x x refl))) (pass_refl (inferred p).constraints v (Some t)),
          (λ m some z.
              let q = each.0 m some in
              subst (λ (h : TypeEnv). PassShown R (without x (λ w. need_of (put x t own) w) z) (h z)) (sym q.1.part.env)
              (outside_shows x t own [] q.0 z refl (q.1.passes z))),
          clauses_show cs clauses each.1 (λ z on. fresh z on),
        ),
        arms.entries,
      )
    where
      fresh_in : (own : Needs) → lookup (nat_eq n) (inferred p).nodes ≡ Some (record { result = asked; needs = put x (mailbox_type i Receiving e Returnable) own }) → (z : ℕ) → is_among z (flat_map clause_binders cs) ≡ true → need_of own z ≡ None
      fresh_in own look z on = go (need_of own z) refl
        where
          go : (o : Option MailboxType) → need_of own z ≡ o → need_of own z ≡ None
          go None q = q
          go (Some a) q = absurd (clash on (at_some a q))
            where
              at_some : (a : MailboxType) → need_of own z ≡ Some a → is_among z (flat_map clause_binders cs) ≡ false
              at_some a q =
                  (elim (nat_eq x z) as (λ b. nat_eq x z ≡ b → is_among z (flat_map clause_binders cs) ≡ false) [
                    | true ↦ λ w. named_at (mailbox_type i Receiving e Returnable) (need_put x (mailbox_type i Receiving e Returnable) own z ∙ cond-true (nat_eq x z) (Some (mailbox_type i Receiving e Returnable)) (need_of own z) w)
                    | false ↦ λ w. named_at a (need_put x (mailbox_type i Receiving e Returnable) own z ∙ cond-false (nat_eq x z) (Some (mailbox_type i Receiving e Returnable)) (need_of own z) w ∙ q)
                  ]) refl
                where
                  named_at : (c : MailboxType) → need_of (put x (mailbox_type i Receiving e Returnable) own) z ≡ Some c → is_among z (flat_map clause_binders cs) ≡ false
                  named_at c h =
                      ap (λ w. is_among z (binders w)) (sym is)
                      ∙ unnamed p (typing_found p s) wf typing z n d (type_under s c) at (ap (λ o. need_under s (env_open o z)) look ∙ ap (need_under s) h)

      clauses_show : (ds : List Clause) → AllByRecursion (ClauseKinds p (wf.nodes n d at).function.vars i d.kind) ds → AllByRecursion (λ r. (needs : Needs) × BranchOpen x i e (arms_gathered n (k + length (walk_arms part asked k (branches_of free cs)).vars) (walk_arms part asked k (branches_of free cs)).arms).needs asked (clause_branch r) needs) ds → ((z : ℕ) → is_among z (flat_map clause_binders ds) ≡ true → need_of (arms_gathered n (k + length (walk_arms part asked k (branches_of free cs)).vars) (walk_arms part asked k (branches_of free cs)).arms).needs z ≡ None) → AllByRecursion (ClauseShown R p (typing_open p) (λ w. need_of (put x (mailbox_type i Receiving e Returnable) (arms_gathered n (k + length (walk_arms part asked k (branches_of free cs)).vars) (walk_arms part asked k (branches_of free cs)).arms).needs) w) x i e) ds
      clauses_show [] kinds known fresh = tt
      clauses_show (r ∷ ds) kinds known fresh = (
        clause_shows n d at x i e (arms_gathered n (k + length (walk_arms part asked k (branches_of free cs)).vars) (walk_arms part asked k (branches_of free cs)).arms).needs asked r known.0.0 kinds.0 (λ z on. fresh z (among_first z (clause_binders r) (flat_map clause_binders ds) on)) known.0.1,
        clauses_show ds kinds.1 known.1 (λ z on. fresh z (among_second z (clause_binders r) (flat_map clause_binders ds) on)),
      )

  core_shows : (part : Part) (n : ℕ) (d : Node) (core : Core) (at : node_at p n ≡ Some d) → d.core ≡ core → Inner part (parts core) → (asked : TypeOf) (k : ℕ) → (core_found p part d.function n k asked core).findings ≡ [] → AllByRecursion Ready (core_found p part d.function n k asked core).constraints → AllByRecursion Looked (core_found p part d.function n k asked core).nodes → lookup (nat_eq n) (inferred p).nodes ≡ Some (record { result = asked; needs = (core_found p part d.function n k asked core).needs }) → CoreShows d.function asked core (core_found p part d.function n k asked core)
  core_shows part n d (Val e) at is inner asked k clean ready looked look = (value_shows asked e, tt)
  core_shows part n d (Print e) at is inner asked k clean ready looked look = (tt, tt)
  core_shows part n d (New i) at is inner asked k clean ready looked look = (new_shows n i asked clean ready, no_nodes asked)
    where
      no_nodes : (asked : TypeOf) → AllByRecursion EntryShown (new_found n i asked).nodes
      no_nodes (BaseTerm b) = tt
      no_nodes (MailboxTerm j Sending e) = tt
      no_nodes (MailboxTerm j Receiving e) = tt
  core_shows part n d (Call c args) at is inner asked k clean ready looked look = (call_shows n c args asked clean ready, no_nodes (function_at p c))
    where
      no_nodes : (o : Option Function) → AllByRecursion EntryShown (call_found p n asked c args o).nodes
      no_nodes None = tt
      no_nodes (Some h) = tt
  core_shows part n d (Send x m args) at is inner asked k clean ready looked look =
      (λ decl declared. send_shows n (var_interface p d.function x) x m args decl declared, tt)
  core_shows part n d (Spawn m) at is inner asked k clean ready looked look =
      let q = inner m (among_head m []) in
      let r : Found = part m (BaseTerm BaseUnit) k in
      let body = q.2 (BaseTerm BaseUnit) k clean ready looked in (
        λ z.
            subst (λ (h : TypeEnv). PassShown R (need_of (needs_second r.needs) z) (h z)) (sym body.0.env)
            (subst (λ o. PassShown R o (need_of r.needs z)) (sym (need_second r.needs z)) (second_shows (need_of r.needs z))),
        body.1,
      )
  core_shows part n d (Let x m b) at is inner asked k clean ready looked look =
      let qm = inner m (among_head m (b ∷ [])) in
      let qb = inner b (or_right (nat_eq b m) (is_among b (b ∷ [])) (among_head b [])) in
      let body : Found = part b asked k in
      let wanted : TypeOf = asked_of (node_at p m) (name_need x body.needs) in
      let j : ℕ = k + length body.vars in
      let bound : Found = part m wanted j in
      let inner_needs : Needs = body_needs x body.needs in
      let l : ℕ = j + length bound.vars in
      let own = let_gathered n l bound.needs inner_needs in
      let clean1 = nil_parts body.findings (bound.findings ++ let_findings n bound.needs inner_needs) clean in
      let clean2 = nil_parts bound.findings (let_findings n bound.needs inner_needs) clean1.1 in
      let ready1 = all_parts Ready body.constraints (bound.constraints ++ own.constraints) ready in
      let ready2 = all_parts Ready bound.constraints own.constraints ready1.1 in
      let found = all_parts Looked body.nodes bound.nodes looked in
      let tb = qb.2 asked k clean1.0 ready1.0 found.0 in
      let tm = qm.2 wanted j clean2.0 ready2.0 found.1 in (
        λ z.
            subst (λ (h : TypeEnv). SplitShown R (need_of own.needs z) (h z) (without_name x ((typing_open p).envs b) z)) (sym tm.0.env)
            (subst (λ (h : TypeEnv). SplitShown R (need_of own.needs z) (need_of bound.needs z) (without_name x h z)) (sym tb.0.env)
            (subst (λ o. SplitShown R (need_of own.needs z) (need_of bound.needs z) o) (beside_open x body.needs z)
            (let_shows n l bound.needs inner_needs clean2.1 ready2.1 z))),
        all_join EntryShown body.nodes bound.nodes tb.1 tm.1,
      )
  core_shows part n d (If e a b) at is inner asked k clean ready looked look =
      let bs : List Branch = two_branches a b in
      let all : Arms = walk_arms part asked k bs in
      let j : ℕ = k + length all.vars in
      let own = arms_gathered n j all.arms in
      let rules = nil_parts all.findings (arms_findings n all.arms) clean in
      let held = all_parts Ready all.constraints own.constraints ready in
      let arms = arms_show part asked k bs (inner a (among_head a (b ∷ [])), (inner b (or_right (nat_eq b a) (is_among b (b ∷ [])) (among_head b [])), tt)) rules.0 held.0 looked in
      let Known : Branch → Needs → Type 0 = λ b needs. PartOpen b.body asked needs × ((z : ℕ) (a : MailboxType) → need_of needs z ≡ Some a → HasWord a.polarity (replaced s a.pattern)) in
      let Words : Arm → Type 0 = λ a. (z : ℕ) (c : MailboxType) → need_of (outer_needs a) z ≡ Some c → HasWord c.polarity (replaced s c.pattern) in
      let words : AllByRecursion Words all.arms =
      over_arms Words part asked k bs (over_with Known Known (λ b needs. Words (arm_of b needs)) (λ b needs f g. but_word (own_names b.clause) needs f.1) part asked k bs arms.open_parts arms.open_parts) in
      let passes = arms_over (λ a. (z : ℕ) → PassShown R (need_of own.needs z) (need_of (outer_needs a) z)) part asked k bs (gathered_shows n j all.arms words rules.1 held.1) in (
        (
          branch_shows a (part a asked k).needs own.needs arms.open_parts.0.0.env passes.0,
          branch_shows b (part b asked (k + length (part a asked k).vars)).needs own.needs arms.open_parts.1.0.0.env passes.1.0,
        ),
        arms.entries,
      )
    where
      branch_shows : (m : ℕ) (needs own : Needs) → (typing_open p).envs m ≡ (λ x. need_of needs x) → ((z : ℕ) → PassShown R (need_of own z) (need_of (needs_but [] needs) z)) → EnvShown R (λ x. need_of own x) ((typing_open p).envs m)
      branch_shows m needs own env h z =
          subst (PassShown R (need_of own z)) (need_but [] needs z ∙ ap (λ (g : TypeEnv). g z) (sym env)) (h z)
  core_shows part n d (Guard x e free cs) at is inner asked k clean ready looked look =
      let kinds = subst (CoreKinds p (wf.nodes n d at).function.vars d.kind) is (wf.nodes n d at).kinds in
      let face : var_interface p d.function x ≡ kinds.0 = face_of p n d x kinds.0 at (here_kind p n x d at (MailboxOf kinds.0) (wf.nodes n d at) kinds.1) in
      let clauses = subst (λ j. AllByRecursion (ClauseKinds p (wf.nodes n d at).function.vars j d.kind) cs) (sym face) kinds.4 in
      let Good : Branch → Type 0 = λ b. (w : Node) × (node_at p b.body ≡ Some w) × PartShows part b.body in
      guard_shows part n d at x (var_interface p d.function x) e free cs is clauses
      (branches_all Good free cs
      (λ m some. inner m (among_first m (option_list free) (clause_bodies cs) (subst (λ o. is_among m (option_list o) ≡ true) (sym some) (among_head m []))))
      (bodies_among (λ m. (w : Node) × (node_at p m ≡ Some w) × PartShows part m) cs (λ m on. inner m (among_second m (option_list free) (clause_bodies cs) on))))
      asked k clean ready looked look

  -- the walk of a node, with levels enough for all that comes after it
  walk_shows : (levels n : ℕ) (d : Node) → node_at p n ≡ Some d → length p.nodes ≤ levels + n → PartShows (walk levels p) n
  walk_shows zero n d at enough asked k clean ready looked =
      let within = slice_get_within p.nodes n d at in absurd (omega arith)
  walk_shows (suc levels) n d at enough asked k clean ready looked =
      let r : Found = core_found p (walk levels p) d.function n k asked d.core in
      let own : ℕ × NodeType = (n, record { result = asked; needs = r.needs }) in
      let inner : Inner (walk levels p) (parts d.core) =
      λ m on.
      let q = (wf.nodes n d at).parts_after m on in
      let after = q.0 in
      (q.1.0, q.1.1, walk_shows levels m q.1.0 q.1.1 (omega arith)) in
      let found = all_parts Looked r.nodes (own ∷ []) (subst (λ o. AllByRecursion Looked (node_found p (walk levels p) n asked k o).nodes) at looked) in
      let core = core_shows (walk levels p) n d d.core at refl inner asked k
      (subst (λ o. (node_found p (walk levels p) n asked k o).findings ≡ []) at clean)
      (subst (λ o. AllByRecursion Ready (node_found p (walk levels p) n asked k o).constraints) at ready)
      found.0 found.1.0 in
      let part : PartOpen n asked r.needs = record {
        result = ap result_open found.1.0;
        env = ap env_open found.1.0;
        look = found.1.0;
      } in
      let entry : EntryShown own =
      λ e there.
      let same : d ≡ e = cc in
      subst (λ (w : Node). CoreShown R p (typing_open p) w.function ((typing_open p).envs n) ((typing_open p).results n) w.core) same
      (subst (λ t. CoreShown R p (typing_open p) d.function ((typing_open p).envs n) t d.core) (sym part.result)
      (subst (λ (g : TypeEnv). CoreShown R p (typing_open p) d.function g asked d.core) (sym part.env) core.0)) in
      subst (λ o. PartOpen n asked (node_found p (walk levels p) n asked k o).needs × AllByRecursion EntryShown (node_found p (walk levels p) n asked k o).nodes) (sym at)
      (part, all_snoc EntryShown r.nodes own core.1 entry)

  -- ---- functions

  param_shows : (f : ℕ) (g : Function) → (needs : Needs) → Places (λ z a. PassShown R (Some a) (need_of needs z)) (open_param p f g) 0 (param_names 0 g.params) → (z : ℕ) → PassShown R (open_param p f g z) (need_of needs z)
  param_shows f g needs places z = go (slice_get g.params z) refl (open_param p f g z) refl
    where
      go : (t : Option Sort) → slice_get g.params z ≡ t → (o : Option MailboxType) → open_param p f g z ≡ o → PassShown R o (need_of needs z)
      go t e None h = tt
      go None e (Some a) h =
          let none : open_param p f g z ≡ None = ap (λ w. option_and_then (sort_type (Var (number_at (first_number p f) g.params z))) w) e in
          let clash : None ≡ Some a = sym none ∙ h in cc
      go (Some t) e (Some a) h =
          let place : 0 + z ≡ z = omega arith in
          subst (λ n. PassShown R (Some a) (need_of needs n)) place
          (param_at (λ z a. PassShown R (Some a) (need_of needs z)) (open_param p f g) 0 g.params places z t e a (ap (open_param p f g) place ∙ h))

  function_shows : (f : ℕ) (g : Function) (k : ℕ) (at : function_at p f ≡ Some g) → (walk_function p f g k).findings ≡ [] → AllByRecursion Ready (walk_function p f g k).constraints → AllByRecursion Looked (walk_function p f g k).nodes → EnvShown R (param_type (typing_open p) f g) ((typing_open p).envs g.body) × AllByRecursion EntryShown (walk_function p f g k).nodes
  function_shows f g k at clean ready looked =
      let body : Found = walk (length p.nodes) p g.body (open_result p f g) k in
      let node = (wf.functions f g at).body in
      let rules = nil_parts body.findings (binder_findings f (function_binders p f g body.needs)) clean in
      let held = all_parts Ready body.constraints (binder_constraints f (function_binders p f g body.needs)) ready in
      let part = walk_shows (length p.nodes) g.body node.0 node.1 (omega arith) (open_result p f g) k rules.0 held.0 looked in
      let names = names_show f (function_binders p f g body.needs) rules.1 held.1 in
      let places = all_names (λ w. PassShown R (Some w.type) w.need) (open_param p f g) 0 (param_names 0 g.params) body.needs names in (
        subst (λ (types : TypeEnv). EnvShown R types ((typing_open p).envs g.body)) (sym (open_same f g at))
            (subst (λ (h : TypeEnv). EnvShown R (open_param p f g) h) (sym part.0.env) (param_shows f g body.needs places)),
        part.1,
      )

  functions_show : (f k : ℕ) (gs : List Function) → ((j : ℕ) (g : Function) → slice_get gs j ≡ Some g → function_at p (f + j) ≡ Some g) → (walk_functions p f k gs).findings ≡ [] → AllByRecursion Ready (walk_functions p f k gs).constraints → AllByRecursion Looked (walk_functions p f k gs).nodes → ((j : ℕ) (g : Function) → slice_get gs j ≡ Some g → EnvShown R (param_type (typing_open p) (f + j) g) ((typing_open p).envs g.body)) × AllByRecursion EntryShown (walk_functions p f k gs).nodes
  functions_show f k [] there clean ready looked = (λ j g e. cc, tt)
  functions_show f k (g ∷ gs) there clean ready looked =
      let first : Found = walk_function p f g k in
      let rest : Found = walk_functions p (suc f) (k + length first.vars) gs in
      let rules = nil_parts first.findings rest.findings clean in
      let held = all_parts Ready first.constraints rest.constraints ready in
      let found = all_parts Looked first.nodes rest.nodes looked in
      let place : f + 0 ≡ f = omega arith in
      let here = function_shows f g k (subst (λ n. function_at p n ≡ Some g) place (there 0 g refl)) rules.0 held.0 found.0 in
      let later = functions_show (suc f) (k + length first.vars) gs
      (λ j e is. let next : f + suc j ≡ suc f + j = omega arith in subst (λ n. function_at p n ≡ Some e) next (there (suc j) e is)) rules.1 held.1 found.1 in
      (at_place here.0 later.0, all_join EntryShown first.nodes rest.nodes here.1 later.1)
    where
      at_place : EnvShown R (param_type (typing_open p) f g) ((typing_open p).envs g.body) → ((j : ℕ) (h : Function) → slice_get gs j ≡ Some h → EnvShown R (param_type (typing_open p) (suc f + j) h) ((typing_open p).envs h.body)) → (j : ℕ) (h : Function) → slice_get (g ∷ gs) j ≡ Some h → EnvShown R (param_type (typing_open p) (f + j) h) ((typing_open p).envs h.body)
      at_place here later zero h e =
          let same : g ≡ h = cc in
          let place : f ≡ f + 0 = omega arith in
          subst (λ n. EnvShown R (param_type (typing_open p) n h) ((typing_open p).envs h.body)) place
          (subst (λ (w : Function). EnvShown R (param_type (typing_open p) f w) ((typing_open p).envs w.body)) same here)
      at_place here later (suc j) h e =
          let next : suc f + j ≡ f + suc j = omega arith in subst (λ n. EnvShown R (param_type (typing_open p) n h) ((typing_open p).envs h.body)) next (later j h e)

-- each constraint of a list is one of them
all_listed : (v : ℕ → Pat) (all cs : List Constraint) → ((c : Constraint) → IsIn c cs → IsIn c all) → AllByRecursion (Listed all v) cs
all_listed v all [] into = tt
all_listed v all (c ∷ cs) into = (inr (c, into c (inl refl), refl, refl, refl), all_listed v all cs (λ d h. into d (inr h)))

pub inclusions_shown : BoundIsUnnamed → InclusionsShown
inclusions_shown unnamed p s v wf clean solved senders cover =
    let typing = solution_types p s wf clean solved senders in
    let nodes : List (ℕ × NodeType) = (inferred p).nodes in
    let once = each_node_once p wf in
    let all = functions_show unnamed p wf s v typing cover 0 (1 + length (signature_vars p)) p.functions
    (λ j g e. let place : 0 + j ≡ j = omega arith in subst (λ n. function_at p n ≡ Some g) (sym place) e)
    clean (all_listed v (inferred p).constraints (inferred p).constraints (λ c h. h)) once.1 in
    record {
      nodes = λ n d at.
          let there = once.0 n d at in
          looked_up (EntryShown unnamed p wf s v typing cover) nodes n there.0 all.1 there.1 d at;
      functions = λ f g at. let place : 0 + f ≡ f = omega arith in subst (λ n. EnvShown (IsShown (inferred p).constraints v) (param_type (typing_open p) n g) ((typing_open p).envs g.body)) place (all.0 f g at);
    }
