-- A receive step keeps a configuration typed.
use Rattle.std.proofs.Common.{◌≡◌, ℕ, true, false, ◌||◌, not, nat_eq, if◌then◌else◌, List, [], ◌∷◌, length, map, Some, None, refl, sym, ap, ◌∙◌, subst, ⊎_elim}
use Rattle.std.specs.Prelude.{is_some, slice_get, option_map}
use Rattle.std.specs.List.{IsDistinct, list_any, flat_map}
use Rattle.std.proofs.lemmas.Bool.{eqb-true, eqb-false, eq-eqb, ne_eqb, cond-true, cond-false, or_cases, or_left, or_right, and_from, false_from_ne_true}
use Rattle.pat_semantics_spec.specs.Values.{Value, Mailbox, Kind, Plain, MailboxOf, Env, value_at, bind_all, ValueFits, ValuesFit}
use Rattle.pat_semantics_spec.specs.Programs.{Program, TagDecl, Clause, Core, Guard, core_at, tag_at, kind_of, parts, binders, clause_bodies, option_list, is_among, clause_binders, clause_uses, is_free, keep, KindAt, Node}
use Rattle.pat_semantics_spec.specs.WellFormed.{WellFormed, VarsHaveKinds, ClauseKinds}
use Rattle.pat_semantics_spec.specs.Configs.{Running, Thread, Message, Config, thread_at, is_mailbox, env_refers, control_refers, thread_refers, message_refers, has_pending}
use Rattle.pat_semantics_spec.specs.Steps.{ActReceive, step, redex, received, at_node, thread_of}
use Rattle.pat_semantics_laws.proofs.FreeVars.{free_unfolds}
use Rattle.pat_semantics_laws.proofs.Scopes.{free_fresh, guard_apart}
use Rattle.pat_type_system_spec.specs.Types.{Usage, Second, Returnable, TypeEnv, PassesTo, TypeFits, kind_of_type}
use Rattle.pat_type_system_spec.specs.Typings.{Typing, payload_type, GuardTyped, ClauseTyped}
use Rattle.pat_type_system_spec.specs.Holdings.{Holding, held, control_held, payload_held, wanted}
use Rattle.pat_type_system_spec.specs.Typed.{IsTyped, ThreadFits, MessageFits, NumbersFit, ControlFits, PartFits, KeepsFrom, frames_refer}
use Rattle.pat_semantics_laws.proofs.Threads.{lookup_all, lookup_any, set_all, set_any}
use Rattle.pat_semantics_laws.proofs.Inversion.{step_of, ReceiveStep, receive_step}
use Rattle.pat_type_system_laws.proofs.Nodes.{NodeFacts, node_facts, part_core}
use Rattle.pat_safety_laws.proofs.Refers.{value_refers}
use Rattle.pat_safety_laws.proofs.Envs.{value_at-bind, value_at-keep, kept, held_cases, HeldCases, by_variable, by_none}
use Rattle.pat_safety_laws.proofs.Payloads.{names_head, payload_place, names_tail}
use Rattle.pat_type_system_laws.proofs.Named.{free_named, kind_same, part_kind, payloads_typed, tag_payloads}
use Rattle.pat_safety_laws.proofs.Narrow.{usage_back, refers_value}
use Rattle.pat_type_system_laws.proofs.Unused.{unused_drops}
use Rattle.pat_safety_laws.proofs.Messages.{others, take_message, found_all, found_message_any}
use Rattle.pat_safety_laws.proofs.ReceiveHoldings.{Receipt, BodyCases, is_from, is_payload, is_env, body_cases, own_old, kept_ascends, passes_env, still, has_payload}
use Rattle.pat_safety_laws.proofs.ReceiveBalance.{after_receive, receive_balanced}
use Rattle.pat_safety_laws.proofs.Received.{found_clause, found_binders, found_any, found_body, have_types, held_second, BoundValue, was, of_kind, bound_value, bound_some, bound_different}
use Rattle.pat_semantics_laws.proofs.Lists.{clash, distinct_front, distinct_back, any-append, any_last, any_filter, all_filter}
use Rattle.pat_semantics_spec.specs.Orders.{IsOrdered}
use Rattle.pat_semantics_laws.proofs.Ordered.{step_keeps_order}
use Rattle.pat_semantics_laws.proofs.Ascending.{ascends_distinct}

module _ (p : Program) (y : Typing) (interfaces : ℕ → ℕ) (c : Config) (t k : ℕ) (s : Thread) (d : Config) (wf : WellFormed p) (typed : IsTyped p y interfaces c) (there : thread_at c t ≡ Some s) (q : ReceiveStep p c t k s d) where
  abbrev node : ℕ
  node = q.at.node

  abbrev r : Clause
  r = q.clause

  abbrev m : Message
  m = q.message

  abbrev guard_term : Core
  guard_term = Guard q.var q.pattern q.free q.receives

  facts : NodeFacts p y node guard_term
  facts = node_facts p y node guard_term wf typed.typing q.at.term

  old_fits : ThreadFits p y interfaces s
  old_fits = lookup_all (λ w. ThreadFits p y interfaces w) c.threads t s typed.threads there

  control_fits : ControlFits p y interfaces (Running node q.env) s.frames
  control_fits = subst (λ w. ControlFits p y interfaces w s.frames) q.at.control_is old_fits.control

  part : PartFits p interfaces node [] q.env
  part = control_fits.0

  message_fits : MessageFits p interfaces m
  message_fits = found_all (MessageFits p interfaces) k c.messages m typed.messages q.found

  own : q.mailbox ≡ m.mailbox
  own = sym (eqb-true m.mailbox q.mailbox q.on)

  guards : value_at q.env q.var ≡ Some (Mailbox m.mailbox)
  guards = q.guards ∙ ap (λ a. Some (Mailbox a)) own

  guard : GuardTyped p y (y.envs node) (y.results node) q.var q.pattern q.free q.receives
  guard = facts.term

  abbrev gi : ℕ
  gi = guard.guarded.interface

  clause : ClauseTyped p y (y.envs node) (y.results node) q.var gi q.pattern r
  clause = (found_clause (ClauseTyped p y (y.envs node) (y.results node) q.var gi q.pattern) m.tag q.receives r guard.receives q.chosen).0

  tag : r.tag ≡ m.tag
  tag = (found_clause (ClauseTyped p y (y.envs node) (y.results node) q.var gi q.pattern) m.tag q.receives r guard.receives q.chosen).1

  abbrev vars : List Kind
  vars = facts.fits.function.vars

  -- the message's mailbox has the guard's interface
  var_kind : slice_get vars q.var ≡ Some (MailboxOf gi)
  var_kind = kind_same p y node q.var (MailboxOf gi) guard_term facts (facts.typed.kinds q.var guard.guarded guard.named)

  interface_is : interfaces m.mailbox ≡ gi
  interface_is =
      let known = part.kinds q.var (Mailbox m.mailbox) guards in
      let e : Some known.0 ≡ Some (MailboxOf gi) = sym (kind_same p y node q.var known.0 guard_term facts known.1) ∙ var_kind in
      let same : known.0 ≡ MailboxOf gi = cc in
      subst (λ w. ValueFits interfaces (Mailbox m.mailbox) w) same known.2

  abbrev ki : ℕ
  ki = facts.kinds.0

  ki_is : ki ≡ gi
  ki_is = let e : Some (MailboxOf facts.kinds.0) ≡ Some (MailboxOf gi) = sym facts.kinds.1 ∙ var_kind in cc

  clause_kinds : ClauseKinds p vars facts.kinds.0 (kind_of_type (y.results node)) r
  clause_kinds = (found_clause (ClauseKinds p vars facts.kinds.0 (kind_of_type (y.results node))) m.tag q.receives r facts.kinds.4 q.chosen).0

  declared : tag_at p (interfaces m.mailbox) m.tag ≡ Some clause.decl
  declared = ap (λ i. tag_at p i m.tag) interface_is ∙ ap (λ w. tag_at p gi w) (sym tag) ∙ clause.declared

  values_fit : ValuesFit interfaces m.values (map kind_of clause.decl.payloads)
  values_fit =
      let e : Some message_fits.decl ≡ Some clause.decl = sym message_fits.declared ∙ declared in
      let same : message_fits.decl ≡ clause.decl = cc in
      subst (λ (w : TagDecl). ValuesFit interfaces m.values (map kind_of w.payloads)) same message_fits.values

  vars_kinds : VarsHaveKinds vars r.vars (map kind_of clause.decl.payloads)
  vars_kinds =
      let e : Some clause_kinds.decl ≡ Some clause.decl = sym clause_kinds.declared ∙ ap (λ i. tag_at p i r.tag) ki_is ∙ clause.declared in
      let same : clause_kinds.decl ≡ clause.decl = cc in
      subst (λ (w : TagDecl). VarsHaveKinds vars r.vars (map kind_of w.payloads)) same clause_kinds.payloads

  lengths : length r.vars ≡ length m.values
  lengths = eqb-true (length r.vars) (length m.values) q.lengths

  abbrev all_values : Env
  all_values = received r m q.env

  abbrev kept_values : Env
  kept_values = keep p r.body all_values

  body_part : is_among r.body (parts guard_term) ≡ true
  body_part = any_last (nat_eq r.body) (option_list q.free) (clause_bodies q.receives) (found_body m.tag q.receives r q.chosen)

  body_core : (core : Core) × (core_at p r.body ≡ Some core)
  body_core = part_core p node guard_term wf q.at.term r.body body_part

  to_body : (z : ℕ) (w : Kind) → KindAt p node z w → KindAt p r.body z w
  to_body z w h = part_kind p node z w guard_term wf q.at.term r.body body_part h

  of_vars : (z : ℕ) (w : Kind) → slice_get vars z ≡ Some w → KindAt p node z w
  of_vars z w h = (facts.node, facts.fits.function, facts.there, facts.fits.of, h)

  -- each value that is kept is of its variable's kind
  new_kinds : (z : ℕ) (v : Value) → value_at kept_values z ≡ Some v → (w : Kind) × KindAt p r.body z w × ValueFits interfaces v w
  new_kinds z v at =
      let h = kept p r.body all_values z v at in
      (elim (nat_eq z r.from) as (λ b. nat_eq z r.from ≡ b → (if b then Some (Mailbox m.mailbox) else value_at (bind_all q.env r.vars m.values) z) ≡ Some v → (w : Kind) × KindAt p r.body z w × ValueFits interfaces v w) [
        | true ↦ λ e f.
            let same : Mailbox m.mailbox ≡ v = cc in (
              MailboxOf facts.kinds.0,
              to_body z (MailboxOf facts.kinds.0) (of_vars z (MailboxOf facts.kinds.0) (ap (slice_get vars) (eqb-true z r.from e) ∙ clause_kinds.from)),
              subst (λ u. ValueFits interfaces u (MailboxOf facts.kinds.0)) same (interface_is ∙ sym ki_is),
            )
        | false ↦ λ e f. cases z v (bound_value interfaces vars q.env r.vars m.values (map kind_of clause.decl.payloads) z v vars_kinds values_fit f)
      ]) refl (sym (value_at-bind (bind_all q.env r.vars m.values) r.from (Mailbox m.mailbox) z) ∙ h.1)
    where
      cases : (z : ℕ) (v : Value) → BoundValue interfaces vars q.env r.vars z v → (w : Kind) × KindAt p r.body z w × ValueFits interfaces v w
      cases z v (was out at) = let a = part.kinds z v at in (a.0, to_body z a.0 a.1, a.2)
      cases z v (of_kind w at fits) = (w, to_body z w (of_vars z w at), fits)

  named : (z b : ℕ) → value_at kept_values z ≡ Some (Mailbox b) → is_some (y.envs r.body z) ≡ true
  named z b at =
      let h = new_kinds z (Mailbox b) at in
      let f = kept p r.body all_values z (Mailbox b) at in
      of_kind_named h.0 h.1 h.2 f.0
    where
      of_kind_named : (w : Kind) → KindAt p r.body z w → ValueFits interfaces (Mailbox b) w → is_free p z r.body ≡ true → is_some (y.envs r.body z) ≡ true
      of_kind_named (Plain x) kind fits f = absurd fits
      of_kind_named (MailboxOf i) kind fits f = free_named p y wf typed.typing z i r.body body_core.0 body_core.1 kind f

  binders_here : (z : ℕ) → is_among z (clause_binders r) ≡ true → is_among z (flat_map clause_binders q.receives) ≡ true
  binders_here z h = found_binders m.tag q.receives r z q.chosen h

  core_same : facts.node.core ≡ guard_term
  core_same = let e = ap (λ o. option_map (λ (x : Node). x.core) o) (sym facts.there) ∙ q.at.term in cc

  fresh : (z : ℕ) (v : Value) → value_at q.env z ≡ Some v → is_among z (clause_binders r) ≡ false
  fresh z v at =
      let f = part.free z v at in
      let off = subst (λ w. is_among z (binders w) ≡ false) core_same (free_fresh p wf z node facts.node facts.there f.0) in
      false_from_ne_true (is_among z (clause_binders r)) (λ h. clash (binders_here z h) off)

  clause_apart : IsDistinct nat_eq (clause_binders r)
  clause_apart =
      (found_clause (λ w. IsDistinct nat_eq (clause_binders w)) m.tag q.receives r (guard_apart p wf node facts.node q.var q.pattern q.free q.receives facts.there core_same) q.chosen).0

  known : Receipt p y interfaces node q.env q.var q.pattern q.free q.receives r m
  known = record {
    guard = guard;
    clause = clause;
    guards = guards;
    part = part;
    different = message_fits.different;
    lengths = lengths;
    tag = tag;
    vars_distinct = distinct_front r.vars r.from clause_apart;
    from_apart = distinct_back r.vars r.from clause_apart;
    fresh = fresh;
    have_types = have_types interfaces (payload_type clause.decl) 0 m.values clause.decl.payloads values_fit (payloads_typed p clause.decl (tag_payloads p wf gi r.tag clause.decl clause.declared));
    named = named;
    unused = λ z off. unused_drops p y wf typed.typing z r.body body_core.0 body_core.1 off;
  }

  abbrev body : TypeEnv
  body = y.envs r.body

  abbrev Cases : ℕ → ℕ → Type 0
  Cases b z = BodyCases p y interfaces node q.env q.var q.pattern q.free q.receives r m known b z

  -- where a variable that is kept comes from
  comes_from : (b z : ℕ) → value_at kept_values z ≡ Some (Mailbox b) → Cases b z
  comes_from b z at = body_cases p y interfaces node q.env q.var q.pattern q.free q.receives r m known b z at

  -- the message's own mailbox isn't in its payload
  own_apart : list_any (is_mailbox m.mailbox) m.values ≡ false
  own_apart = names_head m.mailbox m.values message_fits.different

  all_at_var : (z : ℕ) → nat_eq z r.from ≡ false → value_at all_values z ≡ value_at (bind_all q.env r.vars m.values) z
  all_at_var z off =
      value_at-bind (bind_all q.env r.vars m.values) r.from (Mailbox m.mailbox) z
      ∙ cond-false (nat_eq z r.from) (Some (Mailbox m.mailbox)) (value_at (bind_all q.env r.vars m.values) z) off

  all_at_from : value_at all_values r.from ≡ Some (Mailbox m.mailbox)
  all_at_from =
      value_at-bind (bind_all q.env r.vars m.values) r.from (Mailbox m.mailbox) r.from
      ∙ cond-true (nat_eq r.from r.from) (Some (Mailbox m.mailbox)) (value_at (bind_all q.env r.vars m.values) r.from) (eq-eqb r.from r.from refl)

  -- a free variable of the body has a value
  has_value : (z : ℕ) → is_free p z r.body ≡ true → (v : Value) × (value_at all_values z ≡ Some v)
  has_value z f =
      (elim (nat_eq z r.from) as (λ b. nat_eq z r.from ≡ b → (v : Value) × (value_at all_values z ≡ Some v)) [
        | true ↦ λ e. (Mailbox m.mailbox, ap (value_at all_values) (eqb-true z r.from e) ∙ all_at_from)
        | false ↦ λ e.
            (elim (is_among z r.vars) as (λ b. is_among z r.vars ≡ b → (v : Value) × (value_at all_values z ≡ Some v)) [
              | true ↦ λ a. let h = bound_some q.env r.vars m.values z lengths a in (h.0, all_at_var z e ∙ h.1)
              | false ↦ λ a.
                  let out : is_among z (clause_binders r) ≡ false =
                  false_from_ne_true (is_among z (clause_binders r)) (λ h. ⊎_elim
                  (λ l. clash l a)
                  (λ l. clash (⊎_elim (λ w. w) (λ w. cc) (or_cases (nat_eq z r.from) false l)) e)
                  (any-append (nat_eq z) r.vars (r.from ∷ []) h)) in
                  let used : clause_uses (is_free p z) z r ≡ true = and_from (is_free p z r.body) (not (is_among z (clause_binders r))) f (ap not out) in
                  let any = found_any (clause_uses (is_free p z) z) m.tag q.receives r q.chosen used in
                  let here : is_free p z node ≡ true =
                  free_unfolds p z node guard_term wf q.at.term
                  ∙ or_right (nat_eq z q.var) (list_any (is_free p z) (option_list q.free) || list_any (clause_uses (is_free p z) z) q.receives) (or_right (list_any (is_free p z) (option_list q.free)) (list_any (clause_uses (is_free p z) z) q.receives) any) in
                  let h = part.values z here refl in
                  (h.0, still p y interfaces node q.env q.var q.pattern q.free q.receives r m known z h.0 h.1)
            ]) refl
      ]) refl

  payload_of : (b z : ℕ) → list_any (is_mailbox b) m.values ≡ true → is_among z (clause_binders r) ≡ true → nat_eq b m.mailbox ≡ false → value_at kept_values z ≡ Some (Mailbox b) → (is_among z r.vars ≡ true) × (value_at (bind_all q.env r.vars m.values) z ≡ Some (Mailbox b))
  payload_of b z found among off at =
      let f = kept p r.body all_values z (Mailbox b) at in
      let not_from : nat_eq z r.from ≡ false =
      false_from_ne_true (nat_eq z r.from) (λ e.
      let w : Some (Mailbox b) ≡ Some (Mailbox m.mailbox) = sym f.1 ∙ ap (value_at all_values) (eqb-true z r.from e) ∙ all_at_from in
      eqb-false b m.mailbox off cc) in (
        ⊎_elim (λ l. l) (λ l. absurd (clash (⊎_elim (λ w. w) (λ w. cc) (or_cases (nat_eq z r.from) false l)) not_from)) (any-append (nat_eq z) r.vars (r.from ∷ []) among),
        sym (all_at_var z not_from) ∙ f.1,
      )

  apart_own : (b : ℕ) → list_any (is_mailbox b) m.values ≡ true → nat_eq b m.mailbox ≡ false
  apart_own b found = false_from_ne_true (nat_eq b m.mailbox) (λ e. clash (subst (λ w. list_any (is_mailbox w) m.values ≡ true) (eqb-true b m.mailbox e) found) own_apart)

  -- beside a payload no variable from before is kept
  no_env : (b z w : ℕ) (a : ℕ) → list_any (is_mailbox b) m.values ≡ true → is_some (payload_held b (payload_type clause.decl) 0 m.values) ≡ true → value_at kept_values z ≡ Some (Mailbox a) → value_at q.env z ≡ Some (Mailbox a) → ⊥
  unfolding known clause
  no_env b z w a found some at before =
      let has = has_payload p y interfaces node q.env q.var q.pattern q.free q.receives r m known b 0 m.values some in
      clash (clause.own_names has z (named z a at)) (fresh z (Mailbox a) before)

  payload_some_of : (b : ℕ) → list_any (is_mailbox b) m.values ≡ true → is_some (payload_held b (payload_type clause.decl) 0 m.values) ≡ true
  unfolding known clause
  payload_some_of b found =
      (payload_place (y.envs node) (payload_type clause.decl) q.env b 0 r.vars m.values lengths known.vars_distinct known.have_types found).typed

  -- different variables name different mailboxes
  new_different : (z w b : ℕ) → value_at kept_values z ≡ Some (Mailbox b) → value_at kept_values w ≡ Some (Mailbox b) → z ≡ w
  new_different z w b az aw = go (comes_from b z az) (comes_from b w aw)
    where
      go : Cases b z → Cases b w → z ≡ w
      go (is_from e o) (is_from e' o') = e ∙ sym e'
      go (is_from e o) (is_payload found off among) = absurd (clash found (ap (λ v. list_any (is_mailbox v) m.values) o ∙ own_apart))
      go (is_from e o) (is_env at apart) = absurd (clash (eq-eqb q.var w (part.different q.var w m.mailbox guards (at ∙ ap (λ v. Some (Mailbox v)) o))) apart)
      go (is_payload found off among) (is_from e o) = absurd (clash found (ap (λ v. list_any (is_mailbox v) m.values) o ∙ own_apart))
      go (is_payload found off among) (is_payload found' off' among') =
          let pz = payload_of b z found among (apart_own b found) az in
          let pw = payload_of b w found among' (apart_own b found) aw in
          bound_different q.env r.vars m.values z w b lengths (names_tail (Mailbox m.mailbox) m.values message_fits.different) pz.0 pw.0 pz.1 pw.1
      go (is_payload found off among) (is_env at apart) = absurd (no_env b w w b found (payload_some_of b found) aw at)
      go (is_env at apart) (is_from e o) = absurd (clash (eq-eqb q.var z (part.different q.var z m.mailbox guards (at ∙ ap (λ v. Some (Mailbox v)) o))) apart)
      go (is_env at apart) (is_payload found off among) = absurd (no_env b z z b found (payload_some_of b found) az at)
      go (is_env at apart) (is_env at' apart') = part.different z w b at at'

  new_part : PartFits p interfaces r.body [] kept_values
  new_part = record {
    there = body_core;
    keys = kept_ascends p y interfaces node q.env q.var q.pattern q.free q.receives r m known;
    values = λ z f out.
        let h = has_value z f in
        (h.0, value_at-keep p r.body all_values z ∙ cond-true (is_free p z r.body) (value_at all_values z) None f ∙ h.1);
    free = λ z v at. ((kept p r.body all_values z v at).0, refl);
    kinds = new_kinds;
    different = new_different;
  }

  -- ---- what is held as returnable is in no frame

  old_keeps : KeepsFrom (λ b. held (y.envs node) b q.env) s.frames
  old_keeps = subst (λ w. KeepsFrom (λ b. control_held p y b w s.frames) s.frames) q.at.control_is old_fits.control_keeps

  new_keeps_from : KeepsFrom (λ b. held body b kept_values) s.frames
  unfolding known clause guard
  new_keeps_from b a h u = go (held_cases body b 0 kept_values new_part.keys)
    where
      passes_env_usage : (z : ℕ) (o : Holding) → y.envs node z ≡ o → value_at q.env z ≡ Some (Mailbox b) → PassesTo o (Some a) → frames_refer b s.frames ≡ false
      passes_env_usage z None e at w = absurd w
      passes_env_usage z (Some f) e at w = old (held_cases (y.envs node) b 0 q.env part.keys)
        where
          old : HeldCases (y.envs node) b q.env → frames_refer b s.frames ≡ false
          old (by_variable v at' is) =
              let same : v ≡ z = part.different v z b at' at in
              old_keeps b f (is ∙ ap (y.envs node) same ∙ e) (usage_back f.usage a.usage w.usage u)
          old (by_none none is) = absurd (none z at)

      from_case : (z : ℕ) → body z ≡ Some a → Cases b z → frames_refer b s.frames ≡ false
      from_case z at_body (is_from e o) =
          let own_held = own_old p y interfaces node q.env q.var q.pattern q.free q.receives r m known (held_cases (y.envs node) m.mailbox 0 q.env part.keys) in
          let keeps = old_keeps m.mailbox guard.guarded own_held (usage_back guard.guarded.usage Returnable guard.fits.usage refl) in
          subst (λ w. frames_refer w s.frames ≡ false) (sym o) keeps
      from_case z at_body (is_payload found off among) = offered_usage (payload_held b (payload_type clause.decl) 0 m.values) refl
          (subst (λ o. PassesTo o (body z)) off (clause.passes z))
        where
          second_first : (v : Usage) → v ≡ Second → v ≡ Returnable → frames_refer b s.frames ≡ false
          second_first Second e k = cc
          second_first Returnable e k = cc

          offered_usage : (o : Holding) → payload_held b (payload_type clause.decl) 0 m.values ≡ o → PassesTo (payload_held b (payload_type clause.decl) 0 m.values) (body z) → frames_refer b s.frames ≡ false
          offered_usage None e w = absurd (subst (λ x. PassesTo None x) at_body (subst (λ x. PassesTo x (body z)) e w))
          offered_usage (Some f) e w =
              let fits = subst (λ x. PassesTo (Some f) x) at_body (subst (λ x. PassesTo x (body z)) e w) in
              second_first f.usage (held_second clause.decl b 0 m.values f e) (usage_back f.usage a.usage fits.usage u)
      from_case z at_body (is_env at apart) =
          passes_env_usage z (y.envs node z) refl at (subst (λ x. PassesTo (y.envs node z) x) at_body (passes_z at))
        where
          passes_z : value_at q.env z ≡ Some (Mailbox b) → PassesTo (y.envs node z) (body z)
          passes_z at = passes_env p y interfaces node q.env q.var q.pattern q.free q.receives r m known b z at
              (ne_eqb b m.mailbox (λ o. clash (eq-eqb q.var z (part.different q.var z m.mailbox guards (at ∙ ap (λ v. Some (Mailbox v)) o))) apart))

      go : HeldCases body b kept_values → frames_refer b s.frames ≡ false
      go (by_none none is) = let e = sym is ∙ h in cc
      go (by_variable z at is) = from_case z (sym is ∙ h) (comes_from b z at)

  -- ---- the configuration after the receive

  abbrev after : Config
  after = after_receive p c t s q.env r m

  abbrev thread' : Thread
  thread' = thread_of (at_node p r.body (received r m q.env)) s.frames

  thread_fits' : ThreadFits p y interfaces thread'
  thread_fits' = record {
    control = (new_part, subst (λ w. TypeFits w (wanted p y s.frames)) (sym clause.result) control_fits.1);
    frames = old_fits.frames;
    control_keeps = new_keeps_from;
    frames_keep = old_fits.frames_keep;
  }

  -- a mailbox that the new control refers to is live
  kept_live : (a : ℕ) → env_refers a kept_values ≡ true → is_among a c.live ≡ true
  kept_live a h =
      let z = refers_value a 0 kept_values new_part.keys h in
      cases z.0 (comes_from a z.0 z.1)
    where
      cases : (z : ℕ) → Cases a z → is_among a c.live ≡ true
      cases z (is_from e o) =
          typed.numbers.messages_live a (or_right (list_any (message_refers a) c.messages) (has_pending a c.messages) (found_message_any (λ w. nat_eq w.mailbox a) k c.messages m q.found (eq-eqb m.mailbox a (sym o))))
      cases z (is_payload found off among) =
          typed.numbers.messages_live a (or_left (list_any (message_refers a) c.messages) (has_pending a c.messages) (found_message_any (message_refers a) k c.messages m q.found found))
      cases z (is_env at apart) =
          let refers : control_refers a s.control ≡ true = ap (control_refers a) q.at.control_is ∙ value_refers q.env z a at in
          typed.numbers.threads_live a (lookup_any (thread_refers a) c.threads t s there (or_left (control_refers a s.control) (list_any (λ f. env_refers a f.env) s.frames) refers))

  thread_live : (a : ℕ) → thread_refers a thread' ≡ true → is_among a c.live ≡ true
  thread_live a h =
      ⊎_elim
      (λ l. kept_live a l)
      (λ l. typed.numbers.threads_live a (lookup_any (thread_refers a) c.threads t s there (or_right (control_refers a s.control) (list_any (λ f. env_refers a f.env) s.frames) l)))
      (or_cases (env_refers a kept_values) (list_any (λ f. env_refers a f.env) s.frames) h)

  numbers' : IsOrdered after → NumbersFit after
  numbers' ordered = record {
    ordered = ordered;
    threads_live = λ a h. ⊎_elim (λ l. thread_live a l) (λ l. typed.numbers.threads_live a l) (set_any (thread_refers a) c.threads t thread' h);
    messages_live = λ a h.
        typed.numbers.messages_live a
        (⊎_elim
        (λ l. or_left (list_any (message_refers a) c.messages) (has_pending a c.messages) (any_filter (message_refers a) (λ w. not (nat_eq w.number m.number)) c.messages l))
        (λ l. or_right (list_any (message_refers a) c.messages) (has_pending a c.messages) (any_filter (λ w. nat_eq w.mailbox a) (λ w. not (nat_eq w.number m.number)) c.messages l))
        (or_cases (list_any (message_refers a) (others m.number c.messages)) (has_pending a (others m.number c.messages)) h));
  }

  received_typed : IsOrdered after → IsTyped p y interfaces after
  unfolding known clause
  received_typed ordered = record {
    typing = typed.typing;
    numbers = numbers' ordered;
    threads = set_all (λ e. ThreadFits p y interfaces e.1) c.threads t thread' (λ e h. thread_fits') typed.threads;
    messages = all_filter (MessageFits p interfaces) (λ w. not (nat_eq w.number m.number)) c.messages typed.messages;
    balanced = λ a live.
        receive_balanced p y interfaces c t s node q.env q.var q.pattern q.free q.receives r m known declared there q.at.control_is (take_message k c.messages m q.found (ascends_distinct 0 (map (λ x. x.number) c.messages) typed.numbers.ordered.messages)) a (typed.balanced a live);
  }

-- the law for receive
pub receive_keeps : (p : Program) (y : Typing) (interfaces : ℕ → ℕ) (c d : Config) (t k : ℕ) → WellFormed p → IsTyped p y interfaces c → step p c (record { thread = t; act = ActReceive k }) ≡ Some d → IsTyped p y interfaces d
receive_keeps p y interfaces c d t k wf typed h =
    let o = step_of p c (record { thread = t; act = ActReceive k }) d h in
    let q = receive_step p c t k o.thread d (redex p o.thread.control) refl o.gives in
    let ordered = subst IsOrdered q.result (step_keeps_order p c d (record { thread = t; act = (ActReceive k) }) typed.numbers.ordered h) in
    subst (IsTyped p y interfaces) (sym q.result) (received_typed p y interfaces c t k o.thread d wf typed o.there q ordered)
