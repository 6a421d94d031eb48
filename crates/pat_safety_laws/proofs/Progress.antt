-- A thread of a typed configuration that isn't at a guard has a step, and so nothing has gone wrong in the configuration.
use Rattle.std.proofs.Common.{◌≡◌, ℕ, ℤ, ◌+◌, Bool, true, false, ◌||◌, nat_eq, if◌then◌else◌, List, [], ◌∷◌, ◌++◌, map, Option, Some, refl, sym, ap, ap₂, ◌∙◌, subst, int_eq}
use Rattle.std.specs.Prelude.{is_some, slice_get, option_map, option_and_then, codes, int_lt, bytes_eq}
use Rattle.std.specs.List.{list_any}
use Rattle.std.specs.Int.{w64, int_wrapping_add, int_wrapping_sub, int_wrapping_mul}
use Rattle.std.proofs.lemmas.Bool.{or_left, or_right, eq-eqb}
use Rattle.pat_semantics_spec.specs.Values.{BaseBool, BaseInt, BaseText, Value, Const, Mailbox, Constant, UnitConst, BoolConst, IntConst, TextConst, Kind, Plain, MailboxOf, Op, Add, Sub, Mul, Equal, Less, Expr, VarExpr, Literal, OpExpr, Env, value_at, occurs, apply, apply_values, eval, eval_all, both_values, line_of, ValueFits}
use Rattle.pat_semantics_spec.specs.Programs.{Program, Core, Val, Let, Call, If, Print, New, Send, Spawn, Guard, core_at, is_free, core_uses, kind_of, option_list}
use Rattle.pat_semantics_spec.specs.WellFormed.{WellFormed, op_kind, expr_kind, HaveKinds, IsPrintable}
use Rattle.pat_semantics_spec.specs.Configs.{Control, Running, Returned, Frame, Thread, Config, thread_at, with_thread}
use Rattle.pat_semantics_spec.specs.Steps.{Act, ActLocal, ActNew, ActSend, ActSpawn, ActPrint, ActEnd, At, redex, redex_at, step, thread_step, thread_of, resume, local_at, enter, choose, new_at, send_at, send_to, spawn_at, print_at, print_line, end_at, without_thread, frame_of, returned_unit, at_node, numbered}
use Rattle.pat_semantics_spec.specs.Runs.{acts, can_step_thread}
use Rattle.pat_semantics_spec.specs.Faults.{GuardAt, WrongValue, in_control, in_frame, in_return, stuck, Fault, failing, unexpected, wrong, left}
use Rattle.pat_semantics_laws.proofs.FreeVars.{free_unfolds}
use Rattle.pat_type_system_spec.specs.Typings.{Typing}
use Rattle.pat_type_system_spec.specs.Typed.{IsTyped, ThreadFits, ControlFits, PartFits}
use Rattle.pat_semantics_laws.proofs.Threads.{lookup_all}
use Rattle.pat_type_system_laws.proofs.Nodes.{NodeFacts, node_facts}
use Rattle.pat_type_system_laws.proofs.Named.{op_parts}
use Rattle.pat_safety_laws.proofs.Envs.{env_fits}
use Rattle.pat_safety_laws.proofs.Args.{eval_fits}
use Rattle.pat_safety_laws.proofs.Accounts.{not_left}
use Rattle.pat_safety_laws.proofs.FaultParts.{part_has, frame_has, returned_has}
use Rattle.pat_safety_laws.proofs.GuardFaults.{not_failing, not_unexpected}
use Rattle.pat_semantics_laws.proofs.Lists.{clash, any_at}
use Rattle.std.specs.Bool.{beq}
use Rattle.pat_type_system_spec.specs.Types.{kind_of_type}
use Rattle.std.specs.Fmt.{signed_decimal}
use Rattle.pat_semantics_laws.proofs.Inversion.{after_spawn}

-- ---- a well-kinded expression has a value

module _ (interfaces : ℕ → ℕ) where
  int_value : (v : Value) → ValueFits interfaces v (Plain BaseInt) → (n : ℤ) × (v ≡ Const (IntConst n))
  int_value (Const (IntConst n)) h = (n, refl)
  int_value (Const UnitConst) h = cc
  int_value (Const (BoolConst b)) h = cc
  int_value (Const (TextConst t)) h = cc
  int_value (Mailbox a) h = absurd h

  bool_value : (v : Value) → ValueFits interfaces v (Plain BaseBool) → (b : Bool) × (v ≡ Const (BoolConst b))
  bool_value (Const (BoolConst b)) h = (b, refl)
  bool_value (Const UnitConst) h = cc
  bool_value (Const (IntConst n)) h = cc
  bool_value (Const (TextConst t)) h = cc
  bool_value (Mailbox a) h = absurd h

  text_value : (v : Value) → ValueFits interfaces v (Plain BaseText) → (t : List ℕ) × (v ≡ Const (TextConst t))
  text_value (Const (TextConst t)) h = (t, refl)
  text_value (Const UnitConst) h = cc
  text_value (Const (IntConst n)) h = cc
  text_value (Const (BoolConst b)) h = cc
  text_value (Mailbox a) h = absurd h

  name_value : (v : Value) (i : ℕ) → ValueFits interfaces v (MailboxOf i) → (a : ℕ) × (v ≡ Mailbox a)
  name_value (Mailbox a) i h = (a, refl)
  name_value (Const k) i h = absurd h

  printed_value : (v : Value) (k : Kind) → IsPrintable k → ValueFits interfaces v k → (line : List ℕ) × (line_of v ≡ Some line)
  printed_value (Const (IntConst n)) k p h = (signed_decimal n, refl)
  printed_value (Const (BoolConst true)) k p h = (codes "true", refl)
  printed_value (Const (BoolConst false)) k p h = (codes "false", refl)
  printed_value (Const (TextConst t)) k p h = (t, refl)
  printed_value (Const UnitConst) (Plain b) p h = absurd (subst (λ c. IsPrintable (Plain c)) (sym h) p)
  printed_value (Const UnitConst) (MailboxOf i) p h = absurd h
  printed_value (Mailbox a) (MailboxOf i) p h = absurd p
  printed_value (Mailbox a) (Plain b) p h = absurd h

  op_on : (op : Op) (c d e : Constant) (va vb : Value) → va ≡ Const c → vb ≡ Const d → apply op c d ≡ Some e → (v : Value) × (apply_values op (Some va) (Some vb) ≡ Some v)
  op_on op c d e va vb p q h = (Const e, ap₂ (λ x z. apply_values op (Some x) (Some z)) p q ∙ ap (λ o. option_map Const o) h)

  op_defined : (op : Op) (ka kb : Option Kind) (k : Kind) (va vb : Value) → op_kind op ka kb ≡ Some k → ((j : Kind) → ka ≡ Some j → ValueFits interfaces va j) → ((j : Kind) → kb ≡ Some j → ValueFits interfaces vb j) → (v : Value) × (apply_values op (Some va) (Some vb) ≡ Some v)
  op_defined Add (Some (Plain BaseInt)) (Some (Plain BaseInt)) k va vb h fa fb =
      let a = int_value va (fa (Plain BaseInt) refl) in
      let b = int_value vb (fb (Plain BaseInt) refl) in
      op_on Add (IntConst a.0) (IntConst b.0) (IntConst (int_wrapping_add w64 a.0 b.0)) va vb a.1 b.1 refl
  op_defined Sub (Some (Plain BaseInt)) (Some (Plain BaseInt)) k va vb h fa fb =
      let a = int_value va (fa (Plain BaseInt) refl) in
      let b = int_value vb (fb (Plain BaseInt) refl) in
      op_on Sub (IntConst a.0) (IntConst b.0) (IntConst (int_wrapping_sub w64 a.0 b.0)) va vb a.1 b.1 refl
  op_defined Mul (Some (Plain BaseInt)) (Some (Plain BaseInt)) k va vb h fa fb =
      let a = int_value va (fa (Plain BaseInt) refl) in
      let b = int_value vb (fb (Plain BaseInt) refl) in
      op_on Mul (IntConst a.0) (IntConst b.0) (IntConst (int_wrapping_mul w64 a.0 b.0)) va vb a.1 b.1 refl
  op_defined Equal (Some (Plain BaseInt)) (Some (Plain BaseInt)) k va vb h fa fb =
      let a = int_value va (fa (Plain BaseInt) refl) in
      let b = int_value vb (fb (Plain BaseInt) refl) in
      op_on Equal (IntConst a.0) (IntConst b.0) (BoolConst (int_eq a.0 b.0)) va vb a.1 b.1 refl
  op_defined Equal (Some (Plain BaseBool)) (Some (Plain BaseBool)) k va vb h fa fb =
      let a = bool_value va (fa (Plain BaseBool) refl) in
      let b = bool_value vb (fb (Plain BaseBool) refl) in
      op_on Equal (BoolConst a.0) (BoolConst b.0) (BoolConst (beq a.0 b.0)) va vb a.1 b.1 refl
  op_defined Equal (Some (Plain BaseText)) (Some (Plain BaseText)) k va vb h fa fb =
      let a = text_value va (fa (Plain BaseText) refl) in
      let b = text_value vb (fb (Plain BaseText) refl) in
      op_on Equal (TextConst a.0) (TextConst b.0) (BoolConst (bytes_eq a.0 b.0)) va vb a.1 b.1 refl
  op_defined Less (Some (Plain BaseInt)) (Some (Plain BaseInt)) k va vb h fa fb =
      let a = int_value va (fa (Plain BaseInt) refl) in
      let b = int_value vb (fb (Plain BaseInt) refl) in
      op_on Less (IntConst a.0) (IntConst b.0) (BoolConst (int_lt a.0 b.0)) va vb a.1 b.1 refl
  op_defined _ _ _ k va vb h fa fb = cc

  module _ (vars : List Kind) (env : Env) (fit : (x : ℕ) (v : Value) (k : Kind) → value_at env x ≡ Some v → slice_get vars x ≡ Some k → ValueFits interfaces v k) where
    pub has_value : (e : Expr) (k : Kind) → expr_kind vars e ≡ Some k → ((x : ℕ) → occurs x e ≡ true → (v : Value) × (value_at env x ≡ Some v)) → (v : Value) × (eval env e ≡ Some v)
    has_value (VarExpr x) k h has = has x (eq-eqb x x refl)
    has_value (Literal c) k h has = (Const c, refl)
    has_value (OpExpr op a b) k h has =
        let parts = op_parts op (expr_kind vars a) (expr_kind vars b) k h in
        let va = has_value a (Plain parts.0.base) parts.0.is (λ x o. has x (or_left (occurs x a) (occurs x b) o)) in
        let vb = has_value b (Plain parts.1.base) parts.1.is (λ x o. has x (or_right (occurs x a) (occurs x b) o)) in
        let v = op_defined op (expr_kind vars a) (expr_kind vars b) k va.0 vb.0 h (λ j q. eval_fits interfaces vars env fit a j va.0 q va.1) (λ j q. eval_fits interfaces vars env fit b j vb.0 q vb.1) in
        (v.0, ap₂ (λ x z. apply_values op x z) va.1 vb.1 ∙ v.1)

    pub have_values : (es : List Expr) (ks : List Kind) → HaveKinds vars es ks → ((x : ℕ) → list_any (occurs x) es ≡ true → (v : Value) × (value_at env x ≡ Some v)) → (vs : List Value) × (eval_all env es ≡ Some vs)
    have_values [] ks h has = ([], refl)
    have_values (e ∷ es) [] h has = absurd h
    have_values (e ∷ es) (k ∷ ks) h has =
        let v = has_value e k h.0 (λ x o. has x (or_left (occurs x e) (list_any (occurs x) es) o)) in
        let vs = have_values es ks h.1 (λ x o. has x (or_right (occurs x e) (list_any (occurs x) es) o)) in
        (v.0 ∷ vs.0, ap₂ both_values v.1 vs.1)

-- ---- a step is enabled

-- the act at this place of the list of acts is enabled
enabled : (p : Program) (c : Config) (t j : ℕ) (a : Act) (d : Config) → slice_get (acts c) j ≡ Some a → step p c (record { thread = t; act = a }) ≡ Some d → can_step_thread p c t ≡ true
enabled p c t j a d at h = any_at (λ a. is_some (step p c (record { thread = t; act = a }))) (acts c) j a at (ap is_some h)

step_of_thread : (p : Program) (c : Config) (t : ℕ) (s : Thread) (a : Act) → thread_at c t ≡ Some s → step p c (record { thread = t; act = a }) ≡ thread_step p c t s a
step_of_thread p c t s a there = ap (λ o. option_and_then (λ s. thread_step p c t s a) o) there

module _ (p : Program) (y : Typing) (interfaces : ℕ → ℕ) (c : Config) (t n : ℕ) (env : Env) (fs : List Frame) (wf : WellFormed p) (typed : IsTyped p y interfaces c) (there : thread_at c t ≡ Some (thread_of (Running n env) fs)) (part : PartFits p interfaces n [] env) where
  abbrev s : Thread
  s = thread_of (Running n env) fs

  abbrev facts_of : (core : Core) → core_at p n ≡ Some core → NodeFacts p y n core
  facts_of core at = node_facts p y n core wf typed.typing at

  redex_is : (core : Core) → core_at p n ≡ Some core → redex p (Running n env) ≡ At core env
  redex_is core at = ap (λ o. redex_at o env) at

  value_of : (core : Core) → core_at p n ≡ Some core → (x : ℕ) → core_uses (λ k. is_free p x k) x core ≡ true → (v : Value) × (value_at env x ≡ Some v)
  value_of core at x used = part.values x (free_unfolds p x n core wf at ∙ used) refl

  value_goes : (e : Expr) → core_at p n ≡ Some (Val e) → (gs : List Frame) → fs ≡ gs → can_step_thread p c t ≡ true
  value_goes e at [] frames =
      let there' = there ∙ ap (λ l. Some (thread_of (Running n env) l)) frames in
      enabled p c t 5 ActEnd (without_thread c t) refl
      (step_of_thread p c t (thread_of (Running n env) []) ActEnd there' ∙ ap (λ r. end_at c t [] r) (redex_is (Val e) at))
  value_goes e at (f ∷ gs) frames =
      let there' = there ∙ ap (λ l. Some (thread_of (Running n env) l)) frames in
      let facts = node_facts p y n (Val e) wf typed.typing at in
      let v = has_value interfaces facts.fits.function.vars env (env_fits p y interfaces n (Val e) env facts part) e (kind_of_type (y.results n)) facts.kinds (λ x o. value_of (Val e) at x o) in
      enabled p c t 0 ActLocal (with_thread c t (resume p f gs v.0)) refl
      (step_of_thread p c t (thread_of (Running n env) (f ∷ gs)) ActLocal there'
      ∙ ap (λ r. option_map (with_thread c t) (local_at p r (f ∷ gs))) (redex_is (Val e) at)
      ∙ ap (λ o. option_map (with_thread c t) (option_map (resume p f gs) o)) v.1)

  running_goes : (core : Core) → core_at p n ≡ Some core → (GuardAt p c t → ⊥) → can_step_thread p c t ≡ true
  running_goes (Val e) at guard = value_goes e at fs refl
  running_goes (Let x m b) at guard =
      enabled p c t 0 ActLocal (with_thread c t (thread_of (at_node p m env) (frame_of p x b env ∷ fs))) refl
      (step_of_thread p c t s ActLocal there ∙ ap (λ r. option_map (with_thread c t) (local_at p r fs)) (redex_is (Let x m b) at))
  running_goes (Call f args) at guard =
      let facts = node_facts p y n (Call f args) wf typed.typing at in
      let vs = have_values interfaces facts.fits.function.vars env (env_fits p y interfaces n (Call f args) env facts part) args (map kind_of facts.kinds.0.params) facts.kinds.2 (λ x o. value_of (Call f args) at x o) in
      enabled p c t 0 ActLocal (with_thread c t (thread_of (at_node p facts.kinds.0.body (numbered 0 vs.0)) fs)) refl
      (step_of_thread p c t s ActLocal there
      ∙ ap (λ r. option_map (with_thread c t) (local_at p r fs)) (redex_is (Call f args) at)
      ∙ ap₂ (λ o w. option_map (with_thread c t) (enter p o w fs)) facts.kinds.1 vs.1)
  running_goes (If e m b) at guard =
      let facts = node_facts p y n (If e m b) wf typed.typing at in
      let fit = env_fits p y interfaces n (If e m b) env facts part in
      let v = has_value interfaces facts.fits.function.vars env fit e (Plain BaseBool) facts.kinds.0 (λ x o. value_of (If e m b) at x (or_left (occurs x e) (is_free p x m || is_free p x b) o)) in
      let w = bool_value interfaces v.0 (eval_fits interfaces facts.fits.function.vars env fit e (Plain BaseBool) v.0 facts.kinds.0 v.1) in
      enabled p c t 0 ActLocal (with_thread c t (thread_of (at_node p (if w.0 then m else b) env) fs)) refl
      (step_of_thread p c t s ActLocal there
      ∙ ap (λ r. option_map (with_thread c t) (local_at p r fs)) (redex_is (If e m b) at)
      ∙ ap (λ o. option_map (with_thread c t) (choose p o m b env fs)) (v.1 ∙ ap (λ u. Some u) w.1))
  running_goes (Print e) at guard =
      let facts = node_facts p y n (Print e) wf typed.typing at in
      let fit = env_fits p y interfaces n (Print e) env facts part in
      let k = facts.kinds.1.0 in
      let v = has_value interfaces facts.fits.function.vars env fit e k facts.kinds.1.1 (λ x o. value_of (Print e) at x o) in
      let line = printed_value interfaces v.0 k facts.kinds.1.2 (eval_fits interfaces facts.fits.function.vars env fit e k v.0 facts.kinds.1.1 v.1) in
      enabled p c t 4 ActPrint (record (with_thread c t (returned_unit fs)) { printed = c.printed ++ line.0 ∷ [] }) refl
      (step_of_thread p c t s ActPrint there
      ∙ ap (λ r. print_at c t fs r) (redex_is (Print e) at)
      ∙ ap (λ o. print_line c t fs (option_and_then line_of o)) v.1
      ∙ ap (λ o. print_line c t fs o) line.1)
  running_goes (New i) at guard =
      enabled p c t 1 ActNew (record (with_thread c t (thread_of (Returned (Mailbox c.next_mailbox)) fs)) { live = c.live ++ c.next_mailbox ∷ []; next_mailbox = c.next_mailbox + 1 }) refl
      (step_of_thread p c t s ActNew there ∙ ap (λ r. new_at c t fs r) (redex_is (New i) at))
  running_goes (Send x m args) at guard =
      let facts = node_facts p y n (Send x m args) wf typed.typing at in
      let fit = env_fits p y interfaces n (Send x m args) env facts part in
      let v = value_of (Send x m args) at x (or_left (nat_eq x x) (list_any (occurs x) args) (eq-eqb x x refl)) in
      let a = name_value interfaces v.0 facts.kinds.1.0 (fit x v.0 (MailboxOf facts.kinds.1.0) v.1 facts.kinds.1.2) in
      let vs = have_values interfaces facts.fits.function.vars env fit args (map kind_of facts.kinds.1.1.payloads) facts.kinds.1.4 (λ z o. value_of (Send x m args) at z (or_right (nat_eq z x) (list_any (occurs z) args) o)) in
      enabled p c t 2 ActSend (record (with_thread c t (returned_unit fs)) { messages = c.messages ++ record { number = c.next_message; mailbox = a.0; tag = m; values = vs.0 } ∷ []; next_message = c.next_message + 1 }) refl
      (step_of_thread p c t s ActSend there
      ∙ ap (λ r. send_at c t fs r) (redex_is (Send x m args) at)
      ∙ ap₂ (λ o w. send_to c t fs m o w) (v.1 ∙ ap (λ u. Some u) a.1) vs.1)
  running_goes (Spawn m) at guard =
      enabled p c t 3 ActSpawn (after_spawn p c t fs m env) refl
      (step_of_thread p c t s ActSpawn there ∙ ap (λ r. spawn_at p c t fs r) (redex_is (Spawn m) at))
  running_goes (Guard x e free cs) at guard =
      absurd (guard (record { node = n; env = env; frames = fs; var = x; pattern = e; free = free; receives = cs; stands = there; term = at }))

pub thread_goes : (p : Program) (y : Typing) (interfaces : ℕ → ℕ) (c : Config) (t : ℕ) (k : Control) (fs : List Frame) → WellFormed p → (typed : IsTyped p y interfaces c) → thread_at c t ≡ Some (thread_of k fs) → ControlFits p y interfaces k fs → (GuardAt p c t → ⊥) → can_step_thread p c t ≡ true
thread_goes p y interfaces c t (Running n env) fs wf typed there fits guard =
    running_goes p y interfaces c t n env fs wf typed there fits.0 fits.0.there.0 fits.0.there.1 guard
thread_goes p y interfaces c t (Returned v) [] wf typed there fits guard =
    enabled p c t 5 ActEnd (without_thread c t) refl (step_of_thread p c t (thread_of (Returned v) []) ActEnd there)
thread_goes p y interfaces c t (Returned v) (f ∷ fs) wf typed there fits guard =
    enabled p c t 0 ActLocal (with_thread c t (resume p f fs v)) refl (step_of_thread p c t (thread_of (Returned v) (f ∷ fs)) ActLocal there)

-- ---- no fault

pub not_wrong : (p : Program) (y : Typing) (interfaces : ℕ → ℕ) (c : Config) → WellFormed p → IsTyped p y interfaces c → WrongValue p c → ⊥
not_wrong p y interfaces c wf typed (in_control t n x env fs there free off) =
    let fits = lookup_all (λ s. ThreadFits p y interfaces s) c.threads t (thread_of (Running n env) fs) typed.threads there in
    off (part_has p interfaces n [] env fits.control.0 x free refl)
not_wrong p y interfaces c wf typed (in_frame t x s f there is_in free out off) =
    let fits = lookup_all (λ s. ThreadFits p y interfaces s) c.threads t s typed.threads there in
    off (part_has p interfaces f.body (option_list f.var) f.env (frame_has p y interfaces s.frames f fits.frames is_in) x free out)
not_wrong p y interfaces c wf typed (in_return t x v f fs k there named kind off) =
    let fits = lookup_all (λ s. ThreadFits p y interfaces s) c.threads t (thread_of (Returned v) (f ∷ fs)) typed.threads there in
    off (returned_has p y interfaces v f fs wf typed.typing fits x k named kind)
not_wrong p y interfaces c wf typed (stuck t s there guard off) =
    let fits = lookup_all (λ s. ThreadFits p y interfaces s) c.threads t s typed.threads there in
    clash (thread_goes p y interfaces c t s.control s.frames wf typed there fits.control guard) off

pub no_fault : (p : Program) (y : Typing) (interfaces : ℕ → ℕ) (c : Config) → WellFormed p → IsTyped p y interfaces c → Fault p c → ⊥
no_fault p y interfaces c wf typed (failing f) = not_failing p y interfaces c wf typed f
no_fault p y interfaces c wf typed (unexpected f) = not_unexpected p y interfaces c wf typed f
no_fault p y interfaces c wf typed (wrong f) = not_wrong p y interfaces c wf typed f
no_fault p y interfaces c wf typed (left f) = not_left p y interfaces c typed f
