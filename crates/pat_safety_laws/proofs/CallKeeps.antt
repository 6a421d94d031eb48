-- A call keeps a configuration typed; and local steps together.
use Rattle.std.proofs.Common.{◌≡◌, ℕ, nat_eq, List, [], length, map, Some, refl, sym, ap, ◌∙◌, subst}
use Rattle.std.specs.Prelude.{slice_get, option_map}
use Rattle.std.specs.List.{IsDistinct}
use Rattle.pat_semantics_spec.specs.Values.{Value, Mailbox, Kind, Expr, Env, value_at, eval_all, ValueFits, ValuesFit}
use Rattle.pat_semantics_spec.specs.Programs.{Program, Function, Node, Core, Call, core_at, function_at, kind_of, is_free, keep, KindAt}
use Rattle.pat_semantics_spec.specs.WellFormed.{WellFormed, FunctionFits, HaveKinds}
use Rattle.pat_semantics_spec.specs.Configs.{Running, Thread, Config, thread_at, with_thread, control_refers}
use Rattle.pat_semantics_spec.specs.Steps.{thread_of, at_node, numbered}
use Rattle.pat_type_system_spec.specs.Types.{TypeFits, TypeEnv, PassesTo, EnvPasses}
use Rattle.pat_type_system_spec.specs.Typings.{Typing, IsTyping, FunctionTyped, param_type, result_type, args_need, mailbox_args}
use Rattle.pat_type_system_spec.specs.Holdings.{held, control_held, payload_held, wanted}
use Rattle.pat_type_system_spec.specs.Typed.{IsTyped, ThreadFits, ControlFits, PartFits, mailboxes_of}
use Rattle.pat_semantics_laws.proofs.Threads.{lookup_all}
use Rattle.pat_semantics_laws.proofs.Inversion.{StandsAt}
use Rattle.pat_type_system_laws.proofs.Nodes.{NodeFacts, node_facts}
use Rattle.pat_safety_laws.proofs.Refers.{value_refers}
use Rattle.pat_type_system_laws.proofs.Named.{params_typed}
use Rattle.pat_safety_laws.proofs.Envs.{env_fits}
use Rattle.pat_type_system_laws.proofs.Unused.{unused_drops}
use Rattle.pat_safety_laws.proofs.Narrow.{Narrowed, keep_narrows, narrow_refers, narrow_passes}
use Rattle.pat_safety_laws.proofs.Moves.{Move, move_keeps}
use Rattle.pat_safety_laws.proofs.Args.{all_fit, args_refer, names_distinct, place_at, numbered_held, numbered_refers, places_apart, fit_some, fit_kind, args_pass}
use Rattle.pat_type_system_laws.proofs.Environments.{take_at}
use Rattle.pat_semantics_laws.proofs.Ascending.{numbered_ascends}
use Rattle.pat_type_system_laws.proofs.Passing.{passes_twice, type_twice}

-- ---- the step

module _ (p : Program) (y : Typing) (interfaces : ℕ → ℕ) (s : Thread) (n g : ℕ) (args : List Expr) (env : Env) (h : Function) (vs : List Value) (wf : WellFormed p) (typing : IsTyping p y) (fits : ThreadFits p y interfaces s) (at : s.control ≡ Running n env) (term : core_at p n ≡ Some (Call g args)) (there : function_at p g ≡ Some h) (values : eval_all env args ≡ Some vs) where
  facts : NodeFacts p y n (Call g args)
  facts = node_facts p y n (Call g args) wf typing term

  abbrev types : TypeEnv
  types = param_type y g h

  abbrev entered : Env
  entered = numbered 0 vs

  abbrev body_env : Env
  body_env = keep p h.body entered

  control_fits : ControlFits p y interfaces (Running n env) s.frames
  control_fits = subst (λ k. ControlFits p y interfaces k s.frames) at fits.control

  function_fits : FunctionFits p g h
  function_fits = wf.functions g h there

  function_typed : FunctionTyped p y g h
  function_typed = typing.functions g h there

  same_typed : facts.term.0 ≡ h
  same_typed = let e : Some facts.term.0 ≡ Some h = sym facts.term.1 ∙ there in cc

  same_kinds : facts.kinds.0 ≡ h
  same_kinds = let e : Some facts.kinds.0 ≡ Some h = sym facts.kinds.1 ∙ there in cc

  have_kinds : HaveKinds facts.fits.function.vars args (map kind_of h.params)
  have_kinds = subst (λ (w : Function). HaveKinds facts.fits.function.vars args (map kind_of w.params)) same_kinds facts.kinds.2

  passes_args : EnvPasses (y.envs n) (args_need types 0 args)
  passes_args = subst (λ (w : Function). EnvPasses (y.envs n) (args_need (param_type y g w) 0 args)) same_typed facts.term.3

  apart_args : IsDistinct nat_eq (mailbox_args types 0 args)
  apart_args = subst (λ (w : Function). IsDistinct nat_eq (mailbox_args (param_type y g w) 0 args)) same_typed facts.term.2

  result_fits : TypeFits (result_type y g h) (y.results n)
  result_fits = subst (λ (w : Function). TypeFits (result_type y g w) (y.results n)) same_typed facts.term.4

  fit : (x : ℕ) (v : Value) (k : Kind) → value_at env x ≡ Some v → slice_get facts.fits.function.vars x ≡ Some k → ValueFits interfaces v k
  fit = env_fits p y interfaces n (Call g args) env facts control_fits.0

  values_fit : ValuesFit interfaces vs (map kind_of h.params)
  values_fit = all_fit interfaces facts.fits.function.vars env fit args (map kind_of h.params) vs have_kinds values

  names_apart : IsDistinct nat_eq (mailboxes_of vs)
  names_apart = names_distinct interfaces facts.fits.function.vars env fit control_fits.0.different types 0 args h.params vs have_kinds (params_typed y g h) values apart_args

  places_differ : (z w a : ℕ) → value_at entered z ≡ Some (Mailbox a) → value_at entered w ≡ Some (Mailbox a) → z ≡ w
  places_differ z w a hz hw = places_apart vs names_apart z w a (sym (place_at vs z) ∙ hz) (sym (place_at vs w) ∙ hw)

  narrowed : Narrowed (λ z. is_free p z h.body) entered body_env
  narrowed = keep_narrows p h.body entered (numbered_ascends 0 vs)

  body_core : (k : Core) × (core_at p h.body ≡ Some k)
  body_core = (function_fits.body.0.core, ap (λ o. option_map (λ (d : Node). d.core) o) function_fits.body.1)

  kind_at : (z : ℕ) (v : Value) → value_at entered z ≡ Some v → (k : Kind) × KindAt p h.body z k × ValueFits interfaces v k
  kind_at z v is =
      let q = fit_kind interfaces vs (map kind_of h.params) z v values_fit (sym (place_at vs z) ∙ is) in
      let of_vars : slice_get h.vars z ≡ Some q.0 = take_at (length h.params) h.vars z q.0 (ap (λ l. slice_get l z) function_fits.params ∙ q.1) in
      (q.0, (function_fits.body.0, h, function_fits.body.1, ap (function_at p) function_fits.body.2 ∙ there, of_vars), q.2)

  body_part : PartFits p interfaces h.body [] body_env
  body_part = record {
    there = body_core;
    keys = narrowed.keys;
    values = λ z free out.
        let q = fit_some interfaces vs h.params z values_fit (function_fits.in_scope z free) in
        (q.0, narrowed.still z q.0 (place_at vs z ∙ q.1) free);
    free = λ z v is. ((narrowed.inside z v is).0, refl);
    kinds = λ z v is. kind_at z v (narrowed.inside z v is).1;
    different = λ z w a hz hw. places_differ z w a (narrowed.inside z (Mailbox a) hz).1 (narrowed.inside w (Mailbox a) hw).1;
  }

  pub call_move : Move p y interfaces s (at_node p h.body entered)
  call_move = record {
    fits = (
      body_part,
      subst (λ w. TypeFits w (wanted p y s.frames)) (sym function_typed.result)
          (type_twice (result_type y g h) (y.results n) (wanted p y s.frames) result_fits control_fits.1),
    );
    passes = λ b. subst (λ k. PassesTo (control_held p y b k s.frames) (held (y.envs h.body) b body_env)) (sym at)
        (passes_twice (held (y.envs n) b env) (payload_held b types 0 vs) (held (y.envs h.body) b body_env)
        (args_pass interfaces facts.fits.function.vars env fit control_fits.0.keys control_fits.0.different (y.envs n) types args h.params vs have_kinds (params_typed y g h) values b (λ x hx. passes_args x))
        (subst (λ w. PassesTo w (held (y.envs h.body) b body_env)) (numbered_held types b 0 vs)
        (narrow_passes (λ z. is_free p z h.body) types (y.envs h.body) entered body_env b (numbered_ascends 0 vs) places_differ narrowed (λ z hz. function_typed.params z) (λ z off. unused_drops p y wf typing z h.body body_core.0 body_core.1 off))));
    refers = λ a r.
        let on = sym (numbered_refers a 0 vs) ∙ narrow_refers (λ z. is_free p z h.body) entered body_env a narrowed r in
        let x = args_refer env a args vs values on in
        ap (control_refers a) at ∙ value_refers env x.0 a x.1;
  }

-- the law for a call
pub call_keeps : (p : Program) (y : Typing) (interfaces : ℕ → ℕ) (c : Config) (t : ℕ) (s : Thread) (g : ℕ) (args : List Expr) (env : Env) (h : Function) (vs : List Value) → WellFormed p → (typed : IsTyped p y interfaces c) → thread_at c t ≡ Some s → StandsAt p s.control (Call g args) env → function_at p g ≡ Some h → eval_all env args ≡ Some vs → IsTyped p y interfaces (with_thread c t (thread_of (at_node p h.body (numbered 0 vs)) s.frames))
call_keeps p y interfaces c t s g args env h vs wf typed there at fun values =
    let fits = lookup_all (λ s. ThreadFits p y interfaces s) c.threads t s typed.threads there in
    move_keeps p y interfaces c t s (at_node p h.body (numbered 0 vs)) typed there
    (call_move p y interfaces s at.node g args env h vs wf typed.typing fits at.control_is at.term fun values)
