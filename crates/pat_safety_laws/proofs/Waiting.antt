-- Where no step of a typed configuration is enabled, each thread waits at a guard.
use Rattle.std.proofs.Common.{◌≡◌, ℕ, false, List, Option, Some, None, refl, sym, ap, ◌∙◌, subst}
use Rattle.std.proofs.lemmas.Bool.{false_from_ne_true}
use Rattle.pat_semantics_spec.specs.Values.{Env}
use Rattle.pat_semantics_spec.specs.Programs.{Program, Core, Val, Let, Call, If, Print, New, Send, Spawn, Guard, core_at, Clause}
use Rattle.pat_semantics_spec.specs.Configs.{Control, Running, Returned, Thread, Config, thread_at}
use Rattle.pat_semantics_spec.specs.WellFormed.{WellFormed}
use Rattle.pat_semantics_spec.specs.Steps.{Step, step, thread_of}
use Rattle.pat_semantics_spec.specs.Runs.{can_step_thread, can_step, run}
use Rattle.pat_semantics_spec.specs.Faults.{GuardAt}
use Rattle.pat_type_system_spec.specs.Typings.{Typing, IsTypable}
use Rattle.pat_type_system_spec.specs.Typed.{IsTyped, ThreadFits, ControlFits}
use Rattle.pat_semantics_laws.proofs.Lists.{clash}
use Rattle.pat_semantics_laws.proofs.Enabled.{some_key, found_step}
use Rattle.pat_semantics_laws.proofs.Threads.{lookup_all}
use Rattle.pat_safety_laws.proofs.Preserved.{run_typed}
use Rattle.pat_safety_laws.proofs.Progress.{thread_goes}
use Rattle.pat_words_spec.specs.Patterns.{Pat}

-- a thread that doesn't stand at a guard has an enabled step
others_go : (p : Program) (y : Typing) (interfaces : ℕ → ℕ) (c : Config) → WellFormed p → IsTyped p y interfaces c → can_step p c ≡ false → (t : ℕ) (s : Thread) → thread_at c t ≡ Some s → (GuardAt p c t → ⊥) → ⊥
others_go p y interfaces c wf typed off t s there guard =
    let fits = lookup_all (λ s. ThreadFits p y interfaces s) c.threads t s typed.threads there in
    let goes = thread_goes p y interfaces c t s.control s.frames wf typed there fits.control guard in
    clash (some_key (can_step_thread p c) c.threads t s there goes) off

no_other : (p : Program) (c : Config) (t : ℕ) (s : Thread) → thread_at c t ≡ Some s → ((n : ℕ) (env : Env) (x : ℕ) (e : Pat) (free : Option ℕ) (cs : List Clause) → s.control ≡ Running n env → core_at p n ≡ Some (Guard x e free cs) → ⊥) → GuardAt p c t → ⊥
no_other p c t s there off g =
    let same : s ≡ thread_of (Running g.node g.env) g.frames = some_same (sym there ∙ g.stands) in
    off g.node g.env g.var g.pattern g.free g.receives (ap (λ (w : Thread). w.control) same) g.term
  where
    some_same : {A : Type 0} {x z : A} → Some x ≡ Some z → x ≡ z
    some_same h = cc

pub waits : (p : Program) (y : Typing) (interfaces : ℕ → ℕ) (c : Config) → WellFormed p → (typed : IsTyped p y interfaces c) → can_step p c ≡ false → (t : ℕ) (s : Thread) → thread_at c t ≡ Some s → GuardAt p c t
waits p y interfaces c wf typed off t s there =
    let fits = lookup_all (λ s. ThreadFits p y interfaces s) c.threads t s typed.threads there in
    by_control s.control refl fits.control
  where
    by_core : (n : ℕ) (env : Env) (core : Core) → s.control ≡ Running n env → core_at p n ≡ Some core → GuardAt p c t
    by_core n env (Guard x e free cs) is at = record {
      node = n;
      env = env;
      frames = s.frames;
      var = x;
      pattern = e;
      free = free;
      receives = cs;
      stands = there ∙ ap (λ k. Some (thread_of k s.frames)) is;
      term = at;
    }
    by_core n env (Val v) is at = absurd (others_go p y interfaces c wf typed off t s there (no_other p c t s there (λ m e x q f cs is' at'. cc)))
    by_core n env (Let x a b) is at = absurd (others_go p y interfaces c wf typed off t s there (no_other p c t s there (λ m e x q f cs is' at'. cc)))
    by_core n env (Call f args) is at = absurd (others_go p y interfaces c wf typed off t s there (no_other p c t s there (λ m e x q f cs is' at'. cc)))
    by_core n env (If v a b) is at = absurd (others_go p y interfaces c wf typed off t s there (no_other p c t s there (λ m e x q f cs is' at'. cc)))
    by_core n env (Print v) is at = absurd (others_go p y interfaces c wf typed off t s there (no_other p c t s there (λ m e x q f cs is' at'. cc)))
    by_core n env (New i) is at = absurd (others_go p y interfaces c wf typed off t s there (no_other p c t s there (λ m e x q f cs is' at'. cc)))
    by_core n env (Send x m args) is at = absurd (others_go p y interfaces c wf typed off t s there (no_other p c t s there (λ m e x q f cs is' at'. cc)))
    by_core n env (Spawn m) is at = absurd (others_go p y interfaces c wf typed off t s there (no_other p c t s there (λ m e x q f cs is' at'. cc)))

    by_control : (k : Control) → s.control ≡ k → ControlFits p y interfaces s.control s.frames → GuardAt p c t
    by_control (Running n env) is fits =
        let part = subst (λ k. ControlFits p y interfaces k s.frames) is fits in
        by_core n env part.0.there.0 is part.0.there.1
    by_control (Returned v) is fits = absurd (others_go p y interfaces c wf typed off t s there (no_other p c t s there (λ m e x q f cs is' at'. cc)))

pub run_waits : (p : Program) (ks : List Step) (c : Config) (t : ℕ) (s : Thread) → WellFormed p → IsTypable p → run p ks ≡ Some c → ((k : Step) → step p c k ≡ None) → thread_at c t ≡ Some s → GuardAt p c t
run_waits p ks c t s wf y h none there =
    waits p y.0 _ c wf (run_typed p y.0 (λ a. 0) ks c wf y.1 h)
    (false_from_ne_true (can_step p c) (λ on. let k = found_step p c on in some_none (sym (none k.0) ∙ k.1.1))) t s there
  where
    some_none : {A : Type 0} {x : A} → None ≡ Some x → ⊥
    some_none h = cc
