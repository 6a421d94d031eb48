-- A thread that goes on alone refers to no mailbox that it didn't refer to.
use Rattle.std.proofs.Common.{◌≡◌, ℕ, zero, suc, Bool, true, false, not, ◌||◌, nat_eq, nat_lt, List, [], ◌∷◌, filter, Option, Some, None, refl, sym, ap, ◌∙◌, subst, ◌⊎◌, inl, inr, ⊎_elim, if◌then◌else◌}
use Rattle.std.specs.Prelude.{option_and_then, option_map}
use Rattle.std.specs.List.{list_any}
use Rattle.std.proofs.lemmas.Bool.{or_cases, or_left, or_right}
use Rattle.pat_semantics_spec.specs.Values.{Value, Env, Expr, bind, eval}
use Rattle.pat_semantics_spec.specs.Programs.{Program, is_free, keep, option_list, is_among}
use Rattle.pat_semantics_spec.specs.Configs.{Running, Frame, Thread, Config, thread_at, with_thread, is_mailbox, env_refers, control_refers, thread_refers}
use Rattle.pat_semantics_spec.specs.Steps.{bind_name, resume, numbered, local_step}
use Rattle.pat_semantics_laws.proofs.Lists.{any_filter}
use Rattle.pat_semantics_laws.proofs.Inversion.{LocalStep, by_let, by_value, by_call, by_if, by_return, local_step_of}
use Rattle.pat_safety_laws.proofs.Refers.{is_mailbox_same, value_refers}
use Rattle.pat_safety_laws.proofs.Args.{eval_name, args_refer, numbered_refers}
use Rattle.pat_machine_spec.specs.Commits.{locally}

-- whether a frame refers to the mailbox
abbrev frames_refer : ℕ → List Frame → Bool
frames_refer a fs = list_any (λ f. env_refers a f.env) fs

-- of an environment with a value more
bind_refers : (a : ℕ) (env : Env) (x : ℕ) (v : Value) → env_refers a (bind env x v) ≡ true → (env_refers a env ≡ true) ⊎ (is_mailbox a v ≡ true)
bind_refers a [] x v h = ⊎_elim (λ l. inr l) (λ r. cc) (or_cases (is_mailbox a v) false h)
bind_refers a (e ∷ env) x v h =
    (elim (nat_lt x e.0) as (λ t. env_refers a (if t then (x, v) ∷ e ∷ env else if nat_eq x e.0 then (x, v) ∷ env else e ∷ bind env x v) ≡ true → ((is_mailbox a e.1 || env_refers a env) ≡ true) ⊎ (is_mailbox a v ≡ true)) [
      | true ↦ λ k. ⊎_elim (λ l. inr l) (λ r. inl r) (or_cases (is_mailbox a v) (is_mailbox a e.1 || env_refers a env) k)
      | false ↦ λ k.
          (elim (nat_eq x e.0) as (λ t. env_refers a (if t then (x, v) ∷ env else e ∷ bind env x v) ≡ true → ((is_mailbox a e.1 || env_refers a env) ≡ true) ⊎ (is_mailbox a v ≡ true)) [
            | true ↦ λ w. ⊎_elim (λ l. inr l) (λ r. inl (or_right (is_mailbox a e.1) (env_refers a env) r)) (or_cases (is_mailbox a v) (env_refers a env) w)
            | false ↦ λ w. ⊎_elim
                (λ l. inl (or_left (is_mailbox a e.1) (env_refers a env) l))
                (λ r. ⊎_elim (λ y. inl (or_right (is_mailbox a e.1) (env_refers a env) y)) (λ y. inr y) (bind_refers a env x v r))
                (or_cases (is_mailbox a e.1) (env_refers a (bind env x v)) w)
          ]) k
    ]) h

name_refers : (a : ℕ) (env : Env) (x : Option ℕ) (v : Value) → env_refers a (bind_name env x v) ≡ true → (env_refers a env ≡ true) ⊎ (is_mailbox a v ≡ true)
name_refers a env None v h = inl h
name_refers a env (Some x) v h = bind_refers a env x v h

kept_refers : (p : Program) (a n : ℕ) (env : Env) → env_refers a (keep p n env) ≡ true → env_refers a env ≡ true
kept_refers p a n env h = any_filter (λ b. is_mailbox a b.1) (λ b. is_free p b.0 n) env h

-- of a frame that goes on with a value
resumed_refers : (p : Program) (a : ℕ) (f : Frame) (fs : List Frame) (v : Value) → thread_refers a (resume p f fs v) ≡ true → (is_mailbox a v ≡ true) ⊎ (frames_refer a (f ∷ fs) ≡ true)
resumed_refers p a f fs v h =
    ⊎_elim
    (λ l. ⊎_elim (λ y. inr (or_left (env_refers a f.env) (frames_refer a fs) y)) (λ y. inl y) (name_refers a f.env f.var v (kept_refers p a f.body (bind_name f.env f.var v) l)))
    (λ r. inr (or_right (env_refers a f.env) (frames_refer a fs) r))
    (or_cases (env_refers a (keep p f.body (bind_name f.env f.var v))) (frames_refer a fs) h)

-- a value of an expression that is a mailbox is in the environment
value_names : (env : Env) (e : Expr) (v : Value) (a : ℕ) → eval env e ≡ Some v → is_mailbox a v ≡ true → env_refers a env ≡ true
value_names env e v a h is =
    let n = eval_name env e a (h ∙ ap (λ (u : Value). Some u) (is_mailbox_same a v is)) in value_refers env n.0 a n.2

module _ (p : Program) (a : ℕ) (s : Thread) where
  abbrev below : Bool
  below = frames_refer a s.frames

  by_control : control_refers a s.control ≡ true → thread_refers a s ≡ true
  by_control h = or_left (control_refers a s.control) below h

  by_frames : frames_refer a s.frames ≡ true → thread_refers a s ≡ true
  by_frames h = or_right (control_refers a s.control) below h

  by_env : (node : ℕ) (env : Env) → s.control ≡ Running node env → env_refers a env ≡ true → thread_refers a s ≡ true
  by_env node env is h = by_control (ap (control_refers a) is ∙ h)

  local_refers : (r : Thread) → LocalStep p s r → thread_refers a r ≡ true → thread_refers a s ≡ true
  local_refers r (by_let x m n env at is) h =
      let body = filter (λ b. not (is_among b.0 (option_list x))) (keep p n env) in
      let g : (env_refers a (keep p m env) || (env_refers a body || below)) ≡ true = ap (thread_refers a) (sym is) ∙ h in
      ⊎_elim
      (λ l. by_env at.node env at.control_is (kept_refers p a m env l))
      (λ k. ⊎_elim
      (λ l. by_env at.node env at.control_is (kept_refers p a n env (any_filter (λ b. is_mailbox a b.1) (λ b. not (is_among b.0 (option_list x))) (keep p n env) l)))
      by_frames
      (or_cases (env_refers a body) below k))
      (or_cases (env_refers a (keep p m env)) (env_refers a body || below) g)
  local_refers r (by_value e env f fs v at frames value is) h =
      ⊎_elim
      (λ l. by_env at.node env at.control_is (value_names env e v a value l))
      (λ k. by_frames (ap (frames_refer a) frames ∙ k))
      (resumed_refers p a f fs v (ap (thread_refers a) (sym is) ∙ h))
  local_refers r (by_call g args env called vs at there values is) h =
      let w : (env_refers a (keep p called.body (numbered 0 vs)) || below) ≡ true = ap (thread_refers a) (sym is) ∙ h in
      ⊎_elim
      (λ l.
      let n = args_refer env a args vs values (sym (numbered_refers a 0 vs) ∙ kept_refers p a called.body (numbered 0 vs) l) in
      by_env at.node env at.control_is (value_refers env n.0 a n.1))
      by_frames
      (or_cases (env_refers a (keep p called.body (numbered 0 vs))) below w)
  local_refers r (by_if e m n env b at is) h =
      let next = if b then m else n in
      let w : (env_refers a (keep p next env) || below) ≡ true = ap (thread_refers a) (sym is) ∙ h in
      ⊎_elim (λ l. by_env at.node env at.control_is (kept_refers p a next env l)) by_frames (or_cases (env_refers a (keep p next env)) below w)
  local_refers r (by_return v f fs control frames is) h =
      ⊎_elim
      (λ l. by_control (ap (control_refers a) control ∙ l))
      (λ k. by_frames (ap (frames_refer a) frames ∙ k))
      (resumed_refers p a f fs v (ap (thread_refers a) (sym is) ∙ h))

-- a configuration of the thread alone
abbrev alone : Thread → Config
alone s = record { threads = (0, s) ∷ []; messages = []; live = []; printed = []; next_thread = 1; next_mailbox = 0; next_message = 0 }

-- the local step of a thread, by its kind
step_kind : (p : Program) (s q : Thread) → local_step p s ≡ Some q → LocalStep p s q
step_kind p s q h =
    let o = local_step_of p (alone s) 0 s (with_thread (alone s) 0 q) (ap (option_map (with_thread (alone s) 0)) h) in
    let both : Some q ≡ Some o.0 = ap (λ c. thread_at c 0) o.2 in
    let same : q ≡ o.0 = cc in
    subst (LocalStep p s) (sym same) o.1

pub locals_name : (p : Program) (k : ℕ) (s r : Thread) (a : ℕ) → locally p k s ≡ Some r → thread_refers a r ≡ true → thread_refers a s ≡ true
locals_name p zero s r a is h = let same : s ≡ r = cc in ap (thread_refers a) same ∙ h
locals_name p (suc k) s r a is h = go (local_step p s) refl is (λ q rest. locals_name p k q r a rest h)
  where
    go : (o : Option Thread) → local_step p s ≡ o → option_and_then (locally p k) o ≡ Some r → ((q : Thread) → locally p k q ≡ Some r → thread_refers a q ≡ true) → thread_refers a s ≡ true
    go None first rest later = cc
    go (Some q) first rest later =
        local_refers p a s q (step_kind p s q first) (later q rest)
