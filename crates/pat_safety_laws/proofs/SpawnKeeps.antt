-- A spawn keeps a configuration typed.
use Rattle.std.proofs.Common.{◌≡◌, ℕ, true, false, nat_eq, if◌then◌else◌, List, [], ◌∷◌, ◌++◌, Some, None, refl, sym, ap, ◌∙◌, subst, map, append_assoc, ⊎_elim}
use Rattle.std.specs.List.{list_any}
use Rattle.std.specs.Map.{set_value}
use Rattle.std.proofs.lemmas.Bool.{or_cases, or_left, eq-eqb}
use Rattle.pat_words_spec.specs.Words.{Word}
use Rattle.pat_semantics_spec.specs.Values.{BaseUnit, Env}
use Rattle.pat_semantics_spec.specs.Programs.{Program, Spawn, is_free, keep, is_among, core_at, parts}
use Rattle.pat_semantics_spec.specs.WellFormed.{WellFormed}
use Rattle.pat_semantics_spec.specs.Configs.{Running, Thread, Config, thread_at, env_refers, control_refers, thread_refers, pending, is_mailbox}
use Rattle.pat_semantics_spec.specs.Steps.{ActSpawn, step, redex, thread_of, at_node, returned_unit}
use Rattle.pat_semantics_laws.proofs.FreeVars.{free_unfolds}
use Rattle.pat_type_system_spec.specs.Types.{BaseTerm, TypeFits, PassesTo, returnable}
use Rattle.pat_type_system_spec.specs.Typings.{Typing}
use Rattle.pat_type_system_spec.specs.Holdings.{Holding, held, control_held, frame_held, message_held, holdings, Balanced}
use Rattle.pat_type_system_spec.specs.Typed.{IsTyped, ThreadFits, ControlFits, PartFits, NumbersFit}
use Rattle.pat_safety_laws.proofs.Balance.{Refines, quiet, active, refine_balance, balance_front, balance_back, passes_refine, nothing_more}
use Rattle.pat_semantics_laws.proofs.Threads.{lookup_all, lookup_any, set_all, set_any}
use Rattle.pat_safety_laws.proofs.ThreadHoldings.{split_thread, threads_append}
use Rattle.pat_semantics_laws.proofs.Inversion.{step_of, spawn_step, after_spawn}
use Rattle.pat_type_system_laws.proofs.Nodes.{node_facts, part_core, NodeFacts}
use Rattle.pat_safety_laws.proofs.Replace.{unit_fits, unit_refers}
use Rattle.pat_type_system_laws.proofs.Unused.{unused_drops}
use Rattle.pat_safety_laws.proofs.Narrow.{keep_narrows, narrow_refers, narrow_passes}
use Rattle.pat_semantics_laws.proofs.Lists.{any-append, all_snoc}
use Rattle.pat_safety_laws.proofs.Moves.{goes_on}
use Rattle.pat_semantics_spec.specs.Orders.{IsOrdered}
use Rattle.pat_semantics_laws.proofs.Ordered.{step_keeps_order}

-- the usage doesn't matter to what is held
usage_free : (h k : Holding) (r s : Word) → Refines (returnable h ∷ []) r (k ∷ []) s → Refines (h ∷ []) r (k ∷ []) s
usage_free None k r s (quiet a b f) = quiet a b f
usage_free None k r s (active e f a b g) = active e f a b g
usage_free (Some m) k r s (quiet a b f) = quiet a b f
usage_free (Some m) k r s (active e f a b g) = active e f a b g

-- a spawned thread stands with part of what a thread had, which returns nothing
module _ (p : Program) (y : Typing) (interfaces : ℕ → ℕ) (c : Config) (t : ℕ) (s : Thread) (n m : ℕ) (env : Env) (wf : WellFormed p) (typed : IsTyped p y interfaces c) (there : thread_at c t ≡ Some s) (at : s.control ≡ Running n env) (term : core_at p n ≡ Some (Spawn m)) where
  abbrev made : Thread
  made = thread_of (at_node p m env) []

  abbrev unit : Thread
  unit = returned_unit s.frames

  abbrev after : Config
  after = after_spawn p c t s.frames m env

  abbrev set : List (ℕ × Thread)
  set = set_value (nat_eq t) c.threads unit

  facts : NodeFacts p y n (Spawn m)
  facts = node_facts p y n (Spawn m) wf typed.typing term

  old_fits : ThreadFits p y interfaces s
  old_fits = lookup_all (λ s. ThreadFits p y interfaces s) c.threads t s typed.threads there

  control_fits : ControlFits p y interfaces (Running n env) s.frames
  control_fits = subst (λ k. ControlFits p y interfaces k s.frames) at old_fits.control

  part : is_among m (parts (Spawn m)) ≡ true
  part = or_left (nat_eq m m) false (eq-eqb m m refl)

  made_part : PartFits p interfaces m [] (keep p m env)
  made_part = goes_on p interfaces n m (Spawn m) env wf term part (λ z h. free_unfolds p z n (Spawn m) wf term ∙ h) control_fits.0

  made_fits : ThreadFits p y interfaces made
  made_fits = record {
    control = (made_part, subst (λ w. TypeFits w (BaseTerm BaseUnit)) (sym facts.term.0) refl);
    frames = tt;
    control_keeps = λ b a h u. refl;
    frames_keep = tt;
  }

  unit_fits' : ThreadFits p y interfaces unit
  unit_fits' = unit_fits p y interfaces s n env old_fits at facts.kinds.0

  made_refers : (a : ℕ) → thread_refers a made ≡ true → thread_refers a s ≡ true
  made_refers a h =
      or_left (control_refers a s.control) (list_any (λ x. env_refers a x.env) s.frames)
      (ap (control_refers a) at ∙ narrow_refers (λ z. is_free p z m) env (keep p m env) a (keep_narrows p m env control_fits.0.keys)
      (⊎_elim (λ l. l) (λ r. cc) (or_cases (env_refers a (keep p m env)) false h)))

  threads_refer : (a : ℕ) → list_any (λ e. thread_refers a e.1) (set ++ (c.next_thread, made) ∷ []) ≡ true → list_any (λ e. thread_refers a e.1) c.threads ≡ true
  threads_refer a h =
      ⊎_elim
      (λ l. ⊎_elim
      (λ u. lookup_any (thread_refers a) c.threads t s there (unit_refers s a u))
      (λ o. o)
      (set_any (thread_refers a) c.threads t unit l))
      (λ r. lookup_any (thread_refers a) c.threads t s there (made_refers a (⊎_elim (λ x. x) (λ x. cc) (or_cases (thread_refers a made) false r))))
      (any-append (λ e. thread_refers a e.1) set ((c.next_thread, made) ∷ []) h)

  numbers' : IsOrdered after → NumbersFit after
  numbers' ordered = record {
    ordered = ordered;
    threads_live = λ a h. typed.numbers.threads_live a (threads_refer a h);
    messages_live = typed.numbers.messages_live;
  }

  passes : (b : ℕ) → PassesTo (held (λ x. returnable (y.envs n x)) b env) (held (y.envs m) b (keep p m env))
  passes b =
      let body = part_core p n (Spawn m) wf term m part in
      narrow_passes (λ z. is_free p z m) (λ x. returnable (y.envs n x)) (y.envs m) env (keep p m env) b control_fits.0.keys control_fits.0.different (keep_narrows p m env control_fits.0.keys) (λ z h. facts.term.1 z) (λ z off. unused_drops p y wf typed.typing z m body.0 body.1 off)

  held_returnable : (b : ℕ) (env : Env) → held (λ x. returnable (y.envs n x)) b env ≡ returnable (held (y.envs n) b env)
  held_returnable b [] = refl
  held_returnable b (e ∷ env) =
      elim (is_mailbox b e.1) as (λ v. (if v then returnable (y.envs n e.0) else held (λ x. returnable (y.envs n x)) b env) ≡ returnable (if v then y.envs n e.0 else held (y.envs n) b env)) [
        | true ↦ refl
        | false ↦ held_returnable b env
      ]

  balanced' : (a : ℕ) → Balanced (holdings p y interfaces c a) (pending c a) → Balanced (holdings p y interfaces after a) (pending c a)
  balanced' a bal =
      let ms = map (message_held p interfaces a) c.messages in
      let split = split_thread p y a t s c.threads there in
      let fs = map (frame_held y a) s.frames in
      let h = held (y.envs n) a env in
      let k = held (y.envs m) a (keep p m env) in
      let w = pending c a in
      let flat : holdings p y interfaces c a ≡ split.before ++ (h ∷ ((fs ++ split.after) ++ ms)) =
      ap (λ l. l ++ ms) split.now_is
      ∙ ap (λ q. (split.before ++ ((control_held p y a q s.frames ∷ fs) ++ split.after)) ++ ms) at
      ∙ append_assoc split.before ((h ∷ fs) ++ split.after) ms in
      let front = balance_front split.before h ((fs ++ split.after) ++ ms) w (subst (λ l. Balanced l w) flat bal) in
      let refines = usage_free h k w w (passes_refine (returnable h) k w (subst (λ x. PassesTo x k) (held_returnable a env) (passes a))) in
      let new = refine_balance (h ∷ []) (k ∷ []) (split.before ++ ((fs ++ split.after) ++ ms)) w w refines front in
      let idle = refine_balance [] (None ∷ []) (k ∷ (split.before ++ ((fs ++ split.after) ++ ms))) w w (nothing_more w) new in
      let others = split.before ++ ((None ∷ fs) ++ split.after) in
      let one = balance_front (None ∷ []) k (split.before ++ ((fs ++ split.after) ++ ms)) w idle in
      let two = balance_back (k ∷ split.before) None ((fs ++ split.after) ++ ms) w (balance_front (k ∷ []) None (split.before ++ ((fs ++ split.after) ++ ms)) w one) in
      let joined : split.before ++ (None ∷ ((fs ++ split.after) ++ ms)) ≡ others ++ ms = sym (append_assoc split.before ((None ∷ fs) ++ split.after) ms) in
      let three = balance_back others k ms w (subst (λ l. Balanced (k ∷ l) w) joined two) in
      let now : holdings p y interfaces after a ≡ others ++ (k ∷ ms) =
      ap (λ l. l ++ ms) (threads_append p y a set ((c.next_thread, made) ∷ []) ∙ ap (λ l. l ++ (k ∷ [])) (split.changed_is unit))
      ∙ append_assoc others (k ∷ []) ms in
      subst (λ l. Balanced l w) (sym now) three

  spawned_typed : IsOrdered after → IsTyped p y interfaces after
  spawned_typed ordered = record {
    typing = typed.typing;
    numbers = numbers' ordered;
    threads = all_snoc (λ e. ThreadFits p y interfaces e.1) set (c.next_thread, made) (set_all (λ e. ThreadFits p y interfaces e.1) c.threads t unit (λ e h. unit_fits') typed.threads) made_fits;
    messages = typed.messages;
    balanced = λ a live. balanced' a (typed.balanced a live);
  }

-- the law for spawn
pub spawn_keeps : (p : Program) (y : Typing) (interfaces : ℕ → ℕ) (c d : Config) (t : ℕ) → WellFormed p → IsTyped p y interfaces c → step p c (record { thread = t; act = ActSpawn }) ≡ Some d → IsTyped p y interfaces d
spawn_keeps p y interfaces c d t wf typed h =
    let o = step_of p c (record { thread = t; act = ActSpawn }) d h in
    let s = o.thread in
    let q = spawn_step p c t s d (redex p s.control) refl o.gives in
    let ordered = subst IsOrdered q.result (step_keeps_order p c d (record { thread = t; act = ActSpawn }) typed.numbers.ordered h) in
    subst (IsTyped p y interfaces) (sym q.result) (spawned_typed p y interfaces c t s q.at.node q.body q.env wf typed o.there q.at.control_is q.at.term ordered)
