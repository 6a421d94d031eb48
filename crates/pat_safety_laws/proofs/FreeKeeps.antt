-- A free keeps a configuration typed.
use Rattle.std.proofs.Common.{◌≡◌, ℕ, Bool, true, false, cond, ◌||◌, not, nat_eq, List, [], ◌∷◌, Some, None, refl, sym, ap, ◌∙◌, subst, ⊎_elim}
use Rattle.std.specs.Prelude.{is_some, filter}
use Rattle.std.specs.List.{AllByRecursion, list_any}
use Rattle.std.proofs.lemmas.Bool.{or_cases, or_left, or_right, eq-eqb, eqb-true, eqb-false, ne_eqb, and_parts, cases_Bool, cond-true, cond-false, false_from_ne_true}
use Rattle.pat_semantics_spec.specs.Values.{Mailbox, Env, value_at}
use Rattle.pat_semantics_spec.specs.Programs.{Program, Core, Guard, core_at, is_free, keep, is_among, parts, clause_bodies, clause_uses}
use Rattle.pat_semantics_spec.specs.WellFormed.{WellFormed}
use Rattle.pat_semantics_spec.specs.Configs.{Running, Thread, Config, thread_at, env_refers, control_refers, thread_refers, message_refers, has_pending, other_refers}
use Rattle.pat_semantics_spec.specs.Steps.{ActFree, step, redex, thread_of, at_node}
use Rattle.pat_semantics_laws.proofs.FreeVars.{free_unfolds}
use Rattle.pat_type_system_spec.specs.Types.{Returnable, TypeFits, PassesTo, without}
use Rattle.pat_type_system_spec.specs.Typings.{Typing, GuardTyped}
use Rattle.pat_type_system_spec.specs.Holdings.{Holding, held, control_held, wanted}
use Rattle.pat_type_system_spec.specs.Typed.{IsTyped, ThreadFits, ControlFits, PartFits, NumbersFit, KeepsFrom, frames_refer}
use Rattle.pat_semantics_laws.proofs.Threads.{lookup_all, lookup_any, set_all, set_other, other_any}
use Rattle.pat_semantics_laws.proofs.Inversion.{step_of, FreeStep, free_step, after_free}
use Rattle.pat_type_system_laws.proofs.Nodes.{NodeFacts, node_facts, part_core}
use Rattle.pat_safety_laws.proofs.Envs.{held_cases, HeldCases, by_variable, by_none}
use Rattle.pat_type_system_laws.proofs.Unused.{unused_drops}
use Rattle.pat_safety_laws.proofs.Narrow.{Narrowed, keep_narrows, narrow_refers, narrow_passes, part_named, refers_value, passes_returnable, usage_back}
use Rattle.pat_safety_laws.proofs.Moves.{move_balanced, goes_on}
use Rattle.pat_semantics_laws.proofs.Lists.{clash, not_true, all_filter}
use Rattle.pat_semantics_spec.specs.Orders.{IsOrdered}
use Rattle.std.specs.Map.{keys_of}
use Rattle.pat_semantics_laws.proofs.Ordered.{step_keeps_order}
use Rattle.pat_semantics_laws.proofs.Ascending.{ascends_distinct}

-- ---- the live mailboxes without one

-- the numbers but a
abbrev others : ℕ → List ℕ → List ℕ
others a xs = filter (λ b. not (nat_eq b a)) xs

among_others : (a b : ℕ) (xs : List ℕ) → is_among b xs ≡ true → nat_eq b a ≡ false → is_among b (others a xs) ≡ true
among_others a b [] h off = h
among_others a b (x ∷ xs) h off =
    (elim (nat_eq x a) as (λ t. nat_eq x a ≡ t → is_among b (cond (not t) (x ∷ others a xs) (others a xs)) ≡ true) [
      | true ↦ λ q. ⊎_elim
          (λ l. absurd (clash (ap (λ z. nat_eq z a) (eqb-true b x l) ∙ q) off))
          (λ r. among_others a b xs r off)
          (or_cases (nat_eq b x) (is_among b xs) h)
      | false ↦ λ q. ⊎_elim
          (λ l. or_left (nat_eq b x) (is_among b (others a xs)) l)
          (λ r. or_right (nat_eq b x) (is_among b (others a xs)) (among_others a b xs r off))
          (or_cases (nat_eq b x) (is_among b xs) h)
    ]) refl

others_among : (a b : ℕ) (xs : List ℕ) → is_among b (others a xs) ≡ true → (is_among b xs ≡ true) × (nat_eq b a ≡ false)
others_among a b [] h = cc
others_among a b (x ∷ xs) h =
    (elim (nat_eq x a) as (λ t. nat_eq x a ≡ t → is_among b (cond (not t) (x ∷ others a xs) (others a xs)) ≡ true → ((nat_eq b x || is_among b xs) ≡ true) × (nat_eq b a ≡ false)) [
      | true ↦ λ q k. let r = others_among a b xs k in (or_right (nat_eq b x) (is_among b xs) r.0, r.1)
      | false ↦ λ q k. ⊎_elim
          (λ l. (or_left (nat_eq b x) (is_among b xs) l, ap (λ z. nat_eq z a) (eqb-true b x l) ∙ q))
          (λ w. let r = others_among a b xs w in (or_right (nat_eq b x) (is_among b xs) r.0, r.1))
          (or_cases (nat_eq b x) (is_among b (others a xs)) k)
    ]) refl h

apart_others : (n a : ℕ) (xs : List ℕ) → AllByRecursion (λ k. nat_eq n k ≡ false) xs → AllByRecursion (λ k. nat_eq n k ≡ false) (others a xs)
apart_others n a xs h = all_filter (λ k. nat_eq n k ≡ false) (λ b. not (nat_eq b a)) xs h

-- ---- the step

module _ (p : Program) (y : Typing) (interfaces : ℕ → ℕ) (c : Config) (t : ℕ) (s : Thread) (d : Config) (wf : WellFormed p) (typed : IsTyped p y interfaces c) (there : thread_at c t ≡ Some s) (q : FreeStep p c t s d) where
  abbrev n : ℕ
  n = q.at.node

  abbrev m : ℕ
  m = q.body

  abbrev a : ℕ
  a = q.mailbox

  abbrev env' : Env
  env' = keep p m q.env

  abbrev core : Core
  core = Guard q.var q.pattern (Some m) q.receives

  abbrev thread' : Thread
  thread' = thread_of (at_node p m q.env) s.frames

  abbrev after : Config
  after = after_free p c t s.frames m q.env a

  facts : NodeFacts p y n core
  facts = node_facts p y n core wf typed.typing q.at.term

  guard : GuardTyped p y (y.envs n) (y.results n) q.var q.pattern (Some m) q.receives
  guard = facts.term

  old_fits : ThreadFits p y interfaces s
  old_fits = lookup_all (λ s. ThreadFits p y interfaces s) c.threads t s typed.threads there

  control_fits : ControlFits p y interfaces (Running n q.env) s.frames
  control_fits = subst (λ k. ControlFits p y interfaces k s.frames) q.at.control_is old_fits.control

  old_keeps : KeepsFrom (λ b. held (y.envs n) b q.env) s.frames
  old_keeps = subst (λ w. KeepsFrom (λ b. control_held p y b w s.frames) s.frames) q.at.control_is old_fits.control_keeps

  part : is_among m (parts core) ≡ true
  part = or_left (nat_eq m m) (is_among m (clause_bodies q.receives)) (eq-eqb m m refl)

  body : (k : Core) × (core_at p m ≡ Some k)
  body = part_core p n core wf q.at.term m part

  narrowed : Narrowed (λ z. is_free p z m) q.env env'
  narrowed = keep_narrows p m q.env control_fits.0.keys

  sub : (z : ℕ) → is_free p z m ≡ true → is_free p z n ≡ true
  sub z h =
      free_unfolds p z n core wf q.at.term
      ∙ or_right (nat_eq z q.var) (list_any (is_free p z) (m ∷ []) || list_any (clause_uses (is_free p z) z) q.receives)
      (or_left (list_any (is_free p z) (m ∷ [])) (list_any (clause_uses (is_free p z) z) q.receives) (or_left (is_free p z m) false h))

  new_part : PartFits p interfaces m [] env'
  new_part = goes_on p interfaces n m core q.env wf q.at.term part sub control_fits.0

  -- the freed mailbox isn't named any more
  gone : env_refers a env' ≡ false
  gone =
      false_from_ne_true (env_refers a env') (λ h.
      let r = refers_value a 0 env' narrowed.keys h in
      let at = (narrowed.inside r.0 (Mailbox a) r.1).1 in
      let same : r.0 ≡ q.var = control_fits.0.different r.0 q.var a at q.guards in
      let some = part_named p y interfaces m [] env' wf typed.typing body.0 body.1 new_part r.0 a r.1 in
      let none : without q.var (y.envs n) q.var ≡ None = cond-true (nat_eq q.var q.var) None (y.envs n q.var) (eq-eqb q.var q.var refl) in
      no_more (y.envs m q.var) (subst (λ o. PassesTo o (y.envs m q.var)) none (guard.free_passes m refl q.var)) (subst (λ z. is_some (y.envs m z) ≡ true) same some))
    where
      no_more : (h : Holding) → PassesTo None h → is_some h ≡ true → ⊥
      no_more None w e = cc
      no_more (Some b) w e = w

  passes : (b : ℕ) → nat_eq b a ≡ false → PassesTo (held (y.envs n) b q.env) (held (y.envs m) b env')
  passes b off =
      narrow_passes (λ z. is_free p z m) (y.envs n) (y.envs m) q.env env' b control_fits.0.keys control_fits.0.different narrowed
      (λ z at.
      let apart : nat_eq q.var z ≡ false = ne_eqb q.var z (λ e. let w : Some (Mailbox a) ≡ Some (Mailbox b) = sym q.guards ∙ ap (value_at q.env) e ∙ at in eqb-false b a off cc) in
      subst (λ o. PassesTo o (y.envs m z)) (cond-false (nat_eq q.var z) None (y.envs n z) apart) (guard.free_passes m refl z))
      (λ z off. unused_drops p y wf typed.typing z m body.0 body.1 off)

  -- nor is it in the frames
  frames_apart : frames_refer a s.frames ≡ false
  frames_apart = go (held_cases (y.envs n) a 0 q.env control_fits.0.keys)
    where
      go : HeldCases (y.envs n) a q.env → frames_refer a s.frames ≡ false
      go (by_variable z at is) =
          let same : z ≡ q.var = control_fits.0.different z q.var a at q.guards in
          old_keeps a guard.guarded (is ∙ ap (y.envs n) same ∙ guard.named) (usage_back guard.guarded.usage Returnable guard.fits.usage refl)
      go (by_none none is) = absurd (none q.var q.guards)

  new_keeps : KeepsFrom (λ b. held (y.envs m) b env') s.frames
  new_keeps b k h u =
      ⊎_elim
      (λ own. subst (λ x. frames_refer x s.frames ≡ false) (sym (eqb-true b a own)) frames_apart)
      (λ off. let r = passes_returnable (held (y.envs n) b q.env) k (subst (λ x. PassesTo (held (y.envs n) b q.env) x) h (passes b off)) u in old_keeps b r.0 r.1 r.2)
      (cases_Bool (nat_eq b a))

  thread_fits' : ThreadFits p y interfaces thread'
  thread_fits' = record {
    control = (new_part, subst (λ w. TypeFits w (wanted p y s.frames)) (sym (guard.free_result m refl)) control_fits.1);
    frames = old_fits.frames;
    control_keeps = new_keeps;
    frames_keep = old_fits.frames_keep;
  }

  alone : (other_refers a t c.threads ≡ false) × (list_any (message_refers a) c.messages ≡ false)
  alone =
      let r = and_parts (not (other_refers a t c.threads)) (not (list_any (message_refers a) c.messages)) q.alone in
      (not_true (other_refers a t c.threads) r.0, not_true (list_any (message_refers a) c.messages) r.1)

  empty : has_pending a c.messages ≡ false
  empty = not_true (has_pending a c.messages) q.empty

  -- who fails a test at the freed mailbox is another one
  apart_by : (f : ℕ → Bool) (b : ℕ) → f a ≡ false → f b ≡ true → nat_eq b a ≡ false
  apart_by f b off on = false_from_ne_true (nat_eq b a) (λ e. clash (ap f (sym (eqb-true b a e)) ∙ on) off)

  thread_apart : (b : ℕ) → thread_refers b thread' ≡ true → nat_eq b a ≡ false
  thread_apart b h =
      ⊎_elim
      (λ l. apart_by (λ x. env_refers x env') b gone l)
      (λ r. apart_by (λ x. frames_refer x s.frames) b frames_apart r)
      (or_cases (env_refers b env') (list_any (λ f. env_refers b f.env) s.frames) h)

  thread_live : (b : ℕ) → thread_refers b thread' ≡ true → is_among b c.live ≡ true
  thread_live b h =
      typed.numbers.threads_live b
      (lookup_any (thread_refers b) c.threads t s there
      (⊎_elim
      (λ l. or_left (control_refers b s.control) (list_any (λ f. env_refers b f.env) s.frames) (ap (control_refers b) q.at.control_is ∙ narrow_refers (λ z. is_free p z m) q.env env' b narrowed l))
      (λ r. or_right (control_refers b s.control) (list_any (λ f. env_refers b f.env) s.frames) r)
      (or_cases (env_refers b env') (list_any (λ f. env_refers b f.env) s.frames) h)))

  numbers' : IsOrdered after → NumbersFit after
  numbers' ordered = record {
    ordered = ordered;
    threads_live = λ b h.
        ⊎_elim
        (λ here. among_others a b c.live (thread_live b here) (thread_apart b here))
        (λ rest. among_others a b c.live (typed.numbers.threads_live b (other_any (thread_refers b) c.threads t rest)) (apart_by (λ x. other_refers x t c.threads) b alone.0 rest))
        (set_other (thread_refers b) c.threads t thread' (ascends_distinct 0 (keys_of c.threads) typed.numbers.ordered.threads) h);
    messages_live = λ b h.
        among_others a b c.live (typed.numbers.messages_live b h)
        (⊎_elim
        (λ l. apart_by (λ x. list_any (message_refers x) c.messages) b alone.1 l)
        (λ r. apart_by (λ x. has_pending x c.messages) b empty r)
        (or_cases (list_any (message_refers b) c.messages) (has_pending b c.messages) h));
  }

  freed_typed : IsOrdered after → IsTyped p y interfaces after
  freed_typed ordered = record {
    typing = typed.typing;
    numbers = numbers' ordered;
    threads = set_all (λ e. ThreadFits p y interfaces e.1) c.threads t thread' (λ e h. thread_fits') typed.threads;
    messages = typed.messages;
    balanced = λ b live.
        let r = others_among a b c.live live in
        move_balanced p y interfaces c t s (at_node p m q.env) there b
        (subst (λ k. PassesTo (control_held p y b k s.frames) (held (y.envs m) b env')) (sym q.at.control_is) (passes b r.1))
        (typed.balanced b r.0);
  }

-- the law for free
pub free_keeps : (p : Program) (y : Typing) (interfaces : ℕ → ℕ) (c d : Config) (t : ℕ) → WellFormed p → IsTyped p y interfaces c → step p c (record { thread = t; act = ActFree }) ≡ Some d → IsTyped p y interfaces d
free_keeps p y interfaces c d t wf typed h =
    let o = step_of p c (record { thread = t; act = ActFree }) d h in
    let q = free_step p c t o.thread d (redex p o.thread.control) refl o.gives in
    let ordered = subst IsOrdered q.result (step_keeps_order p c d (record { thread = t; act = ActFree }) typed.numbers.ordered h) in
    subst (IsTyped p y interfaces) (sym q.result) (freed_typed p y interfaces c t o.thread d wf typed o.there q ordered)
