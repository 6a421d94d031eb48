-- A let that goes to its bound part keeps a configuration typed.
use Rattle.std.proofs.Common.{◌≡◌, ℕ, Bool, true, false, ◌||◌, ◌&&◌, not, nat_eq, [], ◌∷◌, ◌++◌, Option, Some, None, refl, sym, ap, ◌∙◌, subst, map, ⊎_elim}
use Rattle.std.specs.Prelude.{is_some, filter}
use Rattle.std.specs.List.{list_any}
use Rattle.std.proofs.lemmas.Bool.{or_cases, or_left, or_right, eq-eqb, eqb-true, ne_eqb, cases_Bool, cond-true, cond-false, false_from_ne_true, and_cases, and_from}
use Rattle.pat_semantics_spec.specs.Values.{Mailbox, Env, value_at}
use Rattle.pat_semantics_spec.specs.Programs.{Program, Core, Let, core_at, is_free, keep, is_among, option_list, parts}
use Rattle.pat_semantics_spec.specs.WellFormed.{WellFormed}
use Rattle.pat_semantics_spec.specs.Configs.{Running, Frame, Thread, Config, thread_at, with_thread, env_refers, control_refers, thread_refers, pending}
use Rattle.pat_semantics_spec.specs.Steps.{thread_of, at_node, frame_of}
use Rattle.pat_semantics_laws.proofs.FreeVars.{free_unfolds}
use Rattle.pat_type_system_spec.specs.Types.{Second, Returnable, MailboxType, TypeFits, SplitsTo, TypeEnv, PassesTo}
use Rattle.pat_type_system_spec.specs.Typings.{Typing, IsTyping, without_name}
use Rattle.pat_type_system_spec.specs.Holdings.{Holding, held, type_at, control_held, frame_held, message_held, wanted, holdings, Balanced}
use Rattle.pat_type_system_spec.specs.Typed.{IsTyped, ThreadFits, ControlFits, PartFits, KeepsFrom, frames_refer}
use Rattle.pat_safety_laws.proofs.SplitBalance.{split_refine}
use Rattle.pat_semantics_laws.proofs.Threads.{lookup_all}
use Rattle.pat_safety_laws.proofs.ThreadHoldings.{split_thread}
use Rattle.pat_semantics_laws.proofs.Inversion.{StandsAt}
use Rattle.pat_safety_laws.proofs.Replace.{replace_keeps}
use Rattle.pat_type_system_laws.proofs.Nodes.{NodeFacts, node_facts, part_core}
use Rattle.pat_safety_laws.proofs.Envs.{held_cases, HeldCases, by_variable, by_none}
use Rattle.pat_type_system_laws.proofs.Named.{part_kind}
use Rattle.pat_type_system_laws.proofs.Unused.{unused_drops}
use Rattle.pat_safety_laws.proofs.Narrow.{Narrowed, keep_narrows, filter_narrows, narrow_twice, narrow_refers, narrow_part, NarrowCases, stays, goes, absent, narrow_cases, part_named, refers_value, usage_back}
use Rattle.pat_safety_laws.proofs.Bound.{body_bound, body_among}
use Rattle.pat_safety_laws.proofs.Frames.{one_to_two}
use Rattle.pat_semantics_laws.proofs.Lists.{clash}
use Rattle.pat_type_system_laws.proofs.Passing.{type_same}
use Rattle.pat_type_system_laws.proofs.Splitting.{split_first, split_second}
use Rattle.pat_safety_laws.proofs.Moves.{goes_on}

-- what the bound part has as returnable the body hasn't, and it was returnable
split_bound : (a : Holding) (b : MailboxType) (c : Holding) → SplitsTo a (Some b) c → b.usage ≡ Returnable → (c ≡ None) × ((o : MailboxType) × (a ≡ Some o) × (o.usage ≡ Returnable))
split_bound None b c h u = absurd h
split_bound (Some a) b None h u = (refl, (a, refl, usage_back a.usage b.usage h.usage u))
split_bound (Some a) b (Some c) h u = let e : Second ≡ Returnable = sym h.bound_usage ∙ u in cc

-- what the body has as returnable was so
split_body : (a b : Holding) (c : MailboxType) → SplitsTo a b (Some c) → c.usage ≡ Returnable → (o : MailboxType) × (a ≡ Some o) × (o.usage ≡ Returnable)
split_body None None c h u = absurd h
split_body None (Some b) c h u = absurd h
split_body (Some a) None c h u = (a, refl, usage_back a.usage c.usage h.usage u)
split_body (Some a) (Some b) c h u = (a, refl, usage_back a.usage c.usage h.usage u)

without_out : (x : Option ℕ) (g : TypeEnv) (z : ℕ) → is_among z (option_list x) ≡ false → without_name x g z ≡ g z
without_out None g z h = refl
without_out (Some x) g z h = cond-false (nat_eq x z) None (g z) (ne_eqb x z (λ q. clash (or_left (nat_eq z x) false (eq-eqb z x (sym q))) h))

without_in : (x : Option ℕ) (g : TypeEnv) (z : ℕ) → is_among z (option_list x) ≡ true → without_name x g z ≡ None
without_in None g z h = cc
without_in (Some x) g z h =
    let q : nat_eq z x ≡ true = ⊎_elim (λ l. l) (λ r. cc) (or_cases (nat_eq z x) false h) in
    cond-true (nat_eq x z) None (g z) (eq-eqb x z (sym (eqb-true z x q)))

-- ---- the step

module _ (p : Program) (y : Typing) (interfaces : ℕ → ℕ) (s : Thread) (n m b : ℕ) (x : Option ℕ) (env : Env) (wf : WellFormed p) (typing : IsTyping p y) (fits : ThreadFits p y interfaces s) (at : s.control ≡ Running n env) (term : core_at p n ≡ Some (Let x m b)) where
  abbrev core : Core
  core = Let x m b

  abbrev frame : Frame
  frame = frame_of p x b env

  abbrev bound_env : Env
  bound_env = keep p m env

  abbrev body_env : Env
  body_env = filter (λ e. not (is_among e.0 (option_list x))) (keep p b env)

  abbrev after : Thread
  after = thread_of (at_node p m env) (frame ∷ s.frames)

  facts : NodeFacts p y n core
  facts = node_facts p y n core wf typing term

  control_fits : ControlFits p y interfaces (Running n env) s.frames
  control_fits = subst (λ k. ControlFits p y interfaces k s.frames) at fits.control

  part : PartFits p interfaces n [] env
  part = control_fits.0

  old_keeps : KeepsFrom (λ a. held (y.envs n) a env) s.frames
  old_keeps = subst (λ w. KeepsFrom (λ a. control_held p y a w s.frames) s.frames) at fits.control_keeps

  bound_among : is_among m (parts core) ≡ true
  bound_among = or_left (nat_eq m m) (is_among m (b ∷ [])) (eq-eqb m m refl)

  bound_core : (k : Core) × (core_at p m ≡ Some k)
  bound_core = part_core p n core wf term m bound_among

  body_core : (k : Core) × (core_at p b ≡ Some k)
  body_core = part_core p n core wf term b (body_among x m b)

  abbrev bound_test : ℕ → Bool
  bound_test z = is_free p z m

  abbrev body_test : ℕ → Bool
  body_test z = is_free p z b && not (is_among z (option_list x))

  bound_narrows : Narrowed bound_test env bound_env
  bound_narrows = keep_narrows p m env part.keys

  body_narrows : Narrowed body_test env body_env
  body_narrows =
      let one = keep_narrows p b env part.keys in
      narrow_twice (λ z. is_free p z b) (λ z. not (is_among z (option_list x))) env (keep p b env) body_env one (filter_narrows (λ z. not (is_among z (option_list x))) (keep p b env) one.keys)

  bound_part : PartFits p interfaces m [] bound_env
  bound_part =
      goes_on p interfaces n m core env wf term bound_among
      (λ z h. free_unfolds p z n core wf term ∙ or_left (is_free p z m) (body_test z) h) part

  body_part : PartFits p interfaces b (option_list x) body_env
  body_part =
      narrow_part p interfaces n b (option_list x) env body_env part body_narrows
      (λ z free out. free_unfolds p z n core wf term ∙ or_right (is_free p z m) (body_test z) (and_from (is_free p z b) (not (is_among z (option_list x))) free (ap not out)))
      (λ z k h. part_kind p n z k core wf term b (body_among x m b) h)
      body_core.0 body_core.1

  abbrev was : ℕ → Holding
  was a = held (y.envs n) a env

  abbrev bound_held : ℕ → Holding
  bound_held a = held (y.envs m) a bound_env

  abbrev body_held : ℕ → Holding
  body_held a = held (y.envs b) a body_env

  -- what a variable of the body that isn't kept has may be dropped
  body_drops : (z : ℕ) → body_test z ≡ false → PassesTo (without_name x (y.envs b) z) None
  body_drops z off =
      ⊎_elim
      (λ inside. subst (λ w. PassesTo w None) (sym (without_in x (y.envs b) z inside)) tt)
      (λ out.
      let free : is_free p z b ≡ false = ⊎_elim (λ f. f) (λ g. absurd (clash (ap not out) g)) (and_cases (is_free p z b) (not (is_among z (option_list x))) off) in
      subst (λ w. PassesTo w None) (sym (without_out x (y.envs b) z out)) (unused_drops p y wf typing z b body_core.0 body_core.1 free))
      (cases_Bool (is_among z (option_list x)))

  body_out : (z a : ℕ) → value_at body_env z ≡ Some (Mailbox a) → without_name x (y.envs b) z ≡ y.envs b z
  body_out z a at = without_out x (y.envs b) z (body_part.free z (Mailbox a) at).1

  -- what the body has, as the let divides it
  divided : (a z : ℕ) (h : Holding) → value_at env z ≡ Some (Mailbox a) → SplitsTo (y.envs n z) h (without_name x (y.envs b) z) → SplitsTo (y.envs n z) h (body_held a)
  divided a z h at split = go (narrow_cases body_test (y.envs n) (y.envs b) env body_env a part.keys part.different body_narrows)
    where
      go : NarrowCases body_test (y.envs n) (y.envs b) env body_env a → SplitsTo (y.envs n z) h (body_held a)
      go (stays w at1 at2 is is') =
          let same : w ≡ z = part.different w z a at1 at in
          subst (λ k. SplitsTo (y.envs n z) h k) (body_out z a (subst (λ u. value_at body_env u ≡ Some (Mailbox a)) same at2) ∙ sym (is' ∙ ap (y.envs b) same)) split
      go (goes w at1 off is is') =
          let same : w ≡ z = part.different w z a at1 at in
          subst (λ k. SplitsTo (y.envs n z) h k) (sym is') (split_second (y.envs n z) h (without_name x (y.envs b) z) split (body_drops z (ap body_test (sym same) ∙ off)))
      go (absent none is is') = absurd (none z at)

  splits : (a : ℕ) → SplitsTo (was a) (bound_held a) (body_held a)
  splits a = go (narrow_cases bound_test (y.envs n) (y.envs m) env bound_env a part.keys part.different bound_narrows)
    where
      go : NarrowCases bound_test (y.envs n) (y.envs m) env bound_env a → SplitsTo (was a) (bound_held a) (body_held a)
      go (stays z at1 at2 is is') =
          subst (λ k. SplitsTo k (bound_held a) (body_held a)) (sym is)
          (subst (λ k. SplitsTo (y.envs n z) k (body_held a)) (sym is') (divided a z (y.envs m z) at1 (facts.term.1 z)))
      go (goes z at1 off is is') =
          subst (λ k. SplitsTo k (bound_held a) (body_held a)) (sym is)
          (subst (λ k. SplitsTo (y.envs n z) k (body_held a)) (sym is')
          (divided a z None at1 (split_first (y.envs n z) (y.envs m z) (without_name x (y.envs b) z) (facts.term.1 z) (unused_drops p y wf typing z m bound_core.0 bound_core.1 off))))
      go (absent none is is') =
          subst (λ k. SplitsTo k (bound_held a) (body_held a)) (sym is)
          (subst (λ k. SplitsTo None k (body_held a)) (sym is')
          (subst (λ k. SplitsTo None None k) (sym (nothing (held_cases (y.envs b) a 0 body_env body_narrows.keys))) tt))
        where
          nothing : HeldCases (y.envs b) a body_env → body_held a ≡ None
          nothing (by_none none' is) = is
          nothing (by_variable w at is) = absurd (none w (body_narrows.inside w (Mailbox a) at).1)

  -- a mailbox that the frame refers to is held there
  frame_holds : (a : ℕ) → env_refers a body_env ≡ true → is_some (body_held a) ≡ true
  frame_holds a h = go (refers_value a 0 body_env body_narrows.keys h) (held_cases (y.envs b) a 0 body_env body_narrows.keys)
    where
      go : (z : ℕ) × (value_at body_env z ≡ Some (Mailbox a)) → HeldCases (y.envs b) a body_env → is_some (body_held a) ≡ true
      go q (by_variable z at is) = ap is_some is ∙ part_named p y interfaces b (option_list x) body_env wf typing body_core.0 body_core.1 body_part z a at
      go q (by_none none is) = absurd (none q.0 q.1)

  bound_keeps : KeepsFrom bound_held (frame ∷ s.frames)
  bound_keeps a k h u =
      let q = split_bound (was a) k (body_held a) (subst (λ w. SplitsTo (was a) w (body_held a)) h (splits a)) u in
      let off : env_refers a body_env ≡ false = false_from_ne_true (env_refers a body_env) (λ r. clash (frame_holds a r) (ap is_some q.0)) in
      ap (λ t. t || frames_refer a s.frames) off ∙ old_keeps a q.1.0 q.1.1 q.1.2

  body_keeps : KeepsFrom body_held s.frames
  body_keeps a k h u =
      let q = split_body (was a) (bound_held a) k (subst (λ w. SplitsTo (was a) (bound_held a) w) h (splits a)) u in
      old_keeps a q.0 q.1 q.2

  pub let_fits : ThreadFits p y interfaces after
  let_fits = record {
    control = (bound_part, subst (λ w. TypeFits (y.results m) w) (sym (ap (type_at y) (body_bound p n m b x wf term))) (type_same (y.results m)));
    frames = ((n, m, term), body_part, subst (λ w. TypeFits w (wanted p y s.frames)) (sym facts.term.0) control_fits.1, fits.frames);
    control_keeps = bound_keeps;
    frames_keep = (body_keeps, fits.frames_keep);
  }

  pub let_refers : (a : ℕ) → thread_refers a after ≡ true → thread_refers a s ≡ true
  let_refers a h =
      let rest = list_any (λ f. env_refers a f.env) s.frames in
      let by_env : env_refers a env ≡ true → thread_refers a s ≡ true = λ r. or_left (control_refers a s.control) rest (ap (control_refers a) at ∙ r) in
      ⊎_elim
      (λ l. by_env (narrow_refers bound_test env bound_env a bound_narrows l))
      (λ r. ⊎_elim
      (λ l. by_env (narrow_refers body_test env body_env a body_narrows l))
      (λ k. or_right (control_refers a s.control) rest k)
      (or_cases (env_refers a body_env) rest r))
      (or_cases (env_refers a bound_env) (env_refers a body_env || rest) h)

  pub let_balanced : (c : Config) (t : ℕ) → thread_at c t ≡ Some s → (a : ℕ) → Balanced (holdings p y interfaces c a) (pending c a) → Balanced (holdings p y interfaces (with_thread c t after) a) (pending c a)
  let_balanced c t there a bal =
      let ms = map (message_held p interfaces a) c.messages in
      let fs = map (frame_held y a) s.frames in
      let split = split_thread p y a t s c.threads there in
      let old = subst (λ l. Balanced (l ++ ms) (pending c a)) split.now_is bal in
      let stands = subst (λ k. Balanced ((split.before ++ ((control_held p y a k s.frames ∷ fs) ++ split.after)) ++ ms) (pending c a)) at old in
      let done = one_to_two split.before fs split.after ms (was a) (bound_held a) (body_held a) (pending c a) (split_refine (was a) (bound_held a) (body_held a) (pending c a) (splits a)) stands in
      subst (λ l. Balanced (l ++ ms) (pending c a)) (sym (split.changed_is after)) done

-- the law for a let
pub let_keeps : (p : Program) (y : Typing) (interfaces : ℕ → ℕ) (c : Config) (t : ℕ) (s : Thread) (x : Option ℕ) (m b : ℕ) (env : Env) → WellFormed p → (typed : IsTyped p y interfaces c) → thread_at c t ≡ Some s → StandsAt p s.control (Let x m b) env → IsTyped p y interfaces (with_thread c t (thread_of (at_node p m env) (frame_of p x b env ∷ s.frames)))
let_keeps p y interfaces c t s x m b env wf typed there at =
    let fits = lookup_all (λ s. ThreadFits p y interfaces s) c.threads t s typed.threads there in
    replace_keeps p y interfaces c t s (thread_of (at_node p m env) (frame_of p x b env ∷ s.frames)) typed there
    (let_fits p y interfaces s at.node m b x env wf typed.typing fits at.control_is at.term)
    (let_refers p y interfaces s at.node m b x env wf typed.typing fits at.control_is at.term)
    (let_balanced p y interfaces s at.node m b x env wf typed.typing fits at.control_is at.term c t there)
