-- A typed configuration has no failing guard and no unexpected message.
use Rattle.std.proofs.Common.{◌≡◌, ℕ, suc, ◌≤◌, true, ◌||◌, ◌&&◌, not, nat_eq, List, [], ◌∷◌, ◌++◌, length, map, Option, Some, None, refl, sym, ap, ◌∙◌, subst, arith, append_assoc, ⊎_elim}
use Rattle.std.specs.Prelude.{is_some, option_and_then}
use Rattle.std.specs.List.{list_any}
use Rattle.std.proofs.lemmas.Bool.{or_left, eq-eqb, eqb-true, and_from, and_parts, cond-true}
use Rattle.pat_words_spec.specs.Words.{Word, no_word, plus, LiesIn}
use Rattle.pat_words_spec.specs.Patterns.{Pat, In}
use Rattle.pat_words_laws.proofs.WordLaws.{plus_none}
use Rattle.pat_semantics_spec.specs.Values.{Value, Const, Mailbox, Kind, MailboxOf, value_at, ValueFits, ValuesFit}
use Rattle.pat_semantics_spec.specs.Programs.{Program, Polarity, Sending, Receiving, TagDecl, Clause, Core, Guard, core_at, tag_at, kind_of, is_among, is_free, option_list, clause_uses, KindAt}
use Rattle.pat_semantics_spec.specs.WellFormed.{WellFormed, VarsHaveKinds, ClauseKinds}
use Rattle.pat_semantics_spec.specs.Configs.{Running, Thread, Message, Config, with_thread, env_refers, thread_refers, message_refers, has_pending, other_refers, is_reached_by_none_but, pending}
use Rattle.pat_semantics_spec.specs.Steps.{Act, ActFree, ActReceive, redex_at, step, thread_step, thread_of, at_node, received, free_at, free_mailbox, receive_at, receive_from, receive_message, clause_for, message_at, without_message}
use Rattle.pat_semantics_spec.specs.Faults.{IsIn, GuardAt, IsDisabled, IsAsDeclared, FailingGuard, no_clause, starved, UnexpectedMessage, too_many, undeclared}
use Rattle.pat_semantics_laws.proofs.FreeVars.{free_unfolds}
use Rattle.pat_type_system_spec.specs.Types.{Returnable, MailboxType, kind_of_type}
use Rattle.pat_type_system_spec.specs.Typings.{Typing, GuardTyped, ClauseTyped, is_received}
use Rattle.pat_type_system_spec.specs.Holdings.{Holding, held, frame_held, message_held, holdings, receives_by, receivers, SendsBy, Choice, Balanced}
use Rattle.pat_type_system_spec.specs.Typed.{IsTyped, ThreadFits, PartFits, MessageFits}
use Rattle.pat_safety_laws.proofs.Balance.{balance_front}
use Rattle.pat_semantics_laws.proofs.Threads.{lookup_all, lookup_any}
use Rattle.pat_safety_laws.proofs.ThreadHoldings.{split_thread}
use Rattle.pat_type_system_laws.proofs.Nodes.{NodeFacts, node_facts}
use Rattle.pat_safety_laws.proofs.Refers.{AllNone, none-append, frames_none, messages_none, value_refers}
use Rattle.pat_safety_laws.proofs.Envs.{held_cases, HeldCases, by_variable, by_none}
use Rattle.pat_safety_laws.proofs.Narrow.{usage_back}
use Rattle.pat_safety_laws.proofs.Received.{found_clause}
use Rattle.pat_safety_laws.proofs.FaultParts.{part_interface, message_declared}
use Rattle.pat_safety_laws.proofs.FaultGuard.{AllHaveWords, HoldingHasWord, some_choice, all_words, none_chosen, split_alone, pending_message, nothing_pending, found_by_tag}
use Rattle.pat_semantics_laws.proofs.Lists.{clash, not_true, all_front, is_in_all, only_first}
use Rattle.pat_safety_laws.proofs.Envs.{env_fits}
use Rattle.pat_semantics_laws.proofs.Inversion.{after_free}
use Rattle.std.specs.Map.{keys_of}
use Rattle.pat_semantics_laws.proofs.Ascending.{ascends_distinct}
use Rattle.pat_semantics_laws.proofs.Leasts.{message_is_found}

vars_length : (vars : List Kind) (xs : List ℕ) (ks : List Kind) → VarsHaveKinds vars xs ks → length xs ≡ length ks
vars_length vars [] [] h = refl
vars_length vars (x ∷ xs) (k ∷ ks) h = ap (λ n. suc n) (vars_length vars xs ks h.1)
vars_length vars [] (k ∷ ks) h = absurd h
vars_length vars (x ∷ xs) [] h = absurd h

values_length : (f : ℕ → ℕ) (vs : List Value) (ks : List Kind) → ValuesFit f vs ks → length vs ≡ length ks
values_length f [] [] h = refl
values_length f (v ∷ vs) (k ∷ ks) h = ap (λ n. suc n) (values_length f vs ks h.1)
values_length f [] (k ∷ ks) h = absurd h
values_length f (v ∷ vs) [] h = absurd h

-- what a receiving holding is, and may send
receives_one : (q : Polarity) (e : Pat) → q ≡ Receiving → receives_by q e ≡ e ∷ []
receives_one Receiving e h = refl
receives_one Sending e h = cc

sends_none : (q : Polarity) (e : Pat) → q ≡ Receiving → SendsBy q e no_word
sends_none Receiving e h = refl
sends_none Sending e h = cc

-- with the receiving holding in front, what is pending and may be sent is in its pattern
front_fits : (g : MailboxType) (rest : List Holding) (r : Word) → g.polarity ≡ Receiving → Balanced (Some g ∷ rest) r → (w : Word) → Choice (Some g ∷ rest) w → In g.pattern (plus r w)
front_fits g rest r q b w c =
    let whole : g.pattern ∷ receivers rest ≡ b.pattern ∷ [] = ap (λ l. l ++ receivers rest) (sym (receives_one g.polarity g.pattern q)) ∙ b.one_receiver in
    let same = only_first g.pattern b.pattern (receivers rest) whole in
    subst (λ (e : Pat). In e (plus r w)) (sym same.0) (b.fits w c)

-- thread t stands at a guard on mailbox a
module _ (p : Program) (y : Typing) (interfaces : ℕ → ℕ) (c : Config) (wf : WellFormed p) (typed : IsTyped p y interfaces c) (t : ℕ) (g : GuardAt p c t) (a : ℕ) (names : value_at g.env g.var ≡ Some (Mailbox a)) where
  abbrev n : ℕ
  n = g.node

  abbrev s : Thread
  s = thread_of (Running g.node g.env) g.frames

  abbrev core : Core
  core = Guard g.var g.pattern g.free g.receives

  facts : NodeFacts p y n core
  facts = node_facts p y n core wf typed.typing g.term

  guard : GuardTyped p y (y.envs n) (y.results n) g.var g.pattern g.free g.receives
  guard = facts.term

  fits : ThreadFits p y interfaces s
  fits = lookup_all (λ s. ThreadFits p y interfaces s) c.threads t s typed.threads g.stands

  part : PartFits p interfaces n [] g.env
  part = fits.control.0

  live : is_among a c.live ≡ true
  live =
      typed.numbers.threads_live a
      (lookup_any (thread_refers a) c.threads t s g.stands
      (or_left (env_refers a g.env) (list_any (λ f. env_refers a f.env) g.frames) (value_refers g.env g.var a names)))

  abbrev guarded : MailboxType
  guarded = guard.guarded

  held_is : held (y.envs n) a g.env ≡ Some guarded
  held_is = go (held_cases (y.envs n) a 0 g.env part.keys)
    where
      go : HeldCases (y.envs n) a g.env → held (y.envs n) a g.env ≡ Some guard.guarded
      go (by_variable z at is) = is ∙ ap (y.envs n) (part.different z g.var a at names) ∙ guard.named
      go (by_none none is) = absurd (none g.var names)

  in_pattern : (w : Word) → In guarded.pattern w → In g.pattern w
  in_pattern w h = guard.fits.pattern w h

  abbrev ms : List Holding
  ms = map (message_held p interfaces a) c.messages

  -- what is pending with some word is in the pattern
  pub some_fits : (w : Word) × In g.pattern (plus (pending c a) w)
  some_fits =
      let split = split_thread p y a t s c.threads g.stands in
      let gs = map (frame_held y a) g.frames in
      let h = held (y.envs n) a g.env in
      let rest = (gs ++ split.after) ++ ms in
      let flat : holdings p y interfaces c a ≡ split.before ++ (h ∷ rest) =
      ap (λ l. l ++ ms) split.now_is ∙ append_assoc split.before ((h ∷ gs) ++ split.after) ms in
      let front = balance_front split.before h rest (pending c a) (subst (λ l. Balanced l (pending c a)) flat (typed.balanced a live)) in
      let words = all_front HoldingHasWord split.before h rest (subst AllHaveWords flat (all_words p y interfaces c wf typed a)) in
      let bal = subst (λ k. Balanced (k ∷ (split.before ++ rest)) (pending c a)) held_is front in
      let has = subst (λ k. AllHaveWords (k ∷ (split.before ++ rest))) held_is words in
      let w = some_choice (Some guarded ∷ (split.before ++ rest)) has in
      (w.0, in_pattern (plus (pending c a) w.0) (front_fits guarded (split.before ++ rest) (pending c a) guard.fits.polarity bal w.0 w.1))

  -- where nobody else refers to the mailbox, what is pending is in the pattern
  pub alone_fits : is_reached_by_none_but c a t ≡ true → In g.pattern (pending c a)
  alone_fits reached =
      let parts = and_parts (not (other_refers a t c.threads)) (not (list_any (message_refers a) c.messages)) reached in
      let split = split_alone p y a t s c.threads g.stands (ascends_distinct 0 (keys_of c.threads) typed.numbers.ordered.threads) (not_true (other_refers a t c.threads) parts.0) in
      let gs = map (frame_held y a) g.frames in
      let h = held (y.envs n) a g.env in
      let rest = (gs ++ split.after) ++ ms in
      let flat : holdings p y interfaces c a ≡ split.before ++ (h ∷ rest) =
      ap (λ l. l ++ ms) split.now_is ∙ append_assoc split.before ((h ∷ gs) ++ split.after) ms in
      let front = balance_front split.before h rest (pending c a) (subst (λ l. Balanced l (pending c a)) flat (typed.balanced a live)) in
      let bal = subst (λ k. Balanced (k ∷ (split.before ++ rest)) (pending c a)) held_is front in
      let apart = fits.control_keeps a guarded held_is (usage_back guarded.usage Returnable guard.fits.usage refl) in
      let none : AllNone (split.before ++ rest) =
      none-append split.before rest split.before_none
      (none-append (gs ++ split.after) ms (none-append gs split.after (frames_none y a g.frames apart) split.after_none)
      (messages_none p interfaces a c.messages (not_true (list_any (message_refers a) c.messages) parts.1))) in
      let chosen : Choice (Some guarded ∷ (split.before ++ rest)) no_word =
      (no_word, no_word, sends_none guarded.polarity guarded.pattern guard.fits.polarity, none_chosen (split.before ++ rest) none, sym (plus_none no_word)) in
      subst (In g.pattern) (plus_none (pending c a)) (in_pattern (plus (pending c a) no_word) (front_fits guarded (split.before ++ rest) (pending c a) guard.fits.polarity bal no_word chosen))

  -- ---- what is enabled

  step_is : (act : Act) → step p c (record { thread = t; act = act }) ≡ thread_step p c t s act
  step_is act = ap (λ o. option_and_then (λ s. thread_step p c t s act) o) g.stands

  some_none : {A : Type 0} {x : A} (o : Option A) → o ≡ Some x → o ≡ None → ⊥
  some_none o h k = let e = sym h ∙ k in cc

  free_enabled : (m : ℕ) → g.free ≡ Some m → pending c a ≡ no_word → is_reached_by_none_but c a t ≡ true → IsDisabled p c t ActFree → ⊥
  free_enabled m free empty reached off =
      let test = is_among a c.live && (not (has_pending a c.messages) && is_reached_by_none_but c a t) in
      let on : test ≡ true =
      and_from (is_among a c.live) (not (has_pending a c.messages) && is_reached_by_none_but c a t) live
      (and_from (not (has_pending a c.messages)) (is_reached_by_none_but c a t) (ap not (nothing_pending a c.messages empty)) reached) in
      let made = after_free p c t g.frames m g.env a in
      let is : step p c (record { thread = t; act = ActFree }) ≡ Some made =
      step_is ActFree
      ∙ ap (λ o. free_at p c t g.frames (redex_at o g.env)) g.term
      ∙ ap (λ o. free_mailbox p c t g.frames g.free g.env o) names
      ∙ ap (λ o. free_mailbox p c t g.frames o g.env (Some (Mailbox a))) free
      ∙ cond-true test (Some made) None on in
      some_none (step p c (record { thread = t; act = ActFree })) is off

  receive_enabled : (tag : ℕ) → is_received g.receives tag ≡ true → 1 ≤ pending c a tag → ((k : ℕ) → IsDisabled p c t (ActReceive k)) → ⊥
  receive_enabled tag received_tag there off =
      let q = pending_message a tag c.messages there in
      let m = q.message in
      let found = message_is_found c m typed.numbers.ordered q.is_in in
      let chosen = found_by_tag g.receives tag received_tag in
      let r = chosen.0 in
      let chosen_m : clause_for m.tag g.receives ≡ Some r = ap (λ k. clause_for k g.receives) q.tag_is ∙ chosen.1 in
      let gi = guard.guarded.interface in
      let vars = facts.fits.function.vars in
      let clause = found_clause (ClauseTyped p y (y.envs n) (y.results n) g.var gi g.pattern) m.tag g.receives r guard.receives chosen_m in
      let kinds = found_clause (ClauseKinds p vars facts.kinds.0 (kind_of_type (y.results n))) m.tag g.receives r facts.kinds.4 chosen_m in
      let message_fits = is_in_all (MessageFits p interfaces) c.messages m typed.messages q.is_in in
      let own : m.mailbox ≡ a = eqb-true m.mailbox a q.mailbox in
      let interface_is : interfaces a ≡ facts.kinds.0 =
      env_fits p y interfaces n core g.env facts part g.var (Mailbox a) (MailboxOf facts.kinds.0) names facts.kinds.1 in
      let declared : tag_at p (interfaces m.mailbox) m.tag ≡ Some kinds.0.decl =
      ap (λ b. tag_at p (interfaces b) m.tag) own ∙ ap (λ i. tag_at p i m.tag) interface_is ∙ ap (λ k. tag_at p facts.kinds.0 k) (sym kinds.1) ∙ kinds.0.declared in
      let both : Some message_fits.decl ≡ Some kinds.0.decl = sym message_fits.declared ∙ declared in
      let same : message_fits.decl ≡ kinds.0.decl = some_same message_fits.decl kinds.0.decl both in
      let lengths : length r.vars ≡ length m.values =
      vars_length vars r.vars (map kind_of kinds.0.decl.payloads) kinds.0.payloads
      ∙ ap (λ (d : TagDecl). length (map kind_of d.payloads)) (sym same)
      ∙ sym (values_length interfaces m.values (map kind_of message_fits.decl.payloads) message_fits.values) in
      let test = nat_eq m.mailbox a && nat_eq (length r.vars) (length m.values) in
      let on : test ≡ true = and_from (nat_eq m.mailbox a) (nat_eq (length r.vars) (length m.values)) q.mailbox (eq-eqb (length r.vars) (length m.values) lengths) in
      let made = with_thread (without_message c m.number) t (thread_of (at_node p r.body (received r m g.env)) g.frames) in
      let is : step p c (record { thread = t; act = ActReceive m.number }) ≡ Some made =
      step_is (ActReceive m.number)
      ∙ ap (λ o. receive_at p c t g.frames m.number (redex_at o g.env)) g.term
      ∙ ap (λ o. receive_from p c t g.frames g.receives g.env o (message_at c m.number)) names
      ∙ ap (λ o. receive_from p c t g.frames g.receives g.env (Some (Mailbox a)) o) found
      ∙ ap (λ o. receive_message p c t g.frames g.receives g.env a m o) chosen_m
      ∙ cond-true test (Some made) None on in
      some_none (step p c (record { thread = t; act = ActReceive m.number })) is (off m.number)
    where
      some_same : {A : Type 0} (x z : A) → Some x ≡ Some z → x ≡ z
      some_same x z h = cc

  pub not_starved : ((k : ℕ) → IsDisabled p c t (ActReceive k)) → IsDisabled p c t ActFree → is_reached_by_none_but c a t ≡ true → ⊥
  not_starved no_receive no_free reached =
      ⊎_elim
      (λ empty. let m = some_free g.free refl empty.0 in free_enabled m.0 m.1 empty.1 reached no_free)
      (λ more. receive_enabled more.0 more.1 more.2 no_receive)
      (guard.covers (pending c a) (alone_fits reached))
    where
      some_free : (o : Option ℕ) → g.free ≡ o → is_some g.free ≡ true → (m : ℕ) × (g.free ≡ Some m)
      some_free None e h = absurd (clash h (ap is_some e))
      some_free (Some m) e h = (m, e)

  pub not_too_many : ((w : Word) → In g.pattern w → LiesIn (pending c a) w → ⊥) → ⊥
  not_too_many off =
      let w = some_fits in
      off (plus (pending c a) w.0) w.1 (λ t. omega arith)

  pub has_clause : g.free ≡ None → g.receives ≡ [] → ⊥
  has_clause free none =
      let w = some_fits in
      ⊎_elim
      (λ empty. clash empty.0 (ap is_some free))
      (λ more. clash more.1 (ap (λ cs. is_received cs more.0) none))
      (guard.covers (plus (pending c a) w.0) w.1)

  pub is_declared : (i : ℕ) (m : Message) → KindAt p n g.var (MailboxOf i) → IsIn m c.messages → m.mailbox ≡ a → IsAsDeclared p i m
  is_declared i m kind is_in own =
      message_declared p interfaces i m (is_in_all (MessageFits p interfaces) c.messages m typed.messages is_in)
      (ap interfaces own ∙ part_interface p interfaces n [] g.env part g.var a i names kind)

-- a guard's variable is free in it
guard_free : (p : Program) (n x : ℕ) (e : Pat) (free : Option ℕ) (cs : List Clause) → WellFormed p → core_at p n ≡ Some (Guard x e free cs) → is_free p x n ≡ true
guard_free p n x e free cs wf at =
    free_unfolds p x n (Guard x e free cs) wf at
    ∙ or_left (nat_eq x x) (list_any (is_free p x) (option_list free) || list_any (clause_uses (is_free p x) x) cs) (eq-eqb x x refl)

-- a guard's variable names a mailbox
pub guard_names : (p : Program) (y : Typing) (interfaces : ℕ → ℕ) (c : Config) (wf : WellFormed p) (typed : IsTyped p y interfaces c) (t : ℕ) (g : GuardAt p c t) → (a : ℕ) × (value_at g.env g.var ≡ Some (Mailbox a))
guard_names p y interfaces c wf typed t g =
    let s = thread_of (Running g.node g.env) g.frames in
    let core = Guard g.var g.pattern g.free g.receives in
    let facts = node_facts p y g.node core wf typed.typing g.term in
    let fits = lookup_all (λ s. ThreadFits p y interfaces s) c.threads t s typed.threads g.stands in
    let part = fits.control.0 in
    let free = guard_free p g.node g.var g.pattern g.free g.receives wf g.term in
    let v = part.values g.var free refl in
    let fit = env_fits p y interfaces g.node core g.env facts part g.var v.0 (MailboxOf facts.kinds.0) v.1 facts.kinds.1 in
    let a = a_name interfaces v.0 facts.kinds.0 fit in
    (a.0, v.1 ∙ ap (λ w. Some w) a.1)
  where
    a_name : (f : ℕ → ℕ) (v : Value) (i : ℕ) → ValueFits f v (MailboxOf i) → (a : ℕ) × (v ≡ Mailbox a)
    a_name f (Mailbox a) i h = (a, refl)
    a_name f (Const k) i h = absurd h

pub not_failing : (p : Program) (y : Typing) (interfaces : ℕ → ℕ) (c : Config) → WellFormed p → IsTyped p y interfaces c → FailingGuard p c → ⊥
not_failing p y interfaces c wf typed (no_clause t g free none) =
    let a = guard_names p y interfaces c wf typed t g in has_clause p y interfaces c wf typed t g a.0 a.1 free none
not_failing p y interfaces c wf typed (starved t a g no_receive no_free reached) =
    not_starved p y interfaces c wf typed t g.guard a g.names no_receive no_free reached

pub not_unexpected : (p : Program) (y : Typing) (interfaces : ℕ → ℕ) (c : Config) → WellFormed p → IsTyped p y interfaces c → UnexpectedMessage p c → ⊥
not_unexpected p y interfaces c wf typed (too_many t a g off) = not_too_many p y interfaces c wf typed t g.guard a g.names off
not_unexpected p y interfaces c wf typed (undeclared t a i g m kind is_in own off) =
    off (is_declared p y interfaces c wf typed t g.guard a g.names i m kind is_in own)
