-- A send keeps a configuration typed.
use Rattle.std.proofs.Common.{◌≡◌, ℕ, ◌+◌, true, false, nat_eq, List, [], ◌∷◌, ◌++◌, map, Some, None, refl, sym, ap, ◌∙◌, subst, arith, append_assoc, ⊎_elim}
use Rattle.std.specs.Prelude.{slice_get}
use Rattle.std.specs.List.{AllByRecursion, IsDistinct, list_any}
use Rattle.std.proofs.lemmas.Bool.{eq-eqb, eqb-true, eqb-false, ne_eqb, or_left, or_right, or_cases, cases_Bool, cond-true, cond-false}
use Rattle.pat_words_spec.specs.Words.{Word, no_word, one, plus}
use Rattle.pat_words_spec.specs.Patterns.{Pat, Tag, Included}
use Rattle.pat_words_laws.proofs.WordLaws.{word_ext}
use Rattle.pat_semantics_spec.specs.Values.{Value, Mailbox, Kind, MailboxOf, value_at, ValueFits}
use Rattle.pat_semantics_spec.specs.Programs.{Program, Polarity, Sending, Receiving, TagDecl, Core, Send, tag_at, kind_of, is_among}
use Rattle.pat_semantics_spec.specs.WellFormed.{WellFormed, IsPayload, HaveKinds}
use Rattle.pat_semantics_spec.specs.Configs.{Running, Thread, Message, Config, thread_at, with_thread, is_mailbox, env_refers, control_refers, thread_refers, message_refers, has_pending, pending, pending_in}
use Rattle.pat_semantics_spec.specs.Steps.{ActSend, step, redex, returned_unit}
use Rattle.pat_type_system_spec.specs.Types.{Usage, Second, MailboxType, mailbox_type, TypeEnv, PassesTo}
use Rattle.pat_type_system_spec.specs.Typings.{Typing, payload_type, args_need, mailbox_args}
use Rattle.pat_type_system_spec.specs.Holdings.{Holding, held, control_held, frame_held, payload_held, declared_types, message_held, holdings, Balanced}
use Rattle.pat_type_system_spec.specs.Typed.{IsTyped, ThreadFits, ControlFits, PartFits, MessageFits, NumbersFit, mailboxes_of}
use Rattle.pat_safety_laws.proofs.Balance.{Refines, quiet, refine_balance, passes_refine, balance_front, balance_back, choice_one, choice_of_one, nothing_more}
use Rattle.pat_semantics_laws.proofs.Threads.{lookup_all, lookup_any, set_all, set_any}
use Rattle.pat_safety_laws.proofs.ThreadHoldings.{split_thread}
use Rattle.pat_semantics_laws.proofs.Inversion.{step_of, SendStep, send_step}
use Rattle.pat_type_system_laws.proofs.Nodes.{NodeFacts, node_facts}
use Rattle.pat_safety_laws.proofs.Refers.{value_refers, payload_none}
use Rattle.pat_safety_laws.proofs.Messages.{pending_own, pending_other}
use Rattle.pat_safety_laws.proofs.Envs.{held_cases, HeldCases, by_variable, by_none}
use Rattle.pat_type_system_laws.proofs.Named.{payloads_typed, tag_payloads, target_same}
use Rattle.pat_safety_laws.proofs.Envs.{env_fits}
use Rattle.pat_safety_laws.proofs.Payloads.{names_head}
use Rattle.pat_safety_laws.proofs.Replace.{unit_fits, unit_refers}
use Rattle.pat_safety_laws.proofs.Args.{all_fit, args_refer, names_apart, names_distinct, args_pass}
use Rattle.pat_semantics_laws.proofs.Lists.{distinct_parts, distinct_join, any-append, all_snoc, nil_right, map_snoc}
use Rattle.pat_semantics_spec.specs.Orders.{IsOrdered}
use Rattle.pat_semantics_laws.proofs.Ordered.{step_keeps_order}

-- ---- balance

-- what may send a message's tag sends it
sends_tag : (i : ℕ) (q : Polarity) (e : Pat) (u : Usage) (m : ℕ) (r : Word) → q ≡ Sending → Included (Tag m) e → Refines (Some (mailbox_type i q e u) ∷ []) r (None ∷ []) (plus (one m) r)
sends_tag i Sending e u m r same h =
    quiet refl refl
    (λ w c.
    let n : w ≡ no_word = choice_of_one None w c in (
      one m,
      choice_one (Some (mailbox_type i Sending e u)) (one m) (h (one m) refl),
      ap (λ (x : Word). plus (plus (one m) r) x) n ∙ word_ext (plus (plus (one m) r) no_word) (plus r (one m)) (λ t. omega arith),
    ))
sends_tag i Receiving e u m r same h = cc

send_refine : (h : Holding) (i m : ℕ) (r : Word) → PassesTo h (Some (mailbox_type i Sending (Tag m) Second)) → Refines (h ∷ []) r (None ∷ []) (plus (one m) r)
send_refine None i m r p = absurd p
send_refine (Some a) i m r p = sends_tag a.interface a.polarity a.pattern a.usage m r p.polarity p.pattern

-- the holding of a message goes to the end, and none stays in the control's place
send_place : (before fs after mh : List Holding) (k : Holding) (r : Word) → Balanced (None ∷ k ∷ (before ++ ((fs ++ after) ++ mh))) r → Balanced ((before ++ ((None ∷ fs) ++ after)) ++ (mh ++ k ∷ [])) r
send_place before fs after mh k r b =
    let threads = before ++ ((None ∷ fs) ++ after) in
    let two = balance_back (k ∷ before) None ((fs ++ after) ++ mh) r b in
    let flat : before ++ (None ∷ ((fs ++ after) ++ mh)) ≡ (threads ++ mh) ++ [] =
    sym (append_assoc before ((None ∷ fs) ++ after) mh) ∙ sym (nil_right (threads ++ mh)) in
    let three = balance_back (threads ++ mh) k [] r (subst (λ l. Balanced (k ∷ l) r) flat two) in
    subst (λ l. Balanced l r) (append_assoc threads mh (k ∷ [])) three

-- ---- the step

module _ (p : Program) (y : Typing) (interfaces : ℕ → ℕ) (c : Config) (t : ℕ) (s : Thread) (d : Config) (wf : WellFormed p) (typed : IsTyped p y interfaces c) (there : thread_at c t ≡ Some s) (q : SendStep p c t s d) where
  abbrev n : ℕ
  n = q.at.node

  abbrev a : ℕ
  a = q.mailbox

  abbrev unit : Thread
  unit = returned_unit s.frames

  abbrev message : Message
  message = record { number = c.next_message; mailbox = q.mailbox; tag = q.tag; values = q.values }

  abbrev after : Config
  after = record (with_thread c t unit) { messages = c.messages ++ message ∷ []; next_message = c.next_message + 1 }

  abbrev core : Core
  core = Send q.var q.tag q.args

  facts : NodeFacts p y n core
  facts = node_facts p y n core wf typed.typing q.at.term

  old_fits : ThreadFits p y interfaces s
  old_fits = lookup_all (λ s. ThreadFits p y interfaces s) c.threads t s typed.threads there

  control_fits : ControlFits p y interfaces (Running n q.env) s.frames
  control_fits = subst (λ k. ControlFits p y interfaces k s.frames) q.at.control_is old_fits.control

  part : PartFits p interfaces n [] q.env
  part = control_fits.0

  abbrev i : ℕ
  i = facts.term.0

  abbrev decl : TagDecl
  decl = facts.term.1

  abbrev types : TypeEnv
  types = payload_type facts.term.1

  abbrev target : MailboxType
  target = mailbox_type facts.term.0 Sending (Tag q.tag) Second

  fit : (x : ℕ) (v : Value) (k : Kind) → value_at q.env x ≡ Some v → slice_get facts.fits.function.vars x ≡ Some k → ValueFits interfaces v k
  fit = env_fits p y interfaces n core q.env facts part

  target_passes : PassesTo (y.envs n q.var) (Some target)
  target_passes =
      subst (λ o. PassesTo (y.envs n q.var) o)
      (cond-true (nat_eq q.var q.var) (Some target) (args_need types 0 q.args q.var) (eq-eqb q.var q.var refl)) (facts.term.4 q.var)

  same_interface : facts.kinds.1.0 ≡ i
  same_interface = target_same p y n q.var facts.kinds.1.0 core facts i target refl target_passes facts.kinds.1.2

  same_decl : facts.kinds.1.1 ≡ decl
  same_decl =
      let e : Some facts.kinds.1.1 ≡ Some decl = sym facts.kinds.1.3 ∙ ap (λ j. tag_at p j q.tag) same_interface ∙ facts.term.2 in cc

  have_kinds : HaveKinds facts.fits.function.vars q.args (map kind_of facts.term.1.payloads)
  have_kinds = subst (λ (w : TagDecl). HaveKinds facts.fits.function.vars q.args (map kind_of w.payloads)) same_decl facts.kinds.1.4

  interface_is : interfaces a ≡ i
  interface_is = fit q.var (Mailbox a) (MailboxOf facts.kinds.1.0) q.target facts.kinds.1.2 ∙ same_interface

  declared : tag_at p (interfaces a) q.tag ≡ Some decl
  declared = ap (λ j. tag_at p j q.tag) interface_is ∙ facts.term.2

  payloads : AllByRecursion (IsPayload p) facts.term.1.payloads
  payloads = tag_payloads p wf i q.tag facts.term.1 facts.term.2

  apart_args : AllByRecursion (λ z. nat_eq q.var z ≡ false) (mailbox_args types 0 q.args)
  apart_args = (distinct_parts q.var (mailbox_args types 0 q.args) facts.term.3).0

  distinct_args : IsDistinct nat_eq (mailbox_args types 0 q.args)
  distinct_args = (distinct_parts q.var (mailbox_args types 0 q.args) facts.term.3).1

  message_distinct : IsDistinct nat_eq (a ∷ mailboxes_of q.values)
  message_distinct =
      distinct_join a (mailboxes_of q.values)
      (names_apart interfaces facts.fits.function.vars q.env fit part.different a q.var q.target types 0 q.args facts.term.1.payloads q.values have_kinds (payloads_typed p facts.term.1 payloads) q.payload apart_args)
      (names_distinct interfaces facts.fits.function.vars q.env fit part.different types 0 q.args facts.term.1.payloads q.values have_kinds (payloads_typed p facts.term.1 payloads) q.payload distinct_args)

  message_fits : MessageFits p interfaces message
  message_fits = record {
    decl = decl;
    declared = declared;
    values = all_fit interfaces facts.fits.function.vars q.env fit q.args (map kind_of facts.term.1.payloads) q.values have_kinds q.payload;
    different = message_distinct;
  }

  -- what the environment names is live
  env_live : (b x : ℕ) → value_at q.env x ≡ Some (Mailbox b) → is_among b c.live ≡ true
  env_live b x at =
      typed.numbers.threads_live b
      (lookup_any (thread_refers b) c.threads t s there
      (or_left (control_refers b s.control) (list_any (λ f. env_refers b f.env) s.frames) (ap (control_refers b) q.at.control_is ∙ value_refers q.env x b at)))

  refer_live : (b : ℕ) → list_any (message_refers b) (c.messages ++ message ∷ []) ≡ true → is_among b c.live ≡ true
  refer_live b h =
      ⊎_elim
      (λ l. typed.numbers.messages_live b (or_left (list_any (message_refers b) c.messages) (has_pending b c.messages) l))
      (λ r.
      let on : list_any (is_mailbox b) q.values ≡ true = ⊎_elim (λ w. w) (λ w. cc) (or_cases (list_any (is_mailbox b) q.values) false r) in
      let x = args_refer q.env b q.args q.values q.payload on in env_live b x.0 x.1)
      (any-append (message_refers b) c.messages (message ∷ []) h)

  pending_live : (b : ℕ) → has_pending b (c.messages ++ message ∷ []) ≡ true → is_among b c.live ≡ true
  pending_live b h =
      ⊎_elim
      (λ l. typed.numbers.messages_live b (or_right (list_any (message_refers b) c.messages) (has_pending b c.messages) l))
      (λ r.
      let on : nat_eq a b ≡ true = ⊎_elim (λ w. w) (λ w. cc) (or_cases (nat_eq a b) false r) in
      env_live b q.var (q.target ∙ ap (λ z. Some (Mailbox z)) (eqb-true a b on)))
      (any-append (λ m. nat_eq m.mailbox b) c.messages (message ∷ []) h)

  numbers' : IsOrdered after → NumbersFit after
  numbers' ordered = record {
    ordered = ordered;
    threads_live = λ b h.
        typed.numbers.threads_live b
        (⊎_elim (λ here. lookup_any (thread_refers b) c.threads t s there (unit_refers s b here)) (λ x. x) (set_any (thread_refers b) c.threads t unit h));
    messages_live = λ b h.
        ⊎_elim (λ l. refer_live b l) (λ r. pending_live b r)
        (or_cases (list_any (message_refers b) (c.messages ++ message ∷ [])) (has_pending b (c.messages ++ message ∷ [])) h);
  }

  -- what a message holds
  abbrev sent : ℕ → Holding
  sent b = payload_held b types 0 q.values

  sent_is : (b : ℕ) → message_held p interfaces b message ≡ sent b
  sent_is b = ap (λ o. payload_held b (declared_types o) 0 q.values) declared

  own_unsent : sent a ≡ None
  own_unsent = payload_none a types 0 q.values (names_head a q.values message_distinct)

  own_held : HeldCases (y.envs n) a q.env → held (y.envs n) a q.env ≡ y.envs n q.var
  own_held (by_variable z at is) = is ∙ ap (y.envs n) (part.different z q.var a at q.target)
  own_held (by_none none is) = absurd (none q.var q.target)

  other_passes : (b : ℕ) → nat_eq b a ≡ false → PassesTo (held (y.envs n) b q.env) (sent b)
  other_passes b off =
      args_pass interfaces facts.fits.function.vars q.env fit part.keys part.different (y.envs n) types q.args facts.term.1.payloads q.values have_kinds (payloads_typed p facts.term.1 payloads) q.payload b
      (λ x at.
      let apart : nat_eq q.var x ≡ false = ne_eqb q.var x (λ e. let w : Some (Mailbox a) ≡ Some (Mailbox b) = sym q.target ∙ ap (value_at q.env) e ∙ at in eqb-false b a off cc) in
      subst (λ o. PassesTo (y.envs n x) o) (cond-false (nat_eq q.var x) (Some target) (args_need types 0 q.args x) apart) (facts.term.4 x))

  abbrev rest : (b : ℕ) → List Holding → List Holding → List Holding
  rest b before behind = before ++ ((map (frame_held y b) s.frames ++ behind) ++ map (message_held p interfaces b) c.messages)

  -- the control's holding at the front gives way to none, and to the message's
  turn : (b : ℕ) (ks : List Holding) → Balanced (held (y.envs n) b q.env ∷ ks) (pending c b) → Balanced (None ∷ sent b ∷ ks) (pending after b)
  turn b ks bal =
      let h = held (y.envs n) b q.env in
      ⊎_elim
      (λ own.
      let same : b ≡ a = eqb-true b a own in
      let on : nat_eq a b ≡ true = eq-eqb a b (sym same) in
      let passes : PassesTo h (Some target) = subst (λ w. PassesTo w (Some target)) (sym (ap (λ z. held (y.envs n) z q.env) same ∙ own_held (held_cases (y.envs n) a 0 q.env part.keys))) target_passes in
      let sends = refine_balance (h ∷ []) (None ∷ []) ks (pending c b) (plus (one q.tag) (pending c b)) (send_refine h i q.tag (pending c b) passes) bal in
      let more = refine_balance [] (None ∷ []) (None ∷ ks) (plus (one q.tag) (pending c b)) (plus (one q.tag) (pending c b)) (nothing_more (plus (one q.tag) (pending c b))) sends in
      let none : sent b ≡ None = ap sent same ∙ own_unsent in
      let now : pending after b ≡ plus (one q.tag) (pending c b) = pending_own b c.messages message [] on ∙ ap (λ l. plus (one q.tag) (pending_in b l)) (nil_right c.messages) in
      subst (λ w. Balanced (None ∷ sent b ∷ ks) w) (sym now) (subst (λ k. Balanced (None ∷ k ∷ ks) (plus (one q.tag) (pending c b))) (sym none) more))
      (λ off.
      let out : nat_eq a b ≡ false = ne_eqb a b (λ e. eqb-false b a off (sym e)) in
      let passed = refine_balance (h ∷ []) (sent b ∷ []) ks (pending c b) (pending c b) (passes_refine h (sent b) (pending c b) (other_passes b off)) bal in
      let more = refine_balance [] (None ∷ []) (sent b ∷ ks) (pending c b) (pending c b) (nothing_more (pending c b)) passed in
      let now : pending after b ≡ pending c b = pending_other b c.messages message [] out ∙ ap (pending_in b) (nil_right c.messages) in
      subst (λ w. Balanced (None ∷ sent b ∷ ks) w) (sym now) more)
      (cases_Bool (nat_eq b a))

  balanced' : (b : ℕ) → Balanced (holdings p y interfaces c b) (pending c b) → Balanced (holdings p y interfaces after b) (pending after b)
  balanced' b bal =
      let mh = map (message_held p interfaces b) c.messages in
      let fs = map (frame_held y b) s.frames in
      let split = split_thread p y b t s c.threads there in
      let h = held (y.envs n) b q.env in
      let flat : holdings p y interfaces c b ≡ split.before ++ (h ∷ ((fs ++ split.after) ++ mh)) =
      ap (λ l. l ++ mh) split.now_is
      ∙ ap (λ k. (split.before ++ ((control_held p y b k s.frames ∷ fs) ++ split.after)) ++ mh) q.at.control_is
      ∙ append_assoc split.before ((h ∷ fs) ++ split.after) mh in
      let front = balance_front split.before h ((fs ++ split.after) ++ mh) (pending c b) (subst (λ l. Balanced l (pending c b)) flat bal) in
      let turned = turn b (split.before ++ ((fs ++ split.after) ++ mh)) front in
      let placed = send_place split.before fs split.after mh (sent b) (pending after b) turned in
      let now : holdings p y interfaces after b ≡ (split.before ++ ((None ∷ fs) ++ split.after)) ++ (mh ++ sent b ∷ []) =
      ap (λ l. l ++ map (message_held p interfaces b) (c.messages ++ message ∷ [])) (split.changed_is unit)
      ∙ ap (λ l. (split.before ++ ((None ∷ fs) ++ split.after)) ++ l) (map_snoc (message_held p interfaces b) c.messages message ∙ ap (λ k. mh ++ k ∷ []) (sent_is b)) in
      subst (λ l. Balanced l (pending after b)) (sym now) placed

  sent_typed : IsOrdered after → IsTyped p y interfaces after
  sent_typed ordered = record {
    typing = typed.typing;
    numbers = numbers' ordered;
    threads = set_all (λ e. ThreadFits p y interfaces e.1) c.threads t unit (λ e h. unit_fits p y interfaces s n q.env old_fits q.at.control_is facts.kinds.0) typed.threads;
    messages = all_snoc (MessageFits p interfaces) c.messages message typed.messages message_fits;
    balanced = λ b live. balanced' b (typed.balanced b live);
  }

-- the law for send
pub send_keeps : (p : Program) (y : Typing) (interfaces : ℕ → ℕ) (c d : Config) (t : ℕ) → WellFormed p → IsTyped p y interfaces c → step p c (record { thread = t; act = ActSend }) ≡ Some d → IsTyped p y interfaces d
send_keeps p y interfaces c d t wf typed h =
    let o = step_of p c (record { thread = t; act = ActSend }) d h in
    let q = send_step p c t o.thread d (redex p o.thread.control) refl o.gives in
    let ordered = subst IsOrdered q.result (step_keeps_order p c d (record { thread = t; act = ActSend }) typed.numbers.ordered h) in
    subst (IsTyped p y interfaces) (sym q.result) (sent_typed p y interfaces c t o.thread d wf typed o.there q ordered)
