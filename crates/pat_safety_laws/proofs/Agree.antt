-- What fits under interfaces of mailboxes fits under others that agree on the mailboxes that are referred to.
use Rattle.std.proofs.Common.{◌≡◌, ℕ, Bool, true, ◌||◌, nat_eq, List, [], ◌∷◌, Some, refl, sym, ap, ◌∙◌, map, ⊎_elim}
use Rattle.std.proofs.lemmas.Bool.{or_left, or_right, or_cases, eq-eqb, eqb-true}
use Rattle.std.specs.List.{AllByRecursion, list_any}
use Rattle.pat_semantics_spec.specs.Values.{Value, Const, Mailbox, Kind, Plain, MailboxOf, Env, ValueFits, ValuesFit, value_at}
use Rattle.pat_semantics_spec.specs.Programs.{Program, tag_at, kind_of, option_list}
use Rattle.pat_semantics_spec.specs.Configs.{Control, Running, Returned, Frame, Thread, Message, is_mailbox, env_refers, control_refers, thread_refers, message_refers, has_pending}
use Rattle.pat_type_system_spec.specs.Types.{kind_of_type}
use Rattle.pat_type_system_spec.specs.Typings.{Typing}
use Rattle.pat_type_system_spec.specs.Holdings.{wanted, message_held, payload_held, declared_types}
use Rattle.pat_type_system_spec.specs.Typed.{PartFits, ControlFits, FramesFit, ThreadFits, MessageFits}
use Rattle.pat_safety_laws.proofs.Refers.{value_refers, name_is}

module _ (f g : ℕ → ℕ) where
  -- the interfaces are the same where the test passes
  abbrev pub AgreeOn : (ℕ → Bool) → Type 0
  AgreeOn refers = (a : ℕ) → refers a ≡ true → g a ≡ f a

  pub value_agrees : (v : Value) (k : Kind) → AgreeOn (λ a. is_mailbox a v) → ValueFits f v k → ValueFits g v k
  value_agrees (Const c) (Plain b) agree h = h
  value_agrees (Mailbox a) (MailboxOf i) agree h = agree a (name_is a) ∙ h
  value_agrees (Const c) (MailboxOf i) agree h = absurd h
  value_agrees (Mailbox a) (Plain b) agree h = absurd h

  pub values_agree : (vs : List Value) (ks : List Kind) → AgreeOn (λ a. list_any (is_mailbox a) vs) → ValuesFit f vs ks → ValuesFit g vs ks
  values_agree [] [] agree h = tt
  values_agree (v ∷ vs) (k ∷ ks) agree h = (
    value_agrees v k (λ a r. agree a (or_left (is_mailbox a v) (list_any (is_mailbox a) vs) r)) h.0,
    values_agree vs ks (λ a r. agree a (or_right (is_mailbox a v) (list_any (is_mailbox a) vs) r)) h.1,
  )
  values_agree [] (k ∷ ks) agree h = absurd h
  values_agree (v ∷ vs) [] agree h = absurd h

  -- a value at a variable, by cases
  value_in : (env : Env) (x : ℕ) (v : Value) → value_at env x ≡ Some v → AgreeOn (λ a. env_refers a env) → AgreeOn (λ a. is_mailbox a v)
  value_in env x (Const c) h agree a r = cc
  value_in env x (Mailbox b) h agree a r =
      agree a (value_refers env x a (h ∙ ap (λ n. Some (Mailbox n)) (sym (eqb-true a b r))))

  pub part_agrees : (p : Program) (n : ℕ) (but : List ℕ) (env : Env) → AgreeOn (λ a. env_refers a env) → PartFits p f n but env → PartFits p g n but env
  part_agrees p n but env agree h = record {
    there = h.there;
    keys = h.keys;
    values = h.values;
    free = h.free;
    kinds = λ x v at. let k = h.kinds x v at in (k.0, k.1, value_agrees v k.0 (value_in env x v at agree) k.2);
    different = h.different;
  }

  pub control_agrees : (p : Program) (y : Typing) (k : Control) (fs : List Frame) → AgreeOn (λ a. control_refers a k) → ControlFits p y f k fs → ControlFits p y g k fs
  control_agrees p y (Running n env) fs agree h = (part_agrees p n [] env agree h.0, h.1)
  control_agrees p y (Returned v) fs agree h = value_agrees v (kind_of_type (wanted p y fs)) agree h

  pub frames_agree : (p : Program) (y : Typing) (fs : List Frame) → AgreeOn (λ a. list_any (λ (x : Frame). env_refers a x.env) fs) → FramesFit p y f fs → FramesFit p y g fs
  frames_agree p y [] agree h = tt
  frames_agree p y (x ∷ fs) agree h = (
    h.0,
    part_agrees p x.body (option_list x.var) x.env (λ a r. agree a (or_left (env_refers a x.env) (list_any (λ (z : Frame). env_refers a z.env) fs) r)) h.1,
    h.2,
    frames_agree p y fs (λ a r. agree a (or_right (env_refers a x.env) (list_any (λ (z : Frame). env_refers a z.env) fs) r)) h.3,
  )

  pub thread_agrees : (p : Program) (y : Typing) (s : Thread) → AgreeOn (λ a. thread_refers a s) → ThreadFits p y f s → ThreadFits p y g s
  thread_agrees p y s agree h = record {
    control = control_agrees p y s.control s.frames (λ a r. agree a (or_left (control_refers a s.control) (list_any (λ (x : Frame). env_refers a x.env) s.frames) r)) h.control;
    frames = frames_agree p y s.frames (λ a r. agree a (or_right (control_refers a s.control) (list_any (λ (x : Frame). env_refers a x.env) s.frames) r)) h.frames;
    control_keeps = h.control_keeps;
    frames_keep = h.frames_keep;
  }

  pub threads_agree : (p : Program) (y : Typing) (ts : List (ℕ × Thread)) → AgreeOn (λ a. list_any (λ e. thread_refers a e.1) ts) → AllByRecursion (λ e. ThreadFits p y f e.1) ts → AllByRecursion (λ e. ThreadFits p y g e.1) ts
  threads_agree p y [] agree h = tt
  threads_agree p y (e ∷ es) agree h = (
    thread_agrees p y e.1 (λ a r. agree a (or_left (thread_refers a e.1) (list_any (λ e. thread_refers a e.1) es) r)) h.0,
    threads_agree p y es (λ a r. agree a (or_right (thread_refers a e.1) (list_any (λ e. thread_refers a e.1) es) r)) h.1,
  )

  -- of a message: its mailbox and those in its payload
  abbrev pub touches : ℕ → Message → Bool
  touches a m = message_refers a m || nat_eq m.mailbox a

  pub message_agrees : (p : Program) (m : Message) → AgreeOn (λ a. touches a m) → MessageFits p f m → MessageFits p g m
  message_agrees p m agree h =
      let same : g m.mailbox ≡ f m.mailbox = agree m.mailbox (or_right (message_refers m.mailbox m) (nat_eq m.mailbox m.mailbox) (eq-eqb m.mailbox m.mailbox refl)) in
      record {
        decl = h.decl;
        declared = ap (λ i. tag_at p i m.tag) same ∙ h.declared;
        values = values_agree m.values (map kind_of h.decl.payloads) (λ a r. agree a (or_left (message_refers a m) (nat_eq m.mailbox a) r)) h.values;
        different = h.different;
      }

  pub messages_agree : (p : Program) (ms : List Message) → AgreeOn (λ a. list_any (touches a) ms) → AllByRecursion (MessageFits p f) ms → AllByRecursion (MessageFits p g) ms
  messages_agree p [] agree h = tt
  messages_agree p (m ∷ ms) agree h = (
    message_agrees p m (λ a r. agree a (or_left (touches a m) (list_any (touches a) ms) r)) h.0,
    messages_agree p ms (λ a r. agree a (or_right (touches a m) (list_any (touches a) ms) r)) h.1,
  )

  pub messages_held : (p : Program) (b : ℕ) (ms : List Message) → AgreeOn (λ a. list_any (touches a) ms) → map (message_held p g b) ms ≡ map (message_held p f b) ms
  messages_held p b [] agree = refl
  messages_held p b (m ∷ ms) agree =
      let same : g m.mailbox ≡ f m.mailbox =
      agree m.mailbox (or_left (touches m.mailbox m) (list_any (touches m.mailbox) ms) (or_right (message_refers m.mailbox m) (nat_eq m.mailbox m.mailbox) (eq-eqb m.mailbox m.mailbox refl))) in
      let rest = messages_held p b ms (λ a r. agree a (or_right (touches a m) (list_any (touches a) ms) r)) in
      ap (λ i. payload_held b (declared_types (tag_at p i m.tag)) 0 m.values ∷ map (message_held p g b) ms) same
      ∙ ap (λ l. message_held p f b m ∷ l) rest

  -- what a message touches is referred to or has a message
  pub touched_live : (a : ℕ) (ms : List Message) → list_any (touches a) ms ≡ true → (list_any (message_refers a) ms || has_pending a ms) ≡ true
  touched_live a [] h = cc
  touched_live a (m ∷ ms) h =
      let ra = list_any (message_refers a) (m ∷ ms) in
      let pa = has_pending a (m ∷ ms) in
      ⊎_elim
      (λ k. ⊎_elim
      (λ x. or_left ra pa (or_left (message_refers a m) (list_any (message_refers a) ms) x))
      (λ x. or_right ra pa (or_left (nat_eq m.mailbox a) (has_pending a ms) x))
      (or_cases (message_refers a m) (nat_eq m.mailbox a) k))
      (λ k. ⊎_elim
      (λ x. or_left ra pa (or_right (message_refers a m) (list_any (message_refers a) ms) x))
      (λ x. or_right ra pa (or_right (nat_eq m.mailbox a) (has_pending a ms) x))
      (or_cases (list_any (message_refers a) ms) (has_pending a ms) (touched_live a ms k)))
      (or_cases (touches a m) (list_any (touches a) ms) h)
