-- Where a history leads that goes on from a checkpoint which was read of a text: the interfaces of its mailboxes are the program's, and its
-- strings are ones that a program's text can have.
use Rattle.std.proofs.Common.{◌≡◌, ◌⊎◌, ℕ, ◌-◌, ◌<◌, ◌≤◌, true, false, not, ◌&&◌, nat_eq, nat_lt, if◌then◌else◌, List, [], ◌∷◌, length, map, Some, refl, sym, ap, subst, inl, inr, ⊎_elim, arith}
use Rattle.std.specs.Prelude.{option_and_then, unwrap_or, slice_get}
use Rattle.std.specs.List.{AllByRecursion, list_all}
use Rattle.std.proofs.lemmas.Bool.{and_parts, or_cases, or_left, or_right, eqb-true, eq-eqb, ltb-true, lt-ltb, cond-true, cases_lt}
use Rattle.pat_semantics_spec.specs.Values.{UnitConst, BoolConst, IntConst, TextConst, Value, Const, Mailbox, Env}
use Rattle.pat_semantics_spec.specs.Programs.{Program, is_among}
use Rattle.pat_semantics_spec.specs.WellFormed.{WellFormed}
use Rattle.pat_semantics_spec.specs.Configs.{Control, Running, Returned, Thread, Config, Message}
use Rattle.pat_semantics_spec.specs.Steps.{Act, ActLocal, ActNew, ActSend, ActSpawn, ActPrint, ActEnd, ActFree, ActReceive, Step, step, redex, without_thread}
use Rattle.pat_semantics_spec.specs.Runs.{run_from, Entry, replay_from}
use Rattle.pat_semantics_laws.specs.Laws.{history_steps}
use Rattle.pat_semantics_laws.proofs.Lists.{append_among, any_filter}
use Rattle.pat_semantics_laws.proofs.Replays.{first_of, replay_runs}
use Rattle.pat_semantics_laws.proofs.Inversion.{step_of, print_step, new_step, receive_step, local_step_of, send_step, spawn_step, EndStep, end_value, end_return, end_step, free_step}
use Rattle.pat_type_system_spec.specs.Interfaces.{interfaces_along}
use Rattle.pat_resolver_spec.specs.Places.{Places}
use Rattle.pat_resolver_spec.specs.Resolved.{IsResolved}
use Rattle.pat_derivation_spec.specs.Derivations.{Derivation}
use Rattle.pat_texts_spec.specs.Numbers.{is_number}
use Rattle.pat_checkpoint_spec.specs.Checkpoints.{Checkpoint, interface_at, interfaces_of}
use Rattle.pat_checkpoint_spec.specs.Checked.{IsChecked}
use Rattle.pat_checkpoint_spec.specs.Resumed.{made_along, interface_made, interfaces_after_history}
use Rattle.pat_checkpoint_spec.specs.text.Lines.{MailboxLine, FrameLine, ThreadLine, thread_of, checkpoint_of}
use Rattle.pat_checkpoint_spec.specs.text.ValueText.{is_value, is_named}
use Rattle.pat_checkpoint_spec.specs.text.ValueReading.{ascends_from}
use Rattle.pat_checkpoint_spec.specs.text.Reading.{ReadsAs}
use Rattle.pat_checkpoint_laws.specs.resuming.Laws.{InterfacesMade, MadeCounts, ResumedIsTyped}
use Rattle.pat_checkpoint_laws.specs.text.Readable.{is_env, is_cert, is_node, is_mailbox_line, has_tag, is_message_line, is_control, is_name, is_frame_line, is_thread_line}
use Rattle.pat_checkpoint_laws.specs.text.Laws.{FrontIsText, StringsAreTokens}
use Rattle.pat_checkpoint_spec.specs.text.CheckpointText.{interface_in}
use Rattle.pat_checkpoint.specs.Strings.{IsSpelledValue, IsSpelledEnv, IsSpelledControl, IsSpelledThread, HasSpelledStrings}
use Rattle.pat_checkpoint.proofs.Strings.{run_spelled}
use Rattle.pat_checkpoint.proofs.Below.{along_below, made_there}

-- ---- strings

module _ (tokens : StringsAreTokens) where
  value_spelled : (v : Value) → is_value v ≡ true → IsSpelledValue v
  value_spelled (Const UnitConst) h = tt
  value_spelled (Const (BoolConst b)) h = tt
  value_spelled (Const (IntConst n)) h = tt
  value_spelled (Const (TextConst s)) h = (tokens s).1 h
  value_spelled (Mailbox a) h = tt

  values_spelled : (vs : List Value) → list_all is_value vs ≡ true → AllByRecursion IsSpelledValue vs
  values_spelled [] h = tt
  values_spelled (v ∷ vs) h = let both = and_parts (is_value v) (list_all is_value vs) h in (value_spelled v both.0, values_spelled vs both.1)

  named_spelled : (env : Env) → list_all is_named env ≡ true → IsSpelledEnv env
  named_spelled [] h = tt
  named_spelled (e ∷ env) h =
      let both = and_parts (is_named e) (list_all is_named env) h in
      (value_spelled e.1 (and_parts (is_number e.0) (is_value e.1) both.0).1, named_spelled env both.1)

  env_spelled : (env : Env) → is_env env ≡ true → IsSpelledEnv env
  env_spelled env h = named_spelled env (and_parts (ascends_from 0 env) (list_all is_named env) h).1

  control_spelled : (p : Program) (k : Control) → is_control p k ≡ true → IsSpelledControl k
  control_spelled p (Running n env) h = env_spelled env (and_parts (is_node p n) (is_env env) h).1
  control_spelled p (Returned v) h = value_spelled v h

  frames_spelled : (p : Program) (fs : List FrameLine) → list_all (is_frame_line p) fs ≡ true → AllByRecursion (λ f. IsSpelledEnv f.env) (map (λ f. f.frame) fs)
  frames_spelled p [] h = tt
  frames_spelled p (f ∷ fs) h =
      let both = and_parts (is_frame_line p f) (list_all (is_frame_line p) fs) h in
      let name = and_parts (is_name f.frame.var) (is_node p f.frame.body && (is_env f.frame.env && is_cert f.cert)) both.0 in
      let node = and_parts (is_node p f.frame.body) (is_env f.frame.env && is_cert f.cert) name.1 in
      (env_spelled f.frame.env (and_parts (is_env f.frame.env) (is_cert f.cert) node.1).0, frames_spelled p fs both.1)

  threads_spelled : (p : Program) (ts : List ThreadLine) → list_all (is_thread_line p) ts ≡ true → AllByRecursion (λ (e : ℕ × Thread). IsSpelledThread e.1) (map thread_of ts)
  threads_spelled p [] h = tt
  threads_spelled p (t ∷ ts) h =
      let both = and_parts (is_thread_line p t) (list_all (is_thread_line p) ts) h in
      let number = and_parts (is_number t.number) (is_control p t.control && (is_cert t.cert && list_all (is_frame_line p) t.frames)) both.0 in
      let control = and_parts (is_control p t.control) (is_cert t.cert && list_all (is_frame_line p) t.frames) number.1 in
      let frames = and_parts (is_cert t.cert) (list_all (is_frame_line p) t.frames) control.1 in
      ((control_spelled p t.control control.0, frames_spelled p t.frames frames.1), threads_spelled p ts both.1)

  messages_spelled : (p : Program) (ms : List MailboxLine) (es : List Message) → list_all (is_message_line p ms) es ≡ true → AllByRecursion (λ (m : Message). AllByRecursion IsSpelledValue m.values) es
  messages_spelled p ms [] h = tt
  messages_spelled p ms (m ∷ es) h =
      let both = and_parts (is_message_line p ms m) (list_all (is_message_line p ms) es) h in
      let number = and_parts (is_number m.number) (is_number m.mailbox && (has_tag p (interface_in ms m.mailbox) m.tag && list_all is_value m.values)) both.0 in
      let mailbox = and_parts (is_number m.mailbox) (has_tag p (interface_in ms m.mailbox) m.tag && list_all is_value m.values) number.1 in
      let tag = and_parts (has_tag p (interface_in ms m.mailbox) m.tag) (list_all is_value m.values) mailbox.1 in
      (values_spelled m.values tag.1, messages_spelled p ms es both.1)

  pub replayed_spelled : FrontIsText → (p : Program) (q : Places) (text : List ℕ) (x : Checkpoint) (es : List Entry) (c : Config) → IsResolved p q → ReadsAs p text x → replay_from p x.config es ≡ Some c → HasSpelledStrings c
  replayed_spelled fronts p q text x es c resolved reads h =
      let lines = reads.lines in
      let own = (fronts p text lines [] reads.read).1 in
      let first : HasSpelledStrings (checkpoint_of lines).config = record { threads = threads_spelled p lines.threads own.threads; messages = messages_spelled p lines.mailboxes lines.messages own.messages } in
      run_spelled p resolved.spelled (history_steps es) x.config c (subst (λ (z : Checkpoint). HasSpelledStrings z.config) reads.is first) (replay_runs p x.config c es h).1

-- ---- interfaces of the checkpoint

lines_below : (p : Program) (ms : List MailboxLine) → list_all (is_mailbox_line p) ms ≡ true → AllByRecursion (λ i. i < length p.interfaces) (map (λ m. m.interface) ms)
lines_below p [] h = tt
lines_below p (m ∷ ms) h =
    let both = and_parts (is_mailbox_line p m) (list_all (is_mailbox_line p) ms) h in
    let number = and_parts (is_number m.number) (nat_lt m.interface (length p.interfaces) && is_cert m.cert) both.0 in
    (ltb-true m.interface (length p.interfaces) (and_parts (nat_lt m.interface (length p.interfaces)) (is_cert m.cert) number.1).0, lines_below p ms both.1)

-- the interface at the place of a mailbox that has a line
at_line : (P : ℕ → Type 0) (ms : List MailboxLine) (a : ℕ) → AllByRecursion P (map (λ m. m.interface) ms) → is_among a (map (λ m. m.number) ms) ≡ true → P (interface_at (map (λ m. m.number) ms) (map (λ m. m.interface) ms) a)
at_line P [] a all h = absurd cc
at_line P (m ∷ ms) a all h =
    (elim (nat_eq a m.number) as (λ t. nat_eq a m.number ≡ t → P (if t then m.interface else interface_at (map (λ k. k.number) ms) (map (λ k. k.interface) ms) a)) [
      | true ↦ λ q. all.0
      | false ↦ λ q. at_line P ms a all.1 (⊎_elim (λ here. absurd (apart q here)) (λ rest. rest) (or_cases (nat_eq a m.number) (is_among a (map (λ k. k.number) ms)) h))
    ]) refl
  where
    apart : nat_eq a m.number ≡ false → nat_eq a m.number ≡ true → ⊥
    apart q r = cc

-- ---- mailboxes that live on

ended : (p : Program) (c : Config) (t : ℕ) (s : Thread) (d : Config) → EndStep p c t s d → d ≡ without_thread c t
ended p c t s d (end_value e env at none is) = is
ended p c t s d (end_return v at none is) = is

-- what is live after a step was live before, or is made by it
step_lives : (p : Program) (c : Config) (t : ℕ) (a : Act) (d : Config) → step p c (record { thread = t; act = a }) ≡ Some d → (b : ℕ) → is_among b d.live ≡ true → (is_among b c.live ≡ true) ⊎ (b ≡ c.next_mailbox)
step_lives p c t ActLocal d h b l =
    let w = step_of p c (record { thread = t; act = ActLocal }) d h in
    inl (subst (λ xs. is_among b xs ≡ true) (ap (λ (x : Config). x.live) (local_step_of p c t w.thread d w.gives).2) l)
step_lives p c t ActNew d h b l =
    let w = step_of p c (record { thread = t; act = ActNew }) d h in
    let n = new_step p c t w.thread d (redex p w.thread.control) refl w.gives in
    ⊎_elim
    (λ own. inl own)
    (λ new. inr (⊎_elim (λ here. eqb-true b c.next_mailbox here) (λ no. absurd (clash no)) (or_cases (nat_eq b c.next_mailbox) false new)))
    (append_among b c.live (c.next_mailbox ∷ []) (subst (λ xs. is_among b xs ≡ true) (ap (λ (x : Config). x.live) n.result) l))
  where
    clash : false ≡ true → ⊥
    clash q = cc
step_lives p c t ActSend d h b l =
    let w = step_of p c (record { thread = t; act = ActSend }) d h in
    inl (subst (λ xs. is_among b xs ≡ true) (ap (λ (x : Config). x.live) (send_step p c t w.thread d (redex p w.thread.control) refl w.gives).result) l)
step_lives p c t ActSpawn d h b l =
    let w = step_of p c (record { thread = t; act = ActSpawn }) d h in
    inl (subst (λ xs. is_among b xs ≡ true) (ap (λ (x : Config). x.live) (spawn_step p c t w.thread d (redex p w.thread.control) refl w.gives).result) l)
step_lives p c t ActPrint d h b l =
    let w = step_of p c (record { thread = t; act = ActPrint }) d h in
    inl (subst (λ xs. is_among b xs ≡ true) (ap (λ (x : Config). x.live) (print_step p c t w.thread d (redex p w.thread.control) refl w.gives).result) l)
step_lives p c t ActEnd d h b l =
    let w = step_of p c (record { thread = t; act = ActEnd }) d h in
    inl (subst (λ xs. is_among b xs ≡ true) (ap (λ (x : Config). x.live) (ended p c t w.thread d (end_step p c t w.thread d w.thread.frames (redex p w.thread.control) refl refl w.gives))) l)
step_lives p c t ActFree d h b l =
    let w = step_of p c (record { thread = t; act = ActFree }) d h in
    let q = free_step p c t w.thread d (redex p w.thread.control) refl w.gives in
    inl (any_filter (nat_eq b) (λ k. not (nat_eq k q.mailbox)) c.live (subst (λ xs. is_among b xs ≡ true) (ap (λ (x : Config). x.live) q.result) l))
step_lives p c t (ActReceive k) d h b l =
    let w = step_of p c (record { thread = t; act = ActReceive k }) d h in
    inl (subst (λ xs. is_among b xs ≡ true) (ap (λ (x : Config). x.live) (receive_step p c t k w.thread d (redex p w.thread.control) refl w.gives).result) l)

-- so what is live after steps and was made before them was live before them
run_lives : MadeCounts → (p : Program) (ks : List Step) (c d : Config) → run_from p c ks ≡ Some d → (b : ℕ) → is_among b d.live ≡ true → b < c.next_mailbox → is_among b c.live ≡ true
run_lives counts p [] c d h b l less = let same : c ≡ d = cc in subst (λ (x : Config). is_among b x.live ≡ true) (sym same) l
run_lives counts p (k ∷ ks) c d h b l less =
    let q = first_of (λ e. run_from p e ks) d (step p c k) h in
    let count = counts p (k ∷ []) c q.0 (ap (option_and_then (λ e. run_from p e [])) q.1) in
    ⊎_elim
    (λ own. own)
    (λ new. absurd (omega (arith, new, less)))
    (step_lives p c k.thread k.act q.0 q.1 b (run_lives counts p ks q.0 d q.2 b l (omega (arith, count, less))))

-- ---- where a history leads

among_below : (n b : ℕ) (xs : List ℕ) → AllByRecursion (λ a. a < n) xs → is_among b xs ≡ true → b < n
among_below n b [] all h = absurd cc
among_below n b (x ∷ xs) all h =
    ⊎_elim
    (λ here. let same = eqb-true b x here in let first = all.0 in omega (arith, same, first))
    (λ rest. among_below n b xs all.1 rest)
    (or_cases (nat_eq b x) (is_among b xs) h)

all_of_members : (P : ℕ → Type 0) (f : ℕ → ℕ) (xs : List ℕ) → ((a : ℕ) → is_among a xs ≡ true → P (f a)) → AllByRecursion P (map f xs)
all_of_members P f [] g = tt
all_of_members P f (x ∷ xs) g = (
  g x (or_left (nat_eq x x) (is_among x xs) (eq-eqb x x refl)),
  all_of_members P f xs (λ a h. g a (or_right (nat_eq a x) (is_among a xs) h)),
)

module _ (made : InterfacesMade) (counts : MadeCounts) (typed : ResumedIsTyped) (fronts : FrontIsText) where
  pub replayed_there : (p : Program) (d : Derivation) (text : List ℕ) (x : Checkpoint) (es : List Entry) (c : Config) → WellFormed p → IsChecked p d x → ReadsAs p text x → replay_from p x.config es ≡ Some c → AllByRecursion (λ i. i < length p.interfaces) (interfaces_after_history p x es c)
  replayed_there p d text x es c w checked reads h =
      let own = typed p d x es c w checked h in
      all_of_members (λ i. i < length p.interfaces) (interfaces_along p x.config (history_steps es) (interfaces_of x)) c.live
      (λ a l.
      subst (λ k. k < length p.interfaces) (sym (made p (history_steps es) (interfaces_of x) x.config c a run))
      (⊎_elim
      (λ less. old a l less)
      (λ past. new a past (among_below c.next_mailbox a c.live own.numbers.ordered.live_below l))
      (cases_lt a x.config.next_mailbox)))
    where
      run : run_from p x.config (history_steps es) ≡ Some c
      run = (replay_runs p x.config c es h).1

      old : (a : ℕ) → is_among a c.live ≡ true → a < x.config.next_mailbox → interface_made (interfaces_of x) x.config.next_mailbox (made_along p x.config (history_steps es)) a < length p.interfaces
      old a l less =
          let lines = reads.lines in
          let lives = run_lives counts p (history_steps es) x.config c run a l less in
          let all = lines_below p lines.mailboxes (fronts p text lines [] reads.read).1.mailboxes in
          let there = at_line (λ i. i < length p.interfaces) lines.mailboxes a all (subst (λ (z : Checkpoint). is_among a z.config.live ≡ true) (sym reads.is) lives) in
          subst (λ k. k < length p.interfaces)
          (sym (cond-true (nat_lt a x.config.next_mailbox) (interfaces_of x a) (unwrap_or (slice_get (made_along p x.config (history_steps es)) (a - x.config.next_mailbox)) (interfaces_of x a)) (lt-ltb a x.config.next_mailbox less)))
          (subst (λ (z : Checkpoint). interfaces_of z a < length p.interfaces) reads.is there)

      new : (a : ℕ) → x.config.next_mailbox ≤ a → a < c.next_mailbox → interface_made (interfaces_of x) x.config.next_mailbox (made_along p x.config (history_steps es)) a < length p.interfaces
      new a past less =
          let count = counts p (history_steps es) x.config c run in
          made_there (length p.interfaces) (interfaces_of x) x.config.next_mailbox (made_along p x.config (history_steps es)) a past (omega (arith, past, count, less)) (along_below p w (history_steps es) x.config)
