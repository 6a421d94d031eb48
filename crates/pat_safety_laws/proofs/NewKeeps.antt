-- A step that makes a mailbox keeps a configuration typed.
use Rattle.std.proofs.Common.{◌≡◌, ℕ, ◌+◌, true, false, ◌||◌, nat_eq, if◌then◌else◌, List, [], ◌∷◌, ◌++◌, Some, None, refl, sym, ap, ◌∙◌, subst, arith, map, append_assoc, ⊎_elim}
use Rattle.std.proofs.lemmas.Bool.{or_cases, or_left, or_right, or_parts, eqb-true, eq-eqb, ne_eqb, false_from_ne_true, cond-true, cond-false}
use Rattle.std.specs.List.{list_any}
use Rattle.pat_words_spec.specs.Words.{Word, no_word, plus}
use Rattle.pat_words_spec.specs.Patterns.{Pat, In}
use Rattle.pat_words_laws.proofs.WordLaws.{none_plus}
use Rattle.pat_semantics_spec.specs.Values.{Mailbox, Kind, MailboxOf, Env, ValueFits}
use Rattle.pat_semantics_spec.specs.Programs.{Program, Sending, Receiving, New, is_among}
use Rattle.pat_semantics_spec.specs.WellFormed.{WellFormed}
use Rattle.pat_semantics_spec.specs.Configs.{Running, Returned, Frame, Thread, Config, thread_at, with_thread, is_mailbox, env_refers, control_refers, thread_refers, message_refers, has_pending, pending}
use Rattle.pat_semantics_spec.specs.Steps.{ActNew, step, redex, thread_of}
use Rattle.pat_type_system_spec.specs.Types.{Returnable, TypeOf, BaseTerm, MailboxTerm, kind_of_type, mailbox_type, TypeFits, no_types, EnvPasses, PassesTo}
use Rattle.pat_type_system_spec.specs.Typings.{Typing, NewTyped}
use Rattle.pat_type_system_spec.specs.Holdings.{Holding, wanted, as_holding, control_held, frame_held, message_held, thread_held, holdings, Balanced}
use Rattle.pat_type_system_spec.specs.Typed.{IsTyped, ThreadFits, NumbersFit, ControlFits, KeepsFrom, frames_refer}
use Rattle.pat_safety_laws.proofs.Balance.{passes_refine, balance_back}
use Rattle.pat_semantics_laws.proofs.Threads.{lookup_all, lookup_any, set_all, set_any}
use Rattle.pat_safety_laws.proofs.ThreadHoldings.{split_thread, replace_one}
use Rattle.pat_semantics_laws.proofs.Inversion.{step_of, new_step}
use Rattle.pat_type_system_laws.proofs.Nodes.{node_facts, fits_kind}
use Rattle.pat_safety_laws.proofs.Envs.{held_all}
use Rattle.pat_safety_laws.proofs.Refers.{AllNone, none-append, none_receivers, none_choice, threads_none, frames_none, messages_none}
use Rattle.pat_safety_laws.proofs.Agree.{AgreeOn, touches, threads_agree, messages_agree, messages_held, frames_agree}
use Rattle.pat_semantics_laws.proofs.Lists.{clash, among_below, any-append, any_first, any_last}
use Rattle.pat_safety_laws.proofs.Messages.{pending_none}
use Rattle.pat_semantics_spec.specs.Orders.{IsOrdered}
use Rattle.pat_semantics_laws.proofs.Ordered.{step_keeps_order}
use Rattle.pat_type_system_spec.specs.Interfaces.{new_interface, made_by, with_interface, interfaces_after}
use Rattle.pat_semantics_laws.proofs.Inversion.{StandsAt}
use Rattle.pat_semantics_spec.specs.Steps.{At, redex_at}
use Rattle.pat_safety_laws.proofs.Agree.{touched_live}

none_parts : (hs ks : List Holding) → AllNone (hs ++ ks) → AllNone hs × AllNone ks
none_parts [] ks a = (tt, a)
none_parts (h ∷ hs) ks a = let r = none_parts hs ks a.1 in ((a.0, r.0), r.1)

-- the type wanted of a new mailbox receives, and its pattern has the empty word
record NewWanted (t : TypeOf) : Type 0 where
  interface : ℕ
  pattern : Pat
  is : t ≡ MailboxTerm interface Receiving pattern
  empty : In pattern no_word

new_wanted : (i : ℕ) (s t : TypeOf) → NewTyped i s → TypeFits s t → NewWanted t
new_wanted i (MailboxTerm j Receiving e) (MailboxTerm k Receiving f) n h =
    record { interface = k; pattern = f; is = refl; empty = h.pattern no_word (n.1 no_word refl) }
new_wanted i (MailboxTerm j Receiving e) (MailboxTerm k Sending f) n h = let q = h.polarity in cc
new_wanted i (MailboxTerm j Receiving e) (BaseTerm b) n h = absurd h
new_wanted i (MailboxTerm j Sending e) t n h = absurd n
new_wanted i (BaseTerm b) t n h = absurd n

-- a mailbox with one receiving holding and nothing else is balanced
alone_balanced : (i : ℕ) (e : Pat) (hs : List Holding) (r : Word) → AllNone hs → r ≡ no_word → In e no_word → Balanced (Some (mailbox_type i Receiving e Returnable) ∷ hs) r
alone_balanced i e hs r none empty has = record {
  pattern = e;
  one_receiver = ap (λ l. e ∷ l) (none_receivers hs none);
  fits = λ w c.
      let rest = none_choice hs c.1 none c.3 in
      let all : plus r w ≡ no_word =
      ap (λ (x : Word). plus x w) empty ∙ none_plus w ∙ c.4 ∙ ap (λ (x : Word). plus x c.1) c.2 ∙ none_plus c.1 ∙ rest in
      subst (In e) (sym all) has;
}

-- a step of thread t, which stands at a node that makes a mailbox of interface i
record Made (p : Program) (y : Typing) (interfaces : ℕ → ℕ) (c : Config) (t : ℕ) (s : Thread) (i : ℕ) (typed : IsTyped p y interfaces c) : Type 0 where
  node : ℕ
  env : Env
  there : thread_at c t ≡ Some s
  at : s.control ≡ Running node env
  kind : kind_of_type (y.results node) ≡ MailboxOf i
  drops : EnvPasses (y.envs node) no_types
  new : NewTyped i (y.results node)

module _ (p : Program) (y : Typing) (interfaces : ℕ → ℕ) (c : Config) (t : ℕ) (s : Thread) (i : ℕ) (typed : IsTyped p y interfaces c) (made : Made p y interfaces c t s i typed) where
  -- the interfaces, with that of the new mailbox
  abbrev interfaces' : ℕ → ℕ
  interfaces' a = if nat_eq a c.next_mailbox then i else interfaces a

  abbrev thread' : Thread
  thread' = thread_of (Returned (Mailbox c.next_mailbox)) s.frames

  abbrev after : Config
  after = record (with_thread c t thread') { live = c.live ++ c.next_mailbox ∷ []; next_mailbox = c.next_mailbox + 1 }

  -- a live mailbox isn't the new one
  live_apart : (a : ℕ) → is_among a c.live ≡ true → nat_eq a c.next_mailbox ≡ false
  live_apart a h =
      let below = among_below c.next_mailbox a c.live typed.numbers.ordered.live_below h in
      ne_eqb a c.next_mailbox (λ e. omega arith)

  live_agrees : (a : ℕ) → is_among a c.live ≡ true → interfaces' a ≡ interfaces a
  live_agrees a h = cond-false (nat_eq a c.next_mailbox) i (interfaces a) (live_apart a h)

  threads_agreed : AgreeOn interfaces interfaces' (λ a. list_any (λ e. thread_refers a e.1) c.threads)
  threads_agreed a h = live_agrees a (typed.numbers.threads_live a h)

  messages_agreed : AgreeOn interfaces interfaces' (λ a. list_any (touches interfaces interfaces' a) c.messages)
  messages_agreed a h = live_agrees a (typed.numbers.messages_live a (touched_live interfaces interfaces' a c.messages h))

  -- nobody refers to the new mailbox
  new_apart : is_among c.next_mailbox c.live ≡ false
  new_apart =
      false_from_ne_true (is_among c.next_mailbox c.live)
      (λ h. let below = among_below c.next_mailbox c.next_mailbox c.live typed.numbers.ordered.live_below h in absurd (omega arith))

  new_unreferred : list_any (λ e. thread_refers c.next_mailbox e.1) c.threads ≡ false
  new_unreferred =
      false_from_ne_true (list_any (λ e. thread_refers c.next_mailbox e.1) c.threads)
      (λ h. clash (typed.numbers.threads_live c.next_mailbox h) new_apart)

  new_unsent : (list_any (message_refers c.next_mailbox) c.messages || has_pending c.next_mailbox c.messages) ≡ false
  new_unsent =
      false_from_ne_true (list_any (message_refers c.next_mailbox) c.messages || has_pending c.next_mailbox c.messages)
      (λ h. clash (typed.numbers.messages_live c.next_mailbox h) new_apart)

  thread_unreferred : thread_refers c.next_mailbox s ≡ false
  thread_unreferred =
      false_from_ne_true (thread_refers c.next_mailbox s)
      (λ h. clash (lookup_any (thread_refers c.next_mailbox) c.threads t s made.there h) new_unreferred)

  frames_unreferred : list_any (λ f. env_refers c.next_mailbox f.env) s.frames ≡ false
  frames_unreferred =
      (or_parts (control_refers c.next_mailbox s.control) (list_any (λ f. env_refers c.next_mailbox f.env) s.frames) thread_unreferred).1

  old_fits : ThreadFits p y interfaces s
  old_fits = lookup_all (λ r. ThreadFits p y interfaces r) c.threads t s typed.threads made.there

  control_fits : ControlFits p y interfaces (Running made.node made.env) s.frames
  control_fits = subst (λ k. ControlFits p y interfaces k s.frames) made.at old_fits.control

  new_keeps_from : KeepsFrom (λ b. control_held p y b thread'.control s.frames) s.frames
  new_keeps_from b a h u =
      (elim (nat_eq b c.next_mailbox) as (λ v. nat_eq b c.next_mailbox ≡ v → (if v then as_holding (wanted p y s.frames) else None) ≡ Some a → frames_refer b s.frames ≡ false) [
        | true ↦ λ e k. subst (λ x. frames_refer x s.frames ≡ false) (sym (eqb-true b c.next_mailbox e)) frames_unreferred
        | false ↦ λ e k. cc
      ]) refl h

  thread_fits' : ThreadFits p y interfaces' thread'
  thread_fits' =
      let k : MailboxOf i ≡ kind_of_type (wanted p y s.frames) =
      sym made.kind ∙ fits_kind (y.results made.node) (wanted p y s.frames) control_fits.1 in
      record {
        control = subst (λ (x : Kind). ValueFits interfaces' (Mailbox c.next_mailbox) x) k (cond-true (nat_eq c.next_mailbox c.next_mailbox) i (interfaces c.next_mailbox) (eq-eqb c.next_mailbox c.next_mailbox refl));
        frames = frames_agree interfaces interfaces' p y s.frames
            (λ a h. threads_agreed a (lookup_any (thread_refers a) c.threads t s made.there (or_right (control_refers a s.control) (list_any (λ (x : Frame). env_refers a x.env) s.frames) h)))
            old_fits.frames;
        control_keeps = new_keeps_from;
        frames_keep = old_fits.frames_keep;
      }

  refers_live : (a : ℕ) → thread_refers a thread' ≡ true → is_among a (c.live ++ c.next_mailbox ∷ []) ≡ true
  refers_live a h =
      ⊎_elim
      (λ k. any_last (nat_eq a) c.live (c.next_mailbox ∷ []) (or_left (nat_eq a c.next_mailbox) false k))
      (λ k. any_first (nat_eq a) c.live (c.next_mailbox ∷ []) (typed.numbers.threads_live a (lookup_any (thread_refers a) c.threads t s made.there (or_right (control_refers a s.control) (list_any (λ f. env_refers a f.env) s.frames) k))))
      (or_cases (is_mailbox a (Mailbox c.next_mailbox)) (list_any (λ f. env_refers a f.env) s.frames) h)

  numbers' : IsOrdered after → NumbersFit after
  numbers' ordered = record {
    ordered = ordered;
    threads_live = λ a h.
        ⊎_elim
        (λ here. refers_live a here)
        (λ there. any_first (nat_eq a) c.live (c.next_mailbox ∷ []) (typed.numbers.threads_live a there))
        (set_any (thread_refers a) c.threads t thread' h);
    messages_live = λ a h. any_first (nat_eq a) c.live (c.next_mailbox ∷ []) (typed.numbers.messages_live a h);
  }

  same_messages : (a : ℕ) → map (message_held p interfaces' a) c.messages ≡ map (message_held p interfaces a) c.messages
  same_messages a = messages_held interfaces interfaces' p a c.messages messages_agreed

  -- an old mailbox stays balanced
  old_balanced : (a : ℕ) → is_among a c.live ≡ true → Balanced (holdings p y interfaces' after a) (pending after a)
  old_balanced a live =
      let ms = map (message_held p interfaces a) c.messages in
      let split = split_thread p y a t s c.threads made.there in
      let fs = map (frame_held y a) s.frames in
      let h = control_held p y a s.control s.frames in
      let passes : PassesTo h None =
      subst (λ k. PassesTo (control_held p y a k s.frames) None) (sym made.at) (held_all (y.envs made.node) a (λ x. PassesTo x None) tt made.drops made.env) in
      let none : control_held p y a thread'.control s.frames ≡ None =
      cond-false (nat_eq a c.next_mailbox) (as_holding (wanted p y s.frames)) None (live_apart a live) in
      let old = subst (λ l. Balanced (l ++ ms) (pending c a)) split.now_is (typed.balanced a live) in
      let dropped = replace_one split.before fs split.after ms h None (pending c a) (pending c a) (passes_refine h None (pending c a) passes) old in
      let now = subst (λ x. Balanced ((split.before ++ ((x ∷ fs) ++ split.after)) ++ ms) (pending c a)) (sym none) dropped in
      subst (λ l. Balanced l (pending c a))
      (sym (ap (λ l. l ++ map (message_held p interfaces' a) c.messages) (split.changed_is thread') ∙ ap (λ l. (split.before ++ (thread_held p y a thread' ++ split.after)) ++ l) (same_messages a)))
      now

  -- the new mailbox is balanced
  new_balanced : Balanced (holdings p y interfaces' after c.next_mailbox) (pending after c.next_mailbox)
  new_balanced =
      let a = c.next_mailbox in
      let ms = map (message_held p interfaces a) c.messages in
      let split = split_thread p y a t s c.threads made.there in
      let fs = map (frame_held y a) s.frames in
      let unsent = or_parts (list_any (message_refers a) c.messages) (has_pending a c.messages) new_unsent in
      let all = none_parts split.before (thread_held p y a s ++ split.after) (subst AllNone split.now_is (threads_none p y a c.threads new_unreferred)) in
      let tail = none_parts (thread_held p y a s) split.after all.1 in
      let rest_none : AllNone (split.before ++ ((fs ++ split.after) ++ ms)) =
      none-append split.before ((fs ++ split.after) ++ ms) all.0
      (none-append (fs ++ split.after) ms (none-append fs split.after (frames_none y a s.frames frames_unreferred) tail.1) (messages_none p interfaces a c.messages unsent.0)) in
      let want = new_wanted i (y.results made.node) (wanted p y s.frames) made.new control_fits.1 in
      let k = Some (mailbox_type want.interface Receiving want.pattern Returnable) in
      let empty : pending c a ≡ no_word = pending_none a c.messages unsent.1 in
      let alone = alone_balanced want.interface want.pattern (split.before ++ ((fs ++ split.after) ++ ms)) (pending c a) rest_none empty want.empty in
      let placed = balance_back split.before k ((fs ++ split.after) ++ ms) (pending c a) alone in
      let held_is : control_held p y a thread'.control s.frames ≡ k =
      cond-true (nat_eq a a) (as_holding (wanted p y s.frames)) None (eq-eqb a a refl) ∙ ap as_holding want.is in
      let flat : holdings p y interfaces' after a ≡ split.before ++ (k ∷ ((fs ++ split.after) ++ ms)) =
      ap (λ l. l ++ map (message_held p interfaces' a) c.messages) (split.changed_is thread')
      ∙ ap (λ l. (split.before ++ (thread_held p y a thread' ++ split.after)) ++ l) (same_messages a)
      ∙ ap (λ x. (split.before ++ ((x ∷ fs) ++ split.after)) ++ ms) held_is
      ∙ append_assoc split.before ((k ∷ fs) ++ split.after) ms in
      subst (λ l. Balanced l (pending c a)) (sym flat) placed

  made_typed : IsOrdered after → IsTyped p y interfaces' after
  made_typed ordered = record {
    typing = typed.typing;
    numbers = numbers' ordered;
    threads = set_all (λ e. ThreadFits p y interfaces' e.1) c.threads t thread' (λ e h. thread_fits') (threads_agree interfaces interfaces' p y c.threads threads_agreed typed.threads);
    messages = messages_agree interfaces interfaces' p c.messages messages_agreed typed.messages;
    balanced = λ a live.
        ⊎_elim
        (λ h. old_balanced a h)
        (λ h. ⊎_elim
        (λ e. subst (λ b. Balanced (holdings p y interfaces' after b) (pending after b)) (sym (eqb-true a c.next_mailbox e)) new_balanced)
        (λ e. cc)
        (or_cases (nat_eq a c.next_mailbox) false h))
        (any-append (nat_eq a) c.live (c.next_mailbox ∷ []) live);
  }

-- the interfaces after the step
made_interfaces : (p : Program) (c : Config) (t : ℕ) (s : Thread) (i : ℕ) (env : Env) (interfaces : ℕ → ℕ) → thread_at c t ≡ Some s → StandsAt p s.control (New i) env → interfaces_after p c (record { thread = t; act = ActNew }) interfaces ≡ (λ a. if nat_eq a c.next_mailbox then i else interfaces a)
made_interfaces p c t s i env interfaces there at =
    let control : redex p s.control ≡ At (New i) env = ap (redex p) at.control_is ∙ ap (λ o. redex_at o env) at.term in
    ap (λ o. with_interface c.next_mailbox (made_by p ActNew o) interfaces) there ∙ ap (λ r. with_interface c.next_mailbox (new_interface r) interfaces) control

-- the law for new
pub new_keeps : (p : Program) (y : Typing) (interfaces : ℕ → ℕ) (c d : Config) (t : ℕ) → WellFormed p → IsTyped p y interfaces c → step p c (record { thread = t; act = ActNew }) ≡ Some d → IsTyped p y (interfaces_after p c (record { thread = t; act = ActNew }) interfaces) d
new_keeps p y interfaces c d t wf typed h =
    let o = step_of p c (record { thread = t; act = ActNew }) d h in
    let s = o.thread in
    let q = new_step p c t s d (redex p s.control) refl o.gives in
    let facts = node_facts p y q.at.node (New q.interface) wf typed.typing q.at.term in
    let made : Made p y interfaces c t s q.interface typed = record {
      node = q.at.node;
      env = q.env;
      there = o.there;
      at = q.at.control_is;
      kind = facts.kinds.0;
      drops = facts.term.1;
      new = facts.term.0;
    } in
    let ordered = subst IsOrdered q.result (step_keeps_order p c d (record { thread = t; act = ActNew }) typed.numbers.ordered h) in
    subst (λ f. IsTyped p y f d) (sym (made_interfaces p c t s q.interface q.env interfaces o.there q.at))
    (subst (IsTyped p y (λ a. if nat_eq a c.next_mailbox then q.interface else interfaces a)) (sym q.result) (made_typed p y interfaces c t s q.interface typed made ordered))
