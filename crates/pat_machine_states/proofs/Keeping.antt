-- A configuration whose messages are kept by mailbox, through the steps of a thread.
use Rattle.std.proofs.Common.{◌≡◌, ℕ, zero, suc, ◌+◌, ◌<◌, cond, Bool, true, false, not, nat_eq, nat_lt, ⊎_elim, List, [], ◌∷◌, ◌++◌, map, length, remove, Option, Some, None, Result, Ok, Err, slice_get, slice_set, refl, sym, ap, ◌∙◌, subst, arith, append-nil}
use Rattle.std.specs.Prelude.{◌&&◌, if◌then◌else◌, option_map, option_and_then, is_some, filter}
use Rattle.std.specs.List.{AllByRecursion}
use Rattle.std.proofs.lemmas.Bool.{eqb-true, ne_eqb, lt-ltb, cases_eq, and_parts, not-true, cond-true, cond-false}
use Rattle.std.proofs.lemmas.List.{map-append, length-append, length-map}
use Rattle.pat_semantics_spec.specs.Programs.{Program, Function, function_at, is_among}
use Rattle.pat_semantics_spec.specs.Configs.{Thread, Message, Config, Control, start, start_of, thread_at, with_thread, has_pending, is_reached_by_none_but}
use Rattle.pat_semantics_spec.specs.Orders.{IsOrdered}
use Rattle.pat_semantics_spec.specs.Steps.{Act, ActNew, ActSend, ActFree, ActReceive, Redex, Step, redex, at_node, thread_of, message_at, thread_step, step}
use Rattle.pat_semantics_laws.specs.Laws.{IsEnabled}
use Rattle.pat_semantics_laws.proofs.Inversion.{step_of}
use Rattle.pat_reduce_values.specs.declared.error.StepError.{StepError}
use Rattle.pat_reduce_values.specs.declared.error.StepError.TheVariants.{Disabled, NoMemory}
use Rattle.pat_reduce_values.specs.Results.{StepGives}
use Rattle.pat_reduce.specs.declared.threads.state.Message.{Message as CodeMessage}
use Rattle.pat_reduce.specs.threads.ThreadViews.{message_view}
use Rattle.pat_reduce.specs.threads.ThreadActs.{Guarding, guard_at, is_new, redex_message, redex_received}
use Rattle.pat_reduce.specs.Acts.{may_free, freed_by, redex_freed}
use Rattle.pat_reduce.proofs.Shared.{made, sent, freed, taken, new_step, send_step, free_step, receive_step}
use Rattle.pat_machine_threads.specs.store.Alone.{alone, back, is_beside}
use Rattle.pat_machine_threads.specs.store.Laws.{Sends}
use Rattle.pat_machine_threads.proofs.Steps.{steps_alone, beside_leaves}
use Rattle.pat_machine_threads.proofs.Backs.{own_there}
use Rattle.pat_machine_threads.proofs.Sending.{send_leaves}
use Rattle.pat_machine_laws.specs.mailbox_index.Pending.{messages_of, all_of, live_of, box_at, pending_at, AreKept}
use Rattle.pat_machine_laws.proofs.Insertions.{all_in_order}
use Rattle.pat_machine_laws.proofs.Boxes.{pending_all}
use Rattle.pat_machine_laws.proofs.MailboxIndexChanges.{makes_last, sends_last, takes_one, frees_one}
use Rattle.pat_machine_laws.proofs.MailboxIndexLookUps.{pending_is_own, live_is_listed, all_are_counted, place_is_found}
use Rattle.pat_machine_indexes.specs.messages.Mailboxes.{Mailbox, IsLive, mailbox_at, all_pending, pending_at as pending_of}
use Rattle.pat_machine_indexes.specs.messages.Boxes.{boxes_view}
use Rattle.pat_machine_indexes.specs.messages.Deliveries.{IsDelivery}
use Rattle.pat_machine_indexes.proofs.Boxed.{pending_view, live_view, is_live, none_pending, set_view, push_view, map_get, map_remove, all_unmap, count_view}
use Rattle.pat_machine_threads.specs.store.InPlace.{HasNone, frees_by, redex_frees, IsSent, SendsOut, IsMade, MakesOut, IsFreed, FreesOut}
use Rattle.pat_machine_threads.specs.store.Steps.{IsTaken, StepsApart}
use Rattle.pat_machine_states.specs.Boxes.{state_view, AreOf, IsState}
use Rattle.pat_machine_states.specs.Stepping.{ReferToLive, SendsToLive}

all_filter : {A : Type 0} (P : A → Type 0) (f : A → Bool) (xs : List A) → AllByRecursion P xs → AllByRecursion P (filter f xs)
all_filter P f [] h = tt
all_filter P f (x ∷ xs) h =
    elim (f x) as (λ v. AllByRecursion P (cond v (x ∷ filter f xs) (filter f xs))) [
      | true ↦ (h.0, all_filter P f xs h.1)
      | false ↦ all_filter P f xs h.1
    ]

all_last : {A : Type 0} (P : A → Type 0) (xs : List A) (x : A) → AllByRecursion P xs → P x → AllByRecursion P (xs ++ x ∷ [])
all_last P [] x h own = (own, tt)
all_last P (y ∷ ys) x h own = (h.0, all_last P ys x h.1 own)

all_weaker : {A : Type 0} (P Q : A → Type 0) → ((x : A) → P x → Q x) → (xs : List A) → AllByRecursion P xs → AllByRecursion Q xs
all_weaker P Q f [] h = tt
all_weaker P Q f (x ∷ xs) h = (f x h.0, all_weaker P Q f xs h.1)

empty_length : (xs : List CodeMessage) → nat_eq (length (map message_view xs)) 0 ≡ true → xs ≡ []
empty_length [] h = refl
empty_length (x ∷ xs) h = let n = eqb-true (length (map message_view (x ∷ xs))) 0 h in absurd (omega arith)

length_set : {A : Type 0} (xs : List A) (i : ℕ) (x : A) → length (slice_set xs i x) ≡ length xs
length_set [] i x = refl
length_set (y ∷ ys) zero x = refl
length_set (y ∷ ys) (suc i) x = ap suc (length_set ys i x)

more_than_none : (n : ℕ) → nat_lt 0 n ≡ not (nat_eq n 0)
more_than_none n =
    ⊎_elim (λ (z : n ≡ 0). ap (λ k. nat_lt 0 k) z ∙ sym (ap (λ k. not (nat_eq k 0)) z))
    (λ (some : n ≡ 0 → ⊥). lt-ltb 0 n (omega arith) ∙ sym (ap not (ne_eqb n 0 some)))
    (cases_eq n 0)

double_not : (b : Bool) → not b ≡ false → b ≡ true
double_not true h = refl
double_not false h = absurd cc

-- ---- tests

module _ (c : Config) (latest : Option ℕ) (ms : List (Option Mailbox)) (h : IsState c latest ms) where
  pub live_test : (b : ℕ) → is_some (mailbox_at ms b) ≡ is_among b (live_of (boxes_view ms))
  live_test b = sym (live_view ms b) ∙ sym (live_is_listed (boxes_view ms) b)

  size : (b : ℕ) → length (pending_at (boxes_view ms) b) ≡ length (pending_of ms b)
  size b = ap length (pending_view ms b) ∙ length-map (pending_of ms b) message_view

  pub pending_test : (b n : ℕ) → n ≡ length (pending_of ms b) → nat_lt 0 n ≡ has_pending b (messages_of (boxes_view ms))
  pending_test b n is = more_than_none n ∙ ap (λ k. not (nat_eq k 0)) (is ∙ sym (size b)) ∙ sym (pending_is_own (boxes_view ms) b h.boxes.kept.own)

  pub none_test : (b : ℕ) → is_some (mailbox_at ms b) ≡ false → false ≡ has_pending b (messages_of (boxes_view ms))
  none_test b dead = pending_test b 0 (sym (ap length (none_pending ms b dead)))

  pub counted : all_pending ms ≡ length (messages_of (boxes_view ms))
  counted = sym (all_are_counted (boxes_view ms) ∙ count_view ms)

  -- a message that is pending somewhere is that of its number
  pub received_is : (b i k : ℕ) (n : Message) (m : CodeMessage) → slice_get (pending_at (boxes_view ms) b) i ≡ Some n → n.number ≡ k → slice_get (pending_of ms b) i ≡ Some m → message_at (state_view c ms) k ≡ Some (message_view m)
  received_is b i k n m there numbered own =
      let both : Some n ≡ Some (message_view m) = sym there ∙ ap (λ l. slice_get l i) (pending_view ms b) ∙ map_get message_view (pending_of ms b) i m own in
      ap (λ j. message_at (state_view c ms) j) (sym numbered) ∙ place_is_found (boxes_view ms) b i n h.boxes.kept.distinct there ∙ both

-- ---- steps

-- what a guard frees is freed, where it may be
frees_if : (p : Program) (c : Config) (t a : ℕ) (k : Control) (o : Option Guarding) → option_and_then (λ g. frees_by p g g.free) o ≡ Some (a, k) → option_and_then (λ g. freed_by p c t g g.free) o ≡ (if may_free c t a then Some (a, k) else None)
frees_if p c t a k None is = absurd cc
frees_if p c t a k (Some g) is = by_free g.free is
  where
    by_free : (free : Option ℕ) → frees_by p g free ≡ Some (a, k) → freed_by p c t g free ≡ (if may_free c t a then Some (a, k) else None)
    by_free None is = absurd cc
    by_free (Some n) is =
        let same : (g.mailbox, at_node p n g.env) ≡ (a, k) = cc in
        ap (λ (q : ℕ × Control). if may_free c t q.0 then Some q else None) same

-- where it frees nothing, nothing is freed
frees_none : (p : Program) (c : Config) (t : ℕ) (o : Option Guarding) → option_and_then (λ g. frees_by p g g.free) o ≡ None → option_and_then (λ g. freed_by p c t g g.free) o ≡ None
frees_none p c t None is = refl
frees_none p c t (Some g) is = by_free g.free is
  where
    by_free : (free : Option ℕ) → frees_by p g free ≡ None → freed_by p c t g free ≡ None
    by_free None is = refl
    by_free (Some n) is = absurd cc

passes : {A B : Type 0} (f : A → B) (b : Bool) (x : A) (y : B) → option_map f (if b then Some x else None) ≡ Some y → b ≡ true
passes f true x y is = refl
passes f false x y is = absurd cc

module _ (p : Program) (c : Config) (latest : Option ℕ) (ms : List (Option Mailbox)) (h : IsState c latest ms) where
  abbrev seen : Config
  seen = state_view c ms

  abbrev boxes : List (Option (List Message))
  boxes = boxes_view ms

  view_same : (d : Config) (ns : List (Option Mailbox)) → d ≡ c → ns ≡ ms → state_view d ns ≡ seen
  view_same d ns same kept = ap (λ x. state_view x ns) same ∙ ap (state_view c) kept

  pub left : (d : Config) (ns : List (Option Mailbox)) → d ≡ c → ns ≡ ms → IsState d latest ns
  left d ns same kept = subst (λ x. IsState x latest ns) (sym same) (subst (IsState c latest) (sym kept) h)

  -- a step that the thread alone can't take
  none_alone : (k : Step) (o : Option Thread) → thread_at c k.thread ≡ o → is_beside k.act ≡ true → ((s : Thread) → thread_at c k.thread ≡ Some s → step p (alone c k.thread s c.live) k ≡ None) → step p seen k ≡ None
  none_alone k None at own none = ap (option_and_then (λ s. thread_step p seen k.thread s k.act)) at
  none_alone k (Some s) at own none = steps_alone p seen k.thread s k.act own at ∙ ap (option_map (back seen k.thread)) (ap (λ l. step p (alone c k.thread s l) k) (sym h.live) ∙ none s at)

  refused : (k : Step) → is_beside k.act ≡ true → (d : Config) (e : StepError) → StepsApart p c k d (Err e) → StepGives (λ x. x) (step p seen k) seen (state_view d ms) (Err e)
  refused k own d Disabled (none, same) = (none_alone k (thread_at c k.thread) refl own none, view_same d ms same refl)
  refused k own d NoMemory same = view_same d ms same refl

  same_next : (d : Config) → d.next_message ≡ c.next_message → AllByRecursion (λ m. m.number + 1 ≡ d.next_message → latest ≡ Some m.mailbox) (messages_of boxes)
  same_next d next = subst (λ n. AllByRecursion (λ (m : Message). m.number + 1 ≡ n → latest ≡ Some m.mailbox) (messages_of boxes)) (sym next) h.boxes.last

  -- ---- beside

  beside_done : (t : ℕ) (a : Act) → is_beside a ≡ true → (d : Config) → IsTaken p c (record { thread = t; act = a }) d
      → (step p seen (record { thread = t; act = a }) ≡ Some (state_view d ms)) × IsState d latest ms
  beside_done t a beside d x =
      let k : Step = record { thread = t; act = a } in
      let inner : step p (alone c t x.thread []) k ≡ Some x.left = ap (λ l. step p (alone c t x.thread l) k) (sym h.live) ∙ x.gives in
      let leaves = beside_leaves p c x.left t x.thread a beside inner in
      let whole : step p seen k ≡ Some (state_view d ms) =
      steps_alone p seen t x.thread a beside x.there
      ∙ ap (option_map (back seen t)) inner
      ∙ ap (λ (y : Config). Some (record y { messages = messages_of boxes ++ x.left.messages; live = live_of boxes ++ x.left.live })) (sym x.after)
      ∙ ap (λ (l : List Message). Some (record d { messages = l; live = live_of boxes ++ x.left.live })) (ap (λ l. messages_of boxes ++ l) leaves.messages ∙ append-nil (messages_of boxes))
      ∙ ap (λ (l : List ℕ). Some (record d { messages = messages_of boxes; live = l })) (ap (λ l. live_of boxes ++ l) leaves.live ∙ append-nil (live_of boxes)) in (
        whole,
        record {
          messages = ap (λ (y : Config). y.messages) x.after ∙ leaves.messages;
          live = ap (λ (y : Config). y.live) x.after ∙ leaves.live;
          boxes = record {
            numbered = h.boxes.numbered ∙ sym leaves.mailboxes ∙ sym (ap (λ (y : Config). y.next_mailbox) x.after);
            kept = h.boxes.kept;
            last = same_next d (ap (λ (y : Config). y.next_message) x.after ∙ leaves.next);
          };
        },
      )

  error_leaves : (k : Step) (d : Config) (e : StepError) → StepsApart p c k d (Err e) → d ≡ c
  error_leaves k d Disabled apart = apart.1
  error_leaves k d NoMemory apart = apart

  pub beside : (t : ℕ) (a : Act) → is_beside a ≡ true → (d : Config) (r : Result (Unit {0}) StepError) → StepsApart p c (record { thread = t; act = a }) d r
      → StepGives (λ x. x) (step p seen (record { thread = t; act = a })) seen (state_view d ms) r × IsState d latest ms
  beside t a is_beside d (Ok u) apart = beside_done t a is_beside d apart
  beside t a is_beside d (Err e) apart = (
    refused (record { thread = t; act = a }) is_beside d e apart,
    left d ms (error_leaves (record { thread = t; act = a }) d e apart) refl,
  )

  -- ---- new

  abbrev pub fresh : Option Mailbox
  fresh = Some (record { pending = [] })

  pub new_done : (t : ℕ) (d : Config) → IsMade p c t d → (ns : List (Option Mailbox)) → ns ≡ ms ++ fresh ∷ []
      → (step p seen (record { thread = t; act = ActNew }) ≡ Some (state_view d ns)) × IsState d latest ns
  new_done t d x ns grown =
      let view : boxes_view ns ≡ boxes ++ Some [] ∷ [] = ap boxes_view grown ∙ push_view ms fresh in
      let law = makes_last boxes in
      let messages : messages_of (boxes_view ns) ≡ messages_of boxes = ap messages_of view ∙ law.messages in
      let live : live_of (boxes_view ns) ≡ live_of boxes ++ c.next_mailbox ∷ [] = ap live_of view ∙ law.live ∙ ap (λ n. live_of boxes ++ n ∷ []) h.boxes.numbered in
      let whole : step p seen (record { thread = t; act = ActNew }) ≡ Some (state_view d ns) =
      new_step p seen t x.thread x.there
      ∙ cond-true (is_new (redex p x.thread.control)) (Some (made seen t x.thread.frames)) None x.makes
      ∙ ap (λ (y : Config). Some (record y { messages = messages_of boxes; live = live_of boxes ++ c.next_mailbox ∷ [] })) (sym x.after)
      ∙ ap (λ (l : List Message). Some (record d { messages = l; live = live_of boxes ++ c.next_mailbox ∷ [] })) (sym messages)
      ∙ ap (λ (l : List ℕ). Some (record d { messages = messages_of (boxes_view ns); live = l })) (sym live) in
      let next : d.next_message ≡ c.next_message = ap (λ (y : Config). y.next_message) x.after in (
        whole,
        record {
          messages = ap (λ (y : Config). y.messages) x.after ∙ h.messages;
          live = ap (λ (y : Config). y.live) x.after ∙ h.live;
          boxes = record {
            numbered =
                let size = ap length view in
                let more = length-append boxes (Some [] ∷ []) in
                let old = h.boxes.numbered in
                let made = ap (λ (y : Config). y.next_mailbox) x.after in
                omega arith;
            kept = subst AreKept (sym view) (law.kept h.boxes.kept);
            last = subst (λ l. AllByRecursion (λ (m : Message). m.number + 1 ≡ d.next_message → latest ≡ Some m.mailbox) l) (sym messages) (same_next d next);
          };
        },
      )

  -- a thread that makes none
  none_made : (t : ℕ) (o : Option Thread) → thread_at c t ≡ o → ((s : Thread) → thread_at c t ≡ Some s → is_new (redex p s.control) ≡ false) → step p seen (record { thread = t; act = ActNew }) ≡ None
  none_made t None at none = ap (option_and_then (λ s. thread_step p seen t s ActNew)) at
  none_made t (Some s) at none = new_step p seen t s at ∙ cond-false (is_new (redex p s.control)) (Some (made seen t s.frames)) None (none s at)

  pub new_refused : (t : ℕ) (d : Config) (ns : List (Option Mailbox)) → ns ≡ ms → (e : StepError) → MakesOut p c t d (Err e) → StepGives (λ x. x) (step p seen (record { thread = t; act = ActNew })) seen (state_view d ns) (Err e) × IsState d latest ns
  new_refused t d ns kept Disabled (none, same) = ((none_made t (thread_at c t) refl none, view_same d ns same kept), left d ns same kept)
  new_refused t d ns kept NoMemory same = (view_same d ns same kept, left d ns same kept)

  -- ---- send

  module _ (t : ℕ) (m : CodeMessage) (d : Config) (x : IsSent p c t (message_view m) d) where
    abbrev single : Config
    single = alone c t x.thread []

    sends : Sends c (message_view m)
    sends =
        send_leaves p c (sent single t x.thread.frames (message_view m)) t x.thread (message_view m) x.there
        (send_step p single t x.thread (own_there t x.thread) ∙ ap (option_map (sent single t x.thread.frames)) x.message)
        refl

    module _ (ordered : IsOrdered seen) (to_live : SendsToLive p seen t) where
      target_live : is_some (box_at boxes m.mailbox) ≡ true
      target_live = sym (live_is_listed boxes m.mailbox) ∙ to_live x.thread (message_view m) x.there x.message

      pub mailbox_live : IsLive ms m.mailbox
      mailbox_live = is_live ms m.mailbox (sym (live_view ms m.mailbox) ∙ target_live)

      below : AllByRecursion (λ (n : Message). n.number < m.number) (messages_of boxes)
      below = subst (λ k. AllByRecursion (λ (n : Message). n.number < k) (messages_of boxes)) (sym sends.number) ordered.messages_below

      pub last_there : AllByRecursion (λ (n : CodeMessage). n.number < m.number) (pending_of ms m.mailbox)
      last_there =
          let own = pending_all (λ (n : Message). n.number < m.number) boxes m.mailbox (all_in_order (λ (n : Message). n.number < m.number) (all_of boxes) below) in
          all_unmap message_view (λ (n : Message). n.number < m.number) (pending_of ms m.mailbox) (subst (AllByRecursion (λ (n : Message). n.number < m.number)) (pending_view ms m.mailbox) own)

      pub send_done : (ns : List (Option Mailbox)) → ns ≡ slice_set ms m.mailbox (Some (record { pending = pending_of ms m.mailbox ++ m ∷ [] }))
          → (step p seen (record { thread = t; act = ActSend }) ≡ Some (state_view d ns)) × IsState d (Some m.mailbox) ns
      send_done ns grown =
          let b = m.mailbox in
          let n = message_view m in
          let own : map message_view (pending_of ms b ++ m ∷ []) ≡ pending_at boxes b ++ n ∷ [] =
          map-append message_view (pending_of ms b) (m ∷ []) ∙ ap (λ l. l ++ n ∷ []) (sym (pending_view ms b)) in
          let view : boxes_view ns ≡ slice_set boxes b (Some (pending_at boxes b ++ n ∷ [])) =
          ap boxes_view grown ∙ set_view ms b (Some (record { pending = pending_of ms b ++ m ∷ [] })) ∙ ap (λ l. slice_set boxes b (Some l)) own in
          let law = sends_last boxes b n target_live below in
          let messages : messages_of (boxes_view ns) ≡ messages_of boxes ++ n ∷ [] = ap messages_of view ∙ law.messages in
          let live : live_of (boxes_view ns) ≡ live_of boxes = ap live_of view ∙ law.live in
          let whole : step p seen (record { thread = t; act = ActSend }) ≡ Some (state_view d ns) =
          send_step p seen t x.thread x.there
          ∙ ap (option_map (sent seen t x.thread.frames)) x.message
          ∙ ap (λ (y : Config). Some (record y { messages = messages_of boxes ++ n ∷ []; live = live_of boxes })) (sym x.after)
          ∙ ap (λ (l : List Message). Some (record d { messages = l; live = live_of boxes })) (sym messages)
          ∙ ap (λ (l : List ℕ). Some (record d { messages = messages_of (boxes_view ns); live = l })) (sym live) in
          let next : d.next_message ≡ c.next_message + 1 = ap (λ (y : Config). y.next_message) x.after in
          let older : AllByRecursion (λ (y : Message). y.number + 1 ≡ d.next_message → Some b ≡ Some y.mailbox) (messages_of boxes) =
          all_weaker (λ (y : Message). y.number < c.next_message) (λ (y : Message). y.number + 1 ≡ d.next_message → Some b ≡ Some y.mailbox) (λ y less is. absurd (omega arith)) (messages_of boxes) ordered.messages_below in (
            whole,
            record {
              messages = ap (λ (y : Config). y.messages) x.after ∙ h.messages;
              live = ap (λ (y : Config). y.live) x.after ∙ h.live;
              boxes = record {
                numbered =
                    let size = ap length view ∙ length_set boxes b (Some (pending_at boxes b ++ n ∷ [])) in
                    size ∙ h.boxes.numbered ∙ sym (ap (λ (y : Config). y.next_mailbox) x.after);
                kept = subst AreKept (sym view) (law.kept refl h.boxes.kept);
                last =
                    subst (AllByRecursion (λ (y : Message). y.number + 1 ≡ d.next_message → Some b ≡ Some y.mailbox)) (sym messages)
                    (all_last (λ (y : Message). y.number + 1 ≡ d.next_message → Some b ≡ Some y.mailbox) (messages_of boxes) n older (λ is. refl));
              };
            },
          )

  -- a thread that sends nothing
  none_sent : (t : ℕ) (o : Option Thread) → thread_at c t ≡ o → HasNone p c t (redex_message c.next_message) → step p seen (record { thread = t; act = ActSend }) ≡ None
  none_sent t None at none = ap (option_and_then (λ s. thread_step p seen t s ActSend)) at
  none_sent t (Some s) at none = send_step p seen t s at ∙ ap (option_map (sent seen t s.frames)) (none s at)

  pub send_refused : (t : ℕ) (d : Config) (ns : List (Option Mailbox)) → ns ≡ ms → (e : StepError) → SendsOut p c t d (Err e) → StepGives (λ x. x) (step p seen (record { thread = t; act = ActSend })) seen (state_view d ns) (Err e) × IsState d latest ns
  send_refused t d ns kept Disabled (none, same) = ((none_sent t (thread_at c t) refl none, view_same d ns same kept), left d ns same kept)
  send_refused t d ns kept NoMemory same = (view_same d ns same kept, left d ns same kept)

  -- ---- free

  module _ (t : ℕ) (enabled : IsEnabled p seen (record { thread = t; act = ActFree })) where
    module _ (a : ℕ) (d : Config) (x : IsFreed p c t a d) where
      abbrev r : Redex
      r = redex p x.thread.control

      tested : redex_freed p seen t r ≡ (if may_free seen t a then Some (a, x.control) else None)
      tested = frees_if p seen t a x.control (guard_at r) x.frees

      stepped : step p seen (record { thread = t; act = ActFree }) ≡ option_map (freed seen t x.thread.frames) (if may_free seen t a then Some (a, x.control) else None)
      stepped = free_step p seen t x.thread x.there ∙ ap (option_map (freed seen t x.thread.frames)) tested

      may : may_free seen t a ≡ true
      may = passes (freed seen t x.thread.frames) (may_free seen t a) (a, x.control) enabled.0 (sym stepped ∙ enabled.1)

      parts : (is_among a (live_of boxes) ≡ true) × (not (has_pending a (messages_of boxes)) ≡ true)
      parts =
          let both = and_parts (is_among a (live_of boxes)) (not (has_pending a (messages_of boxes)) && is_reached_by_none_but seen a t) may in
          (both.0, (and_parts (not (has_pending a (messages_of boxes))) (is_reached_by_none_but seen a t) both.1).0)

      pub freed_live : IsLive ms a
      freed_live = is_live ms a (sym (live_view ms a) ∙ sym (live_is_listed boxes a) ∙ parts.0)

      pub freed_empty : pending_of ms a ≡ []
      freed_empty =
          let none : not (nat_eq (length (pending_at boxes a)) 0) ≡ false = sym (pending_is_own boxes a h.boxes.kept.own) ∙ not-true (has_pending a (messages_of boxes)) parts.1 in
          empty_length (pending_of ms a) (ap (λ l. nat_eq (length l) 0) (sym (pending_view ms a)) ∙ double_not (nat_eq (length (pending_at boxes a)) 0) none)

      pub free_done : (ns : List (Option Mailbox)) → ns ≡ slice_set ms a None → (step p seen (record { thread = t; act = ActFree }) ≡ Some (state_view d ns)) × IsState d latest ns
      free_done ns less =
          let view : boxes_view ns ≡ slice_set boxes a None = ap boxes_view less ∙ set_view ms a None in
          let law = frees_one boxes a (pending_view ms a ∙ ap (map message_view) freed_empty) in
          let messages : messages_of (boxes_view ns) ≡ messages_of boxes = ap messages_of view ∙ law.messages in
          let rest = filter (λ b. not (nat_eq b a)) (live_of boxes) in
          let live : live_of (boxes_view ns) ≡ rest = ap live_of view ∙ law.live in
          let whole : step p seen (record { thread = t; act = ActFree }) ≡ Some (state_view d ns) =
          stepped
          ∙ ap (option_map (freed seen t x.thread.frames)) (cond-true (may_free seen t a) (Some (a, x.control)) None may)
          ∙ ap (λ (y : Config). Some (record y { messages = messages_of boxes; live = rest })) (sym x.after)
          ∙ ap (λ (l : List Message). Some (record d { messages = l; live = rest })) (sym messages)
          ∙ ap (λ (l : List ℕ). Some (record d { messages = messages_of (boxes_view ns); live = l })) (sym live) in
          let next : d.next_message ≡ c.next_message = ap (λ (y : Config). y.next_message) x.after in (
            whole,
            record {
              messages = ap (λ (y : Config). y.messages) x.after ∙ h.messages;
              live = ap (λ (y : Config). y.live) x.after ∙ h.live;
              boxes = record {
                numbered = ap length view ∙ length_set boxes a None ∙ h.boxes.numbered ∙ sym (ap (λ (y : Config). y.next_mailbox) x.after);
                kept = subst AreKept (sym view) (law.kept h.boxes.kept);
                last = subst (λ l. AllByRecursion (λ (m : Message). m.number + 1 ≡ d.next_message → latest ≡ Some m.mailbox) l) (sym messages) (same_next d next);
              };
            },
          )

    -- the thread frees something
    frees_some : HasNone p c t (redex_frees p) → ⊥
    frees_some none =
        let k : Step = record { thread = t; act = ActFree } in
        let o = step_of p seen k enabled.0 enabled.1 in
        let s = o.thread in
        let stuck : step p seen k ≡ None =
        free_step p seen t s o.there
        ∙ ap (option_map (freed seen t s.frames)) (frees_none p seen t (guard_at (redex p s.control)) (none s o.there)) in
        let both : Some enabled.0 ≡ None = sym enabled.1 ∙ stuck in
        cc

    pub free_refused : (d : Config) (ns : List (Option Mailbox)) → ns ≡ ms → (e : StepError) → FreesOut p c t d (Err e) → StepGives (λ x. x) (step p seen (record { thread = t; act = ActFree })) seen (state_view d ns) (Err e) × IsState d latest ns
    free_refused d ns kept Disabled (none, same) = absurd (frees_some none)
    free_refused d ns kept NoMemory same = (view_same d ns same kept, left d ns same kept)

  -- ---- receive

  module _ (t k : ℕ) (s : Thread) (there : thread_at seen t ≡ Some s) where
    pub receive_refused : redex_received p (messages_of boxes) k (redex p s.control) ≡ None → step p seen (record { thread = t; act = ActReceive k }) ≡ None
    receive_refused none = receive_step p seen t s there k ∙ ap (option_map (taken seen t s.frames k)) none

    module _ (b i : ℕ) (control : Control) (delivery : IsDelivery p boxes (redex p s.control) k b i control) where
      pub receive_done : (d : Config) → d ≡ with_thread c t (thread_of control s.frames)
          → (ns : List (Option Mailbox)) → ns ≡ slice_set ms b (Some (record { pending = remove (pending_of ms b) i }))
          → (step p seen (record { thread = t; act = ActReceive k }) ≡ Some (state_view d ns)) × IsState d latest ns
      receive_done d moved ns less =
          let j : Step = record { thread = t; act = ActReceive k } in
          let own : map message_view (remove (pending_of ms b) i) ≡ remove (pending_at boxes b) i = map_remove message_view (pending_of ms b) i ∙ ap (λ l. remove l i) (sym (pending_view ms b)) in
          let view : boxes_view ns ≡ slice_set boxes b (Some (remove (pending_at boxes b) i)) =
          ap boxes_view less ∙ set_view ms b (Some (record { pending = remove (pending_of ms b) i })) ∙ ap (λ l. slice_set boxes b (Some l)) own in
          let law = takes_one boxes b i delivery.message h.boxes.kept.distinct delivery.there in
          let rest = filter (λ (n : Message). not (nat_eq n.number k)) (messages_of boxes) in
          let messages : messages_of (boxes_view ns) ≡ rest = ap messages_of view ∙ law.messages ∙ ap (λ x. filter (λ (n : Message). not (nat_eq n.number x)) (messages_of boxes)) delivery.numbered in
          let live : live_of (boxes_view ns) ≡ live_of boxes = ap live_of view ∙ law.live in
          let whole : step p seen j ≡ Some (state_view d ns) =
          receive_step p seen t s there k
          ∙ ap (option_map (taken seen t s.frames k)) delivery.goes_on
          ∙ ap (λ (y : Config). Some (record y { messages = rest; live = live_of boxes })) (sym moved)
          ∙ ap (λ (l : List Message). Some (record d { messages = l; live = live_of boxes })) (sym messages)
          ∙ ap (λ (l : List ℕ). Some (record d { messages = messages_of (boxes_view ns); live = l })) (sym live) in
          let next : d.next_message ≡ c.next_message = ap (λ (y : Config). y.next_message) moved in (
            whole,
            record {
              messages = ap (λ (y : Config). y.messages) moved ∙ h.messages;
              live = ap (λ (y : Config). y.live) moved ∙ h.live;
              boxes = record {
                numbered = ap length view ∙ length_set boxes b (Some (remove (pending_at boxes b) i)) ∙ h.boxes.numbered ∙ sym (ap (λ (y : Config). y.next_mailbox) moved);
                kept = subst AreKept (sym view) (law.kept h.boxes.kept.own);
                last =
                    subst (AllByRecursion (λ (m : Message). m.number + 1 ≡ d.next_message → latest ≡ Some m.mailbox)) (sym messages)
                    (all_filter (λ (m : Message). m.number + 1 ≡ d.next_message → latest ≡ Some m.mailbox) (λ n. not (nat_eq n.number k)) (messages_of boxes) (same_next d next));
              };
            },
          )

-- where what threads refer to is live, so is what they send to
pub refer_sends : (p : Program) (c : Config) (t : ℕ) → ReferToLive c → SendsToLive p c t
refer_sends p c t refer s m there message =
    let single : Config = alone c t s [] in
    let leaves = send_leaves p c (sent single t s.frames m) t s m there (send_step p single t s (own_there t s) ∙ ap (option_map (sent single t s.frames)) message) refl in
    refer m.mailbox leaves.named

-- a refusal
pub refused_as : (after : Option Config) (c d : Config) (e : StepError) → (e ≡ Disabled → after ≡ None) → d ≡ c → StepGives (λ x. x) after c d (Err e)
refused_as after c d Disabled none same = (none refl, same)
refused_as after c d NoMemory none same = same

-- ---- the start

pub started : (p : Program) (c : Config) (ms : List (Option Mailbox)) → c ≡ start p → ms ≡ [] → IsState c None ms
started p c ms is none = go (function_at p p.main) is
  where
    go : (o : Option Function) → c ≡ start_of o → IsState c None ms
    go None is = record {
      messages = ap (λ (x : Config). x.messages) is;
      live = ap (λ (x : Config). x.live) is;
      boxes = subst (λ n. AreOf (state_view c n) None (boxes_view n)) (sym none) (record { numbered = sym (ap (λ (x : Config). x.next_mailbox) is); kept = record { own = λ b. record { ascends = tt; own = tt }; distinct = tt }; last = tt });
    }
    go (Some f) is = record {
      messages = ap (λ (x : Config). x.messages) is;
      live = ap (λ (x : Config). x.live) is;
      boxes = subst (λ n. AreOf (state_view c n) None (boxes_view n)) (sym none) (record { numbered = sym (ap (λ (x : Config). x.next_mailbox) is); kept = record { own = λ b. record { ascends = tt; own = tt }; distinct = tt }; last = tt });
    }
