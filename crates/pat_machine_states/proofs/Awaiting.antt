-- Threads that wait at guards, and the last message.
use Rattle.std.proofs.Common.{◌≡◌, ℕ, ◌+◌, ◌<◌, Bool, true, false, nat_eq, List, [], ◌∷◌, ◌++◌, map, length, drop, Option, Some, None, slice_get, refl, sym, ap, ◌∙◌, subst, inl, inr, eq-eqb, arith}
use Rattle.std.specs.Prelude.{◌↔◌, option_map, option_and_then, is_some, if◌then◌else◌, filter}
use Rattle.std.specs.List.{AllByRecursion}
use Rattle.std.proofs.lemmas.Bool.{cond-true}
use Rattle.std.proofs.lemmas.List.{length-append, length-map}
use Rattle.std.proofs.lemmas.List.Elements.{filter-append}
use Rattle.pat_semantics_spec.specs.Values.{Value, Const, Mailbox, Env, value_at}
use Rattle.pat_semantics_spec.specs.Programs.{Program, Guard, Clause}
use Rattle.pat_semantics_spec.specs.Configs.{Thread, Message, Config, thread_at}
use Rattle.pat_semantics_spec.specs.Steps.{Redex, At, redex, ActReceive, at_node, clause_for, received, step}
use Rattle.pat_semantics_spec.specs.Faults.{IsIn}
use Rattle.pat_semantics_laws.specs.Laws.{IsEnabled}
use Rattle.pat_semantics_laws.proofs.Ascending.{found_by_number}
use Rattle.pat_machine_laws.proofs.Opens.{some_of}
use Rattle.pat_reduce.specs.declared.threads.state.Message.{Message as CodeMessage}
use Rattle.pat_reduce.specs.threads.ThreadViews.{message_view}
use Rattle.pat_reduce.specs.threads.ThreadActs.{Guarding, guarding, guard_at, message_in, clause_takes, takes, received_by, received_of, redex_received}
use Rattle.pat_reduce.specs.Acts.{EnabledAct, act_at, guard_act, plain_act}
use Rattle.pat_reduce.proofs.Candidates.{act_found}
use Rattle.pat_reduce.proofs.Shared.{taken, receive_step}
use Rattle.pat_machine_laws.specs.mailbox_index.Pending.{Ascend, messages_of}
use Rattle.pat_machine_laws.proofs.MailboxIndexLookUps.{own_are_pending}
use Rattle.pat_machine_indexes.specs.messages.Mailboxes.{Mailbox as Box, pending_at as pending_of}
use Rattle.pat_machine_indexes.specs.messages.Lanes.{last_of as last_pending}
use Rattle.pat_machine_indexes.specs.messages.Boxes.{boxes_view}
use Rattle.pat_machine_indexes.proofs.Boxed.{pending_view}
use Rattle.pat_machine_states.specs.Boxes.{state_view, IsLatest, IsState}
use Rattle.pat_machine_states.specs.Stepping.{mailbox_of}
use Rattle.pat_machine_states.proofs.Reaching.{some_map}
use Rattle.pat_machine_laws.specs.wakeups.Wakings.{mailbox_in, guarded_at, IsWaiting}

on_value : (free : Option ℕ) (o : Option Value) (cs : List Clause) (env : Env) → mailbox_in o ≡ option_map mailbox_of (guarding free cs env o)
on_value free (Some (Mailbox a)) cs env = refl
on_value free (Some (Const k)) cs env = refl
on_value free None cs env = refl

-- what stands there is guarded
guarded_guard : (r : Redex) → guarded_at r ≡ option_map mailbox_of (guard_at r)
guarded_guard (At (Guard x e free cs) env) = on_value free (value_at env x) cs env
guarded_guard _ = refl

-- a thread at a guard that can't step waits there
pub waits : (p : Program) (c : Config) (t : ℕ) (s : Thread) (g : Guarding) → thread_at c t ≡ Some s → guard_at (redex p s.control) ≡ Some g → guard_act c t g ≡ None → IsWaiting p c t g.mailbox
waits p c t s g there at none = record {
  thread = s;
  there = there;
  awaits = guarded_guard (redex p s.control) ∙ ap (option_map mailbox_of) at;
  still =
      subst (EnabledAct p c t) none
      (subst (λ o. EnabledAct p c t (act_at c t o (plain_act p (redex p s.control) s.frames))) at (act_found p c t s there));
}

last_of : {A : Type 0} (P : A → Type 0) (xs : List A) (x : A) → AllByRecursion P (xs ++ x ∷ []) → P x
last_of P [] x h = h.0
last_of P (y ∷ ys) x h = last_of P ys x h.1

-- the mailbox of the last message, where that was sent last
pub latest_of : (latest : Option ℕ) (c : Config) (ms : List Message) (m : Message) → IsLatest latest c → c.messages ≡ ms ++ m ∷ [] → m.number + 1 ≡ c.next_message → latest ≡ Some m.mailbox
latest_of latest c ms m all last next =
    last_of (λ (x : Message). x.number + 1 ≡ c.next_message → latest ≡ Some x.mailbox) ms m (subst (AllByRecursion (λ (x : Message). x.number + 1 ≡ c.next_message → latest ≡ Some x.mailbox)) last all) next

last_view : (xs : List CodeMessage) (ys : List Message) (m : Message) → map message_view xs ≡ ys ++ m ∷ [] → option_map message_view (last_pending xs) ≡ Some m
last_view [] ys m e = let size = ap length e ∙ length-append ys (m ∷ []) in absurd (omega arith)
last_view (x ∷ []) [] m e = ap (λ l. slice_get l 0) e
last_view (x ∷ []) (y ∷ ys) m e = let size = ap length e ∙ length-append (y ∷ ys) (m ∷ []) in absurd (omega arith)
last_view (x ∷ z ∷ zs) [] m e = let size = ap length e in absurd (omega arith)
last_view (x ∷ z ∷ zs) (y ∷ ys) m e = last_view (z ∷ zs) ys m (ap (drop 1) e)

module _ (c : Config) (latest : Option ℕ) (ms : List (Option Box)) (h : IsState c latest ms) (before : List Message) (m : Message) (last : messages_of (boxes_view ms) ≡ before ++ m ∷ []) (next : m.number + 1 ≡ c.next_message) (b : ℕ) (sent : latest ≡ Some b) where
  abbrev own : Message → Bool
  own n = nat_eq n.mailbox b

  its_mailbox : m.mailbox ≡ b
  its_mailbox =
      let both : Some m.mailbox ≡ Some b = sym (latest_of latest (state_view c ms) before m h.boxes.last last next) ∙ sent in
      cc

  -- it is the last of its mailbox
  own_last : map message_view (pending_of ms b) ≡ filter own before ++ m ∷ []
  own_last =
      sym (pending_view ms b)
      ∙ sym (own_are_pending (boxes_view ms) b h.boxes.kept.own)
      ∙ ap (filter own) last
      ∙ filter-append own before (m ∷ [])
      ∙ ap (λ l. filter own before ++ l) (cond-true (own m) (m ∷ []) [] (eq-eqb m.mailbox b its_mailbox))

  own_length : length (pending_of ms b) ≡ length (filter own before) + 1
  own_length =
      let len = length-map (pending_of ms b) message_view in
      let more = length-append (filter own before) (m ∷ []) in
      let same = ap length own_last in
      omega arith

  pub some_there : 0 < length (pending_of ms b)
  some_there = let len = own_length in omega arith

  pub last_is : option_map message_view (last_pending (pending_of ms b)) ≡ Some m
  last_is = last_view (pending_of ms b) (filter own before) m own_last

-- ---- who receives the last message

last_in : {A : Type 0} (xs : List A) (x : A) → IsIn x (xs ++ x ∷ [])
last_in [] x = inl refl
last_in (y ∷ ys) x = inr (last_in ys x)

-- the last message is found by its number
last_found : (c : Config) (ms : List Message) (m : Message) → Ascend c.messages → c.messages ≡ ms ++ m ∷ [] → message_in c.messages m.number ≡ Some m
last_found c ms m ascends last =
    ap (λ l. message_in l m.number) last
    ∙ found_by_number (λ (n : Message). n.number) 0 (ms ++ m ∷ []) m (subst Ascend last ascends) (last_in ms m)

clause_receives : (p : Program) (g : Guarding) (m : Message) (o : Option Clause) → is_some (received_by p g m o) ≡ clause_takes g.mailbox m o
clause_receives p g m None = refl
clause_receives p g m (Some r) =
    elim (clause_takes g.mailbox m (Some r)) as (λ b. is_some (if b then Some (at_node p r.body (received r m g.env)) else None) ≡ b) [
      | true ↦ refl
      | false ↦ refl
    ]

-- a guard that takes the last message may receive it, and no other may
pub receives_last_exactly : (p : Program) (c : Config) (t : ℕ) (s : Thread) (g : Guarding) (ms : List Message) (m : Message) → thread_at c t ≡ Some s → guard_at (redex p s.control) ≡ Some g → Ascend c.messages → c.messages ≡ ms ++ m ∷ []
    → (takes g m ≡ true) ↔ IsEnabled p c (record { thread = t; act = ActReceive m.number })
receives_last_exactly p c t s g ms m there at ascends last =
    let after = step p c (record { thread = t; act = ActReceive m.number }) in
    let same : takes g m ≡ is_some after =
    sym (clause_receives p g m (clause_for m.tag g.receives))
    ∙ ap (λ o. is_some (received_of p g o)) (sym (last_found c ms m ascends last))
    ∙ ap (λ o. is_some (option_and_then (λ h. received_of p h (message_in c.messages m.number)) o)) (sym at)
    ∙ sym (some_map (taken c t s.frames m.number) (redex_received p c.messages m.number (redex p s.control)))
    ∙ ap is_some (sym (receive_step p c t s there m.number)) in
    (λ yes. some_of after (sym same ∙ yes), λ e. same ∙ ap is_some e.1)
