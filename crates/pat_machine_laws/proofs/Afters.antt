-- What is left of threads, messages and live mailboxes, after one thread went on by itself and took a shared act.
use Rattle.std.proofs.Common.{◌≡◌, ℕ, ◌≤◌, arith, Bool, true, false, not, ◌&&◌, nat_eq, List, [], ◌∷◌, ◌++◌, length, length-append, filter, map, Option, Some, None, refl, sym, ap, ◌∙◌, subst, ◌⊎◌, inl, inr, ⊎_elim}
use Rattle.std.specs.Prelude.{find, option_and_then}
use Rattle.std.specs.List.{list_any}
use Rattle.std.specs.Map.{lookup, set_value, remove_entry}
use Rattle.std.proofs.lemmas.Bool.{and_parts, or_cases, or_left, eqb-true, eq-eqb}
use Rattle.pat_semantics_spec.specs.Values.{Mailbox, Env, value_at}
use Rattle.pat_semantics_spec.specs.Programs.{Program, Core, Send, Guard, is_among}
use Rattle.pat_semantics_spec.specs.Configs.{Returned, Thread, Message, Config, thread_at, with_thread, control_refers, env_refers, thread_refers, message_refers, other_refers, has_pending}
use Rattle.pat_semantics_spec.specs.Orders.{AscendsFrom, IsOrdered}
use Rattle.pat_semantics_spec.specs.Steps.{At, redex, redex_at, Act, ActLocal, ActNew, ActSend, ActSpawn, ActPrint, ActEnd, ActFree, ActReceive, step, thread_step, thread_of, message_at, without_thread}
use Rattle.pat_semantics_spec.specs.Runs.{run_from, shared_step}
use Rattle.pat_semantics_spec.specs.Faults.{IsIn}
use Rattle.pat_semantics_laws.proofs.Lists.{append_among, any_first, any_filter}
use Rattle.pat_semantics_laws.proofs.Ascending.{found_by_number, found_is_in}
use Rattle.pat_semantics_laws.proofs.Inversion.{StandsAt, step_of, print_step, new_step, receive_step, local_step_of, send_step, spawn_step, end_step, EndStep, end_value, end_return, free_step}
use Rattle.pat_safety_laws.proofs.Refers.{value_refers}
use Rattle.pat_machine_laws.proofs.CommitsLookUps.{set_twice, lookup_set_other, lookup_remove_other}
use Rattle.pat_machine_laws.proofs.Locals.{there_after}
use Rattle.pat_machine_laws.specs.wakeups.Wakings.{mailbox_in, target, target_at, is_named_by, is_brought_by, brings}
use Rattle.pat_machine_laws.proofs.WakeupsChanges.{set_stays, remove_stays, remove_set, lookup_last, find_last, find_kept, any_kept}

-- ---- threads

-- another thread that is there was there, or was spawned; and who was named by another still is, but by thread t, which was r
pub record ThreadsAfter (c : Config) (t : ℕ) (r : Thread) (act : Option Act) (ts : List (ℕ × Thread)) : Type 0 where
  pub others : (u : ℕ) (q : Thread) → (t ≡ u → ⊥) → lookup (nat_eq u) ts ≡ Some q → (thread_at c u ≡ Some q) ⊎ ((act ≡ Some ActSpawn) × (u ≡ c.next_thread))
  pub named : (a u : ℕ) → other_refers a u c.threads ≡ true → (other_refers a u ts ≡ true) ⊎ (thread_refers a r ≡ true)

threads_set : (c : Config) (t : ℕ) (r x : Thread) (act : Option Act) → thread_at c t ≡ Some r → ThreadsAfter c t r act (set_value (nat_eq t) c.threads x)
threads_set c t r x act there = record {
  others = λ u q other h. inl (sym (lookup_set_other c.threads t u x other) ∙ h);
  named = λ a u h. set_stays (λ k. not (nat_eq k u)) (thread_refers a) c.threads t r x there h;
}

threads_twice : (c : Config) (t : ℕ) (r s x : Thread) (act : Option Act) → thread_at c t ≡ Some r → ThreadsAfter c t r act (set_value (nat_eq t) (set_value (nat_eq t) c.threads s) x)
threads_twice c t r s x act there =
    subst (ThreadsAfter c t r act) (sym (set_twice c.threads t s x)) (threads_set c t r x act there)

threads_more : (c : Config) (t : ℕ) (r s x y : Thread) → thread_at c t ≡ Some r → ThreadsAfter c t r (Some ActSpawn) (set_value (nat_eq t) (set_value (nat_eq t) c.threads s) x ++ (c.next_thread, y) ∷ [])
threads_more c t r s x y there =
    let before = set_value (nat_eq t) (set_value (nat_eq t) c.threads s) x in
    let one = threads_twice c t r s x (Some ActSpawn) there in
    record {
      others = λ u q other h. ⊎_elim (λ l. one.others u q other l) (λ number. inr (refl, number)) (lookup_last before c.next_thread u y q h);
      named = λ a u h. ⊎_elim (λ l. inl (any_first (λ (e : ℕ × Thread). not (nat_eq e.0 u) && thread_refers a e.1) before ((c.next_thread, y) ∷ []) l)) (λ w. inr w) (one.named a u h);
    }

threads_less : (c : Config) (t : ℕ) (r s : Thread) (act : Option Act) → thread_at c t ≡ Some r → ThreadsAfter c t r act (remove_entry (nat_eq t) (set_value (nat_eq t) c.threads s))
threads_less c t r s act there =
    subst (ThreadsAfter c t r act) (sym (remove_set c.threads t s))
    (record {
      others = λ u q other h. inl (sym (lookup_remove_other c.threads t u other) ∙ h);
      named = λ a u h. remove_stays (λ k. not (nat_eq k u)) (thread_refers a) c.threads t r there h;
    })

-- ---- messages

-- a message that is pending was pending, or was sent; one that went was in a mailbox that thread t, as s, referred to, and it is what the act received
pub record MessagesAfter (p : Program) (c : Config) (s : Thread) (act : Option Act) (ms : List Message) : Type 0 where
  pub found : (k : ℕ) (m : Message) → find (λ x. nat_eq k x.number) ms ≡ Some m → (message_at c k ≡ Some m) ⊎ ((act ≡ Some ActSend) × (target p s ≡ Some m.mailbox) × (ms ≡ c.messages ++ m ∷ []))
  pub pending : (a : ℕ) → has_pending a c.messages ≡ true → (has_pending a ms ≡ true) ⊎ (thread_refers a s ≡ true)
  pub carried : (a : ℕ) → list_any (message_refers a) c.messages ≡ true → (list_any (message_refers a) ms ≡ true) ⊎ (brings c act a ≡ true)
  pub more : (length c.messages ≤ length ms) ⊎ ((k : ℕ) × (act ≡ Some (ActReceive k)))

messages_same : (p : Program) (c : Config) (s : Thread) (act : Option Act) → MessagesAfter p c s act c.messages
messages_same p c s act = record {
  found = λ k m h. inl h;
  pending = λ a h. inl h;
  carried = λ a h. inl h;
  more = inl (omega arith);
}

messages_more : (p : Program) (c : Config) (s : Thread) (n : Message) → target p s ≡ Some n.mailbox → MessagesAfter p c s (Some ActSend) (c.messages ++ n ∷ [])
messages_more p c s n to = record {
  found = λ k m h. ⊎_elim
      (λ l. inl l)
      (λ same. inr (refl, to ∙ ap (λ (x : Message). Some x.mailbox) same, ap (λ (x : Message). c.messages ++ x ∷ []) same))
      (find_last c.messages n m k h);
  pending = λ a h. inl (any_first (λ (m : Message). nat_eq m.mailbox a) c.messages (n ∷ []) h);
  carried = λ a h. inl (any_first (message_refers a) c.messages (n ∷ []) h);
  more = inl (let l = length-append c.messages (n ∷ []) in omega arith);
}

-- what passes somewhere passes at an element
any_in : (f : Message → Bool) (ms : List Message) → list_any f ms ≡ true → (m : Message) × IsIn m ms × (f m ≡ true)
any_in f [] h = cc
any_in f (m ∷ ms) h =
    ⊎_elim (λ here. (m, inl refl, here)) (λ rest. let e = any_in f ms rest in (e.0, inr e.1, e.2)) (or_cases (f m) (list_any f ms) h)

-- in order, what passes at a message of a number passes at the one that is found by it
passes_found : (f : Message → Bool) (ms : List Message) (k : ℕ) (m : Message) → AscendsFrom 0 (map (λ x. x.number) ms) → find (λ x. nat_eq k x.number) ms ≡ Some m → list_any (λ x. nat_eq x.number k && f x) ms ≡ true → f m ≡ true
passes_found f ms k m order found h =
    let e = any_in (λ x. nat_eq x.number k && f x) ms h in
    let both = and_parts (nat_eq e.0.number k) (f e.0) e.2 in
    let number : e.0.number ≡ k = eqb-true e.0.number k both.0 in
    let here = found_by_number (λ (x : Message). x.number) 0 ms e.0 order e.1 in
    let alike : Some e.0 ≡ Some m = sym (ap (λ n. find (λ (x : Message). nat_eq n x.number) ms) (sym number) ∙ here) ∙ found in
    let same : e.0 ≡ m = cc in
    ap f (sym same) ∙ both.1

messages_less : (p : Program) (c : Config) (s : Thread) (k : ℕ) (m : Message) → IsOrdered c → message_at c k ≡ Some m → thread_refers m.mailbox s ≡ true → MessagesAfter p c s (Some (ActReceive k)) (filter (λ x. not (nat_eq x.number m.number)) c.messages)
messages_less p c s k m order there names =
    let number : k ≡ m.number = eqb-true k m.number (found_is_in (λ (x : Message). nat_eq k x.number) c.messages m there).1 in
    let at : message_at c m.number ≡ Some m = ap (message_at c) (sym number) ∙ there in
    record {
      found = λ n x h. inl (find_kept c.messages m.number n x h);
      pending = λ a h. ⊎_elim
          (λ l. inl l)
          (λ gone.
          let mailbox : m.mailbox ≡ a = eqb-true m.mailbox a (passes_found (λ x. nat_eq x.mailbox a) c.messages m.number m order.messages at gone) in
          inr (subst (λ b. thread_refers b s ≡ true) mailbox names))
          (any_kept (λ x. nat_eq x.mailbox a) m.number c.messages h);
      carried = λ a h. ⊎_elim
          (λ l. inl l)
          (λ gone. inr (ap (is_brought_by a) there ∙ passes_found (message_refers a) c.messages m.number m order.messages at gone))
          (any_kept (message_refers a) m.number c.messages h);
      more = inr (k, refl);
    }

-- ---- configurations

-- what is left of all of it; and a mailbox that is live was live, or thread t made it and refers to it
pub record After (p : Program) (c : Config) (t : ℕ) (r s : Thread) (act : Option Act) (d : Config) : Type 0 where
  pub threads : ThreadsAfter c t r act d.threads
  pub messages : MessagesAfter p c s act d.messages
  pub live : (a : ℕ) → is_among a d.live ≡ true → (is_among a c.live ≡ true) ⊎ (is_named_by a (thread_at d t) ≡ true)

stands : (p : Program) (s : Thread) (core : Core) (env : Env) → StandsAt p s.control core env → redex p s.control ≡ At core env
stands p s core env at = ap (redex p) at.control_is ∙ ap (λ o. redex_at o env) at.term

-- a thread refers to what a variable of its control stands for
variable_refers : (p : Program) (s : Thread) (core : Core) (env : Env) (x a : ℕ) → StandsAt p s.control core env → value_at env x ≡ Some (Mailbox a) → thread_refers a s ≡ true
variable_refers p s core env x a at is =
    or_left (control_refers a s.control) (list_any (λ f. env_refers a f.env) s.frames)
    (ap (control_refers a) at.control_is ∙ value_refers env x a is)

module _ (p : Program) (c : Config) (t : ℕ) (r s : Thread) (order : IsOrdered c) (there : thread_at c t ≡ Some r) where
  middle : Config
  middle = with_thread c t s

  -- by the step of the thread that stands there now
  act_after : (a : Act) (d : Config) → thread_step p (with_thread c t s) t s a ≡ Some d → After p c t r s (Some a) d
  act_after ActLocal d h =
      let q = local_step_of p (with_thread c t s) t s d h in
      subst (After p c t r s (Some ActLocal)) (sym q.2)
      (record { threads = threads_twice c t r s q.0 (Some ActLocal) there; messages = messages_same p c s (Some ActLocal); live = λ a h. inl h })
  act_after ActNew d h =
      let q = new_step p (with_thread c t s) t s d (redex p s.control) refl h in
      let made = thread_of (Returned (Mailbox c.next_mailbox)) s.frames in
      subst (After p c t r s (Some ActNew)) (sym q.result)
      (record {
        threads = threads_twice c t r s made (Some ActNew) there;
        messages = messages_same p c s (Some ActNew);
        live = λ a h. ⊎_elim
            (λ l. inl l)
            (λ w.
            let same : a ≡ c.next_mailbox = ⊎_elim (λ l. eqb-true a c.next_mailbox l) (λ no. cc) (or_cases (nat_eq a c.next_mailbox) false w) in
            inr (ap (is_named_by a) (there_after (with_thread c t s) t s made (there_after c t r s there)) ∙ or_left (nat_eq a c.next_mailbox) (list_any (λ f. env_refers a f.env) s.frames) (eq-eqb a c.next_mailbox same)))
            (append_among a c.live (c.next_mailbox ∷ []) h);
      })
  act_after ActSend d h =
      let q = send_step p (with_thread c t s) t s d (redex p s.control) refl h in
      let n : Message = record { number = c.next_message; mailbox = q.mailbox; tag = q.tag; values = q.values } in
      let to : target p s ≡ Some q.mailbox = ap target_at (stands p s (Send q.var q.tag q.args) q.env q.at) ∙ ap mailbox_in q.target in
      subst (After p c t r s (Some ActSend)) (sym q.result)
      (record { threads = threads_twice c t r s _ (Some ActSend) there; messages = messages_more p c s n to; live = λ a h. inl h })
  act_after ActSpawn d h =
      let q = spawn_step p (with_thread c t s) t s d (redex p s.control) refl h in
      subst (After p c t r s (Some ActSpawn)) (sym q.result)
      (record { threads = threads_more c t r s _ _ there; messages = messages_same p c s (Some ActSpawn); live = λ a h. inl h })
  act_after ActPrint d h =
      let q = print_step p (with_thread c t s) t s d (redex p s.control) refl h in
      subst (After p c t r s (Some ActPrint)) (sym q.result)
      (record { threads = threads_twice c t r s _ (Some ActPrint) there; messages = messages_same p c s (Some ActPrint); live = λ a h. inl h })
  act_after ActEnd d h =
      subst (After p c t r s (Some ActEnd)) (sym (ended (end_step p (with_thread c t s) t s d s.frames (redex p s.control) refl refl h)))
      (record { threads = threads_less c t r s (Some ActEnd) there; messages = messages_same p c s (Some ActEnd); live = λ a h. inl h })
    where
      ended : EndStep p (with_thread c t s) t s d → d ≡ without_thread (with_thread c t s) t
      ended (end_value e env at none is) = is
      ended (end_return v at none is) = is
  act_after ActFree d h =
      let q = free_step p (with_thread c t s) t s d (redex p s.control) refl h in
      subst (After p c t r s (Some ActFree)) (sym q.result)
      (record {
        threads = threads_twice c t r s _ (Some ActFree) there;
        messages = messages_same p c s (Some ActFree);
        live = λ a h. inl (any_filter (nat_eq a) (λ b. not (nat_eq b q.mailbox)) c.live h);
      })
  act_after (ActReceive k) d h =
      let q = receive_step p (with_thread c t s) t k s d (redex p s.control) refl h in
      let mailbox : q.message.mailbox ≡ q.mailbox = eqb-true q.message.mailbox q.mailbox q.on in
      let names = variable_refers p s (Guard q.var q.pattern q.free q.receives) q.env q.var q.mailbox q.at q.guards in
      subst (After p c t r s (Some (ActReceive k))) (sym q.result)
      (record {
        threads = threads_twice c t r s _ (Some (ActReceive k)) there;
        messages = messages_less p c s k q.message order q.found (subst (λ b. thread_refers b s ≡ true) (sym mailbox) names);
        live = λ a h. inl h;
      })

  -- and if it took no shared act
  pub after : (act : Option Act) (d : Config) → run_from p (with_thread c t s) (shared_step t act) ≡ Some d → After p c t r s act d
  after None d h =
      let same : with_thread c t s ≡ d = cc in
      subst (After p c t r s None) same
      (record { threads = threads_set c t r s None there; messages = messages_same p c s None; live = λ a h. inl h })
  after (Some a) d h = go (step p (with_thread c t s) (record { thread = t; act = a })) refl h
    where
      go : (o : Option Config) → step p (with_thread c t s) (record { thread = t; act = a }) ≡ o → option_and_then (λ e. run_from p e []) o ≡ Some d → After p c t r s (Some a) d
      go None is k = cc
      go (Some e) is k =
          let same : e ≡ d = cc in
          let o = step_of p (with_thread c t s) (record { thread = t; act = a }) e is in
          let both : Some o.thread ≡ Some s = sym o.there ∙ there_after c t r s there in
          let now : o.thread ≡ s = cc in
          subst (After p c t r s (Some a)) same (act_after a e (ap (λ w. thread_step p (with_thread c t s) t w a) (sym now) ∙ o.gives))
