-- Another thread that can step could step before, or is woken.
use Rattle.std.proofs.Common.{◌≡◌, ℕ, arith, Bool, true, false, not, ◌&&◌, ◌||◌, length, Option, Some, None, refl, sym, ap, ◌∙◌, ◌⊎◌, inl, inr, ⊎_elim}
use Rattle.std.specs.Prelude.{is_some}
use Rattle.std.specs.List.{list_any}
use Rattle.std.proofs.lemmas.Bool.{and_parts, and_from, or_left, or_right, not-true, false_from_ne_true, cases_Bool, ltb-true, lt-ltb}
use Rattle.pat_semantics_spec.specs.Programs.{Program, is_among}
use Rattle.pat_semantics_spec.specs.Configs.{Thread, Config, thread_at, with_thread, thread_refers, message_refers, other_refers, has_pending, is_reached_by_none_but}
use Rattle.pat_semantics_spec.specs.Orders.{IsOrdered}
use Rattle.pat_semantics_spec.specs.Steps.{Act, ActSend, step}
use Rattle.pat_semantics_spec.specs.Runs.{run_from, shared_step, can_step_thread, is_send}
use Rattle.pat_semantics_laws.specs.Laws.{IsEnabled}
use Rattle.pat_semantics_laws.proofs.Lists.{clash}
use Rattle.pat_semantics_laws.proofs.Inversion.{step_of}
use Rattle.pat_semantics_laws.proofs.Enabled.{thread_exact}
use Rattle.pat_machine_spec.specs.Opens.{IsOpen, has_space, can_go_on}
use Rattle.pat_machine_laws.proofs.Opens.{open_exact}
use Rattle.pat_machine_laws.specs.wakeups.Wakings.{may_free, is_named_by, brings, IsWoken, spawned, sent_to, let_go, GotSpace}
use Rattle.pat_machine_laws.proofs.WakeupsChanges.{passes_there}
use Rattle.pat_machine_laws.proofs.Needs.{Needs, nothing, freeing, message, enabled_at}
use Rattle.pat_machine_laws.proofs.Decides.{needs_of}
use Rattle.pat_machine_laws.proofs.Afters.{After, after}

-- what a mailbox that may be freed is: live, without messages, and named by no other thread and by no message
pub record Freeable (c : Config) (a u : ℕ) : Type 0 where
  pub live : is_among a c.live ≡ true
  pub empty : has_pending a c.messages ≡ false
  pub threads : other_refers a u c.threads ≡ false
  pub messages : list_any (message_refers a) c.messages ≡ false

pub freeable : (c : Config) (a u : ℕ) → may_free c a u ≡ true → Freeable c a u
freeable c a u h =
    let l = and_parts (is_among a c.live) (not (has_pending a c.messages) && is_reached_by_none_but c a u) h in
    let e = and_parts (not (has_pending a c.messages)) (is_reached_by_none_but c a u) l.1 in
    let r = and_parts (not (other_refers a u c.threads)) (not (list_any (message_refers a) c.messages)) e.1 in
    record {
      live = l.0;
      empty = not-true (has_pending a c.messages) e.0;
      threads = not-true (other_refers a u c.threads) r.0;
      messages = not-true (list_any (message_refers a) c.messages) r.1;
    }

pub may_be_freed : (c : Config) (a u : ℕ) → Freeable c a u → may_free c a u ≡ true
may_be_freed c a u f =
    and_from (is_among a c.live) (not (has_pending a c.messages) && is_reached_by_none_but c a u) f.live
    (and_from (not (has_pending a c.messages)) (is_reached_by_none_but c a u) (ap not f.empty)
    (and_from (not (other_refers a u c.threads)) (not (list_any (message_refers a) c.messages)) (ap not f.threads) (ap not f.messages)))

-- a thread that refers to it is another one that does
named_there : (d : Config) (a t u : ℕ) (o : Option Thread) → (t ≡ u → ⊥) → thread_at d t ≡ o → is_named_by a o ≡ true → other_refers a u d.threads ≡ true
named_there d a t u None other is h = cc
named_there d a t u (Some s) other is h = passes_there (thread_refers a) d.threads t u s other is h

module _ (p : Program) (c d : Config) (t u : ℕ) (r s : Thread) (act : Option Act) (other : t ≡ u → ⊥) (left : After p c t r s act d) where
  -- whether thread t had the name of the mailbox, or got it
  abbrev pub had : ℕ → Bool
  had a = thread_refers a r || (thread_refers a s || brings c act a)

  -- where thread u may free the mailbox, thread t doesn't refer to it
  pub unnamed : (a : ℕ) → Freeable d a u → is_named_by a (thread_at d t) ≡ false
  unnamed a f =
      false_from_ne_true (is_named_by a (thread_at d t)) (λ on. clash (named_there d a t u (thread_at d t) other refl on) f.threads)

  -- and where it had no name of it either, thread u might free it before
  pub freed_before : (a : ℕ) → Freeable d a u → had a ≡ false → Freeable c a u
  freed_before a f off = record {
    live = ⊎_elim (λ l. l) (λ on. absurd (clash on (unnamed a f))) (left.live a f.live);
    empty = false_from_ne_true (has_pending a c.messages) (λ on. ⊎_elim (λ l. clash l f.empty) (λ w. clash (by_middle a w) off) (left.messages.pending a on));
    threads = false_from_ne_true (other_refers a u c.threads) (λ on. ⊎_elim (λ l. clash l f.threads) (λ w. clash (or_left (thread_refers a r) (thread_refers a s || brings c act a) w) off) (left.threads.named a u on));
    messages = false_from_ne_true (list_any (message_refers a) c.messages) (λ on. ⊎_elim (λ l. clash l f.messages) (λ w. clash (by_message a w) off) (left.messages.carried a on));
  }
    where
      by_middle : (a : ℕ) → thread_refers a s ≡ true → had a ≡ true
      by_middle a h = or_right (thread_refers a r) (thread_refers a s || brings c act a) (or_left (thread_refers a s) (brings c act a) h)

      by_message : (a : ℕ) → brings c act a ≡ true → had a ≡ true
      by_message a h = or_right (thread_refers a r) (thread_refers a s || brings c act a) (or_right (thread_refers a s) (brings c act a) h)

  -- an act of thread u that is enabled
  wakes_there : (q : Thread) (b : Act) → thread_at c u ≡ Some q → thread_at d u ≡ Some q → IsEnabled p d (record { thread = u; act = b }) → IsEnabled p c (record { thread = u; act = b }) ⊎ IsWoken p c t r s act d u
  wakes_there q b before now h = go (needs_of p d u q b now h)
    where
      go : Needs p d u q b → IsEnabled p c (record { thread = u; act = b }) ⊎ IsWoken p c t r s act d u
      go (nothing plain) = inl (enabled_at p c u q b before (plain c))
      go (freeing a is at may gives) =
          let f = freeable d a u may in
          ⊎_elim
          (λ on. inr (let_go a (q, before, at) on (unnamed a f)))
          (λ off. inl (enabled_at p c u q b before (gives c (may_be_freed c a u (freed_before a f off)))))
          (cases_Bool (had a))
      go (message k m is at found gives) =
          ⊎_elim
          (λ there. inl (enabled_at p c u q b before (gives c there)))
          (λ new. inr (sent_to m new.0 new.1 new.2 (q, before, at)))
          (left.messages.found k m found)

  wakes : (b : Act) → IsEnabled p d (record { thread = u; act = b }) → IsEnabled p c (record { thread = u; act = b }) ⊎ IsWoken p c t r s act d u
  wakes b h =
      let o = step_of p d (record { thread = u; act = b }) h.0 h.1 in
      ⊎_elim
      (λ before. wakes_there o.thread b before o.there h)
      (λ new. inr (spawned new.0 new.1))
      (left.threads.others u o.thread other o.there)

  -- where it is open, it was open before, or the limit held it back
  opens : (limit : ℕ) (b : Act) → IsOpen p d limit (record { thread = u; act = b }) → IsEnabled p c (record { thread = u; act = b }) → IsOpen p c limit (record { thread = u; act = b }) ⊎ GotSpace p limit c act d u
  opens limit b is_open before = ⊎_elim
      (λ space. inl (before, λ send. ltb-true (length c.messages) limit space))
      (λ none. ⊎_elim
      (λ send. inr (got none (is_sending b send)))
      (λ off. inl (before, λ same. absurd (clash (ap is_send same) off)))
      (cases_Bool (is_send b)))
      (cases_Bool (has_space c limit))
    where
      is_sending : (b : Act) → is_send b ≡ true → b ≡ ActSend
      is_sending ActSend h = refl
      is_sending _ h = cc

      got : has_space c limit ≡ false → b ≡ ActSend → GotSpace p limit c act d u
      got none same =
          let now = is_open.1 same in
          ⊎_elim
          (λ more. let space = lt-ltb (length c.messages) limit (omega arith) in absurd (clash space none))
          (λ receive. record {
            message = receive.0;
            received = receive.1;
            none = none;
            some = lt-ltb (length d.messages) limit now;
            sends = ap (λ b. is_some (step p c (record { thread = u; act = b }))) (sym same) ∙ ap is_some before.1;
          })
          left.messages.more

pub others_wake : (p : Program) (c d : Config) (t u : ℕ) (r s : Thread) (act : Option Act) → IsOrdered c → thread_at c t ≡ Some r → run_from p (with_thread c t s) (shared_step t act) ≡ Some d → (t ≡ u → ⊥) → can_step_thread p d u ≡ true → (can_step_thread p c u ≡ true) ⊎ IsWoken p c t r s act d u
others_wake p c d t u r s act order there run other h =
    let e = (thread_exact p d u).0 h in
    ⊎_elim (λ before. inl ((thread_exact p c u).1 (e.0, before))) (λ w. inr w) (wakes p c d t u r s act other (after p c t r s order there act d run) e.0 e.1)

pub others_open : (p : Program) (c d : Config) (limit t u : ℕ) (r s : Thread) (act : Option Act) → IsOrdered c → thread_at c t ≡ Some r → run_from p (with_thread c t s) (shared_step t act) ≡ Some d → (t ≡ u → ⊥) → can_go_on p d limit u ≡ true → (can_go_on p c limit u ≡ true) ⊎ IsWoken p c t r s act d u ⊎ GotSpace p limit c act d u
others_open p c d limit t u r s act order there run other h =
    let e = (open_exact p d limit u).0 h in
    let left = after p c t r s order there act d run in
    ⊎_elim
    (λ before. ⊎_elim (λ kept. inl ((open_exact p c limit u).1 (e.0, kept))) (λ space. inr (inr space)) (opens p c d t u r s act other left limit e.0 e.1 before))
    (λ w. inr (inl w))
    (wakes p c d t u r s act other left e.0 e.1.0)
