-- Threads that wait at a mailbox.
use Rattle.std.proofs.Common.{◌≡◌, ℕ, ◌+◌, true, false, ◌||◌, nat_eq, List, [], ◌∷◌, ◌++◌, Option, Some, None, refl, sym, ap, ◌∙◌, subst, ◌⊎◌, inl, inr, ⊎_elim, arith}
use Rattle.std.specs.Prelude.{option_and_then}
use Rattle.std.proofs.lemmas.Bool.{cases_Bool, or_cases, eqb-true}
use Rattle.pat_semantics_spec.specs.Programs.{Program}
use Rattle.pat_semantics_spec.specs.Configs.{Thread, Message, Config, thread_at, with_thread, thread_refers}
use Rattle.pat_semantics_spec.specs.Orders.{IsOrdered}
use Rattle.pat_semantics_spec.specs.Steps.{redex, Act, ActSend, ActSpawn, ActFree, ActReceive, step, message_at}
use Rattle.pat_semantics_spec.specs.Runs.{run_from, shared_step, can_step_thread}
use Rattle.pat_semantics_laws.specs.Laws.{IsEnabled}
use Rattle.pat_semantics_laws.proofs.Lists.{clash}
use Rattle.pat_semantics_laws.proofs.Ascending.{found_is_in}
use Rattle.pat_semantics_laws.proofs.Inversion.{step_of, send_step}
use Rattle.pat_semantics_laws.proofs.Enabled.{thread_exact}
use Rattle.pat_machine_spec.specs.Commits.{locally}
use Rattle.pat_machine_laws.specs.wakeups.Wakings.{guarded, may_free, brings, SendsTo, LetsGo}
use Rattle.pat_machine_laws.proofs.Needs.{Needs, FreesIn, nothing, freeing, message, enabled_at}
use Rattle.pat_machine_laws.proofs.Decides.{needs_of}
use Rattle.pat_machine_laws.proofs.Afters.{After, after}
use Rattle.pat_machine_laws.proofs.Names.{locals_name}
use Rattle.pat_machine_laws.proofs.Wakes.{freeable, may_be_freed, unnamed, freed_before}

pub others_stay : (p : Program) (c d : Config) (t u : ℕ) (r s q : Thread) (act : Option Act) → IsOrdered c → thread_at c t ≡ Some r → run_from p (with_thread c t s) (shared_step t act) ≡ Some d → (t ≡ u → ⊥) → thread_at d u ≡ Some q → (thread_at c u ≡ Some q) ⊎ ((act ≡ Some ActSpawn) × (u ≡ c.next_thread))
others_stay p c d t u r s q act order there run other now = (after p c t r s order there act d run).threads.others u q other now

one_step : (p : Program) (d : Config) (o : Option Config) → option_and_then (λ x. run_from p x []) o ≡ Some d → o ≡ Some d
one_step p d None h = cc
one_step p d (Some x) h = h

last_same : (xs : List Message) (x y : Message) → xs ++ x ∷ [] ≡ xs ++ y ∷ [] → x ≡ y
last_same [] x y h = cc
last_same (z ∷ zs) x y h = last_same zs x y cc

-- what is sent has the next number
sent_next : (p : Program) (c d : Config) (t : ℕ) → step p c (record { thread = t; act = ActSend }) ≡ Some d → (m : Message) → d.messages ≡ c.messages ++ m ∷ [] → m.number + 1 ≡ d.next_message
sent_next p c d t is m last =
    let o = step_of p c (record { thread = t; act = ActSend }) d is in
    let q = send_step p c t o.thread d (redex p o.thread.control) refl o.gives in
    let own : Message = record { number = c.next_message; mailbox = q.mailbox; tag = q.tag; values = q.values } in
    let same : own ≡ m = last_same c.messages own m (sym (ap (λ (x : Config). x.messages) q.result) ∙ last) in
    let number : c.next_message ≡ m.number = ap (λ (x : Message). x.number) same in
    let next : d.next_message ≡ c.next_message + 1 = ap (λ (x : Config). x.next_message) q.result in
    omega arith

module _ (p : Program) (c d : Config) (t u k : ℕ) (r s q : Thread) (act : Option Act) (a : ℕ) (order : IsOrdered c) (there : thread_at c t ≡ Some r) (goes : locally p k r ≡ Some s) (run : run_from p (with_thread c t s) (shared_step t act) ≡ Some d) (other : t ≡ u → ⊥) (before : thread_at c u ≡ Some q) (now : thread_at d u ≡ Some q) (awaits : guarded p q ≡ Some a) (still : can_step_thread p c u ≡ false) where
  left : After p c t r s act d
  left = after p c t r s order there act d run

  never : (b : Act) → IsEnabled p c (record { thread = u; act = b }) → ⊥
  never b h = clash ((thread_exact p c u).1 (b, h)) still

  -- what thread t had a name of it had before its local steps
  named_before : thread_refers a r || (thread_refers a s || brings c act a) ≡ true → (thread_refers a r ≡ true) ⊎ (brings c act a ≡ true)
  named_before h = ⊎_elim
      (λ own. inl own)
      (λ rest. ⊎_elim (λ middle. inl (locals_name p k r s a goes middle)) (λ message. inr message) (or_cases (thread_refers a s) (brings c act a) rest))
      (or_cases (thread_refers a r) (thread_refers a s || brings c act a) h)

  freeing_called : (b : Act) (x : ℕ) → b ≡ ActFree → guarded p q ≡ Some x → may_free d x u ≡ true → FreesIn p u q x b → IsEnabled p d (record { thread = u; act = b }) → LetsGo p c t r act d u a
  freeing_called b x is at may gives h =
      let both : Some x ≡ Some a = sym at ∙ awaits in
      let same : x ≡ a = cc in
      let f = freeable d a u (subst (λ y. may_free d y u ≡ true) same may) in
      ⊎_elim
      (λ on. record { had = named_before on; gone = unnamed p c d t u r s act other left a f; free = subst (λ e. IsEnabled p d (record { thread = u; act = e })) is h })
      (λ off. absurd (never b (enabled_at p c u q b before (gives c (subst (λ y. may_free c y u ≡ true) (sym same) (may_be_freed c a u (freed_before p c d t u r s act other left a f off)))))))
      (cases_Bool (thread_refers a r || (thread_refers a s || brings c act a)))

  sending_called : (b : Act) (n : ℕ) (m : Message) → b ≡ ActReceive n → guarded p q ≡ Some m.mailbox → message_at d n ≡ Some m → act ≡ Some ActSend → d.messages ≡ c.messages ++ m ∷ [] → IsEnabled p d (record { thread = u; act = b }) → SendsTo p c act d u a
  sending_called b n m is at found sent last h =
      let both : Some m.mailbox ≡ Some a = sym at ∙ awaits in
      let taken = one_step p d (step p (with_thread c t s) (record { thread = t; act = ActSend })) (subst (λ o. run_from p (with_thread c t s) (shared_step t o) ≡ Some d) sent run) in
      let number : n ≡ m.number = eqb-true n m.number (found_is_in (λ (x : Message). nat_eq n x.number) d.messages m found).1 in
      record {
        sent = sent;
        message = m;
        last = last;
        next = sent_next p (with_thread c t s) d t taken m last;
        mailbox = cc;
        receives = subst (λ e. IsEnabled p d (record { thread = u; act = e })) (is ∙ ap (λ k. ActReceive k) number) h;
      }

  called : (b : Act) → IsEnabled p d (record { thread = u; act = b }) → SendsTo p c act d u a ⊎ LetsGo p c t r act d u a
  called b h = go (needs_of p d u q b now h)
    where
      go : Needs p d u q b → SendsTo p c act d u a ⊎ LetsGo p c t r act d u a
      go (nothing plain) = absurd (never b (enabled_at p c u q b before (plain c)))
      go (freeing x is at may gives) = inr (freeing_called b x is at may gives h)
      go (message n m is at found gives) = ⊎_elim
          (λ kept. absurd (never b (enabled_at p c u q b before (gives c kept))))
          (λ new. inl (sending_called b n m is at found new.0 new.2 h))
          (left.messages.found n m found)

pub sleepers_called : (p : Program) (c d : Config) (t u k : ℕ) (r s q : Thread) (act : Option Act) (a : ℕ) → IsOrdered c → thread_at c t ≡ Some r → locally p k r ≡ Some s
    → run_from p (with_thread c t s) (shared_step t act) ≡ Some d → (t ≡ u → ⊥) → thread_at c u ≡ Some q → thread_at d u ≡ Some q → guarded p q ≡ Some a → can_step_thread p c u ≡ false
    → (can_step_thread p d u ≡ false) ⊎ SendsTo p c act d u a ⊎ LetsGo p c t r act d u a
sleepers_called p c d t u k r s q act a order there goes run other before now awaits still = ⊎_elim
    (λ can. let e = (thread_exact p d u).0 can in inr (called p c d t u k r s q act a order there goes run other before now awaits still e.0 e.1))
    (λ off. inl off)
    (cases_Bool (can_step_thread p d u))
