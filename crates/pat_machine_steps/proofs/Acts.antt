-- What an act leaves of the number of mailboxes, and where to find what it put there.
use Rattle.std.proofs.Common.{◌≡◌, ℕ, ◌+◌, ◌<◌, nat_eq, List, [], ◌∷◌, ◌++◌, Option, Some, None, refl, sym, ap, ◌∙◌, arith}
use Rattle.std.specs.List.{AllByRecursion}
use Rattle.std.specs.Map.{lookup, set_value}
use Rattle.std.proofs.lemmas.Bool.{cond-true, cond-false, eq-eqb, ne_eqb}
use Rattle.pat_semantics_spec.specs.Programs.{Program}
use Rattle.pat_semantics_spec.specs.Configs.{Thread, Message, Config, thread_at, with_thread}
use Rattle.pat_semantics_spec.specs.Steps.{Act, ActLocal, ActNew, ActSend, ActSpawn, ActPrint, ActEnd, ActFree, ActReceive, redex, returned_unit}
use Rattle.pat_semantics_spec.specs.Runs.{run_from, shared_step}
use Rattle.pat_semantics_laws.proofs.Inversion.{step_of, print_step, new_step, receive_step, local_step_of, send_step, spawn_step, end_step, free_step}
use Rattle.pat_semantics_laws.proofs.Threads.{set_all}
use Rattle.pat_machine_threads.proofs.CommitsLookUps.{lookup_set, lookup_longer}
use Rattle.pat_machine_threads.proofs.Runs.{one_step}
use Rattle.pat_machine_laws.specs.refcounts.Counting.{last_message}
use Rattle.pat_machine_laws.proofs.Parts.{ended}
use Rattle.pat_machine_steps.specs.shared_steps.Leaving.{IsFound, made_by}

-- the last of some messages
pub last_of : (ms : List Message) (m : Message) → last_message (ms ++ m ∷ []) ≡ Some m
last_of [] m = refl
last_of (k ∷ []) m = refl
last_of (k ∷ l ∷ ms) m = last_of (l ∷ ms) m

-- a thread behind those with lower numbers
found_last : (ts : List (ℕ × Thread)) (n : ℕ) (x s : Thread) → AllByRecursion (λ e. e.0 < n) ts → lookup (nat_eq n) (ts ++ (n, x) ∷ []) ≡ Some s → x ≡ s
found_last [] n x s h is =
    let both : Some x ≡ Some s = sym (cond-true (nat_eq n n) (Some x) None (eq-eqb n n refl)) ∙ is in
    cc
found_last (e ∷ es) n x s h is =
    let less = h.0 in
    found_last es n x s h.1 (sym (cond-false (nat_eq n e.0) (Some e.1) (lookup (nat_eq n) (es ++ (n, x) ∷ [])) (ne_eqb n e.0 (λ q. omega arith))) ∙ is)

-- what thread t leaves by its act; where it isn't there any more, it had no frame
pub record IsAfter (c : Config) (t : ℕ) (act : Option Act) (d : Config) : Type 0 where
  pub mailboxes : d.next_mailbox ≡ c.next_mailbox + made_by act
  pub found : IsFound c.next_thread act d
  pub gone : (s : Thread) → thread_at c t ≡ Some s → thread_at d t ≡ None → s.frames ≡ []

module _ (p : Program) (c d : Config) (t : ℕ) (below : AllByRecursion (λ e. e.0 < c.next_thread) c.threads) where
  -- as many mailboxes as before
  as_many : (e : Config) → d ≡ e → e.next_mailbox ≡ c.next_mailbox → d.next_mailbox ≡ c.next_mailbox + 0
  as_many e is same = let after = ap (λ (x : Config). x.next_mailbox) is in omega arith

  there_still : (s r : Thread) → thread_at d t ≡ Some r → thread_at d t ≡ None → s.frames ≡ []
  there_still s r now none =
      let no : Some r ≡ None = sym now ∙ none in
      cc

  -- it is there, with another state
  goes_on : (e : Config) (r : Thread) → d ≡ e → e.threads ≡ set_value (nat_eq t) c.threads r → (s : Thread) → thread_at c t ≡ Some s → thread_at d t ≡ None → s.frames ≡ []
  goes_on e r is threads s there none =
      there_still s r (ap (λ (x : Config). thread_at x t) is ∙ ap (lookup (nat_eq t)) threads ∙ lookup_set c.threads t s r there) none

  pub after : (act : Option Act) → run_from p c (shared_step t act) ≡ Some d → IsAfter c t act d
  after None h =
      let same : d ≡ c = cc in
      record {
        mailboxes = as_many c same refl;
        found = record { sent = λ no. cc; spawned = λ s no at. cc };
        gone = λ s there none. there_still s s (ap (λ (x : Config). thread_at x t) same ∙ there) none;
      }
  after (Some ActLocal) h =
      let o = step_of p c (record { thread = t; act = ActLocal }) d (one_step p c d (record { thread = t; act = ActLocal }) h) in
      let q = local_step_of p c t o.thread d o.gives in
      record { mailboxes = as_many _ q.2 refl; found = record { sent = λ no. cc; spawned = λ s no at. cc }; gone = goes_on (with_thread c t q.0) q.0 q.2 refl }
  after (Some ActNew) h =
      let o = step_of p c (record { thread = t; act = ActNew }) d (one_step p c d (record { thread = t; act = ActNew }) h) in
      let q = new_step p c t o.thread d (redex p o.thread.control) refl o.gives in
      record { mailboxes = ap (λ (x : Config). x.next_mailbox) q.result; found = record { sent = λ no. cc; spawned = λ s no at. cc }; gone = goes_on _ _ q.result refl }
  after (Some ActSend) h =
      let o = step_of p c (record { thread = t; act = ActSend }) d (one_step p c d (record { thread = t; act = ActSend }) h) in
      let q = send_step p c t o.thread d (redex p o.thread.control) refl o.gives in
      record {
        mailboxes = as_many _ q.result refl;
        found = record {
          sent = λ yes. record {
            before = c.messages;
            message = record { number = c.next_message; mailbox = q.mailbox; tag = q.tag; values = q.values };
            last = ap (λ (x : Config). x.messages) q.result;
            next = sym (ap (λ (x : Config). x.next_message) q.result);
          };
          spawned = λ s no at. cc;
        };
        gone = goes_on _ _ q.result refl;
      }
  after (Some ActSpawn) h =
      let o = step_of p c (record { thread = t; act = ActSpawn }) d (one_step p c d (record { thread = t; act = ActSpawn }) h) in
      let q = spawn_step p c t o.thread d (redex p o.thread.control) refl o.gives in
      record {
        mailboxes = as_many _ q.result refl;
        found = record {
          sent = λ no. cc;
          spawned = λ s yes at.
              let own = found_last _ c.next_thread _ s (set_all (λ e. e.0 < c.next_thread) c.threads t (returned_unit o.thread.frames) (λ e k. k) below) (sym (ap (λ (x : Config). thread_at x c.next_thread) q.result) ∙ at) in
              sym (ap (λ (x : Thread). x.frames) own);
        };
        gone = λ s there none.
            let r = returned_unit o.thread.frames in
            there_still s r (ap (λ (x : Config). thread_at x t) q.result ∙ lookup_longer (set_value (nat_eq t) c.threads r) _ t r (lookup_set c.threads t s r there)) none;
      }
  after (Some ActPrint) h =
      let o = step_of p c (record { thread = t; act = ActPrint }) d (one_step p c d (record { thread = t; act = ActPrint }) h) in
      let q = print_step p c t o.thread d (redex p o.thread.control) refl o.gives in
      record { mailboxes = as_many _ q.result refl; found = record { sent = λ no. cc; spawned = λ s no at. cc }; gone = goes_on _ _ q.result refl }
  after (Some ActEnd) h =
      let o = step_of p c (record { thread = t; act = ActEnd }) d (one_step p c d (record { thread = t; act = ActEnd }) h) in
      let q = ended p c t o.thread d (end_step p c t o.thread d o.thread.frames (redex p o.thread.control) refl refl o.gives) in
      record { mailboxes = as_many _ q.1 refl; found = record { sent = λ no. cc; spawned = λ s no at. cc }; gone = λ s there none. let both : Some o.thread ≡ Some s = sym o.there ∙ there in let same : o.thread ≡ s = cc in ap (λ (x : Thread). x.frames) (sym same) ∙ q.0 }
  after (Some ActFree) h =
      let o = step_of p c (record { thread = t; act = ActFree }) d (one_step p c d (record { thread = t; act = ActFree }) h) in
      let q = free_step p c t o.thread d (redex p o.thread.control) refl o.gives in
      record { mailboxes = as_many _ q.result refl; found = record { sent = λ no. cc; spawned = λ s no at. cc }; gone = goes_on _ _ q.result refl }
  after (Some (ActReceive k)) h =
      let o = step_of p c (record { thread = t; act = ActReceive k }) d (one_step p c d (record { thread = t; act = ActReceive k }) h) in
      let q = receive_step p c t k o.thread d (redex p o.thread.control) refl o.gives in
      record { mailboxes = as_many _ q.result refl; found = record { sent = λ no. cc; spawned = λ s no at. cc }; gone = goes_on _ _ q.result refl }
