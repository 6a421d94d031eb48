-- What an act of a thread leaves: how often mailboxes are named then, and the frames of the thread.
use Rattle.std.proofs.Common.{◌≡◌, ℕ, ◌+◌, ◌<◌, nat_eq, List, [], ◌∷◌, ◌++◌, map, Option, Some, None, refl, sym, ap, ◌∙◌, subst, arith}
use Rattle.std.specs.List.{AllByRecursion}
use Rattle.std.specs.Map.{lookup, set_value, keys_of}
use Rattle.std.proofs.lemmas.Bool.{cond-true, cond-false, eq-eqb, eqb-true, ne_eqb}
use Rattle.std.proofs.lemmas.Cmp.{nat_eq_equiv}
use Rattle.std.proofs.lemmas.Map.{lookup-remove_entry}
use Rattle.pat_semantics_spec.specs.Values.{Const, Mailbox, UnitConst}
use Rattle.pat_semantics_spec.specs.Programs.{Program}
use Rattle.pat_semantics_spec.specs.Configs.{Control, Returned, Thread, Message, Config, thread_at}
use Rattle.pat_semantics_spec.specs.Orders.{AscendsFrom}
use Rattle.pat_semantics_spec.specs.Steps.{Act, ActLocal, ActNew, ActSend, ActSpawn, ActPrint, ActEnd, ActFree, ActReceive, redex, thread_of, at_node, received, message_at, without_thread, thread_step}
use Rattle.pat_semantics_spec.specs.Runs.{IsSharedOrNone}
use Rattle.pat_semantics_laws.proofs.Ascending.{ascends_distinct, found_is_in}
use Rattle.pat_semantics_laws.proofs.Inversion.{print_step, new_step, receive_step, local_step_of, send_step, spawn_step, end_step, free_step}
use Rattle.pat_semantics_laws.proofs.Threads.{set_all}
use Rattle.pat_machine_laws.proofs.CommitsLookUps.{lookup_set, lookup_longer}
use Rattle.pat_machine_laws.specs.refcounts.Naming.{times_in_thread, times_in}
use Rattle.pat_machine_laws.specs.refcounts.Counting.{times_if_message, times_if_thread, last_message, times_gone, times_come}
use Rattle.pat_machine_laws.proofs.Changed.{exchanged_thread, taken_thread, others_count}
use Rattle.pat_machine_laws.proofs.Joined.{messages_join}
use Rattle.pat_machine_laws.proofs.Sums.{join_sums}
use Rattle.pat_machine_laws.proofs.Parts.{ended}

-- threads and messages stand in ascending order of number, and no thread has the next free one
pub record AreNumbered (c : Config) : Type 0 where
  pub threads : AscendsFrom 0 (keys_of c.threads)
  pub messages : AscendsFrom 0 (map (λ m. m.number) c.messages)
  pub below : AllByRecursion (λ e. e.0 < c.next_thread) c.threads

-- a thread that is left has its frames, and one that ended had none
abbrev pub HasKept : Thread → Option Thread → Type 0
HasKept s None = s.frames ≡ []
HasKept s (Some r) = r.frames ≡ s.frames

-- what thread t, which was s, leaves in d by an act
pub record Leaves (c d : Config) (t : ℕ) (s : Thread) (act : Option Act) : Type 0 where
  pub counts : (a : ℕ) → times_in a d + (times_in_thread a s + times_gone c act a) ≡ times_in a c + (times_if_thread a (thread_at d t) + times_come c d act a)
  pub frames : IsSharedOrNone act → HasKept s (thread_at d t)

last_sent : (ms : List Message) (m : Message) → last_message (ms ++ m ∷ []) ≡ Some m
last_sent [] m = refl
last_sent (l ∷ []) m = refl
last_sent (l ∷ k ∷ ms) m = last_sent (k ∷ ms) m

-- the thread with the next number is found behind all others
newcomer : (n : ℕ) (ts : List (ℕ × Thread)) (s : Thread) → AllByRecursion (λ e. e.0 < n) ts → lookup (nat_eq n) (ts ++ (n, s) ∷ []) ≡ Some s
newcomer n [] s h = cond-true (nat_eq n n) (Some s) None (eq-eqb n n refl)
newcomer n (e ∷ es) s h =
    let low = h.0 in
    cond-false (nat_eq n e.0) (Some e.1) (lookup (nat_eq n) (es ++ (n, s) ∷ [])) (ne_eqb n e.0 (λ q. omega arith)) ∙ newcomer n es s h.1

module _ (c : Config) (t : ℕ) (numbered : AreNumbered c) where
  -- a thread that ended isn't there
  gone : thread_at (without_thread c t) t ≡ None
  gone =
      lookup-remove_entry nat_eq_equiv (nat_eq t) (λ x y h. nat_eq_equiv.congr t x y h) t c.threads (ascends_distinct 0 (keys_of c.threads) numbered.threads)
      ∙ cond-true (nat_eq t t) None (lookup (nat_eq t) c.threads) (eq-eqb t t refl)

module _ (p : Program) (c d : Config) (t : ℕ) (s : Thread) (numbered : AreNumbered c) (there : thread_at c t ≡ Some s) where
  -- the thread goes on with another control, and its frames
  goes_on : (k : Control) (act : Option Act) → thread_at d t ≡ Some (thread_of k s.frames) → ((a : ℕ) → times_in a d + (times_in_thread a s + times_gone c act a) ≡ times_in a c + (times_in_thread a (thread_of k s.frames) + times_come c d act a)) → Leaves c d t s act
  goes_on k act now counts = record {
    counts = λ a. let same = ap (times_if_thread a) now in let sums = counts a in omega arith;
    frames = λ shared. subst (HasKept s) (sym now) refl;
  }

  -- it is found where it was put
  found : (r : Thread) → d.threads ≡ set_value (nat_eq t) c.threads r → thread_at d t ≡ Some r
  found r is = ap (lookup (nat_eq t)) is ∙ lookup_set c.threads t s r there

  by_local : thread_step p c t s ActLocal ≡ Some d → Leaves c d t s (Some ActLocal)
  by_local h =
      let q = local_step_of p c t s d h in
      let now = found q.0 (ap (λ (x : Config). x.threads) q.2) in
      record {
        counts = λ a.
            let sums = exchanged_thread c a t s q.0 there in
            let same = ap (times_in a) q.2 in
            let own = ap (times_if_thread a) now in
            omega arith;
        frames = λ shared. absurd shared;
      }

  by_new : thread_step p c t s ActNew ≡ Some d → Leaves c d t s (Some ActNew)
  by_new h =
      let q = new_step p c t s d (redex p s.control) refl h in
      let k : Control = Returned (Mailbox c.next_mailbox) in
      goes_on k (Some ActNew) (found (thread_of k s.frames) (ap (λ (x : Config). x.threads) q.result))
      (λ a. let sums = exchanged_thread c a t s (thread_of k s.frames) there in let same = ap (times_in a) q.result in omega arith)

  by_print : thread_step p c t s ActPrint ≡ Some d → Leaves c d t s (Some ActPrint)
  by_print h =
      let q = print_step p c t s d (redex p s.control) refl h in
      let k : Control = Returned (Const UnitConst) in
      goes_on k (Some ActPrint) (found (thread_of k s.frames) (ap (λ (x : Config). x.threads) q.result))
      (λ a. let sums = exchanged_thread c a t s (thread_of k s.frames) there in let same = ap (times_in a) q.result in omega arith)

  by_free : thread_step p c t s ActFree ≡ Some d → Leaves c d t s (Some ActFree)
  by_free h =
      let q = free_step p c t s d (redex p s.control) refl h in
      let k : Control = at_node p q.body q.env in
      goes_on k (Some ActFree) (found (thread_of k s.frames) (ap (λ (x : Config). x.threads) q.result))
      (λ a. let sums = exchanged_thread c a t s (thread_of k s.frames) there in let same = ap (times_in a) q.result in omega arith)

  by_end : thread_step p c t s ActEnd ≡ Some d → Leaves c d t s (Some ActEnd)
  by_end h =
      let q = ended p c t s d (end_step p c t s d s.frames (redex p s.control) refl refl h) in
      let now : thread_at d t ≡ None = ap (λ (x : Config). thread_at x t) q.1 ∙ gone c t numbered in
      record {
        counts = λ a.
            let sums = taken_thread c a t s there in
            let same = ap (times_in a) q.1 in
            let own = ap (times_if_thread a) now in
            omega arith;
        frames = λ shared. subst (HasKept s) (sym now) q.0;
      }

  by_send : thread_step p c t s ActSend ≡ Some d → Leaves c d t s (Some ActSend)
  by_send h =
      let q = send_step p c t s d (redex p s.control) refl h in
      let k : Control = Returned (Const UnitConst) in
      let m : Message = record { number = c.next_message; mailbox = q.mailbox; tag = q.tag; values = q.values } in
      let last : last_message d.messages ≡ Some m = ap (λ (x : Config). last_message x.messages) q.result ∙ last_sent c.messages m in
      goes_on k (Some ActSend) (found (thread_of k s.frames) (ap (λ (x : Config). x.threads) q.result))
      (λ a.
      let sums = exchanged_thread c a t s (thread_of k s.frames) there in
      let sent = messages_join a c.messages (m ∷ []) in
      let same = ap (times_in a) q.result in
      let more = ap (times_if_message a) last in
      omega arith)

  by_spawn : thread_step p c t s ActSpawn ≡ Some d → Leaves c d t s (Some ActSpawn)
  by_spawn h =
      let q = spawn_step p c t s d (redex p s.control) refl h in
      let k : Control = Returned (Const UnitConst) in
      let r : Thread = thread_of k s.frames in
      let new : Thread = thread_of (at_node p q.body q.env) [] in
      let before = set_value (nat_eq t) c.threads r in
      let now : thread_at d t ≡ Some r = ap (λ (x : Config). thread_at x t) q.result ∙ lookup_longer before ((c.next_thread, new) ∷ []) t r (lookup_set c.threads t s r there) in
      let last : thread_at d c.next_thread ≡ Some new =
      ap (λ (x : Config). thread_at x c.next_thread) q.result
      ∙ newcomer c.next_thread before new (set_all (λ e. e.0 < c.next_thread) c.threads t r (λ e low. low) numbered.below) in
      goes_on k (Some ActSpawn) now
      (λ a.
      let sums = exchanged_thread c a t s r there in
      let spawned = join_sums (times_in_thread a) before ((c.next_thread, new) ∷ []) in
      let same = ap (times_in a) q.result in
      let more = ap (times_if_thread a) last in
      omega arith)

  by_receive : (n : ℕ) → thread_step p c t s (ActReceive n) ≡ Some d → Leaves c d t s (Some (ActReceive n))
  by_receive n h =
      let q = receive_step p c t n s d (redex p s.control) refl h in
      let k : Control = at_node p q.clause.body (received q.clause q.message q.env) in
      let number : n ≡ q.message.number = eqb-true n q.message.number (found_is_in (λ (m : Message). nat_eq n m.number) c.messages q.message q.found).1 in
      let by_number : message_at c q.message.number ≡ Some q.message = ap (message_at c) (sym number) ∙ q.found in
      goes_on k (Some (ActReceive n)) (found (thread_of k s.frames) (ap (λ (x : Config). x.threads) q.result))
      (λ a.
      let sums = exchanged_thread c a t s (thread_of k s.frames) there in
      let taken = others_count a q.message.number 0 c.messages q.message numbered.messages by_number in
      let same = ap (times_in a) q.result in
      let less = ap (times_if_message a) q.found in
      omega arith)

  pub by_act : (act : Act) → thread_step p c t s act ≡ Some d → Leaves c d t s (Some act)
  by_act ActLocal h = by_local h
  by_act ActNew h = by_new h
  by_act ActSend h = by_send h
  by_act ActSpawn h = by_spawn h
  by_act ActPrint h = by_print h
  by_act ActEnd h = by_end h
  by_act ActFree h = by_free h
  by_act (ActReceive k) h = by_receive k h
