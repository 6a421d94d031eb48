-- A mailbox that one thread alone reaches: it is named as often as this thread names it.
use Rattle.std.proofs.Common.{◌≡◌, ℕ, suc, ◌<◌, true, false, cond, ◌&&◌, ◌||◌, not, nat_eq, List, [], ◌∷◌, Some, refl, sym, ap, subst, arith, ◌↔◌}
use Rattle.std.specs.List.{list_any}
use Rattle.std.specs.Map.{keys_of, remove_entry}
use Rattle.std.proofs.lemmas.Bool.{eqb-true, eqb-false, eq-eqb, ne_eqb, and_from, and_parts, false_from_ne_true}
use Rattle.pat_semantics_spec.specs.Configs.{Thread, Config, thread_at, thread_refers, message_refers, other_refers, is_reached_by_none_but}
use Rattle.pat_semantics_spec.specs.Orders.{AscendsFrom, IsOrdered}
use Rattle.pat_semantics_laws.proofs.Lists.{not_true}
use Rattle.pat_machine_laws.specs.refcounts.Naming.{times_in_thread, times_in_threads, times_in_messages, times_in}
use Rattle.pat_machine_laws.proofs.Tells.{Tells, tells_false, tells_nothing, tells_or, thread_tells, messages_tell}
use Rattle.pat_machine_laws.proofs.Sums.{remove_sum}

module _ (a t : ℕ) where
  -- a thread with another number
  other_tells : (e : ℕ × Thread) → nat_eq e.0 t ≡ false → Tells (not (nat_eq e.0 t) && thread_refers a e.1) (times_in_thread a e.1)
  other_tells e apart = subst (λ b. Tells (not b && thread_refers a e.1) (times_in_thread a e.1)) (sym apart) (thread_tells a e.1)

  -- threads with greater numbers
  greater_tell : (n : ℕ) (ts : List (ℕ × Thread)) → t < n → AscendsFrom n (keys_of ts) → Tells (other_refers a t ts) (times_in_threads a ts)
  greater_tell n [] h up = tells_nothing
  greater_tell n (e ∷ es) h up =
      let least = up.0 in
      tells_or (other_tells e (ne_eqb e.0 t (λ q. omega arith))) (greater_tell (suc e.0) es (omega arith) up.1)

  -- the other threads are those that are left once this one is taken out
  others_tell : (n : ℕ) (ts : List (ℕ × Thread)) → AscendsFrom n (keys_of ts) → Tells (other_refers a t ts) (times_in_threads a (remove_entry (nat_eq t) ts))
  others_tell n [] up = tells_nothing
  others_tell n (e ∷ es) up =
      (elim (nat_eq t e.0) as (λ v. nat_eq t e.0 ≡ v → Tells (other_refers a t (e ∷ es)) (times_in_threads a (cond v es (e ∷ remove_entry (nat_eq t) es)))) [
        | true ↦ λ q.
            let same : t ≡ e.0 = eqb-true t e.0 q in
            subst (λ b. Tells ((not b && thread_refers a e.1) || other_refers a t es) (times_in_threads a es)) (sym (eq-eqb e.0 t (sym same))) (greater_tell (suc e.0) es (omega arith) up.1)
        | false ↦ λ q. tells_or (other_tells e (ne_eqb e.0 t (λ w. eqb-false t e.0 q (sym w)))) (others_tell (suc e.0) es up.1)
      ]) refl

module _ (c : Config) (a t : ℕ) (s : Thread) (ordered : IsOrdered c) (there : thread_at c t ≡ Some s) where
  others : Tells (other_refers a t c.threads) (times_in_threads a (remove_entry (nat_eq t) c.threads))
  others = others_tell a t 0 c.threads ordered.threads

  messages : Tells (list_any (message_refers a) c.messages) (times_in_messages a c.messages)
  messages = messages_tell a c.messages

  counted : is_reached_by_none_but c a t ≡ true → times_in a c ≡ times_in_thread a s
  counted h =
      let no = and_parts (not (other_refers a t c.threads)) (not (list_any (message_refers a) c.messages)) h in
      let threads = others.none (not_true (other_refers a t c.threads) no.0) in
      let payloads = messages.none (not_true (list_any (message_refers a) c.messages) no.1) in
      let split = remove_sum (times_in_thread a) t c.threads s there in
      omega arith

  reached : times_in a c ≡ times_in_thread a s → is_reached_by_none_but c a t ≡ true
  reached h =
      let split = remove_sum (times_in_thread a) t c.threads s there in
      and_from (not (other_refers a t c.threads)) (not (list_any (message_refers a) c.messages)) (ap not (tells_false others (omega arith))) (ap not (tells_false messages (omega arith)))

  pub alone_counts : (is_reached_by_none_but c a t ≡ true) ↔ (times_in a c ≡ times_in_thread a s)
  alone_counts = (counted, reached)

  -- as one test for the other
  pub alone_test : is_reached_by_none_but c a t ≡ nat_eq (times_in a c) (times_in_thread a s)
  alone_test =
      (elim (nat_eq (times_in a c) (times_in_thread a s)) as (λ b. nat_eq (times_in a c) (times_in_thread a s) ≡ b → is_reached_by_none_but c a t ≡ b) [
        | true ↦ λ q. reached (eqb-true (times_in a c) (times_in_thread a s) q)
        | false ↦ λ q. false_from_ne_true (is_reached_by_none_but c a t) (λ h. eqb-false (times_in a c) (times_in_thread a s) q (counted h))
      ]) refl
