-- How often a mailbox is named once a thread or a message was exchanged, appended or taken out.
use Rattle.std.proofs.Common.{◌≡◌, ℕ, suc, ◌+◌, ◌<◌, true, false, cond, not, nat_eq, List, [], ◌∷◌, ◌++◌, map, filter, Some, refl, sym, ap, ◌∙◌, arith}
use Rattle.std.specs.Prelude.{find}
use Rattle.std.proofs.lemmas.Bool.{eqb-true, eq-eqb, ne_eqb}
use Rattle.pat_semantics_spec.specs.Configs.{Thread, Message, Config, thread_at, with_thread}
use Rattle.pat_semantics_spec.specs.Orders.{AscendsFrom, IsOrdered}
use Rattle.pat_semantics_spec.specs.Steps.{message_at, without_message, without_thread}
use Rattle.pat_semantics_laws.proofs.Lists.{ne_turn}
use Rattle.pat_machine_spec.specs.Tops.{top_of, below, over}
use Rattle.pat_machine_laws.specs.refcounts.Naming.{times_in_thread, times_in_message, times_in_messages, times_in}
use Rattle.pat_machine_laws.proofs.Sums.{set_sum, remove_sum, join_sums}
use Rattle.pat_machine_laws.proofs.Joined.{messages_join, over_counts, top_counts}

-- messages without number k
abbrev others : ℕ → List Message → List Message
others k ms = filter (λ m. not (nat_eq m.number k)) ms

-- there is none below where the numbers begin
all_others : (k n : ℕ) (ms : List Message) → k < n → AscendsFrom n (map (λ m. m.number) ms) → others k ms ≡ ms
all_others k n [] h a = refl
all_others k n (m ∷ ms) h a =
    let least = a.0 in
    ap (λ b. cond (not b) (m ∷ others k ms) (others k ms)) (ne_eqb m.number k (λ q. omega arith))
    ∙ ap (λ l. m ∷ l) (all_others k (suc m.number) ms (omega arith) a.1)

pub others_count : (a k n : ℕ) (ms : List Message) (m : Message) → AscendsFrom n (map (λ m. m.number) ms) → find (λ m. nat_eq k m.number) ms ≡ Some m → times_in_messages a (others k ms) + times_in_message a m ≡ times_in_messages a ms
others_count a k n [] m up h = cc
others_count a k n (l ∷ ls) m up h =
    (elim (nat_eq k l.number) as (λ v. nat_eq k l.number ≡ v → cond v (Some l) (find (λ m. nat_eq k m.number) ls) ≡ Some m → times_in_messages a (others k (l ∷ ls)) + times_in_message a m ≡ times_in_messages a (l ∷ ls)) [
      | true ↦ λ q found.
          let same : k ≡ l.number = eqb-true k l.number q in
          let first : l ≡ m = cc in
          let number = ap (times_in_message a) first in
          let gone : others k (l ∷ ls) ≡ ls =
          ap (λ b. cond (not b) (l ∷ others k ls) (others k ls)) (eq-eqb l.number k (sym same)) ∙ all_others k (suc l.number) ls (omega arith) up.1 in
          let left = ap (times_in_messages a) gone in
          omega arith
      | false ↦ λ q found.
          let kept : others k (l ∷ ls) ≡ l ∷ others k ls = ap (λ b. cond (not b) (l ∷ others k ls) (others k ls)) (ne_turn k l.number q) in
          let left = ap (times_in_messages a) kept in
          let rest = others_count a k (suc l.number) ls m up.1 found in
          omega arith
    ]) refl h

module _ (c : Config) (a t : ℕ) where
  pub exchanged_thread : (s r : Thread) → thread_at c t ≡ Some s → times_in a (with_thread c t r) + times_in_thread a s ≡ times_in a c + times_in_thread a r
  exchanged_thread s r h = let threads = set_sum (times_in_thread a) t c.threads s r h in omega arith

  pub taken_thread : (s : Thread) → thread_at c t ≡ Some s → times_in a (without_thread c t) + times_in_thread a s ≡ times_in a c
  taken_thread s h = let threads = remove_sum (times_in_thread a) t c.threads s h in omega arith

  pub appended_thread : (s : Thread) → times_in a (record c { threads = c.threads ++ (t, s) ∷ [] }) ≡ times_in a c + times_in_thread a s
  appended_thread s = let threads = join_sums (times_in_thread a) c.threads ((t, s) ∷ []) in omega arith

pub exchanged_top : (c : Config) (a t n : ℕ) (s r : Thread) → thread_at c t ≡ Some s → times_in a (with_thread c t (over r (below n s))) + times_in_thread a (top_of n s) ≡ times_in a c + times_in_thread a r
exchanged_top c a t n s r h =
    let whole = exchanged_thread c a t s (over r (below n s)) h in
    let new = over_counts a r (below n s) in
    let old = top_counts a n s in
    omega arith

pub appended_message : (c : Config) (a : ℕ) (m : Message) → times_in a (record c { messages = c.messages ++ m ∷ [] }) ≡ times_in a c + times_in_message a m
appended_message c a m = let messages = messages_join a c.messages (m ∷ []) in omega arith

pub taken_message : (c : Config) (a k : ℕ) (m : Message) → IsOrdered c → message_at c k ≡ Some m → times_in a (without_message c k) + times_in_message a m ≡ times_in a c
taken_message c a k m ordered h = let messages = others_count a k 0 c.messages m ordered.messages h in omega arith
