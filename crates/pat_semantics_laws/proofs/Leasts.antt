-- In order, what is found first has the least number.
use Rattle.std.proofs.Common.{◌≡◌, ℕ, ◌≤◌, Bool, true, nat_eq, Option, Some, None, refl, sym, ap, ◌∙◌, subst}
use Rattle.std.specs.Prelude.{option_map, find, is_some}
use Rattle.pat_semantics_spec.specs.Programs.{Program}
use Rattle.pat_semantics_spec.specs.Configs.{Thread, Message, Config, thread_at}
use Rattle.pat_semantics_spec.specs.Orders.{IsOrdered}
use Rattle.pat_semantics_spec.specs.Steps.{ActReceive, step, redex, message_at}
use Rattle.pat_semantics_spec.specs.Faults.{IsIn}
use Rattle.pat_semantics_laws.specs.Laws.{IsEnabled}
use Rattle.pat_semantics_laws.proofs.Inversion.{step_of, receive_step}
use Rattle.pat_semantics_laws.proofs.Ascending.{first_is_least, found_by_number, thread_is_in, thread_by_number, found_is_in}
use Rattle.std.proofs.lemmas.Bool.{eqb-true}

-- what is mapped is something mapped
of_some : {A : Type 0} (number : A → ℕ) (o : Option A) (k : ℕ) → option_map number o ≡ Some k → (x : A) × (o ≡ Some x) × (number x ≡ k)
of_some number None k h = cc
of_some number (Some x) k h = (x, refl, cc)

pub first_thread : (c : Config) (test : ℕ → Bool) (t u : ℕ) (s : Thread) → IsOrdered c → option_map (λ e. e.0) (find (λ e. test e.0) c.threads) ≡ Some t → thread_at c u ≡ Some s → test u ≡ true → t ≤ u
first_thread c test t u s o h there pass =
    let e = of_some (λ (e : ℕ × Thread). e.0) (find (λ e. test e.0) c.threads) t h in
    subst (λ n. n ≤ u) e.2 (first_is_least (λ (e : ℕ × Thread). e.0) (λ e. test e.0) 0 c.threads e.0 (u, s) o.threads e.1 (thread_is_in c.threads u s there) pass)

pub first_message : (c : Config) (test : Message → Bool) (k : ℕ) (m : Message) → IsOrdered c → option_map (λ m. m.number) (find test c.messages) ≡ Some k → IsIn m c.messages → test m ≡ true → k ≤ m.number
first_message c test k m o h at pass =
    let e = of_some (λ (x : Message). x.number) (find test c.messages) k h in
    subst (λ n. n ≤ m.number) e.2 (first_is_least (λ (x : Message). x.number) test 0 c.messages e.0 m o.messages e.1 at pass)

pub first_receive : (p : Program) (c : Config) (t k m : ℕ) → IsOrdered c → option_map (λ m. m.number) (find (λ m. is_some (step p c (record { thread = t; act = ActReceive m.number }))) c.messages) ≡ Some k → IsEnabled p c (record { thread = t; act = ActReceive m }) → k ≤ m
first_receive p c t k m o h (d, at) =
    let w = step_of p c (record { thread = t; act = ActReceive m }) d at in
    let q = receive_step p c t m w.thread d (redex p w.thread.control) refl w.gives in
    let there = found_is_in (λ x. nat_eq m x.number) c.messages q.message q.found in
    let number : m ≡ q.message.number = eqb-true m q.message.number there.1 in
    let pass = ap (λ n. is_some (step p c (record { thread = t; act = ActReceive n }))) (sym number) ∙ ap is_some at in
    subst (λ n. k ≤ n) (sym number) (first_message c (λ x. is_some (step p c (record { thread = t; act = ActReceive x.number }))) k q.message o h there.0 pass)

pub thread_is_found : (c : Config) (t : ℕ) (s : Thread) → IsOrdered c → IsIn (t, s) c.threads → thread_at c t ≡ Some s
thread_is_found c t s o h = thread_by_number 0 c.threads t s o.threads h

pub message_is_found : (c : Config) (m : Message) → IsOrdered c → IsIn m c.messages → message_at c m.number ≡ Some m
message_is_found c m o h = found_by_number (λ (x : Message). x.number) 0 c.messages m o.messages h
