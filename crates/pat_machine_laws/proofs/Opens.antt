-- Where a send is enabled nothing else of the thread is, and the test of an open step is exact.
use Rattle.std.proofs.Common.{◌≡◌, ℕ, true, not, ◌||◌, length, Option, Some, None, refl, sym, ap, ◌∙◌, ⊎_elim}
use Rattle.std.specs.Prelude.{is_some}
use Rattle.std.proofs.lemmas.Bool.{and_parts, and_from, or_cases, or_left, or_right, not-true, ltb-true, lt-ltb, false_from_ne_true, cases_Bool}
use Rattle.pat_semantics_spec.specs.Values.{Value, Env}
use Rattle.pat_semantics_spec.specs.Programs.{Program, Core, Val, Let, Call, If, Print, New, Send, Spawn, Guard}
use Rattle.pat_semantics_spec.specs.Configs.{Control, Running, Returned, Thread, Config}
use Rattle.pat_semantics_spec.specs.Steps.{Act, ActLocal, ActNew, ActSend, ActSpawn, ActPrint, ActEnd, ActFree, ActReceive, step, thread_step, redex}
use Rattle.pat_semantics_spec.specs.Runs.{can_step_thread}
use Rattle.pat_semantics_laws.specs.Laws.{IsEnabled}
use Rattle.pat_semantics_laws.proofs.Lists.{clash}
use Rattle.pat_semantics_laws.proofs.Enabled.{thread_exact}
use Rattle.pat_semantics_laws.proofs.Inversion.{StandsAt, step_of, print_step, new_step, receive_step, local_step_of, LocalStep, by_let, by_value, by_call, by_if, by_return, send_step, SendStep, spawn_step, end_step, EndStep, end_value, end_return, free_step}
use Rattle.pat_machine_spec.specs.Opens.{IsOpen, has_space, can_send, can_go_on}

-- a control stands at one term
one_term : (p : Program) (k : Control) (a b : Core) (e f : Env) → StandsAt p k a e → StandsAt p k b f → a ≡ b
one_term p k a b e f s w =
    let run : Running s.node e ≡ Running w.node f = sym s.control_is ∙ w.control_is in
    let node : s.node ≡ w.node = cc in
    let both : Some a ≡ Some b = sym s.term ∙ ap (λ n. Rattle.pat_semantics_spec.specs.Programs.core_at p n) node ∙ w.term in
    cc

not_returned : (p : Program) (k : Control) (a : Core) (e : Env) (v : Value) → StandsAt p k a e → k ≡ Returned v → ⊥
not_returned p k a e v s h = let same : Running s.node e ≡ Returned v = sym s.control_is ∙ h in cc

module _ (p : Program) (c : Config) (t : ℕ) (s : Thread) (d : Config) (q : SendStep p c t s d) where
  at_send : (core : Core) (env : Env) → StandsAt p s.control core env → Send q.var q.tag q.args ≡ core
  at_send core env w = one_term p s.control (Send q.var q.tag q.args) core q.env env q.at w

  no_local : (r : Thread) → LocalStep p s r → ⊥
  no_local r (by_let x m n env at is) = let e = at_send (Let x m n) env at in cc
  no_local r (by_value x env f fs v at frames value is) = let e = at_send (Val x) env at in cc
  no_local r (by_call g args env h vs at there values is) = let e = at_send (Call g args) env at in cc
  no_local r (by_if x m n env b at is) = let e = at_send (If x m n) env at in cc
  no_local r (by_return v f fs at frames is) = not_returned p s.control (Send q.var q.tag q.args) q.env v q.at at

  no_end : (e : Config) → EndStep p c t s e → ⊥
  no_end e (end_value x env at none is) = let e = at_send (Val x) env at in cc
  no_end e (end_return v at none is) = not_returned p s.control (Send q.var q.tag q.args) q.env v q.at at

  only_send : (a : Act) (e : Config) → thread_step p c t s a ≡ Some e → a ≡ ActSend
  only_send ActSend e h = refl
  only_send ActLocal e h = let r = local_step_of p c t s e h in absurd (no_local r.0 r.1)
  only_send ActNew e h = let r = new_step p c t s e (redex p s.control) refl h in let e = at_send _ r.env r.at in cc
  only_send ActSpawn e h = let r = spawn_step p c t s e (redex p s.control) refl h in let e = at_send _ r.env r.at in cc
  only_send ActPrint e h = let r = print_step p c t s e (redex p s.control) refl h in let e = at_send _ r.env r.at in cc
  only_send ActEnd e h = absurd (no_end e (end_step p c t s e s.frames (redex p s.control) refl refl h))
  only_send ActFree e h = let r = free_step p c t s e (redex p s.control) refl h in let e = at_send _ r.env r.at in cc
  only_send (ActReceive k) e h = let r = receive_step p c t k s e (redex p s.control) refl h in let e = at_send _ r.env r.at in cc

-- where a send of the thread is enabled, nothing else of it is
pub send_alone : (p : Program) (c : Config) (t : ℕ) (a : Act) (d e : Config) → step p c (record { thread = t; act = ActSend }) ≡ Some d → step p c (record { thread = t; act = a }) ≡ Some e → a ≡ ActSend
send_alone p c t a d e h g =
    let o = step_of p c (record { thread = t; act = ActSend }) d h in
    let w = step_of p c (record { thread = t; act = a }) e g in
    let both : Some o.thread ≡ Some w.thread = sym o.there ∙ w.there in
    let same : o.thread ≡ w.thread = cc in
    only_send p c t o.thread d (send_step p c t o.thread d (redex p o.thread.control) refl o.gives) a e (ap (λ s. thread_step p c t s a) same ∙ w.gives)

pub some_of : {A : Type 0} (o : Option A) → is_some o ≡ true → (x : A) × (o ≡ Some x)
some_of None h = cc
some_of (Some x) h = (x, refl)

-- an enabled act is open where there is space, or where no send is enabled
pub open_of : (p : Program) (c : Config) (limit t : ℕ) (a : Act) → IsEnabled p c (record { thread = t; act = a }) → (has_space c limit || not (can_send p c t)) ≡ true → IsOpen p c limit (record { thread = t; act = a })
open_of p c limit t a e h = (
  e,
  λ same. ⊎_elim
      (λ space. ltb-true (length c.messages) limit space)
      (λ none. absurd (clash (ap (λ b. is_some (step p c (record { thread = t; act = b }))) (sym same) ∙ ap is_some e.1) (not-true (can_send p c t) none)))
      (or_cases (has_space c limit) (not (can_send p c t)) h),
)

-- and only there
pub open_only : (p : Program) (c : Config) (limit t : ℕ) (a : Act) → IsOpen p c limit (record { thread = t; act = a }) → (has_space c limit || not (can_send p c t)) ≡ true
open_only p c limit t a (e, space) =
    ⊎_elim
    (λ yes. or_left (has_space c limit) (not (can_send p c t)) yes)
    (λ no. or_right (has_space c limit) (not (can_send p c t)) (ap not (false_from_ne_true (can_send p c t) (λ can.
    let d = some_of (step p c (record { thread = t; act = ActSend })) can in
    let same = send_alone p c t a d.0 e.0 d.1 e.1 in
    clash (lt-ltb (length c.messages) limit (space same)) no))))
    (cases_Bool (has_space c limit))

pub open_exact : (p : Program) (c : Config) (limit t : ℕ) → (can_go_on p c limit t ≡ true → (a : Act) × IsOpen p c limit (record { thread = t; act = a })) × ((a : Act) × IsOpen p c limit (record { thread = t; act = a }) → can_go_on p c limit t ≡ true)
open_exact p c limit t = (
  λ h.
      let both = and_parts (can_step_thread p c t) (has_space c limit || not (can_send p c t)) h in
      let e = (thread_exact p c t).0 both.0 in
      (e.0, open_of p c limit t e.0 e.1 both.1),
  λ e. and_from (can_step_thread p c t) (has_space c limit || not (can_send p c t)) ((thread_exact p c t).1 (e.0, e.1.0)) (open_only p c limit t e.0 e.1),
)
