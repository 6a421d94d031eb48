-- What an enabled act of a thread needs, beside the thread.
use Rattle.std.proofs.Common.{◌≡◌, ℕ, true, false, ◌&&◌, nat_eq, List, [], length, Option, Some, None, refl, sym, ap, ◌∙◌, if◌then◌else◌}
use Rattle.std.specs.Prelude.{option_and_then, option_map}
use Rattle.std.proofs.lemmas.Bool.{and_from, cond-true, eqb-true}
use Rattle.pat_words_spec.specs.Patterns.{Pat}
use Rattle.pat_semantics_spec.specs.Values.{Value, Const, Mailbox, Env, value_at, eval, eval_all, line_of}
use Rattle.pat_semantics_spec.specs.Programs.{Program, Val, Print, New, Send, Spawn, Guard, Clause}
use Rattle.pat_semantics_spec.specs.Configs.{Frame, Thread, Message, Config, thread_at, with_thread}
use Rattle.pat_semantics_spec.specs.Steps.{Redex, At, Done, redex, send_to, send_at, spawn_at, new_at, print_line, print_at, end_at, Act, ActLocal, ActNew, ActSend, ActSpawn, ActPrint, ActEnd, ActFree, ActReceive, thread_step, local_step, message_at, free_mailbox, free_at, receive_at, receive_from, receive_message, redex_at, thread_of, at_node, received, without_message}
use Rattle.pat_semantics_laws.specs.Laws.{IsEnabled}
use Rattle.pat_semantics_laws.proofs.Inversion.{ReceiveStep, receive_step, after_free}
use Rattle.pat_machine_laws.specs.wakeups.Wakings.{mailbox_in, guarded, guarded_at, may_free}

-- the act is enabled at this thread, wherever that stands
abbrev pub IsPlain : Program → ℕ → Thread → Act → Type 0
IsPlain p u s a = (c : Config) → (e : Config) × (thread_step p c u s a ≡ Some e)

-- the act is enabled at this thread wherever mailbox a may be freed
abbrev pub FreesIn : Program → ℕ → Thread → ℕ → Act → Type 0
FreesIn p u s a b = (c : Config) → may_free c a u ≡ true → (e : Config) × (thread_step p c u s b ≡ Some e)

-- the act is enabled at this thread wherever this message is pending
abbrev pub TakesIn : Program → ℕ → Thread → ℕ → Message → Act → Type 0
TakesIn p u s k m b = (c : Config) → message_at c k ≡ Some m → (e : Config) × (thread_step p c u s b ≡ Some e)

-- what an enabled act needs
pub data Needs (p : Program) (d : Config) (u : ℕ) (s : Thread) (b : Act) : Type 0 where
  nothing : IsPlain p u s b → Needs p d u s b
  freeing : (a : ℕ) → b ≡ ActFree → guarded p s ≡ Some a → may_free d a u ≡ true → FreesIn p u s a b → Needs p d u s b
  message : (k : ℕ) (m : Message) → b ≡ ActReceive k → guarded p s ≡ Some m.mailbox → message_at d k ≡ Some m → TakesIn p u s k m b → Needs p d u s b

local_plain : (p : Program) (d : Config) (u : ℕ) (s : Thread) (e : Config) → thread_step p d u s ActLocal ≡ Some e → IsPlain p u s ActLocal
local_plain p d u s e h c = go (local_step p s) refl h
  where
    go : (o : Option Thread) → local_step p s ≡ o → option_map (with_thread d u) o ≡ Some e → (f : Config) × (option_map (with_thread c u) (local_step p s) ≡ Some f)
    go None q k = cc
    go (Some r) q k = (with_thread c u r, ap (option_map (with_thread c u)) q)

module _ (d : Config) (u : ℕ) (fs : List Frame) where
  new_plain : (r : Redex) (e c : Config) → new_at d u fs r ≡ Some e → (f : Config) × (new_at c u fs r ≡ Some f)
  new_plain (At (New i) env) e c h = (_, refl)
  new_plain _ e c h = cc

  sent_plain : (m : ℕ) (o : Option Value) (a : Option (List Value)) (e c : Config) → send_to d u fs m o a ≡ Some e → (f : Config) × (send_to c u fs m o a ≡ Some f)
  sent_plain m (Some (Mailbox a)) (Some vs) e c h = (_, refl)
  sent_plain m _ _ e c h = cc

  send_plain : (r : Redex) (e c : Config) → send_at d u fs r ≡ Some e → (f : Config) × (send_at c u fs r ≡ Some f)
  send_plain (At (Send x m args) env) e c h = sent_plain m (value_at env x) (eval_all env args) e c h
  send_plain _ e c h = cc

  spawn_plain : (p : Program) (r : Redex) (e c : Config) → spawn_at p d u fs r ≡ Some e → (f : Config) × (spawn_at p c u fs r ≡ Some f)
  spawn_plain p (At (Spawn m) env) e c h = (_, refl)
  spawn_plain p _ e c h = cc

  line_plain : (o : Option (List ℕ)) (e c : Config) → print_line d u fs o ≡ Some e → (f : Config) × (print_line c u fs o ≡ Some f)
  line_plain (Some line) e c h = (_, refl)
  line_plain None e c h = cc

  print_plain : (r : Redex) (e c : Config) → print_at d u fs r ≡ Some e → (f : Config) × (print_at c u fs r ≡ Some f)
  print_plain (At (Print x) env) e c h = line_plain (option_and_then line_of (eval env x)) e c h
  print_plain _ e c h = cc

end_plain : (d : Config) (u : ℕ) (fs : List Frame) (r : Redex) (e c : Config) → end_at d u fs r ≡ Some e → (f : Config) × (end_at c u fs r ≡ Some f)
end_plain d u [] (At (Val x) env) e c h = (_, refl)
end_plain d u [] (Done v) e c h = (_, refl)
end_plain d u _ _ e c h = cc

-- ---- at a guard

free_needs : (p : Program) (d : Config) (u : ℕ) (s : Thread) (x : ℕ) (pattern : Pat) (free : Option ℕ) (cs : List Clause) (env : Env) (o : Option Value) (e : Config) → redex p s.control ≡ At (Guard x pattern free cs) env → value_at env x ≡ o → free_mailbox p d u s.frames free env o ≡ Some e → Needs p d u s ActFree
free_needs p d u s x pattern (Some n) cs env (Some (Mailbox a)) e r q h =
    let at : guarded p s ≡ Some a = ap guarded_at r ∙ ap mailbox_in q in
    let gives : (c : Config) → thread_step p c u s ActFree ≡ free_mailbox p c u s.frames (Some n) env (Some (Mailbox a)) =
    λ c. ap (free_at p c u s.frames) r ∙ ap (free_mailbox p c u s.frames (Some n) env) q in
    (elim (may_free d a u) as (λ b. may_free d a u ≡ b → (if b then Some (after_free p d u s.frames n env a) else None) ≡ Some e → Needs p d u s ActFree) [
      | true ↦ λ w k. freeing a refl at w (λ c may. (after_free p c u s.frames n env a, gives c ∙ cond-true (may_free c a u) (Some (after_free p c u s.frames n env a)) None may))
      | false ↦ λ w k. cc
    ]) refl h
free_needs p d u s x pattern (Some n) cs env (Some (Const b)) e r q h = cc
free_needs p d u s x pattern (Some n) cs env None e r q h = cc
free_needs p d u s x pattern None cs env o e r q h = cc

guard_free : (p : Program) (d : Config) (u : ℕ) (s : Thread) (r : Redex) (e : Config) → redex p s.control ≡ r → free_at p d u s.frames r ≡ Some e → Needs p d u s ActFree
guard_free p d u s (At (Guard x pattern free cs) env) e r h = free_needs p d u s x pattern free cs env (value_at env x) e r refl h
guard_free p d u s _ e r h = cc

-- a receive
receive_needs : (p : Program) (d : Config) (u k : ℕ) (s : Thread) (e : Config) → ReceiveStep p d u k s e → Needs p d u s (ActReceive k)
receive_needs p d u k s e q =
    let number : q.message.mailbox ≡ q.mailbox = eqb-true q.message.mailbox q.mailbox q.on in
    let stands : redex p s.control ≡ At (Guard q.var q.pattern q.free q.receives) q.env =
    ap (redex p) q.at.control_is ∙ ap (λ o. redex_at o q.env) q.at.term in
    let at : guarded p s ≡ Some q.message.mailbox = ap guarded_at stands ∙ ap mailbox_in q.guards ∙ ap (λ (a : ℕ). Some a) (sym number) in
    let passes = and_from (nat_eq q.message.mailbox q.mailbox) (nat_eq (length q.clause.vars) (length q.message.values)) q.on q.lengths in
    message k q.message refl at q.found
    (λ c there. (
      with_thread (without_message c q.message.number) u (thread_of (at_node p q.clause.body (received q.clause q.message q.env)) s.frames),
      ap (receive_at p c u s.frames k) stands
          ∙ ap (λ v. receive_from p c u s.frames q.receives q.env v (message_at c k)) q.guards
          ∙ ap (receive_from p c u s.frames q.receives q.env (Some (Mailbox q.mailbox))) there
          ∙ ap (receive_message p c u s.frames q.receives q.env q.mailbox q.message) q.chosen
          ∙ cond-true (nat_eq q.message.mailbox q.mailbox && nat_eq (length q.clause.vars) (length q.message.values)) (Some (with_thread (without_message c q.message.number) u (thread_of (at_node p q.clause.body (received q.clause q.message q.env)) s.frames))) None passes,
    ))

-- ---- any act

pub needs : (p : Program) (d : Config) (u : ℕ) (s : Thread) (b : Act) (e : Config) → thread_step p d u s b ≡ Some e → Needs p d u s b
needs p d u s ActLocal e h = nothing (local_plain p d u s e h)
needs p d u s ActNew e h = nothing (λ c. new_plain d u s.frames (redex p s.control) e c h)
needs p d u s ActSend e h = nothing (λ c. send_plain d u s.frames (redex p s.control) e c h)
needs p d u s ActSpawn e h = nothing (λ c. spawn_plain d u s.frames p (redex p s.control) e c h)
needs p d u s ActPrint e h = nothing (λ c. print_plain d u s.frames (redex p s.control) e c h)
needs p d u s ActEnd e h = nothing (λ c. end_plain d u s.frames (redex p s.control) e c h)
needs p d u s ActFree e h = guard_free p d u s (redex p s.control) e refl h
needs p d u s (ActReceive k) e h = receive_needs p d u k s e (receive_step p d u k s e (redex p s.control) refl h)

-- an act that is enabled at the thread is enabled where it stands
pub enabled_at : (p : Program) (c : Config) (u : ℕ) (s : Thread) (b : Act) → thread_at c u ≡ Some s → (e : Config) × (thread_step p c u s b ≡ Some e) → IsEnabled p c (record { thread = u; act = b })
enabled_at p c u s b there h = (h.0, ap (option_and_then (λ r. thread_step p c u r b)) there ∙ h.1)
