-- A step takes at most one new number of each kind.
use Rattle.std.proofs.Common.{◌≡◌, ℕ, ◌+◌, ◌≤◌, Bool, true, false, List, [], ◌∷◌, Option, Some, None, sym, subst, arith}
use Rattle.std.specs.Prelude.{option_map, option_and_then, if◌then◌else◌}
use Rattle.pat_semantics_spec.specs.Programs.{Program, Val, Let, Call, If, Print, New, Send, Spawn, Guard}
use Rattle.pat_semantics_spec.specs.Configs.{Frame, Thread, Config, thread_at, with_thread}
use Rattle.pat_semantics_spec.specs.Steps.{Act, ActLocal, ActNew, ActSend, ActSpawn, ActPrint, ActEnd, ActFree, ActReceive, Step, Redex, At, Done, Nowhere, redex, local_step, end_at, thread_step, step}
use Rattle.pat_reduce.specs.threads.ThreadActs.{is_new, redex_message, redex_line, redex_received, spawned}
use Rattle.pat_reduce.specs.Acts.{redex_freed}
use Rattle.pat_reduce.specs.StepsTaken.{Within}
use Rattle.pat_reduce.proofs.Shared.{made, sent, begun, said, freed, taken, new_is, send_is, spawn_is, print_is, free_is, receive_is}

-- a configuration, if there is one, is at most one number of each kind ahead
abbrev Ahead : Config → Option Config → Type 0
Ahead c None = Unit {0}
Ahead c (Some d) = Within c 1 d

ahead_map : {A : Type 0} (c : Config) (f : A → Config) → ((x : A) → Within c 1 (f x)) → (o : Option A) → Ahead c (option_map f o)
ahead_map c f each None = tt
ahead_map c f each (Some x) = each x

ahead_if : (c d : Config) → Within c 1 d → (b : Bool) → Ahead c (if b then Some d else None)
ahead_if c d h true = h
ahead_if c d h false = tt

ends_ahead : (c : Config) (t : ℕ) (frames : List Frame) (r : Redex) → Ahead c (end_at c t frames r)
ends_ahead c t [] (At (Val e) env) = record { threads = omega arith; mailboxes = omega arith; messages = omega arith }
ends_ahead c t [] (Done v) = record { threads = omega arith; mailboxes = omega arith; messages = omega arith }
ends_ahead c t [] (At (Let y m n) env) = tt
ends_ahead c t [] (At (Call f args) env) = tt
ends_ahead c t [] (At (If e m n) env) = tt
ends_ahead c t [] (At (Print e) env) = tt
ends_ahead c t [] (At (New i) env) = tt
ends_ahead c t [] (At (Send x m args) env) = tt
ends_ahead c t [] (At (Spawn m) env) = tt
ends_ahead c t [] (At (Guard x e free cs) env) = tt
ends_ahead c t [] Nowhere = tt
ends_ahead c t (f ∷ frames) r = tt

acts_ahead : (p : Program) (c : Config) (t : ℕ) (s : Thread) (a : Act) → Ahead c (thread_step p c t s a)
acts_ahead p c t s ActLocal = ahead_map c (with_thread c t) (λ x. record { threads = omega arith; mailboxes = omega arith; messages = omega arith }) (local_step p s)
acts_ahead p c t s ActNew = subst (Ahead c) (sym (new_is c t s.frames (redex p s.control))) (ahead_if c (made c t s.frames) (record { threads = omega arith; mailboxes = omega arith; messages = omega arith }) (is_new (redex p s.control)))
acts_ahead p c t s ActSend = subst (Ahead c) (sym (send_is c t s.frames (redex p s.control))) (ahead_map c (sent c t s.frames) (λ x. record { threads = omega arith; mailboxes = omega arith; messages = omega arith }) (redex_message c.next_message (redex p s.control)))
acts_ahead p c t s ActSpawn = subst (Ahead c) (sym (spawn_is p c t s.frames (redex p s.control))) (ahead_map c (begun c t s.frames) (λ x. record { threads = omega arith; mailboxes = omega arith; messages = omega arith }) (spawned p (redex p s.control)))
acts_ahead p c t s ActPrint = subst (Ahead c) (sym (print_is c t s.frames (redex p s.control))) (ahead_map c (said c t s.frames) (λ x. record { threads = omega arith; mailboxes = omega arith; messages = omega arith }) (redex_line (redex p s.control)))
acts_ahead p c t s ActEnd = ends_ahead c t s.frames (redex p s.control)
acts_ahead p c t s ActFree = subst (Ahead c) (sym (free_is p c t s.frames (redex p s.control))) (ahead_map c (freed c t s.frames) (λ x. record { threads = omega arith; mailboxes = omega arith; messages = omega arith }) (redex_freed p c t (redex p s.control)))
acts_ahead p c t s (ActReceive k) = subst (Ahead c) (sym (receive_is p c t s.frames k (redex p s.control))) (ahead_map c (taken c t s.frames k) (λ x. record { threads = omega arith; mailboxes = omega arith; messages = omega arith }) (redex_received p c.messages k (redex p s.control)))

step_from : (p : Program) (c : Config) (k : Step) (o : Option Thread) → Ahead c (option_and_then (λ s. thread_step p c k.thread s k.act) o)
step_from p c k None = tt
step_from p c k (Some s) = acts_ahead p c k.thread s k.act

pub step_ahead : (p : Program) (c d : Config) (k : Step) → step p c k ≡ Some d → Within c 1 d
step_ahead p c d k h = subst (Ahead c) h (step_from p c k (thread_at c k.thread))
