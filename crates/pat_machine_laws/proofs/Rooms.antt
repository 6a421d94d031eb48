-- There are numbers left after a history within the budget, and local steps keep a configuration typed.
use Rattle.std.proofs.Common.{◌≡◌, ℕ, ◌+◌, ◌≤◌, List, [], ◌∷◌, length, Option, Some, None, refl, ap, ◌∙◌, subst, arith, length-append}
use Rattle.std.specs.Prelude.{option_and_then, replicate}
use Rattle.pat_semantics_spec.specs.Programs.{Program, Function, function_at}
use Rattle.pat_semantics_spec.specs.Configs.{Thread, Config, thread_at, with_thread, start, start_of}
use Rattle.pat_semantics_spec.specs.Steps.{Act, ActLocal, ActNew, ActSend, ActSpawn, ActPrint, ActEnd, ActFree, ActReceive, Step, step}
use Rattle.pat_semantics_spec.specs.Runs.{Entry, run_from, entry_steps, step_count}
use Rattle.pat_semantics_laws.specs.Laws.{history_steps}
use Rattle.pat_semantics_laws.proofs.Replays.{replay_runs}
use Rattle.pat_machine_spec.specs.Commits.{local_of, locally}
use Rattle.pat_machine_spec.specs.Lendings.{Out}
use Rattle.pat_machine_spec.specs.Machines.{IsTypedBySome, MachineInvariant, HasRoom}
use Rattle.pat_machine_laws.proofs.Locals.{locals_run}
use Rattle.pat_machine_laws.proofs.Runs.{run_typed_by_some}
use Rattle.pat_machine_laws.proofs.Moves.{run_ahead, step_moves, sent_by}

steps_counted : (es : List Entry) → length (history_steps es) ≡ step_count es
steps_counted [] = refl
steps_counted (e ∷ es) = length-append (entry_steps e) (history_steps es) ∙ ap (λ n. length (entry_steps e) + n) (steps_counted es)

sent_few : (a : Act) → sent_by a ≤ 1
sent_few ActSend = omega arith
sent_few ActLocal = omega arith
sent_few ActNew = omega arith
sent_few ActSpawn = omega arith
sent_few ActPrint = omega arith
sent_few ActEnd = omega arith
sent_few ActFree = omega arith
sent_few (ActReceive k) = omega arith

-- a run adds at most one message for each of its steps
run_pending : (p : Program) (ks : List Step) (c d : Config) → run_from p c ks ≡ Some d → length d.messages ≤ length c.messages + length ks
run_pending p [] c d h =
    let same : c ≡ d = cc in
    subst (λ (x : Config). length x.messages ≤ length c.messages + 0) same (omega arith)
run_pending p (k ∷ ks) c d h = go (step p c k) refl h (λ e g. run_pending p ks e d g)
  where
    go : (o : Option Config) → step p c k ≡ o → option_and_then (λ e. run_from p e ks) o ≡ Some d → ((e : Config) → run_from p e ks ≡ Some d → length d.messages ≤ length e.messages + length ks) → length d.messages ≤ length c.messages + length (k ∷ ks)
    go None is g rest = cc
    go (Some e) is g rest =
        let one : length e.messages ≤ length c.messages + sent_by k.act = (step_moves p c k e is).messages in
        let few = sent_few k.act in
        let more = rest e g in
        omega arith

no_messages : (o : Option Function) → length (start_of o).messages ≡ 0
no_messages None = refl
no_messages (Some f) = refl

record Few (c : Config) : Type 0 where
  pub threads : c.next_thread ≤ 1
  pub mailboxes : c.next_mailbox ≤ 1
  pub messages : c.next_message ≤ 1

start_few : (o : Option Function) → Few (start_of o)
start_few None = record { threads = omega arith; mailboxes = omega arith; messages = omega arith }
start_few (Some f) = record { threads = omega arith; mailboxes = omega arith; messages = omega arith }

module _ (p : Program) (budget limit : ℕ) (c : Config) (es : List Entry) (left : ℕ) (out : Out) (s : MachineInvariant p budget limit c es left out) where
  pub room_of : HasRoom c
  room_of =
      let ahead = run_ahead p (history_steps es) (start p) c (replay_runs p (start p) c es s.facts.replayed).1 in
      let few = start_few (function_at p p.main) in
      let n = steps_counted es in
      let counted = s.facts.counted in
      let small = s.small in
      record {
        threads = let a = ahead.threads in let b = few.threads in omega arith;
        mailboxes = let a = ahead.mailboxes in let b = few.mailboxes in omega arith;
        messages = let a = ahead.messages in let b = few.messages in omega arith;
      }

  -- no more messages are pending than the history has steps: nodes for as many as the budget are enough
  pub pending_of : length c.messages ≤ step_count es
  pending_of =
      let pending = run_pending p (history_steps es) (start p) c (replay_runs p (start p) c es s.facts.replayed).1 in
      let none = no_messages (function_at p p.main) in
      let n = steps_counted es in
      omega arith

  pub half_typed : (t k : ℕ) (x r : Thread) → thread_at c t ≡ Some x → locally p k x ≡ Some r → IsTypedBySome p (with_thread c t r)
  half_typed t k x r there taken =
      let y = s.facts.typed in
      let run = locals_run p k c t x r there taken in
      run_typed_by_some p (replicate k (local_of t)) c (with_thread c t r) s.well y run
