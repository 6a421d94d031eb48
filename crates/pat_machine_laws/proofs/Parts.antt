-- A step adds at most one part that keeps values, so a machine's budget bounds how often a mailbox is named.
use Rattle.std.proofs.Common.{◌≡◌, ℕ, suc, ◌+◌, ◌≤◌, not, nat_eq, List, [], ◌∷◌, length, Option, Some, None, refl, ap, ◌∙◌, subst, arith, length-append}
use Rattle.std.specs.Prelude.{option_and_then}
use Rattle.std.proofs.lemmas.List.Sums.{length-filter, count_by-le-length}
use Rattle.pat_semantics_spec.specs.Values.{Const, Mailbox, UnitConst}
use Rattle.pat_semantics_spec.specs.Programs.{Program, Function, function_at}
use Rattle.pat_semantics_spec.specs.Configs.{Control, Returned, Thread, Config, thread_at, with_thread, start, start_of}
use Rattle.pat_semantics_spec.specs.Steps.{Act, ActLocal, ActNew, ActSend, ActSpawn, ActPrint, ActEnd, ActFree, ActReceive, Step, step, redex, thread_of, returned_unit, at_node, received, without_thread}
use Rattle.pat_semantics_spec.specs.Runs.{Entry, run_from, entry_steps, replay, step_count}
use Rattle.pat_semantics_laws.specs.Laws.{history_steps}
use Rattle.pat_semantics_laws.proofs.Inversion.{step_of, print_step, new_step, receive_step, LocalStep, by_let, by_value, by_call, by_if, by_return, local_step_of, send_step, spawn_step, EndStep, end_value, end_return, end_step, free_step}
use Rattle.pat_semantics_laws.proofs.Replays.{replay_runs}
use Rattle.pat_machine_spec.specs.Lendings.{Out}
use Rattle.pat_machine_spec.specs.Machines.{MachineInvariant}
use Rattle.pat_machine_laws.specs.refcounts.Naming.{sum_of_threads, times_in, parts_of, parts_in}
use Rattle.pat_machine_laws.proofs.Sums.{set_sum, remove_sum, join_sums}
use Rattle.pat_machine_laws.proofs.Once.{typed_once}

-- a local step puts at most one frame on top
local_more : (p : Program) (s r : Thread) → LocalStep p s r → length r.frames ≤ suc (length s.frames)
local_more p s r (by_let x m n env at is) = let number = ap (λ (q : Thread). length q.frames) is in omega arith
local_more p s r (by_value e env f fs v at frames value is) =
    let number = ap (λ (q : Thread). length q.frames) is in let old = ap (λ l. length l) frames in omega arith
local_more p s r (by_call g args env f vs at there values is) = let number = ap (λ (q : Thread). length q.frames) is in omega arith
local_more p s r (by_if e m n env b at is) = let number = ap (λ (q : Thread). length q.frames) is in omega arith
local_more p s r (by_return v f fs control frames is) =
    let number = ap (λ (q : Thread). length q.frames) is in let old = ap (λ l. length l) frames in omega arith

-- a thread that ends has no frames
pub ended : (p : Program) (c : Config) (t : ℕ) (s : Thread) (d : Config) → EndStep p c t s d → (s.frames ≡ []) × (d ≡ without_thread c t)
ended p c t s d (end_value e env at none is) = (none, is)
ended p c t s d (end_return v at none is) = (none, is)

module _ (c : Config) (t : ℕ) (s : Thread) (there : thread_at c t ≡ Some s) where
  exchanged : (r : Thread) → sum_of_threads parts_of (with_thread c t r).threads + length s.frames ≡ sum_of_threads parts_of c.threads + length r.frames
  exchanged r = let sums = set_sum parts_of t c.threads s r there in omega arith

  -- with the same frames, as many parts
  kept : (k : Control) → sum_of_threads parts_of (with_thread c t (thread_of k s.frames)).threads ≡ sum_of_threads parts_of c.threads
  kept k = let sums = exchanged (thread_of k s.frames) in omega arith

act_parts : (p : Program) (c : Config) (t : ℕ) (a : Act) (d : Config) → step p c (record { thread = t; act = a }) ≡ Some d → parts_in d ≤ parts_in c + 1
act_parts p c t ActLocal d h =
    let o = step_of p c (record { thread = t; act = ActLocal }) d h in
    let q = local_step_of p c t o.thread d o.gives in
    let sums = exchanged c t o.thread o.there q.0 in
    let few = local_more p o.thread q.0 q.1 in
    let parts = ap parts_in q.2 in
    omega arith
act_parts p c t ActNew d h =
    let o = step_of p c (record { thread = t; act = ActNew }) d h in
    let q = new_step p c t o.thread d (redex p o.thread.control) refl o.gives in
    let sums = kept c t o.thread o.there (Returned (Mailbox c.next_mailbox)) in
    let parts = ap parts_in q.result in
    omega arith
act_parts p c t ActSend d h =
    let o = step_of p c (record { thread = t; act = ActSend }) d h in
    let q = send_step p c t o.thread d (redex p o.thread.control) refl o.gives in
    let sums = kept c t o.thread o.there (Returned (Const UnitConst)) in
    let sent = length-append c.messages (record { number = c.next_message; mailbox = q.mailbox; tag = q.tag; values = q.values } ∷ []) in
    let parts = ap parts_in q.result in
    omega arith
act_parts p c t ActSpawn d h =
    let o = step_of p c (record { thread = t; act = ActSpawn }) d h in
    let q = spawn_step p c t o.thread d (redex p o.thread.control) refl o.gives in
    let sums = kept c t o.thread o.there (Returned (Const UnitConst)) in
    let new = join_sums parts_of (with_thread c t (returned_unit o.thread.frames)).threads ((c.next_thread, thread_of (at_node p q.body q.env) []) ∷ []) in
    let parts = ap parts_in q.result in
    omega arith
act_parts p c t ActPrint d h =
    let o = step_of p c (record { thread = t; act = ActPrint }) d h in
    let q = print_step p c t o.thread d (redex p o.thread.control) refl o.gives in
    let sums = kept c t o.thread o.there (Returned (Const UnitConst)) in
    let parts = ap parts_in q.result in
    omega arith
act_parts p c t ActEnd d h =
    let o = step_of p c (record { thread = t; act = ActEnd }) d h in
    let q = ended p c t o.thread d (end_step p c t o.thread d o.thread.frames (redex p o.thread.control) refl refl o.gives) in
    let sums = remove_sum parts_of t c.threads o.thread o.there in
    let parts = ap parts_in q.1 in
    omega arith
act_parts p c t ActFree d h =
    let o = step_of p c (record { thread = t; act = ActFree }) d h in
    let q = free_step p c t o.thread d (redex p o.thread.control) refl o.gives in
    let sums = kept c t o.thread o.there (at_node p q.body q.env) in
    let parts = ap parts_in q.result in
    omega arith
act_parts p c t (ActReceive k) d h =
    let o = step_of p c (record { thread = t; act = ActReceive k }) d h in
    let q = receive_step p c t k o.thread d (redex p o.thread.control) refl o.gives in
    let sums = kept c t o.thread o.there (at_node p q.clause.body (received q.clause q.message q.env)) in
    let left = length-filter (λ m. not (nat_eq m.number q.message.number)) c.messages in
    let fewer = count_by-le-length (λ m. not (nat_eq m.number q.message.number)) c.messages in
    let parts = ap parts_in q.result in
    omega arith

-- a run adds at most one part for each of its steps
pub run_parts : (p : Program) (ks : List Step) (c d : Config) → run_from p c ks ≡ Some d → parts_in d ≤ parts_in c + length ks
run_parts p [] c d h = let same : c ≡ d = cc in subst (λ (x : Config). parts_in x ≤ parts_in c + 0) same (omega arith)
run_parts p (k ∷ ks) c d h = go (step p c k) refl h (λ e g. run_parts p ks e d g)
  where
    go : (o : Option Config) → step p c k ≡ o → option_and_then (λ e. run_from p e ks) o ≡ Some d → ((e : Config) → run_from p e ks ≡ Some d → parts_in d ≤ parts_in e + length ks) → parts_in d ≤ parts_in c + length (k ∷ ks)
    go None is g rest = cc
    go (Some e) is g rest =
        let one = act_parts p c k.thread k.act e is in
        let more = rest e g in
        omega arith

steps_counted : (es : List Entry) → length (history_steps es) ≡ step_count es
steps_counted [] = refl
steps_counted (e ∷ es) = length-append (entry_steps e) (history_steps es) ∙ ap (λ n. length (entry_steps e) + n) (steps_counted es)

start_parts : (o : Option Function) → parts_in (start_of o) ≤ 1
start_parts None = omega arith
start_parts (Some f) = omega arith

-- a configuration has no more parts than its history has steps, and one
pub replay_parts : (p : Program) (es : List Entry) (c : Config) → replay p es ≡ Some c → parts_in c ≤ step_count es + 1
replay_parts p es c h =
    let parts = run_parts p (history_steps es) (start p) c (replay_runs p (start p) c es h).1 in
    let first = start_parts (function_at p p.main) in
    let counted = steps_counted es in
    omega arith

pub machine_names : (p : Program) (budget limit : ℕ) (c : Config) (es : List Entry) (left : ℕ) (out : Out) (a : ℕ) → MachineInvariant p budget limit c es left out → times_in a c ≤ budget + 1
machine_names p budget limit c es left out a s =
    let once = typed_once p c a s.facts.typed in
    let parts = replay_parts p es c s.facts.replayed in
    let counted = s.facts.counted in
    omega arith
