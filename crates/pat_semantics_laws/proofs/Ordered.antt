-- Each step leads from order to order.
use Rattle.std.proofs.Common.{◌≡◌, ℕ, ◌+◌, ◌<◌, not, nat_eq, if◌then◌else◌, List, [], ◌∷◌, ◌++◌, Option, Some, None, refl, sym, subst, arith}
use Rattle.std.specs.List.{AllByRecursion}
use Rattle.std.specs.Map.{keys_of}
use Rattle.pat_semantics_spec.specs.Values.{Value, Const, Mailbox, UnitConst, Env, bind_all}
use Rattle.pat_semantics_spec.specs.Programs.{Program, Function, Core, is_free, is_among, option_list, keep, function_at}
use Rattle.pat_semantics_spec.specs.Configs.{Returned, Frame, Thread, Message, Config, thread_at, with_thread, start, start_of}
use Rattle.pat_semantics_spec.specs.Orders.{AscendsFrom, ControlIsOrdered, ThreadIsOrdered, IsOrdered}
use Rattle.pat_semantics_spec.specs.Steps.{Act, ActLocal, ActNew, ActSend, ActSpawn, ActPrint, ActEnd, ActFree, ActReceive, Step, step, redex, at_node, thread_of, returned_unit, bind_name, numbered, resume, received, without_thread}
use Rattle.pat_semantics_spec.specs.Runs.{run_from, run, Entry, replay_from}
use Rattle.pat_semantics_laws.specs.Laws.{history_steps}
use Rattle.pat_semantics_laws.proofs.Lists.{all_snoc, all_filter, below_weaken}
use Rattle.pat_semantics_laws.proofs.Inversion.{StandsAt, step_of, print_step, new_step, receive_step, LocalStep, by_let, by_value, by_call, by_if, by_return, local_step_of, send_step, spawn_step, EndStep, end_value, end_return, end_step, free_step}
use Rattle.pat_semantics_laws.proofs.Replays.{first_of, replay_runs}
use Rattle.pat_semantics_laws.proofs.Ascending.{ascends_snoc, ascends_kept, ascends_filter, ascends_last, keys_of-set, ascends_remove, ascends_bind, ascends_bind_all, ascends_name, numbered_ascends}
use Rattle.pat_semantics_laws.proofs.Threads.{lookup_all, set_all, remove_all, threads_weaken}

-- the variables of each frame's values are in ascending order
abbrev FramesAreOrdered : List Frame → Type 0
FramesAreOrdered fs = AllByRecursion (λ f. AscendsFrom 0 (keys_of f.env)) fs

-- a node with its part of values in order
kept_ordered : (p : Program) (n : ℕ) (env : Env) → AscendsFrom 0 (keys_of env) → AscendsFrom 0 (keys_of (keep p n env))
kept_ordered p n env a = ascends_filter (λ (e : ℕ × Value). e.0) (λ b. is_free p b.0 n) 0 env a

-- the values at a control
values_ordered : (p : Program) (s : Thread) (core : Core) (env : Env) → ThreadIsOrdered s → StandsAt p s.control core env → AscendsFrom 0 (keys_of env)
values_ordered p s core env o at = subst ControlIsOrdered at.control_is o.0

resumed_ordered : (p : Program) (f : Frame) (fs : List Frame) (v : Value) → FramesAreOrdered (f ∷ fs) → ThreadIsOrdered (resume p f fs v)
resumed_ordered p f fs v a = (kept_ordered p f.body (bind_name f.env f.var v) (ascends_name f.env f.var v a.0), a.1)

local_ordered : (p : Program) (s s' : Thread) → ThreadIsOrdered s → LocalStep p s s' → ThreadIsOrdered s'
local_ordered p s s' o (by_let x m n env at is) =
    let a = values_ordered p s _ env o at in
    let rest = ascends_filter (λ (e : ℕ × Value). e.0) (λ b. not (is_among b.0 (option_list x))) 0 (keep p n env) (kept_ordered p n env a) in
    subst ThreadIsOrdered (sym is) (kept_ordered p m env a, (rest, o.1))
local_ordered p s s' o (by_value e env f fs v at frames value is) = subst ThreadIsOrdered (sym is) (resumed_ordered p f fs v (subst FramesAreOrdered frames o.1))
local_ordered p s s' o (by_call g args env h vs at function values is) =
    subst ThreadIsOrdered (sym is) (kept_ordered p h.body (numbered 0 vs) (numbered_ascends 0 vs), o.1)
local_ordered p s s' o (by_if e m n env b at is) =
    subst ThreadIsOrdered (sym is) (kept_ordered p (if b then m else n) env (values_ordered p s _ env o at), o.1)
local_ordered p s s' o (by_return v f fs control frames is) = subst ThreadIsOrdered (sym is) (resumed_ordered p f fs v (subst FramesAreOrdered frames o.1))

-- the configuration where a thread gives way to one in order
pub with_ordered : (c : Config) (t : ℕ) (s : Thread) → IsOrdered c → ThreadIsOrdered s → IsOrdered (with_thread c t s)
with_ordered c t s o here = record {
  threads = subst (AscendsFrom 0) (sym (keys_of-set c.threads t s)) o.threads;
  messages = o.messages;
  live = o.live;
  threads_below = set_all (λ e. e.0 < c.next_thread) c.threads t s (λ e h. h) o.threads_below;
  messages_below = o.messages_below;
  live_below = o.live_below;
  environments = set_all (λ e. ThreadIsOrdered e.1) c.threads t s (λ e h. here) o.environments;
}

-- the configuration without a thread
pub without_ordered : (c : Config) (t : ℕ) → IsOrdered c → IsOrdered (without_thread c t)
without_ordered c t o = record {
  threads = ascends_remove 0 c.threads t o.threads;
  messages = o.messages;
  live = o.live;
  threads_below = remove_all (λ e. e.0 < c.next_thread) c.threads t o.threads_below;
  messages_below = o.messages_below;
  live_below = o.live_below;
  environments = remove_all (λ e. ThreadIsOrdered e.1) c.threads t o.environments;
}

-- what was printed doesn't matter
pub printed_ordered : (c : Config) (lines : List (List ℕ)) → IsOrdered c → IsOrdered (record c { printed = lines })
printed_ordered c lines o = record {
  threads = o.threads;
  messages = o.messages;
  live = o.live;
  threads_below = o.threads_below;
  messages_below = o.messages_below;
  live_below = o.live_below;
  environments = o.environments;
}

messages_weaken : (n : ℕ) (ms : List Message) → AllByRecursion (λ m. m.number < n) ms → AllByRecursion (λ m. m.number < n + 1) ms
messages_weaken n [] a = tt
messages_weaken n (m ∷ ms) a = (let h = a.0 in omega arith, messages_weaken n ms a.1)

ended : (p : Program) (c : Config) (t : ℕ) (s : Thread) (d : Config) → EndStep p c t s d → d ≡ without_thread c t
ended p c t s d (end_value e env at none is) = is
ended p c t s d (end_return v at none is) = is

module _ (p : Program) (c : Config) (o : IsOrdered c) where
  thread_ordered : (t : ℕ) (s : Thread) → thread_at c t ≡ Some s → ThreadIsOrdered s
  thread_ordered t s there = lookup_all ThreadIsOrdered c.threads t s o.environments there

  -- with a value in place of the control
  value_ordered : (t : ℕ) (s : Thread) (v : Value) → thread_at c t ≡ Some s → IsOrdered (with_thread c t (thread_of (Returned v) s.frames))
  value_ordered t s v there = with_ordered c t (thread_of (Returned v) s.frames) o (tt, (thread_ordered t s there).1)

  act_ordered : (t : ℕ) (a : Act) (d : Config) → step p c (record { thread = t; act = a }) ≡ Some d → IsOrdered d
  act_ordered t ActLocal d h =
      let w = step_of p c (record { thread = t; act = ActLocal }) d h in
      let q = local_step_of p c t w.thread d w.gives in
      subst IsOrdered (sym q.2) (with_ordered c t q.0 o (local_ordered p w.thread q.0 (thread_ordered t w.thread w.there) q.1))
  act_ordered t ActNew d h =
      let w = step_of p c (record { thread = t; act = ActNew }) d h in
      let q = new_step p c t w.thread d (redex p w.thread.control) refl w.gives in
      let r = value_ordered t w.thread (Mailbox c.next_mailbox) w.there in
      subst IsOrdered (sym q.result) (record {
        threads = r.threads;
        messages = r.messages;
        live = ascends_snoc 0 c.next_mailbox c.live o.live (omega arith) o.live_below;
        threads_below = r.threads_below;
        messages_below = r.messages_below;
        live_below = all_snoc (λ x. x < c.next_mailbox + 1) c.live c.next_mailbox (below_weaken c.next_mailbox c.live o.live_below) (omega arith);
        environments = r.environments;
      })
  act_ordered t ActSend d h =
      let w = step_of p c (record { thread = t; act = ActSend }) d h in
      let q = send_step p c t w.thread d (redex p w.thread.control) refl w.gives in
      let r = value_ordered t w.thread (Const UnitConst) w.there in
      let m : Message = record { number = c.next_message; mailbox = q.mailbox; tag = q.tag; values = q.values } in
      subst IsOrdered (sym q.result) (record {
        threads = r.threads;
        messages = ascends_last (λ (x : Message). x.number) 0 c.messages m o.messages (omega arith) o.messages_below;
        live = r.live;
        threads_below = r.threads_below;
        messages_below = all_snoc (λ (x : Message). x.number < c.next_message + 1) c.messages m (messages_weaken c.next_message c.messages o.messages_below) (omega arith);
        live_below = r.live_below;
        environments = r.environments;
      })
  act_ordered t ActSpawn d h =
      let w = step_of p c (record { thread = t; act = ActSpawn }) d h in
      let q = spawn_step p c t w.thread d (redex p w.thread.control) refl w.gives in
      let mine = thread_ordered t w.thread w.there in
      let r = value_ordered t w.thread (Const UnitConst) w.there in
      let made = thread_of (at_node p q.body q.env) [] in
      let threads = (with_thread c t (returned_unit w.thread.frames)).threads in
      subst IsOrdered (sym q.result) (record {
        threads = ascends_last (λ (e : ℕ × Thread). e.0) 0 threads (c.next_thread, made) r.threads (omega arith) r.threads_below;
        messages = r.messages;
        live = r.live;
        threads_below = all_snoc (λ (e : ℕ × Thread). e.0 < c.next_thread + 1) threads (c.next_thread, made) (threads_weaken c.next_thread threads r.threads_below) (omega arith);
        messages_below = r.messages_below;
        live_below = r.live_below;
        environments = all_snoc (λ (e : ℕ × Thread). ThreadIsOrdered e.1) threads (c.next_thread, made) r.environments (kept_ordered p q.body q.env (values_ordered p w.thread _ q.env mine q.at), tt);
      })
  act_ordered t ActPrint d h =
      let w = step_of p c (record { thread = t; act = ActPrint }) d h in
      let q = print_step p c t w.thread d (redex p w.thread.control) refl w.gives in
      let r = value_ordered t w.thread (Const UnitConst) w.there in
      subst IsOrdered (sym q.result) (printed_ordered (with_thread c t (returned_unit w.thread.frames)) (c.printed ++ q.line ∷ []) r)
  act_ordered t ActEnd d h =
      let w = step_of p c (record { thread = t; act = ActEnd }) d h in
      let q = ended p c t w.thread d (end_step p c t w.thread d w.thread.frames (redex p w.thread.control) refl refl w.gives) in
      subst IsOrdered (sym q) (without_ordered c t o)
  act_ordered t ActFree d h =
      let w = step_of p c (record { thread = t; act = ActFree }) d h in
      let q = free_step p c t w.thread d (redex p w.thread.control) refl w.gives in
      let mine = thread_ordered t w.thread w.there in
      let r = with_ordered c t (thread_of (at_node p q.body q.env) w.thread.frames) o (kept_ordered p q.body q.env (values_ordered p w.thread _ q.env mine q.at), mine.1) in
      subst IsOrdered (sym q.result) (record {
        threads = r.threads;
        messages = r.messages;
        live = ascends_kept (λ b. not (nat_eq b q.mailbox)) 0 c.live o.live;
        threads_below = r.threads_below;
        messages_below = r.messages_below;
        live_below = all_filter (λ a. a < c.next_mailbox) (λ b. not (nat_eq b q.mailbox)) c.live o.live_below;
        environments = r.environments;
      })
  act_ordered t (ActReceive k) d h =
      let w = step_of p c (record { thread = t; act = ActReceive k }) d h in
      let q = receive_step p c t k w.thread d (redex p w.thread.control) refl w.gives in
      let mine = thread_ordered t w.thread w.there in
      let values = ascends_bind 0 (bind_all q.env q.clause.vars q.message.values) q.clause.from (Mailbox q.message.mailbox) (omega arith)
      (ascends_bind_all q.env q.clause.vars q.message.values (values_ordered p w.thread _ q.env mine q.at)) in
      let r = with_ordered c t (thread_of (at_node p q.clause.body (received q.clause q.message q.env)) w.thread.frames) o (kept_ordered p q.clause.body (received q.clause q.message q.env) values, mine.1) in
      let others = λ (x : Message). not (nat_eq x.number q.message.number) in
      subst IsOrdered (sym q.result) (record {
        threads = r.threads;
        messages = ascends_filter (λ (x : Message). x.number) others 0 c.messages o.messages;
        live = r.live;
        threads_below = r.threads_below;
        messages_below = all_filter (λ (x : Message). x.number < c.next_message) others c.messages o.messages_below;
        live_below = r.live_below;
        environments = r.environments;
      })

-- ---- steps, runs, replays and the start

pub step_keeps_order : (p : Program) (c d : Config) (k : Step) → IsOrdered c → step p c k ≡ Some d → IsOrdered d
step_keeps_order p c d k o h = act_ordered p c o k.thread k.act d h

pub run_keeps_order : (p : Program) (ks : List Step) (c d : Config) → IsOrdered c → run_from p c ks ≡ Some d → IsOrdered d
run_keeps_order p [] c d o h = let same : c ≡ d = cc in subst IsOrdered same o
run_keeps_order p (k ∷ ks) c d o h =
    let q = first_of (λ e. run_from p e ks) d (step p c k) h in
    run_keeps_order p ks q.0 d (step_keeps_order p c q.0 k o q.1) q.2

pub replay_keeps_order : (p : Program) (es : List Entry) (c d : Config) → IsOrdered c → replay_from p c es ≡ Some d → IsOrdered d
replay_keeps_order p es c d o h = run_keeps_order p (history_steps es) c d o (replay_runs p c d es h).1

pub start_of_ordered : (f : Option Function) → IsOrdered (start_of f)
start_of_ordered None = record { threads = tt; messages = tt; live = tt; threads_below = tt; messages_below = tt; live_below = tt; environments = tt }
start_of_ordered (Some f) = record {
  threads = (omega arith, tt);
  messages = tt;
  live = tt;
  threads_below = (omega arith, tt);
  messages_below = tt;
  live_below = tt;
  environments = ((tt, tt), tt);
}

pub start_is_ordered : (p : Program) → IsOrdered (start p)
start_is_ordered p = start_of_ordered (function_at p p.main)

pub run_is_ordered : (p : Program) (ks : List Step) (d : Config) → run p ks ≡ Some d → IsOrdered d
run_is_ordered p ks d h = run_keeps_order p ks (start p) d (start_is_ordered p) h
