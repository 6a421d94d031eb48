-- The table of steps: the configuration after a step of a thread, or nothing where it isn't enabled.
use Rattle.std.specs.Prelude.{ℕ, suc, ◌+◌, ◌&&◌, not, nat_eq, List, [], ◌∷◌, ◌++◌, length, Option, Some, None, option_map, option_and_then, filter, find, if◌then◌else◌}
use Rattle.std.specs.Map.{remove_entry}
use Rattle.pat_semantics_spec.specs.Values.{Value, Const, Mailbox, UnitConst, BoolConst, Env, value_at, bind, bind_all, eval, eval_all, line_of}
use Rattle.pat_semantics_spec.specs.Programs.{Program, Function, Clause, Core, Val, Let, Call, If, Print, New, Send, Spawn, Guard, core_at, function_at, is_among, option_list, keep}
use Rattle.pat_semantics_spec.specs.Configs.{Control, Running, Returned, Frame, Thread, Message, Config, thread_at, with_thread, has_pending, is_reached_by_none_but}

-- what a step of a thread does
pub data Act : Type 0 where
  ActLocal : Act
  ActNew : Act
  ActSend : Act
  ActSpawn : Act
  ActPrint : Act
  ActEnd : Act
  ActFree : Act
  ActReceive : (message : ℕ) → Act

-- what stands at a control: a term with values, or a value
pub data Redex : Type 0 where
  At : (core : Core) → (env : Env) → Redex
  Done : (value : Value) → Redex
  Nowhere : Redex

-- a term with values, if it is there
abbrev pub redex_at : Option Core → Env → Redex
redex_at None env = Nowhere
redex_at (Some core) env = At core env

-- what stands at the control of a thread
abbrev pub redex : Program → Control → Redex
redex p (Running n env) = redex_at (core_at p n) env
redex p (Returned v) = Done v

-- the node with its part of these values
abbrev pub at_node : Program → ℕ → Env → Control
at_node p n env = Running n (keep p n env)

-- the thread with this control and these frames
abbrev pub thread_of : Control → List Frame → Thread
thread_of control frames = record { control = control; frames = frames }

-- the thread that has returned nothing
abbrev pub returned_unit : List Frame → Thread
returned_unit frames = thread_of (Returned (Const UnitConst)) frames

-- the environment where the name, if there is one, has this value
abbrev pub bind_name : Env → Option ℕ → Value → Env
bind_name env None v = env
bind_name env (Some x) v = bind env x v

-- the frame on top goes on with the value under its name
abbrev pub resume : Program → Frame → List Frame → Value → Thread
resume p f frames v = thread_of (at_node p f.body (bind_name f.env f.var v)) frames

-- the frame that waits for the name of a let
abbrev pub frame_of : Program → Option ℕ → ℕ → Env → Frame
frame_of p y n env = record { var = y; body = n; env = filter (λ b. not (is_among b.0 (option_list y))) (keep p n env) }

-- the values under the numbers from k on
abbrev pub numbered : ℕ → List Value → Env
numbered k [] = []
numbered k (v ∷ vs) = (k, v) ∷ numbered (suc k) vs

-- a call goes on with the function's body and its parameters
abbrev pub enter : Program → Option Function → Option (List Value) → List Frame → Option Thread
enter p (Some f) (Some vs) frames = Some (thread_of (at_node p f.body (numbered 0 vs)) frames)
enter p _ _ frames = None

-- a choice goes on with the branch of the test's value
abbrev pub choose : Program → Option Value → ℕ → ℕ → Env → List Frame → Option Thread
choose p (Some (Const (BoolConst b))) m n env frames = Some (thread_of (at_node p (if b then m else n) env) frames)
choose p _ m n env frames = None

-- the thread after a local step
abbrev pub local_at : Program → Redex → List Frame → Option Thread
local_at p (At (Let y m n) env) frames = Some (thread_of (at_node p m env) (frame_of p y n env ∷ frames))
local_at p (At (Val e) env) (f ∷ frames) = option_map (resume p f frames) (eval env e)
local_at p (At (Call f args) env) frames = enter p (function_at p f) (eval_all env args) frames
local_at p (At (If e m n) env) frames = choose p (eval env e) m n env frames
local_at p (Done v) (f ∷ frames) = Some (resume p f frames v)
local_at p _ frames = None

-- the thread after a local step, or nothing where it has none
abbrev pub local_step : Program → Thread → Option Thread
local_step p s = local_at p (redex p s.control) s.frames

-- a new mailbox, with the next number
abbrev pub new_at : Config → ℕ → List Frame → Redex → Option Config
new_at c t frames (At (New i) env) =
    let made = with_thread c t (thread_of (Returned (Mailbox c.next_mailbox)) frames) in
    Some (record made { live = c.live ++ c.next_mailbox ∷ []; next_mailbox = c.next_mailbox + 1 })
new_at c t frames _ = None

-- a new message, with the next number
abbrev pub send_to : Config → ℕ → List Frame → ℕ → Option Value → Option (List Value) → Option Config
send_to c t frames m (Some (Mailbox a)) (Some vs) =
    let message : Message = record { number = c.next_message; mailbox = a; tag = m; values = vs } in
    let sent = with_thread c t (returned_unit frames) in
    Some (record sent { messages = c.messages ++ message ∷ []; next_message = c.next_message + 1 })
send_to c t frames m _ _ = None

-- the configuration after a send
abbrev pub send_at : Config → ℕ → List Frame → Redex → Option Config
send_at c t frames (At (Send x m args) env) = send_to c t frames m (value_at env x) (eval_all env args)
send_at c t frames _ = None

-- a new thread, with the next number
abbrev pub spawn_at : Program → Config → ℕ → List Frame → Redex → Option Config
spawn_at p c t frames (At (Spawn m) env) =
    let spawned = with_thread c t (returned_unit frames) in
    Some (record spawned { threads = spawned.threads ++ (c.next_thread, thread_of (at_node p m env) []) ∷ []; next_thread = c.next_thread + 1 })
spawn_at p c t frames _ = None

-- one more line
abbrev pub print_line : Config → ℕ → List Frame → Option (List ℕ) → Option Config
print_line c t frames (Some line) =
    let said = with_thread c t (returned_unit frames) in
    Some (record said { printed = c.printed ++ line ∷ [] })
print_line c t frames None = None

-- the configuration after a print
abbrev pub print_at : Config → ℕ → List Frame → Redex → Option Config
print_at c t frames (At (Print e) env) = print_line c t frames (option_and_then line_of (eval env e))
print_at c t frames _ = None

-- the configuration without thread t
abbrev pub without_thread : Config → ℕ → Config
without_thread c t = record c { threads = remove_entry (nat_eq t) c.threads }

-- a thread with a value or an expression and no frame ends
abbrev pub end_at : Config → ℕ → List Frame → Redex → Option Config
end_at c t [] (At (Val e) env) = Some (without_thread c t)
end_at c t [] (Done v) = Some (without_thread c t)
end_at c t _ _ = None

-- the guarded mailbox is no longer live
abbrev pub free_mailbox : Program → Config → ℕ → List Frame → Option ℕ → Env → Option Value → Option Config
free_mailbox p c t frames (Some n) env (Some (Mailbox a)) =
    if is_among a c.live && (not (has_pending a c.messages) && is_reached_by_none_but c a t)
    then Some (record (with_thread c t (thread_of (at_node p n env) frames)) { live = filter (λ b. not (nat_eq b a)) c.live })
    else None
free_mailbox p c t frames _ env _ = None

-- the configuration after a free
abbrev pub free_at : Program → Config → ℕ → List Frame → Redex → Option Config
free_at p c t frames (At (Guard x e free cs) env) = free_mailbox p c t frames free env (value_at env x)
free_at p c t frames _ = None

-- the clause of a tag
abbrev pub clause_for : ℕ → List Clause → Option Clause
clause_for m cs = find (λ c. nat_eq m c.tag) cs

-- the message with this number
abbrev pub message_at : Config → ℕ → Option Message
message_at c k = find (λ m. nat_eq k m.number) c.messages

-- the configuration without message k
abbrev pub without_message : Config → ℕ → Config
without_message c k = record c { messages = filter (λ m. not (nat_eq m.number k)) c.messages }

-- the values with the payloads and what is left of the mailbox under their names
abbrev pub received : Clause → Message → Env → Env
received r m env = bind (bind_all env r.vars m.values) r.from (Mailbox m.mailbox)

-- a pending message of the guarded mailbox goes to the clause of its tag
abbrev pub receive_message : Program → Config → ℕ → List Frame → List Clause → Env → ℕ → Message → Option Clause → Option Config
receive_message p c t frames cs env a m (Some r) =
    if nat_eq m.mailbox a && nat_eq (length r.vars) (length m.values)
    then Some (with_thread (without_message c m.number) t (thread_of (at_node p r.body (received r m env)) frames))
    else None
receive_message p c t frames cs env a m None = None

-- the guarded mailbox and the message, if both are there
abbrev pub receive_from : Program → Config → ℕ → List Frame → List Clause → Env → Option Value → Option Message → Option Config
receive_from p c t frames cs env (Some (Mailbox a)) (Some m) = receive_message p c t frames cs env a m (clause_for m.tag cs)
receive_from p c t frames cs env _ _ = None

-- the configuration after message k is received
abbrev pub receive_at : Program → Config → ℕ → List Frame → ℕ → Redex → Option Config
receive_at p c t frames k (At (Guard x e free cs) env) =
    receive_from p c t frames cs env (value_at env x) (message_at c k)
receive_at p c t frames k _ = None

-- a step of a thread
abbrev pub thread_step : Program → Config → ℕ → Thread → Act → Option Config
thread_step p c t s ActLocal = option_map (with_thread c t) (local_step p s)
thread_step p c t s ActNew = new_at c t s.frames (redex p s.control)
thread_step p c t s ActSend = send_at c t s.frames (redex p s.control)
thread_step p c t s ActSpawn = spawn_at p c t s.frames (redex p s.control)
thread_step p c t s ActPrint = print_at c t s.frames (redex p s.control)
thread_step p c t s ActEnd = end_at c t s.frames (redex p s.control)
thread_step p c t s ActFree = free_at p c t s.frames (redex p s.control)
thread_step p c t s (ActReceive k) = receive_at p c t s.frames k (redex p s.control)

-- a step: which thread, and what it does
pub record Step : Type 0 where
  pub thread : ℕ
  pub act : Act

-- the configuration after a step, or nothing where it isn't enabled
abbrev pub step : Program → Config → Step → Option Config
step p c k = option_and_then (λ s. thread_step p c k.thread s k.act) (thread_at c k.thread)
