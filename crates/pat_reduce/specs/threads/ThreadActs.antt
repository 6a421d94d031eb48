-- The parts that a thread's steps are made of, as the code tests them.
use Rattle.std.specs.Prelude.{ℕ, Bool, true, false, ◌&&◌, nat_eq, if◌then◌else◌, List, [], ◌∷◌, length, Option, Some, None, option_map, option_and_then, find}
use Rattle.pat_semantics_spec.specs.Values.{Value, Const, Mailbox, BoolConst, Env, value_at, eval, eval_all, line_of}
use Rattle.pat_semantics_spec.specs.Programs.{Program, Function, Clause, Val, Print, New, Send, Spawn, Guard}
use Rattle.pat_semantics_spec.specs.Configs.{Control, Running, Returned, Thread, Frame, Message}
use Rattle.pat_semantics_spec.specs.Steps.{Redex, At, Done, at_node, resume, clause_for, received}

-- the thread after a value goes to the frame on top
abbrev pub resumed : Program → List Frame → Value → Option Thread
resumed p [] v = None
resumed p (f ∷ frames) v = Some (resume p f frames v)

-- before a node a control goes to another one, with its part of the values
abbrev pub moved_to : Program → ℕ → Control → Control
moved_to p m (Running n env) = at_node p m env
moved_to p m (Returned v) = Returned v

-- the control that a call goes on with
abbrev pub entered : Program → Option Function → Option Env → Option Control
entered p None own = None
entered p (Some f) own = option_map (at_node p f.body) own

-- the node that a choice goes on with
abbrev pub branch : Option Value → ℕ → ℕ → Option ℕ
branch (Some (Const (BoolConst b))) m n = Some (if b then m else n)
branch _ m n = None

-- the line that is printed next
abbrev pub redex_line : Redex → Option (List ℕ)
redex_line (At (Print e) env) = option_and_then line_of (eval env e)
redex_line _ = None

-- whether it makes a mailbox
abbrev pub is_new : Redex → Bool
is_new (At (New i) env) = true
is_new _ = false

-- the message of this number, tag and target, if there are a mailbox and values for it
abbrev pub message_to : ℕ → ℕ → Option Value → Option (List Value) → Option Message
message_to n m (Some (Mailbox a)) (Some vs) = Some (record { number = n; mailbox = a; tag = m; values = vs })
message_to n m _ _ = None

-- the message that is sent next, under this number
abbrev pub redex_message : ℕ → Redex → Option Message
redex_message n (At (Send x m args) env) = message_to n m (value_at env x) (eval_all env args)
redex_message n _ = None

-- the control of the thread that is spawned next
abbrev pub spawned : Program → Redex → Option Control
spawned p (At (Spawn m) env) = Some (at_node p m env)
spawned p _ = None

-- whether it is a value or an expression, and no frame waits
abbrev pub is_over_at : Redex → List Frame → Bool
is_over_at (At (Val e) env) [] = true
is_over_at (Done v) [] = true
is_over_at _ _ = false

-- a guard with values, one of them the mailbox that it is on
pub record Guarding : Type 0 where
  pub mailbox : ℕ
  pub free : Option ℕ
  pub receives : List Clause
  pub env : Env

abbrev pub guarding : Option ℕ → List Clause → Env → Option Value → Option Guarding
guarding free cs env (Some (Mailbox a)) = Some (record { mailbox = a; free = free; receives = cs; env = env })
guarding free cs env _ = None

-- the guard that stands there
abbrev pub guard_at : Redex → Option Guarding
guard_at (At (Guard x e free cs) env) = guarding free cs env (value_at env x)
guard_at _ = None

-- the message of this number
abbrev pub message_in : List Message → ℕ → Option Message
message_in ms k = find (λ m. nat_eq k m.number) ms

-- whether the clause takes the message from the mailbox
abbrev pub clause_takes : ℕ → Message → Option Clause → Bool
clause_takes a m None = false
clause_takes a m (Some r) = nat_eq m.mailbox a && nat_eq (length r.vars) (length m.values)

-- whether the guard takes the message
abbrev pub takes : Guarding → Message → Bool
takes g m = clause_takes g.mailbox m (clause_for m.tag g.receives)

-- the control that goes on with the message
abbrev pub received_by : Program → Guarding → Message → Option Clause → Option Control
received_by p g m None = None
received_by p g m (Some r) = if clause_takes g.mailbox m (Some r) then Some (at_node p r.body (received r m g.env)) else None

abbrev pub received_of : Program → Guarding → Option Message → Option Control
received_of p g None = None
received_of p g (Some m) = received_by p g m (clause_for m.tag g.receives)

abbrev pub redex_received : Program → List Message → ℕ → Redex → Option Control
redex_received p ms k r = option_and_then (λ g. received_of p g (message_in ms k)) (guard_at r)

-- whether the guard takes the message, if it is there
abbrev pub takes_option : Guarding → Option Message → Bool
takes_option g None = false
takes_option g (Some m) = takes g m

-- the first of the messages that the guard takes by its number
abbrev pub first_taken : Guarding → List Message → Option Message
first_taken g ms = find (λ m. takes_option g (message_in ms m.number)) ms
