-- What a free and the enabling of a thread's acts are made of, as the code tests them.
use Rattle.std.specs.Prelude.{◌≡◌, ◌≤◌, ℕ, Bool, true, false, not, ◌&&◌, if◌then◌else◌, List, [], ◌∷◌, Option, Some, None, option_map, option_and_then, is_some, find, IsTrue, IsFalse}
use Rattle.pat_semantics_spec.specs.Values.{Value, Const, Mailbox, BoolConst, Env, value_at, eval, eval_all, line_of}
use Rattle.pat_semantics_spec.specs.Programs.{Program, Core, Val, Let, Call, If, Print, New, Send, Spawn, Guard, function_at, is_among}
use Rattle.pat_semantics_spec.specs.Configs.{Control, Frame, Message, Config, has_pending, is_reached_by_none_but}
use Rattle.pat_semantics_spec.specs.Steps.{Act, ActLocal, ActNew, ActSend, ActSpawn, ActPrint, ActEnd, ActFree, ActReceive, Redex, At, Done, Nowhere, at_node, step}
use Rattle.pat_semantics_spec.specs.Runs.{can_step_thread}
use Rattle.pat_semantics_laws.specs.Laws.{IsEnabled}
use Rattle.pat_reduce.specs.threads.ThreadActs.{Guarding, guard_at, first_taken}

-- whether a mailbox may be freed by a thread: it is live, nothing is pending in it, and nothing else reaches it
abbrev pub may_free : Config → ℕ → ℕ → Bool
may_free c t a = is_among a c.live && (not (has_pending a c.messages) && is_reached_by_none_but c a t)

-- the mailbox that is freed, and the control that goes on
abbrev pub freed_by : Program → Config → ℕ → Guarding → Option ℕ → Option (ℕ × Control)
freed_by p c t g None = None
freed_by p c t g (Some n) = if may_free c t g.mailbox then Some (g.mailbox, at_node p n g.env) else None

abbrev pub redex_freed : Program → Config → ℕ → Redex → Option (ℕ × Control)
redex_freed p c t r = option_and_then (λ g. freed_by p c t g g.free) (guard_at r)

-- the act, where the test passes
abbrev pub act_if : Bool → Act → Option Act
act_if true a = Some a
act_if false a = None

abbrev pub is_truth : Option Value → Bool
is_truth (Some (Const (BoolConst b))) = true
is_truth _ = false

abbrev pub is_mailbox_value : Option Value → Bool
is_mailbox_value (Some (Mailbox a)) = true
is_mailbox_value _ = false

-- the act of a term that is no guard, and whether it is enabled where a frame waits
abbrev pub term_candidate : Program → Core → Env → Bool × Act
term_candidate p (Val e) env = (is_some (eval env e), ActLocal)
term_candidate p (Let y m n) env = (true, ActLocal)
term_candidate p (Call f args) env = (is_some (function_at p f) && is_some (eval_all env args), ActLocal)
term_candidate p (If e m n) env = (is_truth (eval env e), ActLocal)
term_candidate p (Print e) env = (is_some (option_and_then line_of (eval env e)), ActPrint)
term_candidate p (New i) env = (true, ActNew)
term_candidate p (Send x m args) env = (is_mailbox_value (value_at env x) && is_some (eval_all env args), ActSend)
term_candidate p (Spawn m) env = (true, ActSpawn)
term_candidate p (Guard x e free cs) env = (false, ActEnd)

abbrev pub term_act : Program → Core → Env → Option Act
term_act p core env = act_if (term_candidate p core env).0 (term_candidate p core env).1

-- the act of what is no guard, and whether it is enabled
abbrev pub candidate : Program → Redex → List Frame → Bool × Act
candidate p (At (Val e) env) [] = (true, ActEnd)
candidate p (At core env) frames = term_candidate p core env
candidate p (Done v) [] = (true, ActEnd)
candidate p (Done v) (f ∷ frames) = (true, ActLocal)
candidate p Nowhere frames = (false, ActEnd)

-- the enabled act of what is no guard
abbrev pub plain_act : Program → Redex → List Frame → Option Act
plain_act p r frames = act_if (candidate p r frames).0 (candidate p r frames).1

-- a free, where there is a body for it and the mailbox may be freed
abbrev pub free_act : Config → ℕ → Guarding → Option ℕ → Option Act
free_act c t g None = None
free_act c t g (Some n) = act_if (may_free c t g.mailbox) ActFree

-- the receive of the message, if there is one, or else this act
abbrev pub receive_or : Option Message → Option Act → Option Act
receive_or None o = o
receive_or (Some m) o = Some (ActReceive m.number)

-- the enabled act of a guard
abbrev pub guard_act : Config → ℕ → Guarding → Option Act
guard_act c t g = receive_or (first_taken g c.messages) (free_act c t g g.free)

-- the enabled act of a thread
abbrev pub act_at : Config → ℕ → Option Guarding → Option Act → Option Act
act_at c t (Some g) plain = guard_act c t g
act_at c t None plain = plain

-- the thread's act that is enabled, or none where no step of the thread is
abbrev pub EnabledAct : Program → Config → ℕ → Option Act → Type 0
EnabledAct p c t None = IsFalse (can_step_thread p c t)
EnabledAct p c t (Some a) = IsTrue (is_some (step p c (record { thread = t; act = a }))) × IsTrue (can_step_thread p c t)

-- the message that is received is the first that a step of the thread receives
abbrev pub IsFirst : Program → Config → ℕ → Option Act → Type 0
IsFirst p c t (Some (ActReceive k)) = option_map (λ m. m.number) (find (λ m. is_some (step p c (record { thread = t; act = ActReceive m.number }))) c.messages) ≡ Some k
IsFirst p c t _ = Unit {0}

-- the message that is received is the least that the thread may receive
abbrev pub IsLeast : Program → Config → ℕ → Option Act → Type 0
IsLeast p c t (Some (ActReceive k)) = (m : ℕ) → IsEnabled p c (record { thread = t; act = ActReceive m }) → k ≤ m
IsLeast p c t _ = Unit {0}

-- no thread below this one can step
abbrev pub IsLeastReady : Program → Config → ℕ → Type 0
IsLeastReady p c t = (u : ℕ) → IsTrue (can_step_thread p c u) → t ≤ u
