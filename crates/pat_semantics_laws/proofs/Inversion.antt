-- What an enabled step says of the configurations before and after it.
use Rattle.std.proofs.Common.{◌≡◌, ℕ, ◌+◌, true, false, ◌&&◌, nat_eq, List, [], ◌∷◌, ◌++◌, length, Option, Some, None, refl, ap, ◌∙◌, if◌then◌else◌, Bool, not, sym}
use Rattle.std.specs.Prelude.{option_and_then, option_map, filter}
use Rattle.std.proofs.lemmas.Bool.{and_parts}
use Rattle.pat_semantics_spec.specs.Patterns.{Pat}
use Rattle.pat_semantics_spec.specs.Values.{Value, Const, Mailbox, Env, Expr, eval, value_at, line_of, UnitConst, BoolConst, IntConst, TextConst, eval_all}
use Rattle.pat_semantics_spec.specs.Programs.{Program, Clause, Core, Print, New, Guard, core_at, Function, Val, Let, Call, If, Send, Spawn, function_at, is_among}
use Rattle.pat_semantics_spec.specs.Configs.{Control, Running, Returned, Thread, Message, Config, thread_at, with_thread, Frame, has_pending, is_reached_by_none_but}
use Rattle.pat_semantics_spec.specs.Steps.{Redex, At, redex, redex_at, thread_of, returned_unit, at_node, received, print_line, print_at, new_at, receive_at, receive_from, receive_message, clause_for, message_at, without_message, Step, step, thread_step, Done, resume, frame_of, numbered, enter, choose, local_at, local_step, send_to, send_at, spawn_at, without_thread, end_at, free_mailbox, free_at}

-- a term at a control is the term of its node
pub record StandsAt (p : Program) (control : Control) (core : Core) (env : Env) : Type 0 where
  pub node : ℕ
  pub control_is : control ≡ Running node env
  pub term : core_at p node ≡ Some core

at_inj : {c d : Core} {e f : Env} → At c e ≡ At d f → (c ≡ d) × (e ≡ f)
at_inj h = (cc, cc)

stands_in : (p : Program) (n : ℕ) (env' : Env) (o : Option Core) (core : Core) (env : Env) → core_at p n ≡ o → redex_at o env' ≡ At core env → StandsAt p (Running n env') core env
stands_in p n env' None core env e h = cc
stands_in p n env' (Some core') core env e h =
    let i = at_inj h in
    record { node = n; control_is = ap (λ v. Running n v) i.1; term = e ∙ ap (λ (k : Core). Some k) i.0 }

pub stands_at : (p : Program) (control : Control) (core : Core) (env : Env) → redex p control ≡ At core env → StandsAt p control core env
stands_at p (Running n env') core env h = stands_in p n env' (core_at p n) core env refl h
stands_at p (Returned v) core env h = cc

-- a step of a thread that is there
pub record StepOf (p : Program) (c : Config) (k : Step) (d : Config) : Type 0 where
  pub thread : Thread
  pub there : thread_at c k.thread ≡ Some thread
  pub gives : thread_step p c k.thread thread k.act ≡ Some d

pub step_of : (p : Program) (c : Config) (k : Step) (d : Config) → step p c k ≡ Some d → StepOf p c k d
step_of p c k d h = go (thread_at c k.thread) refl h
  where
    go : (o : Option Thread) → thread_at c k.thread ≡ o → option_and_then (λ s. thread_step p c k.thread s k.act) o ≡ Some d → StepOf p c k d
    go None e g = cc
    go (Some s) e g = record { thread = s; there = e; gives = g }

-- a print step
pub record PrintStep (p : Program) (c : Config) (t : ℕ) (s : Thread) (d : Config) : Type 0 where
  pub expr : Expr
  pub env : Env
  pub line : List ℕ
  pub at : StandsAt p s.control (Print expr) env
  pub result : d ≡ record (with_thread c t (returned_unit s.frames)) { printed = c.printed ++ line ∷ [] }

print_of : (p : Program) (c : Config) (t : ℕ) (s : Thread) (d : Config) (e : Expr) (env : Env) (o : Option (List ℕ)) → redex p s.control ≡ At (Print e) env → print_line c t s.frames o ≡ Some d → PrintStep p c t s d
print_of p c t s d e env None r h = cc
print_of p c t s d e env (Some line) r h =
    record { expr = e; env = env; line = line; at = stands_at p s.control (Print e) env r; result = cc }

pub print_step : (p : Program) (c : Config) (t : ℕ) (s : Thread) (d : Config) (r : Redex) → redex p s.control ≡ r → print_at c t s.frames r ≡ Some d → PrintStep p c t s d
print_step p c t s d (At (Print e) env) r h = print_of p c t s d e env (option_and_then line_of (eval env e)) r h
print_step p c t s d _ r h = cc

-- a step that makes a mailbox
pub record NewStep (p : Program) (c : Config) (t : ℕ) (s : Thread) (d : Config) : Type 0 where
  pub interface : ℕ
  pub env : Env
  pub at : StandsAt p s.control (New interface) env
  pub result : d ≡ record (with_thread c t (thread_of (Returned (Mailbox c.next_mailbox)) s.frames)) { live = c.live ++ c.next_mailbox ∷ []; next_mailbox = c.next_mailbox + 1 }

pub new_step : (p : Program) (c : Config) (t : ℕ) (s : Thread) (d : Config) (r : Redex) → redex p s.control ≡ r → new_at c t s.frames r ≡ Some d → NewStep p c t s d
new_step p c t s d (At (New i) env) r h =
    record { interface = i; env = env; at = stands_at p s.control (New i) env r; result = cc }
new_step p c t s d _ r h = cc

-- a receive step
pub record ReceiveStep (p : Program) (c : Config) (t k : ℕ) (s : Thread) (d : Config) : Type 0 where
  pub var : ℕ
  pub pattern : Pat
  pub free : Option ℕ
  pub receives : List Clause
  pub env : Env
  pub mailbox : ℕ
  pub message : Message
  pub clause : Clause
  pub at : StandsAt p s.control (Guard var pattern free receives) env
  pub guards : value_at env var ≡ Some (Mailbox mailbox)
  pub found : message_at c k ≡ Some message
  pub chosen : clause_for message.tag receives ≡ Some clause
  pub on : nat_eq message.mailbox mailbox ≡ true
  pub lengths : nat_eq (length clause.vars) (length message.values) ≡ true
  pub result : d ≡ with_thread (without_message c message.number) t (thread_of (at_node p clause.body (received clause message env)) s.frames)

receive_with : (p : Program) (c : Config) (t k : ℕ) (s : Thread) (d : Config) (x : ℕ) (e : Pat) (free : Option ℕ) (cs : List Clause) (env : Env) (a : ℕ) (m : Message) (o : Option Clause) → redex p s.control ≡ At (Guard x e free cs) env → value_at env x ≡ Some (Mailbox a) → message_at c k ≡ Some m → clause_for m.tag cs ≡ o → receive_message p c t s.frames cs env a m o ≡ Some d → ReceiveStep p c t k s d
receive_with p c t k s d x e free cs env a m None r g f ch h = cc
receive_with p c t k s d x e free cs env a m (Some cl) r g f ch h =
    (elim (nat_eq m.mailbox a && nat_eq (length cl.vars) (length m.values)) as (λ v. (nat_eq m.mailbox a && nat_eq (length cl.vars) (length m.values)) ≡ v → (if v then Some (with_thread (without_message c m.number) t (thread_of (at_node p cl.body (received cl m env)) s.frames)) else None) ≡ Some d → ReceiveStep p c t k s d) [
      | true ↦ λ q h'.
          let both = and_parts (nat_eq m.mailbox a) (nat_eq (length cl.vars) (length m.values)) q in
          record {
            var = x;
            pattern = e;
            free = free;
            receives = cs;
            env = env;
            mailbox = a;
            message = m;
            clause = cl;
            at = stands_at p s.control (Guard x e free cs) env r;
            guards = g;
            found = f;
            chosen = ch;
            on = both.0;
            lengths = both.1;
            result = cc;
          }
      | false ↦ λ q h'. cc
    ]) refl h

receive_of : (p : Program) (c : Config) (t k : ℕ) (s : Thread) (d : Config) (x : ℕ) (e : Pat) (free : Option ℕ) (cs : List Clause) (env : Env) (v : Option Value) (o : Option Message) → redex p s.control ≡ At (Guard x e free cs) env → value_at env x ≡ v → message_at c k ≡ o → receive_from p c t s.frames cs env v o ≡ Some d → ReceiveStep p c t k s d
receive_of p c t k s d x e free cs env (Some (Mailbox a)) (Some m) r g f h =
    receive_with p c t k s d x e free cs env a m (clause_for m.tag cs) r g f refl h
receive_of p c t k s d x e free cs env (Some (Mailbox a)) None r g f h = cc
receive_of p c t k s d x e free cs env (Some (Const b)) o r g f h = cc
receive_of p c t k s d x e free cs env None o r g f h = cc

pub receive_step : (p : Program) (c : Config) (t k : ℕ) (s : Thread) (d : Config) (r : Redex) → redex p s.control ≡ r → receive_at p c t s.frames k r ≡ Some d → ReceiveStep p c t k s d
receive_step p c t k s d (At (Guard x e free cs) env) r h =
    receive_of p c t k s d x e free cs env (value_at env x) (message_at c k) r refl refl h
receive_step p c t k s d _ r h = cc

returns_in : (o : Option Core) (env : Env) (v : Value) → redex_at o env ≡ Done v → ⊥
returns_in None env v h = cc
returns_in (Some core) env v h = cc

pub returns_at : (p : Program) (control : Control) (v : Value) → redex p control ≡ Done v → control ≡ Returned v
returns_at p (Running n env) v h = absurd (returns_in (core_at p n) env v h)
returns_at p (Returned w) v h = let same : w ≡ v = cc in ap (λ x. Returned x) same

-- ---- a local step

-- a local step, by the term or value at the control
pub data LocalStep (p : Program) (s s' : Thread) : Type 0 where
  by_let : (x : Option ℕ) (m n : ℕ) (env : Env) → StandsAt p s.control (Let x m n) env → s' ≡ thread_of (at_node p m env) (frame_of p x n env ∷ s.frames) → LocalStep p s s'
  by_value : (e : Expr) (env : Env) (f : Frame) (fs : List Frame) (v : Value) → StandsAt p s.control (Val e) env → s.frames ≡ f ∷ fs → eval env e ≡ Some v → s' ≡ resume p f fs v → LocalStep p s s'
  by_call : (g : ℕ) (args : List Expr) (env : Env) (h : Function) (vs : List Value) → StandsAt p s.control (Call g args) env → function_at p g ≡ Some h → eval_all env args ≡ Some vs → s' ≡ thread_of (at_node p h.body (numbered 0 vs)) s.frames → LocalStep p s s'
  by_if : (e : Expr) (m n : ℕ) (env : Env) (b : Bool) → StandsAt p s.control (If e m n) env → s' ≡ thread_of (at_node p (if b then m else n) env) s.frames → LocalStep p s s'
  by_return : (v : Value) (f : Frame) (fs : List Frame) → s.control ≡ Returned v → s.frames ≡ f ∷ fs → s' ≡ resume p f fs v → LocalStep p s s'

value_of : (p : Program) (s s' : Thread) (e : Expr) (env : Env) (f : Frame) (fs : List Frame) (o : Option Value) → redex p s.control ≡ At (Val e) env → s.frames ≡ f ∷ fs → eval env e ≡ o → option_map (resume p f fs) o ≡ Some s' → LocalStep p s s'
value_of p s s' e env f fs None r q w h = cc
value_of p s s' e env f fs (Some v) r q w h = by_value e env f fs v (stands_at p s.control (Val e) env r) q w cc

call_of : (p : Program) (s s' : Thread) (g : ℕ) (args : List Expr) (env : Env) (o : Option Function) (a : Option (List Value)) → redex p s.control ≡ At (Call g args) env → function_at p g ≡ o → eval_all env args ≡ a → enter p o a s.frames ≡ Some s' → LocalStep p s s'
call_of p s s' g args env (Some f) (Some vs) r q w h = by_call g args env f vs (stands_at p s.control (Call g args) env r) q w cc
call_of p s s' g args env (Some f) None r q w h = cc
call_of p s s' g args env None a r q w h = cc

if_of : (p : Program) (s s' : Thread) (e : Expr) (m n : ℕ) (env : Env) (o : Option Value) → redex p s.control ≡ At (If e m n) env → choose p o m n env s.frames ≡ Some s' → LocalStep p s s'
if_of p s s' e m n env (Some (Const (BoolConst b))) r h = by_if e m n env b (stands_at p s.control (If e m n) env r) cc
if_of p s s' e m n env (Some (Const UnitConst)) r h = cc
if_of p s s' e m n env (Some (Const (IntConst k))) r h = cc
if_of p s s' e m n env (Some (Const (TextConst k))) r h = cc
if_of p s s' e m n env (Some (Mailbox a)) r h = cc
if_of p s s' e m n env None r h = cc

local_of : (p : Program) (s s' : Thread) (r : Redex) (fs : List Frame) → redex p s.control ≡ r → s.frames ≡ fs → local_at p r fs ≡ Some s' → LocalStep p s s'
local_of p s s' (At (Let x m n) env) fs r q h =
    let same : thread_of (at_node p m env) (frame_of p x n env ∷ fs) ≡ s' = cc in
    by_let x m n env (stands_at p s.control (Let x m n) env r) (sym same ∙ ap (λ l. thread_of (at_node p m env) (frame_of p x n env ∷ l)) (sym q))
local_of p s s' (At (Val e) env) (f ∷ fs) r q h = value_of p s s' e env f fs (eval env e) r q refl h
local_of p s s' (At (Call g args) env) fs r q h =
    call_of p s s' g args env (function_at p g) (eval_all env args) r refl refl (ap (λ l. enter p (function_at p g) (eval_all env args) l) q ∙ h)
local_of p s s' (At (If e m n) env) fs r q h = if_of p s s' e m n env (eval env e) r (ap (λ l. choose p (eval env e) m n env l) q ∙ h)
local_of p s s' (Done v) (f ∷ fs) r q h = by_return v f fs (returns_at p s.control v r) q cc
local_of p s s' _ fs r q h = cc

pub local_step_of : (p : Program) (c : Config) (t : ℕ) (s : Thread) (d : Config) → option_map (with_thread c t) (local_step p s) ≡ Some d → (s' : Thread) × LocalStep p s s' × (d ≡ with_thread c t s')
local_step_of p c t s d h = go (local_step p s) refl h
  where
    go : (o : Option Thread) → local_step p s ≡ o → option_map (with_thread c t) o ≡ Some d → (s' : Thread) × LocalStep p s s' × (d ≡ with_thread c t s')
    go None e k = cc
    go (Some s') e k = (s', local_of p s s' (redex p s.control) s.frames refl refl e, cc)

-- ---- a send

-- a step that sends
pub record SendStep (p : Program) (c : Config) (t : ℕ) (s : Thread) (d : Config) : Type 0 where
  pub var : ℕ
  pub tag : ℕ
  pub args : List Expr
  pub env : Env
  pub mailbox : ℕ
  pub values : List Value
  pub at : StandsAt p s.control (Send var tag args) env
  pub target : value_at env var ≡ Some (Mailbox mailbox)
  pub payload : eval_all env args ≡ Some values
  pub result : d ≡ record (with_thread c t (returned_unit s.frames)) { messages = c.messages ++ record { number = c.next_message; mailbox = mailbox; tag = tag; values = values } ∷ []; next_message = c.next_message + 1 }

send_of : (p : Program) (c : Config) (t : ℕ) (s : Thread) (d : Config) (x m : ℕ) (args : List Expr) (env : Env) (o : Option Value) (a : Option (List Value)) → redex p s.control ≡ At (Send x m args) env → value_at env x ≡ o → eval_all env args ≡ a → send_to c t s.frames m o a ≡ Some d → SendStep p c t s d
send_of p c t s d x m args env (Some (Mailbox a)) (Some vs) r q w h =
    record { var = x; tag = m; args = args; env = env; mailbox = a; values = vs; at = stands_at p s.control (Send x m args) env r; target = q; payload = w; result = cc }
send_of p c t s d x m args env (Some (Mailbox a)) None r q w h = cc
send_of p c t s d x m args env (Some (Const k)) a r q w h = cc
send_of p c t s d x m args env None a r q w h = cc

pub send_step : (p : Program) (c : Config) (t : ℕ) (s : Thread) (d : Config) (r : Redex) → redex p s.control ≡ r → send_at c t s.frames r ≡ Some d → SendStep p c t s d
send_step p c t s d (At (Send x m args) env) r h = send_of p c t s d x m args env (value_at env x) (eval_all env args) r refl refl h
send_step p c t s d _ r h = cc

-- ---- a spawn

-- the configuration after it
abbrev pub after_spawn : Program → Config → ℕ → List Frame → ℕ → Env → Config
after_spawn p c t fs m env =
    let spawned = with_thread c t (returned_unit fs) in
    record spawned { threads = spawned.threads ++ (c.next_thread, thread_of (at_node p m env) []) ∷ []; next_thread = c.next_thread + 1 }

-- a step that spawns
pub record SpawnStep (p : Program) (c : Config) (t : ℕ) (s : Thread) (d : Config) : Type 0 where
  pub body : ℕ
  pub env : Env
  pub at : StandsAt p s.control (Spawn body) env
  pub result : d ≡ after_spawn p c t s.frames body env

pub spawn_step : (p : Program) (c : Config) (t : ℕ) (s : Thread) (d : Config) (r : Redex) → redex p s.control ≡ r → spawn_at p c t s.frames r ≡ Some d → SpawnStep p c t s d
spawn_step p c t s d (At (Spawn m) env) r h = record { body = m; env = env; at = stands_at p s.control (Spawn m) env r; result = cc }
spawn_step p c t s d _ r h = cc

-- ---- an end

-- a step that ends the thread
pub data EndStep (p : Program) (c : Config) (t : ℕ) (s : Thread) (d : Config) : Type 0 where
  end_value : (e : Expr) (env : Env) → StandsAt p s.control (Val e) env → s.frames ≡ [] → d ≡ without_thread c t → EndStep p c t s d
  end_return : (v : Value) → s.control ≡ Returned v → s.frames ≡ [] → d ≡ without_thread c t → EndStep p c t s d

pub end_step : (p : Program) (c : Config) (t : ℕ) (s : Thread) (d : Config) (fs : List Frame) (r : Redex) → s.frames ≡ fs → redex p s.control ≡ r → end_at c t fs r ≡ Some d → EndStep p c t s d
end_step p c t s d [] (At (Val e) env) q r h = end_value e env (stands_at p s.control (Val e) env r) q cc
end_step p c t s d [] (Done v) q r h = end_return v (returns_at p s.control v r) q cc
end_step p c t s d (f ∷ fs) (At (Val e) env) q r h = cc
end_step p c t s d (f ∷ fs) (Done v) q r h = cc
end_step p c t s d _ _ q r h = cc

-- ---- a free

-- the configuration after it
abbrev pub after_free : Program → Config → ℕ → List Frame → ℕ → Env → ℕ → Config
after_free p c t fs n env a =
    record (with_thread c t (thread_of (at_node p n env) fs)) { live = filter (λ b. not (nat_eq b a)) c.live }

-- a step that frees a mailbox
pub record FreeStep (p : Program) (c : Config) (t : ℕ) (s : Thread) (d : Config) : Type 0 where
  pub var : ℕ
  pub pattern : Pat
  pub body : ℕ
  pub receives : List Clause
  pub env : Env
  pub mailbox : ℕ
  pub at : StandsAt p s.control (Guard var pattern (Some body) receives) env
  pub guards : value_at env var ≡ Some (Mailbox mailbox)
  pub empty : not (has_pending mailbox c.messages) ≡ true
  pub alone : is_reached_by_none_but c mailbox t ≡ true
  pub result : d ≡ after_free p c t s.frames body env mailbox

free_of : (p : Program) (c : Config) (t : ℕ) (s : Thread) (d : Config) (x : ℕ) (e : Pat) (free : Option ℕ) (cs : List Clause) (env : Env) (o : Option Value) → redex p s.control ≡ At (Guard x e free cs) env → value_at env x ≡ o → free_mailbox p c t s.frames free env o ≡ Some d → FreeStep p c t s d
free_of p c t s d x e (Some n) cs env (Some (Mailbox a)) r q h =
    (elim (is_among a c.live && (not (has_pending a c.messages) && is_reached_by_none_but c a t)) as (λ v. (is_among a c.live && (not (has_pending a c.messages) && is_reached_by_none_but c a t)) ≡ v → (if v then Some (after_free p c t s.frames n env a) else None) ≡ Some d → FreeStep p c t s d) [
      | true ↦ λ w k.
          let both = and_parts (is_among a c.live) (not (has_pending a c.messages) && is_reached_by_none_but c a t) w in
          let rest = and_parts (not (has_pending a c.messages)) (is_reached_by_none_but c a t) both.1 in
          record { var = x; pattern = e; body = n; receives = cs; env = env; mailbox = a; at = stands_at p s.control (Guard x e (Some n) cs) env r; guards = q; empty = rest.0; alone = rest.1; result = cc }
      | false ↦ λ w k. cc
    ]) refl h
free_of p c t s d x e (Some n) cs env (Some (Const b)) r q h = cc
free_of p c t s d x e (Some n) cs env None r q h = cc
free_of p c t s d x e None cs env o r q h = cc

pub free_step : (p : Program) (c : Config) (t : ℕ) (s : Thread) (d : Config) (r : Redex) → redex p s.control ≡ r → free_at p c t s.frames r ≡ Some d → FreeStep p c t s d
free_step p c t s d (At (Guard x e free cs) env) r h = free_of p c t s d x e free cs env (value_at env x) r refl h
free_step p c t s d _ r h = cc
