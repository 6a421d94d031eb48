-- The act of a thread that is enabled.
use Rattle.std.proofs.Common.{◌≡◌, ℕ, Bool, true, false, ◌||◌, ◌&&◌, List, [], ◌∷◌, map, Option, Some, None, refl, sym, ap, ◌∙◌, subst, ◌⊎◌, inl, inr, ⊎_elim}
use Rattle.std.specs.Prelude.{option_map, option_and_then, is_some, if◌then◌else◌}
use Rattle.std.specs.List.{list_any}
use Rattle.std.proofs.lemmas.Bool.{or_left, or_right}
use Rattle.pat_semantics_spec.specs.Patterns.{Pat}
use Rattle.pat_semantics_spec.specs.Values.{Value, Const, Mailbox, UnitConst, BoolConst, IntConst, TextConst, Env, value_at, eval, eval_all, line_of}
use Rattle.pat_semantics_spec.specs.Programs.{Program, Function, Clause, Val, Let, Call, If, Print, New, Send, Spawn, Guard, function_at}
use Rattle.pat_semantics_spec.specs.Configs.{Frame, Thread, Message, Config, thread_at, with_thread}
use Rattle.pat_semantics_spec.specs.Steps.{Act, ActLocal, ActNew, ActSend, ActSpawn, ActPrint, ActEnd, ActFree, ActReceive, Redex, At, Done, Nowhere, redex, local_at, enter, choose, new_at, send_at, send_to, spawn_at, print_at, print_line, end_at, free_at, free_mailbox, receive_at, receive_from, receive_message, clause_for, message_at, resume, thread_step, step}
use Rattle.pat_semantics_spec.specs.Runs.{acts, can_take, can_step_thread}
use Rattle.pat_reduce.specs.threads.ThreadActs.{Guarding, guarding, guard_at, message_in, clause_takes, takes_option, first_taken}
use Rattle.pat_reduce.specs.Acts.{may_free, act_if, is_truth, is_mailbox_value, candidate, plain_act, free_act, receive_or, act_at, EnabledAct, IsFirst}
use Rattle.pat_reduce_values.proofs.Finds.{found_passes, found_any, none_found, find_same, any_same, any_map}

-- an act of a thread at this redex with these frames
abbrev acted : Program → Config → ℕ → List Frame → Redex → Act → Option Config
acted p c t frames r ActLocal = option_map (with_thread c t) (local_at p r frames)
acted p c t frames r ActNew = new_at c t frames r
acted p c t frames r ActSend = send_at c t frames r
acted p c t frames r ActSpawn = spawn_at p c t frames r
acted p c t frames r ActPrint = print_at c t frames r
acted p c t frames r ActEnd = end_at c t frames r
acted p c t frames r ActFree = free_at p c t frames r
acted p c t frames r (ActReceive k) = receive_at p c t frames k r

is_acted : (p : Program) (c : Config) (t : ℕ) (s : Thread) (a : Act) → thread_step p c t s a ≡ acted p c t s.frames (redex p s.control) a
is_acted p c t s ActLocal = refl
is_acted p c t s ActNew = refl
is_acted p c t s ActSend = refl
is_acted p c t s ActSpawn = refl
is_acted p c t s ActPrint = refl
is_acted p c t s ActEnd = refl
is_acted p c t s ActFree = refl
is_acted p c t s (ActReceive k) = refl

mapped : {A B : Type 0} (f : A → B) (o : Option A) → is_some (option_map f o) ≡ is_some o
mapped f None = refl
mapped f (Some x) = refl

if_some : {A : Type 0} (b : Bool) (x : A) → is_some (if b then Some x else None) ≡ b
if_some true x = refl
if_some false x = refl

act_some : (b : Bool) (a : Act) → is_some (act_if b a) ≡ b
act_some true a = refl
act_some false a = refl

enters : (p : Program) (o : Option Function) (vs : Option (List Value)) (frames : List Frame) → is_some (enter p o vs frames) ≡ (is_some o && is_some vs)
enters p None None frames = refl
enters p None (Some vs) frames = refl
enters p (Some f) None frames = refl
enters p (Some f) (Some vs) frames = refl

chooses : (p : Program) (o : Option Value) (m n : ℕ) (env : Env) (frames : List Frame) → is_some (choose p o m n env frames) ≡ is_truth o
chooses p None m n env frames = refl
chooses p (Some (Mailbox a)) m n env frames = refl
chooses p (Some (Const UnitConst)) m n env frames = refl
chooses p (Some (Const (BoolConst b))) m n env frames = refl
chooses p (Some (Const (IntConst k))) m n env frames = refl
chooses p (Some (Const (TextConst s))) m n env frames = refl

prints : (c : Config) (t : ℕ) (frames : List Frame) (o : Option (List ℕ)) → is_some (print_line c t frames o) ≡ is_some o
prints c t frames None = refl
prints c t frames (Some line) = refl

sends : (c : Config) (t : ℕ) (frames : List Frame) (m : ℕ) (v : Option Value) (vs : Option (List Value)) → is_some (send_to c t frames m v vs) ≡ (is_mailbox_value v && is_some vs)
sends c t frames m None vs = refl
sends c t frames m (Some (Const k)) vs = refl
sends c t frames m (Some (Mailbox a)) None = refl
sends c t frames m (Some (Mailbox a)) (Some vs) = refl

-- the candidate is enabled just where it says so
the_candidate : (p : Program) (c : Config) (t : ℕ) (frames : List Frame) (r : Redex) → is_some (acted p c t frames r (candidate p r frames).1) ≡ (candidate p r frames).0
the_candidate p c t [] (At (Val e) env) = refl
the_candidate p c t (f ∷ frames) (At (Val e) env) = mapped (with_thread c t) (option_map (resume p f frames) (eval env e)) ∙ mapped (resume p f frames) (eval env e)
the_candidate p c t frames (At (Let y m n) env) = refl
the_candidate p c t frames (At (Call f args) env) = mapped (with_thread c t) (enter p (function_at p f) (eval_all env args) frames) ∙ enters p (function_at p f) (eval_all env args) frames
the_candidate p c t frames (At (If e m n) env) = mapped (with_thread c t) (choose p (eval env e) m n env frames) ∙ chooses p (eval env e) m n env frames
the_candidate p c t frames (At (Print e) env) = prints c t frames (option_and_then line_of (eval env e))
the_candidate p c t frames (At (New i) env) = refl
the_candidate p c t frames (At (Send x m args) env) = sends c t frames m (value_at env x) (eval_all env args)
the_candidate p c t frames (At (Spawn m) env) = refl
the_candidate p c t [] (At (Guard x e free cs) env) = refl
the_candidate p c t (f ∷ frames) (At (Guard x e free cs) env) = refl
the_candidate p c t [] (Done v) = refl
the_candidate p c t (f ∷ frames) (Done v) = refl
the_candidate p c t [] Nowhere = refl
the_candidate p c t (f ∷ frames) Nowhere = refl

no_free : (p : Program) (c : Config) (t : ℕ) (frames : List Frame) (free : Option ℕ) (cs : List Clause) (env : Env) (v : Option Value) → guarding free cs env v ≡ None → free_mailbox p c t frames free env v ≡ None
no_free p c t frames None cs env v h = refl
no_free p c t frames (Some n) cs env None h = refl
no_free p c t frames (Some n) cs env (Some (Const k)) h = refl
no_free p c t frames (Some n) cs env (Some (Mailbox a)) h = absurd cc

no_receive : (p : Program) (c : Config) (t : ℕ) (frames : List Frame) (free : Option ℕ) (cs : List Clause) (env : Env) (v : Option Value) (o : Option Message) → guarding free cs env v ≡ None → receive_from p c t frames cs env v o ≡ None
no_receive p c t frames free cs env None o h = refl
no_receive p c t frames free cs env (Some (Const k)) o h = refl
no_receive p c t frames free cs env (Some (Mailbox a)) o h = absurd cc

-- no other act is enabled where no guard stands on a mailbox: each form with each act, since a case computes only where both are known
no_other : (p : Program) (c : Config) (t : ℕ) (frames : List Frame) (r : Redex) (a : Act) → guard_at r ≡ None → (acted p c t frames r a ≡ None) ⊎ ((candidate p r frames).1 ≡ a)
no_other p c t [] (At (Val e) env) ActLocal h = inl refl
no_other p c t (f ∷ frames) (At (Val e) env) ActLocal h = inr refl
no_other p c t [] (At (Val e) env) ActNew h = inl refl
no_other p c t (f ∷ frames) (At (Val e) env) ActNew h = inl refl
no_other p c t [] (At (Val e) env) ActSend h = inl refl
no_other p c t (f ∷ frames) (At (Val e) env) ActSend h = inl refl
no_other p c t [] (At (Val e) env) ActSpawn h = inl refl
no_other p c t (f ∷ frames) (At (Val e) env) ActSpawn h = inl refl
no_other p c t [] (At (Val e) env) ActPrint h = inl refl
no_other p c t (f ∷ frames) (At (Val e) env) ActPrint h = inl refl
no_other p c t [] (At (Val e) env) ActEnd h = inr refl
no_other p c t (f ∷ frames) (At (Val e) env) ActEnd h = inl refl
no_other p c t [] (At (Val e) env) ActFree h = inl refl
no_other p c t (f ∷ frames) (At (Val e) env) ActFree h = inl refl
no_other p c t [] (At (Val e) env) (ActReceive k) h = inl refl
no_other p c t (f ∷ frames) (At (Val e) env) (ActReceive k) h = inl refl
no_other p c t frames (At (Let y m n) env) ActLocal h = inr refl
no_other p c t frames (At (Let y m n) env) ActNew h = inl refl
no_other p c t frames (At (Let y m n) env) ActSend h = inl refl
no_other p c t frames (At (Let y m n) env) ActSpawn h = inl refl
no_other p c t frames (At (Let y m n) env) ActPrint h = inl refl
no_other p c t [] (At (Let y m n) env) ActEnd h = inl refl
no_other p c t (f ∷ frames) (At (Let y m n) env) ActEnd h = inl refl
no_other p c t frames (At (Let y m n) env) ActFree h = inl refl
no_other p c t frames (At (Let y m n) env) (ActReceive k) h = inl refl
no_other p c t frames (At (Call g args) env) ActLocal h = inr refl
no_other p c t frames (At (Call g args) env) ActNew h = inl refl
no_other p c t frames (At (Call g args) env) ActSend h = inl refl
no_other p c t frames (At (Call g args) env) ActSpawn h = inl refl
no_other p c t frames (At (Call g args) env) ActPrint h = inl refl
no_other p c t [] (At (Call g args) env) ActEnd h = inl refl
no_other p c t (f ∷ frames) (At (Call g args) env) ActEnd h = inl refl
no_other p c t frames (At (Call g args) env) ActFree h = inl refl
no_other p c t frames (At (Call g args) env) (ActReceive k) h = inl refl
no_other p c t frames (At (If e m n) env) ActLocal h = inr refl
no_other p c t frames (At (If e m n) env) ActNew h = inl refl
no_other p c t frames (At (If e m n) env) ActSend h = inl refl
no_other p c t frames (At (If e m n) env) ActSpawn h = inl refl
no_other p c t frames (At (If e m n) env) ActPrint h = inl refl
no_other p c t [] (At (If e m n) env) ActEnd h = inl refl
no_other p c t (f ∷ frames) (At (If e m n) env) ActEnd h = inl refl
no_other p c t frames (At (If e m n) env) ActFree h = inl refl
no_other p c t frames (At (If e m n) env) (ActReceive k) h = inl refl
no_other p c t frames (At (Print e) env) ActLocal h = inl refl
no_other p c t frames (At (Print e) env) ActNew h = inl refl
no_other p c t frames (At (Print e) env) ActSend h = inl refl
no_other p c t frames (At (Print e) env) ActSpawn h = inl refl
no_other p c t frames (At (Print e) env) ActPrint h = inr refl
no_other p c t [] (At (Print e) env) ActEnd h = inl refl
no_other p c t (f ∷ frames) (At (Print e) env) ActEnd h = inl refl
no_other p c t frames (At (Print e) env) ActFree h = inl refl
no_other p c t frames (At (Print e) env) (ActReceive k) h = inl refl
no_other p c t frames (At (New i) env) ActLocal h = inl refl
no_other p c t frames (At (New i) env) ActNew h = inr refl
no_other p c t frames (At (New i) env) ActSend h = inl refl
no_other p c t frames (At (New i) env) ActSpawn h = inl refl
no_other p c t frames (At (New i) env) ActPrint h = inl refl
no_other p c t [] (At (New i) env) ActEnd h = inl refl
no_other p c t (f ∷ frames) (At (New i) env) ActEnd h = inl refl
no_other p c t frames (At (New i) env) ActFree h = inl refl
no_other p c t frames (At (New i) env) (ActReceive k) h = inl refl
no_other p c t frames (At (Send x m args) env) ActLocal h = inl refl
no_other p c t frames (At (Send x m args) env) ActNew h = inl refl
no_other p c t frames (At (Send x m args) env) ActSend h = inr refl
no_other p c t frames (At (Send x m args) env) ActSpawn h = inl refl
no_other p c t frames (At (Send x m args) env) ActPrint h = inl refl
no_other p c t [] (At (Send x m args) env) ActEnd h = inl refl
no_other p c t (f ∷ frames) (At (Send x m args) env) ActEnd h = inl refl
no_other p c t frames (At (Send x m args) env) ActFree h = inl refl
no_other p c t frames (At (Send x m args) env) (ActReceive k) h = inl refl
no_other p c t frames (At (Spawn m) env) ActLocal h = inl refl
no_other p c t frames (At (Spawn m) env) ActNew h = inl refl
no_other p c t frames (At (Spawn m) env) ActSend h = inl refl
no_other p c t frames (At (Spawn m) env) ActSpawn h = inr refl
no_other p c t frames (At (Spawn m) env) ActPrint h = inl refl
no_other p c t [] (At (Spawn m) env) ActEnd h = inl refl
no_other p c t (f ∷ frames) (At (Spawn m) env) ActEnd h = inl refl
no_other p c t frames (At (Spawn m) env) ActFree h = inl refl
no_other p c t frames (At (Spawn m) env) (ActReceive k) h = inl refl
no_other p c t frames (At (Guard x e free cs) env) ActLocal h = inl refl
no_other p c t frames (At (Guard x e free cs) env) ActNew h = inl refl
no_other p c t frames (At (Guard x e free cs) env) ActSend h = inl refl
no_other p c t frames (At (Guard x e free cs) env) ActSpawn h = inl refl
no_other p c t frames (At (Guard x e free cs) env) ActPrint h = inl refl
no_other p c t [] (At (Guard x e free cs) env) ActEnd h = inr refl
no_other p c t (f ∷ frames) (At (Guard x e free cs) env) ActEnd h = inr refl
no_other p c t frames (At (Guard x e free cs) env) ActFree h = inl (no_free p c t frames free cs env (value_at env x) h)
no_other p c t frames (At (Guard x e free cs) env) (ActReceive k) h = inl (no_receive p c t frames free cs env (value_at env x) (message_at c k) h)
no_other p c t [] (Done v) ActLocal h = inl refl
no_other p c t (f ∷ frames) (Done v) ActLocal h = inr refl
no_other p c t [] (Done v) ActNew h = inl refl
no_other p c t (f ∷ frames) (Done v) ActNew h = inl refl
no_other p c t [] (Done v) ActSend h = inl refl
no_other p c t (f ∷ frames) (Done v) ActSend h = inl refl
no_other p c t [] (Done v) ActSpawn h = inl refl
no_other p c t (f ∷ frames) (Done v) ActSpawn h = inl refl
no_other p c t [] (Done v) ActPrint h = inl refl
no_other p c t (f ∷ frames) (Done v) ActPrint h = inl refl
no_other p c t [] (Done v) ActEnd h = inr refl
no_other p c t (f ∷ frames) (Done v) ActEnd h = inl refl
no_other p c t [] (Done v) ActFree h = inl refl
no_other p c t (f ∷ frames) (Done v) ActFree h = inl refl
no_other p c t [] (Done v) (ActReceive k) h = inl refl
no_other p c t (f ∷ frames) (Done v) (ActReceive k) h = inl refl
no_other p c t frames Nowhere ActLocal h = inl refl
no_other p c t frames Nowhere ActNew h = inl refl
no_other p c t frames Nowhere ActSend h = inl refl
no_other p c t frames Nowhere ActSpawn h = inl refl
no_other p c t frames Nowhere ActPrint h = inl refl
no_other p c t [] Nowhere ActEnd h = inr refl
no_other p c t (f ∷ frames) Nowhere ActEnd h = inr refl
no_other p c t frames Nowhere ActFree h = inl refl
no_other p c t frames Nowhere (ActReceive k) h = inl refl

-- an act but a receive
abbrev IsFixed : Act → Type 0
IsFixed (ActReceive k) = ⊥
IsFixed _ = Unit {0}

fixed : (p : Program) (frames : List Frame) (r : Redex) → IsFixed (candidate p r frames).1
fixed p [] (At (Val e) env) = tt
fixed p (f ∷ frames) (At (Val e) env) = tt
fixed p frames (At (Let y m n) env) = tt
fixed p frames (At (Call f args) env) = tt
fixed p frames (At (If e m n) env) = tt
fixed p frames (At (Print e) env) = tt
fixed p frames (At (New i) env) = tt
fixed p frames (At (Send x m args) env) = tt
fixed p frames (At (Spawn m) env) = tt
fixed p frames (At (Guard x e free cs) env) = tt
fixed p [] (Done v) = tt
fixed p (f ∷ frames) (Done v) = tt
fixed p frames Nowhere = tt

-- the acts from one on
abbrev from_receive : Config → List Act
from_receive c = map (λ m. ActReceive m.number) c.messages

abbrev from_free : Config → List Act
from_free c = ActFree ∷ from_receive c

abbrev from_end : Config → List Act
from_end c = ActEnd ∷ from_free c

abbrev from_print : Config → List Act
from_print c = ActPrint ∷ from_end c

abbrev from_spawn : Config → List Act
from_spawn c = ActSpawn ∷ from_print c

abbrev from_send : Config → List Act
from_send c = ActSend ∷ from_spawn c

abbrev from_new : Config → List Act
from_new c = ActNew ∷ from_send c

module _ (p : Program) (c : Config) (t : ℕ) where
  abbrev can : Act → Bool
  can a = is_some (step p c (record { thread = t; act = a }))

  by_new : can_take p c t (from_new c) ≡ true → can_step_thread p c t ≡ true
  by_new h = or_right (can ActLocal) (can_take p c t (from_new c)) h

  by_send : can_take p c t (from_send c) ≡ true → can_step_thread p c t ≡ true
  by_send h = by_new (or_right (can ActNew) (can_take p c t (from_send c)) h)

  by_spawn : can_take p c t (from_spawn c) ≡ true → can_step_thread p c t ≡ true
  by_spawn h = by_send (or_right (can ActSend) (can_take p c t (from_spawn c)) h)

  by_print : can_take p c t (from_print c) ≡ true → can_step_thread p c t ≡ true
  by_print h = by_spawn (or_right (can ActSpawn) (can_take p c t (from_print c)) h)

  by_end : can_take p c t (from_end c) ≡ true → can_step_thread p c t ≡ true
  by_end h = by_print (or_right (can ActPrint) (can_take p c t (from_end c)) h)

  by_free : can_take p c t (from_free c) ≡ true → can_step_thread p c t ≡ true
  by_free h = by_end (or_right (can ActEnd) (can_take p c t (from_free c)) h)

  by_receive : can_take p c t (from_receive c) ≡ true → can_step_thread p c t ≡ true
  by_receive h = by_free (or_right (can ActFree) (can_take p c t (from_receive c)) h)

  -- a thread that can take such an act can step
  can_by : (a : Act) → IsFixed a → can a ≡ true → can_step_thread p c t ≡ true
  can_by ActLocal k h = or_left (can ActLocal) (can_take p c t (from_new c)) h
  can_by ActNew k h = by_new (or_left (can ActNew) (can_take p c t (from_send c)) h)
  can_by ActSend k h = by_send (or_left (can ActSend) (can_take p c t (from_spawn c)) h)
  can_by ActSpawn k h = by_spawn (or_left (can ActSpawn) (can_take p c t (from_print c)) h)
  can_by ActPrint k h = by_print (or_left (can ActPrint) (can_take p c t (from_end c)) h)
  can_by ActEnd k h = by_end (or_left (can ActEnd) (can_take p c t (from_free c)) h)
  can_by ActFree k h = by_free (or_left (can ActFree) (can_take p c t (from_receive c)) h)
  can_by (ActReceive n) k h = absurd k

none_taken : (p : Program) (c : Config) (t : ℕ) → ((a : Act) → can p c t a ≡ false) → (rest : List Act) → can_take p c t rest ≡ false
none_taken p c t none [] = refl
none_taken p c t none (a ∷ rest) = ap (λ b. b || can_take p c t rest) (none a) ∙ none_taken p c t none rest

-- no step of a thread that isn't there is enabled
pub absent : (p : Program) (c : Config) (t : ℕ) → thread_at c t ≡ None → can_step_thread p c t ≡ false
absent p c t there = none_taken p c t (λ a. ap (λ o. is_some (option_and_then (λ s. thread_step p c t s a) o)) there) (acts c)

-- a guard on a mailbox
record OnMailbox (r : Redex) (g : Guarding) : Type 0 where
  variable_of : ℕ
  pattern_of : Pat
  stands : r ≡ At (Guard variable_of pattern_of g.free g.receives) g.env
  holds : value_at g.env variable_of ≡ Some (Mailbox g.mailbox)

on_guard : (x : ℕ) (e : Pat) (free : Option ℕ) (cs : List Clause) (env : Env) (g : Guarding) (v : Option Value) → value_at env x ≡ v → guarding free cs env v ≡ Some g → OnMailbox (At (Guard x e free cs) env) g
on_guard x e free cs env g None is h = absurd cc
on_guard x e free cs env g (Some (Const k)) is h = absurd cc
on_guard x e free cs env g (Some (Mailbox a)) is h =
    let own : Guarding = record { mailbox = a; free = free; receives = cs; env = env } in
    let same : own ≡ g = cc in
    subst (λ d. OnMailbox (At (Guard x e free cs) env) d) same (record { variable_of = x; pattern_of = e; stands = refl; holds = is })

on_mailbox : (r : Redex) (g : Guarding) → guard_at r ≡ Some g → OnMailbox r g
on_mailbox (At (Guard x e free cs) env) g h = on_guard x e free cs env g (value_at env x) refl h
on_mailbox (At (Val e) env) g h = absurd cc
on_mailbox (At (Let y m n) env) g h = absurd cc
on_mailbox (At (Call f args) env) g h = absurd cc
on_mailbox (At (If e m n) env) g h = absurd cc
on_mailbox (At (Print e) env) g h = absurd cc
on_mailbox (At (New i) env) g h = absurd cc
on_mailbox (At (Send x m args) env) g h = absurd cc
on_mailbox (At (Spawn m) env) g h = absurd cc
on_mailbox (Done v) g h = absurd cc
on_mailbox Nowhere g h = absurd cc

frees : (p : Program) (c : Config) (t : ℕ) (frames : List Frame) (g : Guarding) (o : Option ℕ) → is_some (free_mailbox p c t frames o g.env (Some (Mailbox g.mailbox))) ≡ is_some (free_act c t g o)
frees p c t frames g None = refl
frees p c t frames g (Some n) = if_some (may_free c t g.mailbox) _ ∙ sym (act_some (may_free c t g.mailbox) ActFree)

only_free : (c : Config) (t : ℕ) (g : Guarding) (o : Option ℕ) (a : Act) → free_act c t g o ≡ Some a → a ≡ ActFree
only_free c t g None a h = absurd cc
only_free c t g (Some n) a h =
    (elim (may_free c t g.mailbox) as (λ b. act_if b ActFree ≡ Some a → a ≡ ActFree) [
      | true ↦ λ h. cc
      | false ↦ λ h. absurd cc
    ]) h

receives_clause : (p : Program) (c : Config) (t : ℕ) (frames : List Frame) (g : Guarding) (m : Message) (o : Option Clause) → is_some (receive_message p c t frames g.receives g.env g.mailbox m o) ≡ clause_takes g.mailbox m o
receives_clause p c t frames g m None = refl
receives_clause p c t frames g m (Some r) = if_some (clause_takes g.mailbox m (Some r)) _

receives : (p : Program) (c : Config) (t : ℕ) (frames : List Frame) (g : Guarding) (o : Option Message) → is_some (receive_from p c t frames g.receives g.env (Some (Mailbox g.mailbox)) o) ≡ takes_option g o
receives p c t frames g None = refl
receives p c t frames g (Some m) = receives_clause p c t frames g m (clause_for m.tag g.receives)

-- what a guard on a mailbox can do
acts_free : (p : Program) (c : Config) (t : ℕ) (frames : List Frame) (r : Redex) (g : Guarding) → OnMailbox r g → is_some (acted p c t frames r ActFree) ≡ is_some (free_act c t g g.free)
acts_free p c t frames r g on =
    ap (λ q. is_some (acted p c t frames q ActFree)) on.stands
    ∙ ap (λ v. is_some (free_mailbox p c t frames g.free g.env v)) on.holds
    ∙ frees p c t frames g g.free

acts_receive : (p : Program) (c : Config) (t : ℕ) (frames : List Frame) (r : Redex) (g : Guarding) → OnMailbox r g → (k : ℕ) → is_some (acted p c t frames r (ActReceive k)) ≡ takes_option g (message_in c.messages k)
acts_receive p c t frames r g on k =
    ap (λ q. is_some (acted p c t frames q (ActReceive k))) on.stands
    ∙ ap (λ v. is_some (receive_from p c t frames g.receives g.env v (message_at c k))) on.holds
    ∙ receives p c t frames g (message_at c k)

off : (a b : Bool) → a ≡ false → (a || b) ≡ b
off a b h = ap (λ x. x || b) h

otherwise : (a b d f g h rest : Bool) → a ≡ false → b ≡ false → d ≡ false → f ≡ false → g ≡ false → h ≡ false → (a || (b || (d || (f || (g || (h || rest)))))) ≡ rest
otherwise a b d f g h rest ea eb ed ef eg eh =
    off a (b || (d || (f || (g || (h || rest))))) ea
    ∙ off b (d || (f || (g || (h || rest)))) eb
    ∙ off d (f || (g || (h || rest))) ed
    ∙ off f (g || (h || rest)) ef
    ∙ off g (h || rest) eg
    ∙ off h rest eh

no_end : (p : Program) (c : Config) (t : ℕ) (frames : List Frame) (x : ℕ) (e : Pat) (free : Option ℕ) (cs : List Clause) (env : Env) → is_some (acted p c t frames (At (Guard x e free cs) env) ActEnd) ≡ false
no_end p c t [] x e free cs env = refl
no_end p c t (frame ∷ frames) x e free cs env = refl

module _ (p : Program) (c : Config) (t : ℕ) (s : Thread) (there : thread_at c t ≡ Some s) where
  abbrev r : Redex
  r = redex p s.control

  taken : (a : Act) → can p c t a ≡ is_some (acted p c t s.frames r a)
  taken a = ap is_some (ap (λ o. option_and_then (λ s. thread_step p c t s a) o) there ∙ is_acted p c t s a)

  -- no act but the candidate
  none_but : (a : Act) → guard_at r ≡ None → (candidate p r s.frames).0 ≡ false → can p c t a ≡ false
  none_but a plain failed =
      ⊎_elim
      (λ none. taken a ∙ ap is_some none)
      (λ same. taken a ∙ ap (λ b. is_some (acted p c t s.frames r b)) (sym same) ∙ the_candidate p c t s.frames r ∙ failed)
      (no_other p c t s.frames r a plain)

  the_plain : guard_at r ≡ None → (b : Bool) → (candidate p r s.frames).0 ≡ b → EnabledAct p c t (act_if b (candidate p r s.frames).1)
  the_plain plain false h = none_taken p c t (λ a. none_but a plain h) (acts c)
  the_plain plain true h =
      let a = (candidate p r s.frames).1 in
      let enabled : can p c t a ≡ true = taken a ∙ the_candidate p c t s.frames r ∙ h in
      (enabled, can_by p c t a (fixed p s.frames r) enabled)

  first_fixed : (b : Bool) (a : Act) → IsFixed a → IsFirst p c t (act_if b a)
  first_fixed false a k = tt
  first_fixed true ActLocal k = tt
  first_fixed true ActNew k = tt
  first_fixed true ActSend k = tt
  first_fixed true ActSpawn k = tt
  first_fixed true ActPrint k = tt
  first_fixed true ActEnd k = tt
  first_fixed true ActFree k = tt
  first_fixed true (ActReceive n) k = absurd k

  module _ (g : Guarding) (at : guard_at r ≡ Some g) where
    on : OnMailbox r g
    on = on_mailbox r g at

    by_number : (m : Message) → can p c t (ActReceive m.number) ≡ takes_option g (message_in c.messages m.number)
    by_number m = taken (ActReceive m.number) ∙ acts_receive p c t s.frames r g on m.number

    receives_any : can_take p c t (from_receive c) ≡ list_any (λ m. takes_option g (message_in c.messages m.number)) c.messages
    receives_any = any_map (can p c t) (λ m. ActReceive m.number) c.messages ∙ any_same (λ m. can p c t (ActReceive m.number)) (λ m. takes_option g (message_in c.messages m.number)) c.messages by_number

    at_guard : (a : Act) → can p c t a ≡ is_some (acted p c t s.frames (At (Guard on.variable_of on.pattern_of g.free g.receives) g.env) a)
    at_guard a = taken a ∙ ap (λ q. is_some (acted p c t s.frames q a)) on.stands

    -- a guard steps by a free or a receive
    steps_by : can_step_thread p c t ≡ can_take p c t (from_free c)
    steps_by =
        otherwise (can p c t ActLocal) (can p c t ActNew) (can p c t ActSend) (can p c t ActSpawn) (can p c t ActPrint) (can p c t ActEnd) (can_take p c t (from_free c))
        (at_guard ActLocal) (at_guard ActNew) (at_guard ActSend) (at_guard ActSpawn) (at_guard ActPrint)
        (at_guard ActEnd ∙ no_end p c t s.frames on.variable_of on.pattern_of g.free g.receives g.env)

    free_is : can p c t ActFree ≡ is_some (free_act c t g g.free)
    free_is = taken ActFree ∙ acts_free p c t s.frames r g on

    the_free : first_taken g c.messages ≡ None → (o : Option Act) → free_act c t g g.free ≡ o → EnabledAct p c t o
    the_free none None h =
        steps_by ∙ ap (λ b. b || can_take p c t (from_receive c)) (free_is ∙ ap is_some h)
        ∙ receives_any ∙ none_found (λ m. takes_option g (message_in c.messages m.number)) c.messages none
    the_free none (Some a) h =
        let same : a ≡ ActFree = only_free c t g g.free a h in
        let enabled : can p c t ActFree ≡ true = free_is ∙ ap is_some h in
        subst (λ b. EnabledAct p c t (Some b)) (sym same) (enabled, can_by p c t ActFree tt enabled)

    the_guard : (o : Option Message) → first_taken g c.messages ≡ o → EnabledAct p c t (receive_or o (free_act c t g g.free))
    the_guard None h = the_free h (free_act c t g g.free) refl
    the_guard (Some m) h =
        let test = λ (n : Message). takes_option g (message_in c.messages n.number) in
        let enabled : can p c t (ActReceive m.number) ≡ true = by_number m ∙ found_passes (λ n. takes_option g (message_in c.messages n.number)) c.messages m h in
        (enabled, by_receive p c t (receives_any ∙ found_any (λ n. takes_option g (message_in c.messages n.number)) c.messages m h))

    first_free : (o : Option ℕ) → IsFirst p c t (free_act c t g o)
    first_free None = tt
    first_free (Some n) = first_fixed (may_free c t g.mailbox) ActFree tt

    the_first : (o : Option Message) → first_taken g c.messages ≡ o → IsFirst p c t (receive_or o (free_act c t g g.free))
    the_first None h = first_free g.free
    the_first (Some m) h =
        ap (option_map (λ n. n.number)) (find_same (λ n. can p c t (ActReceive n.number)) (λ n. takes_option g (message_in c.messages n.number)) c.messages by_number ∙ h)

  -- the act of a thread is its enabled one
  pub act_found : EnabledAct p c t (act_at c t (guard_at r) (plain_act p r s.frames))
  act_found =
      (elim (guard_at r) as (λ o. guard_at r ≡ o → EnabledAct p c t (act_at c t o (plain_act p r s.frames))) [
        | None ↦ λ h. the_plain h (candidate p r s.frames).0 refl
        | Some g ↦ λ h. the_guard g h (first_taken g c.messages) refl
      ]) refl

  pub first_found : IsFirst p c t (act_at c t (guard_at r) (plain_act p r s.frames))
  first_found =
      (elim (guard_at r) as (λ o. guard_at r ≡ o → IsFirst p c t (act_at c t o (plain_act p r s.frames))) [
        | None ↦ λ h. first_fixed (candidate p r s.frames).0 (candidate p r s.frames).1 (fixed p s.frames r)
        | Some g ↦ λ h. the_first g h (first_taken g c.messages) refl
      ]) refl
