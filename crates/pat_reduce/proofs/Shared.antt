-- The shared steps of a thread, by what is computed for them.
use Rattle.std.proofs.Common.{◌≡◌, ℕ, ◌+◌, Bool, true, false, not, nat_eq, List, [], ◌∷◌, ◌++◌, Option, Some, None, Err, refl, sym, ap, ◌∙◌}
use Rattle.std.specs.Prelude.{option_map, option_and_then, filter, if◌then◌else◌}
use Rattle.std.proofs.lemmas.Bool.{eqb-true}
use Rattle.pat_semantics_spec.specs.Values.{Value, Const, Mailbox, UnitConst, Env, value_at, eval, eval_all, line_of}
use Rattle.pat_semantics_spec.specs.Programs.{Program, Clause, Print, New, Send, Spawn, Guard}
use Rattle.pat_semantics_spec.specs.Configs.{Control, Returned, Frame, Thread, Message, Config, thread_at, with_thread}
use Rattle.pat_semantics_spec.specs.Steps.{Act, ActNew, ActSend, ActSpawn, ActPrint, ActFree, ActReceive, Redex, At, Done, Nowhere, redex, thread_of, new_at, send_at, send_to, spawn_at, print_at, print_line, free_at, free_mailbox, receive_at, receive_from, receive_message, clause_for, without_message, received, at_node, thread_step, step}
use Rattle.pat_reduce_values.specs.declared.error.StepError.{StepError}
use Rattle.pat_reduce_values.specs.declared.error.StepError.TheVariants.{Disabled, NoMemory}
use Rattle.pat_reduce_values.specs.Results.{Gives, StepGives}
use Rattle.pat_reduce.specs.threads.ThreadActs.{Guarding, guarding, clause_takes, received_by, received_of, redex_received, message_in, is_new, message_to, redex_message, redex_line, spawned}
use Rattle.pat_reduce.specs.Acts.{may_free, freed_by, redex_freed}
use Rattle.pat_reduce_values.proofs.Finds.{found_passes}

-- the configuration where the thread goes on with this control
abbrev pub goes_on : Config → ℕ → List Frame → Control → Config
goes_on c t frames k = with_thread c t (thread_of k frames)

abbrev pub made : Config → ℕ → List Frame → Config
made c t frames = record (goes_on c t frames (Returned (Mailbox c.next_mailbox))) { live = c.live ++ c.next_mailbox ∷ []; next_mailbox = c.next_mailbox + 1 }

abbrev pub sent : Config → ℕ → List Frame → Message → Config
sent c t frames m = record (goes_on c t frames (Returned (Const UnitConst))) { messages = c.messages ++ m ∷ []; next_message = c.next_message + 1 }

abbrev pub begun : Config → ℕ → List Frame → Control → Config
begun c t frames k =
    let s = goes_on c t frames (Returned (Const UnitConst)) in
    record s { threads = s.threads ++ (c.next_thread, thread_of k []) ∷ []; next_thread = c.next_thread + 1 }

abbrev pub said : Config → ℕ → List Frame → List ℕ → Config
said c t frames line = record (goes_on c t frames (Returned (Const UnitConst))) { printed = c.printed ++ line ∷ [] }

abbrev pub freed : Config → ℕ → List Frame → ℕ × Control → Config
freed c t frames q = record (goes_on c t frames q.1) { live = filter (λ b. not (nat_eq b q.0)) c.live }

abbrev pub taken : Config → ℕ → List Frame → ℕ → Control → Config
taken c t frames k control = goes_on (without_message c k) t frames control

pub new_is : (c : Config) (t : ℕ) (frames : List Frame) (r : Redex) → new_at c t frames r ≡ (if is_new r then Some (made c t frames) else None)
new_is c t frames (At (New i) env) = refl
new_is c t frames (At _ env) = refl
new_is c t frames (Done v) = refl
new_is c t frames Nowhere = refl

sends : (c : Config) (t : ℕ) (frames : List Frame) (m : ℕ) (v : Option Value) (vs : Option (List Value)) → send_to c t frames m v vs ≡ option_map (sent c t frames) (message_to c.next_message m v vs)
sends c t frames m None vs = refl
sends c t frames m (Some (Const k)) vs = refl
sends c t frames m (Some (Mailbox a)) None = refl
sends c t frames m (Some (Mailbox a)) (Some vs) = refl

pub send_is : (c : Config) (t : ℕ) (frames : List Frame) (r : Redex) → send_at c t frames r ≡ option_map (sent c t frames) (redex_message c.next_message r)
send_is c t frames (At (Send x m args) env) = sends c t frames m (value_at env x) (eval_all env args)
send_is c t frames (At _ env) = refl
send_is c t frames (Done v) = refl
send_is c t frames Nowhere = refl

pub spawn_is : (p : Program) (c : Config) (t : ℕ) (frames : List Frame) (r : Redex) → spawn_at p c t frames r ≡ option_map (begun c t frames) (spawned p r)
spawn_is p c t frames (At (Spawn m) env) = refl
spawn_is p c t frames (At _ env) = refl
spawn_is p c t frames (Done v) = refl
spawn_is p c t frames Nowhere = refl

prints : (c : Config) (t : ℕ) (frames : List Frame) (o : Option (List ℕ)) → print_line c t frames o ≡ option_map (said c t frames) o
prints c t frames None = refl
prints c t frames (Some line) = refl

pub print_is : (c : Config) (t : ℕ) (frames : List Frame) (r : Redex) → print_at c t frames r ≡ option_map (said c t frames) (redex_line r)
print_is c t frames (At (Print e) env) = prints c t frames (option_and_then line_of (eval env e))
print_is c t frames (At _ env) = refl
print_is c t frames (Done v) = refl
print_is c t frames Nowhere = refl

if_map : {A B : Type 0} (f : A → B) (b : Bool) (x : A) → (if b then Some (f x) else None) ≡ option_map f (if b then Some x else None)
if_map f true x = refl
if_map f false x = refl

frees : (p : Program) (c : Config) (t : ℕ) (frames : List Frame) (free : Option ℕ) (cs : List Clause) (env : Env) (v : Option Value)
    → free_mailbox p c t frames free env v ≡ option_map (freed c t frames) (option_and_then (λ g. freed_by p c t g g.free) (guarding free cs env v))
frees p c t frames None cs env None = refl
frees p c t frames None cs env (Some (Const k)) = refl
frees p c t frames None cs env (Some (Mailbox a)) = refl
frees p c t frames (Some n) cs env None = refl
frees p c t frames (Some n) cs env (Some (Const k)) = refl
frees p c t frames (Some n) cs env (Some (Mailbox a)) = if_map (freed c t frames) (may_free c t a) (a, at_node p n env)

pub free_is : (p : Program) (c : Config) (t : ℕ) (frames : List Frame) (r : Redex) → free_at p c t frames r ≡ option_map (freed c t frames) (redex_freed p c t r)
free_is p c t frames (At (Guard x e free cs) env) = frees p c t frames free cs env (value_at env x)
free_is p c t frames (At _ env) = refl
free_is p c t frames (Done v) = refl
free_is p c t frames Nowhere = refl

module _ (p : Program) (c : Config) (t : ℕ) (frames : List Frame) (free : Option ℕ) (cs : List Clause) (env : Env) where
  abbrev own : ℕ → Guarding
  own a = record { mailbox = a; free = free; receives = cs; env = env }

  receive_clause : (a k : ℕ) (m : Message) → k ≡ m.number → (o : Option Clause) → receive_message p c t frames cs env a m o ≡ option_map (taken c t frames k) (received_by p (own a) m o)
  receive_clause a k m same None = refl
  receive_clause a k m same (Some r) =
      ap (λ j. if clause_takes a m (Some r) then Some (taken c t frames j (at_node p r.body (received r m env))) else None) (sym same)
      ∙ if_map (taken c t frames k) (clause_takes a m (Some r)) (at_node p r.body (received r m env))

  receives : (k : ℕ) (v : Option Value) (o : Option Message) → message_in c.messages k ≡ o → receive_from p c t frames cs env v o ≡ option_map (taken c t frames k) (option_and_then (λ g. received_of p g o) (guarding free cs env v))
  receives k None o h = refl
  receives k (Some (Const b)) o h = refl
  receives k (Some (Mailbox a)) None h = refl
  receives k (Some (Mailbox a)) (Some m) h =
      receive_clause a k m (eqb-true k m.number (found_passes (λ n. nat_eq k n.number) c.messages m h)) (clause_for m.tag cs)

pub receive_is : (p : Program) (c : Config) (t : ℕ) (frames : List Frame) (k : ℕ) (r : Redex) → receive_at p c t frames k r ≡ option_map (taken c t frames k) (redex_received p c.messages k r)
receive_is p c t frames k (At (Guard x e free cs) env) = receives p c t frames free cs env k (value_at env x) (message_in c.messages k) refl
receive_is p c t frames k (At _ env) = refl
receive_is p c t frames k (Done v) = refl
receive_is p c t frames k Nowhere = refl

-- a step that isn't enabled, or for which memory ran out
pub refused : {A B C D : Type 0} (view : A → B) (f : B → C) (w : D → C) (o : Option B) (after : Option C) (old : D) (e : StepError) → after ≡ option_map f o → Gives view o (Err e) → StepGives w after old old (Err e)
refused view f w o after old Disabled is none = (is ∙ ap (option_map f) none, refl)
refused view f w o after old NoMemory is none = refl

module _ (p : Program) (c : Config) (t : ℕ) (s : Thread) (there : thread_at c t ≡ Some s) where
  stepped : (a : Act) → step p c (record { thread = t; act = a }) ≡ thread_step p c t s a
  stepped a = ap (λ o. option_and_then (λ s. thread_step p c t s a) o) there

  pub new_step : step p c (record { thread = t; act = ActNew }) ≡ (if is_new (redex p s.control) then Some (made c t s.frames) else None)
  new_step = stepped ActNew ∙ new_is c t s.frames (redex p s.control)

  pub send_step : step p c (record { thread = t; act = ActSend }) ≡ option_map (sent c t s.frames) (redex_message c.next_message (redex p s.control))
  send_step = stepped ActSend ∙ send_is c t s.frames (redex p s.control)

  pub spawn_step : step p c (record { thread = t; act = ActSpawn }) ≡ option_map (begun c t s.frames) (spawned p (redex p s.control))
  spawn_step = stepped ActSpawn ∙ spawn_is p c t s.frames (redex p s.control)

  pub print_step : step p c (record { thread = t; act = ActPrint }) ≡ option_map (said c t s.frames) (redex_line (redex p s.control))
  print_step = stepped ActPrint ∙ print_is c t s.frames (redex p s.control)

  pub free_step : step p c (record { thread = t; act = ActFree }) ≡ option_map (freed c t s.frames) (redex_freed p c t (redex p s.control))
  free_step = stepped ActFree ∙ free_is p c t s.frames (redex p s.control)

  pub receive_step : (k : ℕ) → step p c (record { thread = t; act = ActReceive k }) ≡ option_map (taken c t s.frames k) (redex_received p c.messages k (redex p s.control))
  receive_step k = stepped (ActReceive k) ∙ receive_is p c t s.frames k (redex p s.control)
