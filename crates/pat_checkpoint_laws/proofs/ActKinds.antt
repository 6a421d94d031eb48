-- Which act of a thread is enabled follows from where it stands, but for which message it receives.
use Rattle.std.proofs.Common.{◌≡◌, ℕ, Bool, true, nat_eq, List, [], ◌∷◌, Some, refl, sym, ap, ◌∙◌, subst, arith, ⊎_elim}
use Rattle.std.specs.Prelude.{option_map}
use Rattle.std.proofs.lemmas.Bool.{or_left, or_right}
use Rattle.pat_semantics_spec.specs.Values.{Mailbox, Env, value_at}
use Rattle.pat_semantics_spec.specs.Programs.{Program, Core, Val, Let, Call, If, Print, New, Send, Spawn, Guard}
use Rattle.pat_semantics_spec.specs.Configs.{Frame, Thread, Message, Config, with_thread, has_pending}
use Rattle.pat_semantics_spec.specs.Steps.{Act, ActLocal, ActNew, ActSend, ActSpawn, ActPrint, ActEnd, ActFree, ActReceive, thread_step, Redex, At, Done, Nowhere, redex, redex_at, local_at, new_at, send_at, spawn_at, print_at, end_at, free_at, receive_at}
use Rattle.pat_semantics_spec.specs.Faults.{IsIn}
use Rattle.std.specs.List.{list_any}
use Rattle.pat_semantics_laws.specs.Laws.{IsEnabled}
use Rattle.pat_semantics_laws.proofs.Lists.{clash, not_true}
use Rattle.pat_semantics_laws.proofs.Inversion.{StandsAt, step_of, free_step, receive_step}
use Rattle.pat_semantics_laws.proofs.Ascending.{found_is_in}

any_in : {A : Type 0} (g : A → Bool) (xs : List A) (x : A) → IsIn x xs → g x ≡ true → list_any g xs ≡ true
any_in g [] x i h = absurd i
any_in g (y ∷ ys) x i h =
    ⊎_elim
    (λ same. or_left (g y) (list_any g ys) (subst (λ z. g z ≡ true) (sym same) h))
    (λ rest. or_right (g y) (list_any g ys) (any_in g ys x rest h))
    i

-- the kinds of acts: what a guard does is of one kind
abbrev pub act_kind : Act → ℕ
act_kind ActLocal = 0
act_kind ActNew = 1
act_kind ActSend = 2
act_kind ActSpawn = 3
act_kind ActPrint = 4
act_kind ActEnd = 5
act_kind ActFree = 6
act_kind (ActReceive k) = 6

-- which kind may be enabled where a thread stands
abbrev pub place_kind : Redex → List Frame → ℕ
place_kind (At (Val e) env) [] = 5
place_kind (At (Val e) env) (f ∷ fs) = 0
place_kind (At (Let x m n) env) fs = 0
place_kind (At (Call g args) env) fs = 0
place_kind (At (If e m n) env) fs = 0
place_kind (At (Print e) env) fs = 4
place_kind (At (New i) env) fs = 1
place_kind (At (Send x m args) env) fs = 2
place_kind (At (Spawn m) env) fs = 3
place_kind (At (Guard x e free cs) env) fs = 6
place_kind (Done v) [] = 5
place_kind (Done v) (f ∷ fs) = 0
place_kind Nowhere fs = 7

module _ (p : Program) (c : Config) (t : ℕ) (d : Config) where
  local_kind : (r : Redex) (fs : List Frame) → option_map (with_thread c t) (local_at p r fs) ≡ Some d → 0 ≡ place_kind r fs
  local_kind (At (Val e) env) [] h = cc
  local_kind (At (Val e) env) (f ∷ fs) h = refl
  local_kind (At (Let x m n) env) fs h = refl
  local_kind (At (Call g args) env) fs h = refl
  local_kind (At (If e m n) env) fs h = refl
  local_kind (At (Print e) env) fs h = cc
  local_kind (At (New i) env) fs h = cc
  local_kind (At (Send x m args) env) fs h = cc
  local_kind (At (Spawn m) env) fs h = cc
  local_kind (At (Guard x e free cs) env) fs h = cc
  local_kind (Done v) [] h = cc
  local_kind (Done v) (f ∷ fs) h = refl
  local_kind Nowhere fs h = cc

  new_kind : (r : Redex) (fs : List Frame) → new_at c t fs r ≡ Some d → 1 ≡ place_kind r fs
  new_kind (At (New i) env) fs h = refl
  new_kind (At (Val e) env) fs h = cc
  new_kind (At (Let x m n) env) fs h = cc
  new_kind (At (Call g args) env) fs h = cc
  new_kind (At (If e m n) env) fs h = cc
  new_kind (At (Print e) env) fs h = cc
  new_kind (At (Send x m args) env) fs h = cc
  new_kind (At (Spawn m) env) fs h = cc
  new_kind (At (Guard x e free cs) env) fs h = cc
  new_kind (Done v) fs h = cc
  new_kind Nowhere fs h = cc

  send_kind : (r : Redex) (fs : List Frame) → send_at c t fs r ≡ Some d → 2 ≡ place_kind r fs
  send_kind (At (Send x m args) env) fs h = refl
  send_kind (At (Val e) env) fs h = cc
  send_kind (At (Let x m n) env) fs h = cc
  send_kind (At (Call g args) env) fs h = cc
  send_kind (At (If e m n) env) fs h = cc
  send_kind (At (Print e) env) fs h = cc
  send_kind (At (New i) env) fs h = cc
  send_kind (At (Spawn m) env) fs h = cc
  send_kind (At (Guard x e free cs) env) fs h = cc
  send_kind (Done v) fs h = cc
  send_kind Nowhere fs h = cc

  spawn_kind : (r : Redex) (fs : List Frame) → spawn_at p c t fs r ≡ Some d → 3 ≡ place_kind r fs
  spawn_kind (At (Spawn m) env) fs h = refl
  spawn_kind (At (Val e) env) fs h = cc
  spawn_kind (At (Let x m n) env) fs h = cc
  spawn_kind (At (Call g args) env) fs h = cc
  spawn_kind (At (If e m n) env) fs h = cc
  spawn_kind (At (Print e) env) fs h = cc
  spawn_kind (At (New i) env) fs h = cc
  spawn_kind (At (Send x m args) env) fs h = cc
  spawn_kind (At (Guard x e free cs) env) fs h = cc
  spawn_kind (Done v) fs h = cc
  spawn_kind Nowhere fs h = cc

  print_kind : (r : Redex) (fs : List Frame) → print_at c t fs r ≡ Some d → 4 ≡ place_kind r fs
  print_kind (At (Print e) env) fs h = refl
  print_kind (At (Val e) env) fs h = cc
  print_kind (At (Let x m n) env) fs h = cc
  print_kind (At (Call g args) env) fs h = cc
  print_kind (At (If e m n) env) fs h = cc
  print_kind (At (New i) env) fs h = cc
  print_kind (At (Send x m args) env) fs h = cc
  print_kind (At (Spawn m) env) fs h = cc
  print_kind (At (Guard x e free cs) env) fs h = cc
  print_kind (Done v) fs h = cc
  print_kind Nowhere fs h = cc

  end_kind : (r : Redex) (fs : List Frame) → end_at c t fs r ≡ Some d → 5 ≡ place_kind r fs
  end_kind (At (Val e) env) [] h = refl
  end_kind (Done v) [] h = refl
  end_kind (At (Val e) env) (f ∷ fs) h = cc
  end_kind (Done v) (f ∷ fs) h = cc
  end_kind (At (Let x m n) env) [] h = cc
  end_kind (At (Let x m n) env) (f ∷ fs) h = cc
  end_kind (At (Call g args) env) [] h = cc
  end_kind (At (Call g args) env) (f ∷ fs) h = cc
  end_kind (At (If e m n) env) [] h = cc
  end_kind (At (If e m n) env) (f ∷ fs) h = cc
  end_kind (At (Print e) env) [] h = cc
  end_kind (At (Print e) env) (f ∷ fs) h = cc
  end_kind (At (New i) env) [] h = cc
  end_kind (At (New i) env) (f ∷ fs) h = cc
  end_kind (At (Send x m args) env) [] h = cc
  end_kind (At (Send x m args) env) (f ∷ fs) h = cc
  end_kind (At (Spawn m) env) [] h = cc
  end_kind (At (Spawn m) env) (f ∷ fs) h = cc
  end_kind (At (Guard x e free cs) env) [] h = cc
  end_kind (At (Guard x e free cs) env) (f ∷ fs) h = cc
  end_kind Nowhere [] h = cc
  end_kind Nowhere (f ∷ fs) h = cc

  free_kind : (r : Redex) (fs : List Frame) → free_at p c t fs r ≡ Some d → 6 ≡ place_kind r fs
  free_kind (At (Guard x e free cs) env) fs h = refl
  free_kind (At (Val e) env) fs h = cc
  free_kind (At (Let x m n) env) fs h = cc
  free_kind (At (Call g args) env) fs h = cc
  free_kind (At (If e m n) env) fs h = cc
  free_kind (At (Print e) env) fs h = cc
  free_kind (At (New i) env) fs h = cc
  free_kind (At (Send x m args) env) fs h = cc
  free_kind (At (Spawn m) env) fs h = cc
  free_kind (Done v) fs h = cc
  free_kind Nowhere fs h = cc

  receive_kind : (k : ℕ) (r : Redex) (fs : List Frame) → receive_at p c t fs k r ≡ Some d → 6 ≡ place_kind r fs
  receive_kind k (At (Guard x e free cs) env) fs h = refl
  receive_kind k (At (Val e) env) fs h = cc
  receive_kind k (At (Let x m n) env) fs h = cc
  receive_kind k (At (Call g args) env) fs h = cc
  receive_kind k (At (If e m n) env) fs h = cc
  receive_kind k (At (Print e) env) fs h = cc
  receive_kind k (At (New i) env) fs h = cc
  receive_kind k (At (Send x m args) env) fs h = cc
  receive_kind k (At (Spawn m) env) fs h = cc
  receive_kind k (Done v) fs h = cc
  receive_kind k Nowhere fs h = cc

  enabled_kind : (s : Thread) (a : Act) → thread_step p c t s a ≡ Some d → act_kind a ≡ place_kind (redex p s.control) s.frames
  enabled_kind s ActLocal h = local_kind (redex p s.control) s.frames h
  enabled_kind s ActNew h = new_kind (redex p s.control) s.frames h
  enabled_kind s ActSend h = send_kind (redex p s.control) s.frames h
  enabled_kind s ActSpawn h = spawn_kind (redex p s.control) s.frames h
  enabled_kind s ActPrint h = print_kind (redex p s.control) s.frames h
  enabled_kind s ActEnd h = end_kind (redex p s.control) s.frames h
  enabled_kind s ActFree h = free_kind (redex p s.control) s.frames h
  enabled_kind s (ActReceive k) h = receive_kind k (redex p s.control) s.frames h

-- acts of a thread that are both enabled are of one kind
pub same_kind : (p : Program) (c : Config) (t : ℕ) (a b : Act) → IsEnabled p c (record { thread = t; act = a }) → IsEnabled p c (record { thread = t; act = b }) → act_kind a ≡ act_kind b
same_kind p c t a b e f =
    let o = step_of p c (record { thread = t; act = a }) e.0 e.1 in
    let w = step_of p c (record { thread = t; act = b }) f.0 f.1 in
    let both : Some o.thread ≡ Some w.thread = sym o.there ∙ w.there in
    let same : o.thread ≡ w.thread = cc in
    enabled_kind p c t e.0 o.thread a o.gives
    ∙ ap (λ (s : Thread). place_kind (redex p s.control) s.frames) same
    ∙ sym (enabled_kind p c t f.0 w.thread b w.gives)

-- a free isn't enabled where a receive is
pub no_free : (p : Program) (c : Config) (t k : ℕ) → IsEnabled p c (record { thread = t; act = ActFree }) → IsEnabled p c (record { thread = t; act = ActReceive k }) → ⊥
no_free p c t k e f =
    let o = step_of p c (record { thread = t; act = ActFree }) e.0 e.1 in
    let w = step_of p c (record { thread = t; act = ActReceive k }) f.0 f.1 in
    let both : Some o.thread ≡ Some w.thread = sym o.there ∙ w.there in
    let same : o.thread ≡ w.thread = cc in
    let x = free_step p c t o.thread e.0 (redex p o.thread.control) refl o.gives in
    let z = receive_step p c t k w.thread f.0 (redex p w.thread.control) refl w.gives in
    let at : (s : Thread) (core : Core) (env : Env) → StandsAt p s.control core env → redex p s.control ≡ At core env =
    λ s core env q. ap (redex p) q.control_is ∙ ap (λ o. redex_at o env) q.term in
    let one : At (Guard x.var x.pattern (Some x.body) x.receives) x.env ≡ At (Guard z.var z.pattern z.free z.receives) z.env =
    sym (at o.thread (Guard x.var x.pattern (Some x.body) x.receives) x.env x.at) ∙ ap (λ (s : Thread). redex p s.control) same ∙ at w.thread (Guard z.var z.pattern z.free z.receives) z.env z.at in
    let env : x.env ≡ z.env = cc in
    let var : x.var ≡ z.var = cc in
    let value : Some (Mailbox x.mailbox) ≡ Some (Mailbox z.mailbox) =
    sym x.guards ∙ ap (λ g. value_at g x.var) env ∙ ap (value_at z.env) var ∙ z.guards in
    let mailbox : x.mailbox ≡ z.mailbox = cc in
    let found = (found_is_in (λ (m : Message). nat_eq k m.number) c.messages z.message z.found).0 in
    let pending : has_pending z.mailbox c.messages ≡ true = any_in (λ m. nat_eq m.mailbox z.mailbox) c.messages z.message found z.on in
    clash (subst (λ a. has_pending a c.messages ≡ true) (sym mailbox) pending) (not_true (has_pending x.mailbox c.messages) x.empty)

-- acts of one kind, neither a free beside a receive, are the same, or both receive
pub data SameAct (a b : Act) : Type 0 where
  same_act : a ≡ b → SameAct a b
  receives : (k m : ℕ) → a ≡ ActReceive k → b ≡ ActReceive m → SameAct a b

pub kinds_same : (a b : Act) → act_kind a ≡ act_kind b → ((k : ℕ) → a ≡ ActFree → b ≡ ActReceive k → ⊥) → ((k : ℕ) → b ≡ ActFree → a ≡ ActReceive k → ⊥) → SameAct a b
kinds_same ActLocal ActLocal h l r = same_act refl
kinds_same ActNew ActNew h l r = same_act refl
kinds_same ActSend ActSend h l r = same_act refl
kinds_same ActSpawn ActSpawn h l r = same_act refl
kinds_same ActPrint ActPrint h l r = same_act refl
kinds_same ActEnd ActEnd h l r = same_act refl
kinds_same ActFree ActFree h l r = same_act refl
kinds_same (ActReceive k) (ActReceive m) h l r = receives k m refl refl
kinds_same ActFree (ActReceive m) h l r = absurd (l m refl refl)
kinds_same (ActReceive k) ActFree h l r = absurd (r k refl refl)
kinds_same _ _ h l r = absurd (omega arith)
