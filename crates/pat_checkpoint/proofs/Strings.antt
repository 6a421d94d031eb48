-- The strings that steps reach are literals of the program, so a program's text can have them.
use Rattle.std.proofs.Common.{◌≡◌, ℕ, zero, suc, Bool, true, false, cond, not, nat_eq, nat_lt, if◌then◌else◌, List, [], ◌∷◌, ◌++◌, Option, Some, None, refl, sym, subst}
use Rattle.std.specs.Prelude.{option_map, slice_get, find}
use Rattle.std.specs.List.{AllByRecursion, flat_map}
use Rattle.std.specs.Map.{lookup}
use Rattle.pat_lexer_spec.specs.Spelled.{IsString}
use Rattle.pat_semantics_spec.specs.Values.{UnitConst, BoolConst, IntConst, TextConst, Constant, Value, Const, Mailbox, Env, Op, Add, Sub, Mul, Equal, Less, Expr, VarExpr, Literal, OpExpr, value_at, bind, bind_all, apply, apply_values, eval, eval_all, both_values}
use Rattle.pat_semantics_spec.specs.Programs.{Node, Program, Function, Core, core_at, is_free, is_among, option_list, keep, function_at}
use Rattle.pat_semantics_spec.specs.Configs.{Returned, Frame, Thread, Message, Config, thread_at, with_thread, start, start_of}
use Rattle.pat_semantics_spec.specs.Steps.{Act, ActLocal, ActNew, ActSend, ActSpawn, ActPrint, ActEnd, ActFree, ActReceive, Step, step, redex, at_node, thread_of, returned_unit, bind_name, numbered, resume, received, without_thread}
use Rattle.pat_semantics_spec.specs.Runs.{run_from, Entry, replay_from}
use Rattle.pat_semantics_laws.specs.Laws.{history_steps}
use Rattle.pat_semantics_laws.proofs.Lists.{all_snoc, all_filter}
use Rattle.pat_semantics_laws.proofs.Inversion.{StandsAt, step_of, print_step, new_step, receive_step, LocalStep, by_let, by_value, by_call, by_if, by_return, local_step_of, send_step, spawn_step, EndStep, end_value, end_return, end_step, free_step}
use Rattle.pat_semantics_laws.proofs.Replays.{first_of, replay_runs}
use Rattle.pat_semantics_laws.proofs.Threads.{lookup_all, set_all, remove_all}
use Rattle.pat_resolver_spec.specs.Claims.{constant_strings, expr_strings, core_strings, program_strings}
use Rattle.pat_checkpoint.specs.Strings.{IsSpelledConstant, IsSpelledValue, IsSpelledEnv, IsSpelledControl, IsSpelledThread, HasSpelledStrings}

-- ---- lists

all_parts : {A : Type 0} (P : A → Type 0) (xs ys : List A) → AllByRecursion P (xs ++ ys) → AllByRecursion P xs × AllByRecursion P ys
all_parts P [] ys h = (tt, h)
all_parts P (x ∷ xs) ys h = let r = all_parts P xs ys h.1 in ((h.0, r.0), r.1)

flat_at : {A B : Type 0} (P : B → Type 0) (f : A → List B) (xs : List A) (j : ℕ) (x : A) → AllByRecursion P (flat_map f xs) → slice_get xs j ≡ Some x → AllByRecursion P (f x)
flat_at P f [] j x a h = cc
flat_at P f (y ∷ ys) zero x a h = let same : y ≡ x = cc in subst (λ z. AllByRecursion P (f z)) same (all_parts P (f y) (flat_map f ys) a).0
flat_at P f (y ∷ ys) (suc j) x a h = flat_at P f ys j x (all_parts P (f y) (flat_map f ys) a).1 h

find_all : {A : Type 0} (P : A → Type 0) (f : A → Bool) (xs : List A) (x : A) → AllByRecursion P xs → find f xs ≡ Some x → P x
find_all P f [] x a h = cc
find_all P f (y ∷ ys) x a h =
    (elim (f y) as (λ t. cond t (Some y) (find f ys) ≡ Some x → P x) [
      | true ↦ λ k. let same : y ≡ x = cc in subst P same a.0
      | false ↦ λ k. find_all P f ys x a.1 k
    ]) h

-- ---- values

literal_spelled : (c : Constant) → AllByRecursion IsString (constant_strings c) → IsSpelledConstant c
literal_spelled UnitConst h = tt
literal_spelled (BoolConst b) h = tt
literal_spelled (IntConst n) h = tt
literal_spelled (TextConst s) h = h.0

-- no operator makes a string
apply_spelled : (op : Op) (a b k : Constant) → apply op a b ≡ Some k → IsSpelledConstant k
apply_spelled op a b UnitConst h = tt
apply_spelled op a b (BoolConst x) h = tt
apply_spelled op a b (IntConst x) h = tt
apply_spelled Add (IntConst m) (IntConst n) (TextConst s) h = cc
apply_spelled Sub (IntConst m) (IntConst n) (TextConst s) h = cc
apply_spelled Mul (IntConst m) (IntConst n) (TextConst s) h = cc
apply_spelled Equal (IntConst m) (IntConst n) (TextConst s) h = cc
apply_spelled Equal (BoolConst m) (BoolConst n) (TextConst s) h = cc
apply_spelled Equal (TextConst m) (TextConst n) (TextConst s) h = cc
apply_spelled Less (IntConst m) (IntConst n) (TextConst s) h = cc
apply_spelled _ _ _ (TextConst s) h = cc

applied_spelled : (o : Option Constant) (v : Value) → ((k : Constant) → o ≡ Some k → IsSpelledConstant k) → option_map Const o ≡ Some v → IsSpelledValue v
applied_spelled None v s h = cc
applied_spelled (Some k) v s h = let same : Const k ≡ v = cc in subst IsSpelledValue same (s k refl)

op_spelled : (op : Op) (a b : Option Value) (v : Value) → apply_values op a b ≡ Some v → IsSpelledValue v
op_spelled op (Some (Const a)) (Some (Const b)) v h = applied_spelled (apply op a b) v (apply_spelled op a b) h
op_spelled op (Some (Const a)) (Some (Mailbox b)) v h = cc
op_spelled op (Some (Const a)) None v h = cc
op_spelled op (Some (Mailbox a)) b v h = cc
op_spelled op None b v h = cc

env_spelled : (env : Env) (x : ℕ) (v : Value) → IsSpelledEnv env → value_at env x ≡ Some v → IsSpelledValue v
env_spelled [] x v s h = cc
env_spelled (e ∷ env) x v s h =
    (elim (nat_eq x e.0) as (λ t. cond t (Some e.1) (lookup (nat_eq x) env) ≡ Some v → IsSpelledValue v) [
      | true ↦ λ k. let same : e.1 ≡ v = cc in subst IsSpelledValue same s.0
      | false ↦ λ k. env_spelled env x v s.1 k
    ]) h

eval_spelled : (env : Env) (e : Expr) (v : Value) → IsSpelledEnv env → AllByRecursion IsString (expr_strings e) → eval env e ≡ Some v → IsSpelledValue v
eval_spelled env (VarExpr x) v s l h = env_spelled env x v s h
eval_spelled env (Literal c) v s l h = let same : Const c ≡ v = cc in subst IsSpelledValue same (literal_spelled c l)
eval_spelled env (OpExpr op a b) v s l h = op_spelled op (eval env a) (eval env b) v h

values_spelled : (env : Env) (es : List Expr) (vs : List Value) → IsSpelledEnv env → AllByRecursion IsString (flat_map expr_strings es) → eval_all env es ≡ Some vs → AllByRecursion IsSpelledValue vs
values_spelled env [] vs s l h = let same : [] ≡ vs = cc in subst (AllByRecursion IsSpelledValue) same tt
values_spelled env (e ∷ es) vs s l h =
    let strings = all_parts IsString (expr_strings e) (flat_map expr_strings es) l in
    go strings.0 (λ ws q. values_spelled env es ws s strings.1 q) (eval env e) (eval_all env es) refl refl h
  where
    go : AllByRecursion IsString (expr_strings e) → ((ws : List Value) → eval_all env es ≡ Some ws → AllByRecursion IsSpelledValue ws) → (o : Option Value) (q : Option (List Value)) → eval env e ≡ o → eval_all env es ≡ q → both_values o q ≡ Some vs → AllByRecursion IsSpelledValue vs
    go own rest None q a b k = cc
    go own rest (Some v) None a b k = cc
    go own rest (Some v) (Some ws) a b k =
        let same : v ∷ ws ≡ vs = cc in
        subst (AllByRecursion IsSpelledValue) same (eval_spelled env e v s own a, rest ws b)

-- ---- environments

bind_spelled : (env : Env) (x : ℕ) (v : Value) → IsSpelledEnv env → IsSpelledValue v → IsSpelledEnv (bind env x v)
bind_spelled [] x v s h = (h, tt)
bind_spelled (e ∷ env) x v s h =
    let rest = bind_spelled env x v s.1 h in
    elim (nat_lt x e.0) as (λ t. IsSpelledEnv (cond t ((x, v) ∷ e ∷ env) (cond (nat_eq x e.0) ((x, v) ∷ env) (e ∷ bind env x v)))) [
      | true ↦ (h, s)
      | false ↦ elim (nat_eq x e.0) as (λ t. IsSpelledEnv (cond t ((x, v) ∷ env) (e ∷ bind env x v))) [ true ↦ (h, s.1) | false ↦ (s.0, rest) ]
    ]

bind_all_spelled : (env : Env) (xs : List ℕ) (vs : List Value) → IsSpelledEnv env → AllByRecursion IsSpelledValue vs → IsSpelledEnv (bind_all env xs vs)
bind_all_spelled env [] vs s h = s
bind_all_spelled env (x ∷ xs) [] s h = s
bind_all_spelled env (x ∷ xs) (v ∷ vs) s h = bind_spelled (bind_all env xs vs) x v (bind_all_spelled env xs vs s h.1) h.0

name_spelled : (env : Env) (o : Option ℕ) (v : Value) → IsSpelledEnv env → IsSpelledValue v → IsSpelledEnv (bind_name env o v)
name_spelled env None v s h = s
name_spelled env (Some x) v s h = bind_spelled env x v s h

numbered_spelled : (k : ℕ) (vs : List Value) → AllByRecursion IsSpelledValue vs → IsSpelledEnv (numbered k vs)
numbered_spelled k [] h = tt
numbered_spelled k (v ∷ vs) h = (h.0, numbered_spelled (suc k) vs h.1)

keep_spelled : (p : Program) (n : ℕ) (env : Env) → IsSpelledEnv env → IsSpelledEnv (keep p n env)
keep_spelled p n env s = all_filter (λ (e : ℕ × Value). IsSpelledValue e.1) (λ b. is_free p b.0 n) env s

abbrev FramesSpelled : List Frame → Type 0
FramesSpelled fs = AllByRecursion (λ f. IsSpelledEnv f.env) fs

resumed_spelled : (p : Program) (f : Frame) (fs : List Frame) (v : Value) → FramesSpelled (f ∷ fs) → IsSpelledValue v → IsSpelledThread (resume p f fs v)
resumed_spelled p f fs v s h = (keep_spelled p f.body (bind_name f.env f.var v) (name_spelled f.env f.var v s.0 h), s.1)

-- the values at a control
at_spelled : (p : Program) (s : Thread) (core : Core) (env : Env) → IsSpelledThread s → StandsAt p s.control core env → IsSpelledEnv env
at_spelled p s core env o at = subst IsSpelledControl at.control_is o.0

ended : (p : Program) (c : Config) (t : ℕ) (s : Thread) (d : Config) → EndStep p c t s d → d ≡ without_thread c t
ended p c t s d (end_value e env at none is) = is
ended p c t s d (end_return v at none is) = is

-- ---- steps

module _ (p : Program) (spelled : AllByRecursion IsString (program_strings p)) where
  literals : (n : ℕ) (core : Core) → core_at p n ≡ Some core → AllByRecursion IsString (core_strings core)
  literals n core h = go (slice_get p.nodes n) refl h
    where
      go : (o : Option Node) → slice_get p.nodes n ≡ o → option_map (λ (d : Node). d.core) o ≡ Some core → AllByRecursion IsString (core_strings core)
      go None e k = cc
      go (Some d) e k = let same : d.core ≡ core = cc in subst (λ c. AllByRecursion IsString (core_strings c)) same (flat_at IsString (λ (x : Node). core_strings x.core) p.nodes n d spelled e)

  local_spelled : (s r : Thread) → IsSpelledThread s → LocalStep p s r → IsSpelledThread r
  local_spelled s r o (by_let x m n env at is) =
      let a = at_spelled p s _ env o at in
      let rest = all_filter (λ (e : ℕ × Value). IsSpelledValue e.1) (λ b. not (is_among b.0 (option_list x))) (keep p n env) (keep_spelled p n env a) in
      subst IsSpelledThread (sym is) (keep_spelled p m env a, (rest, o.1))
  local_spelled s r o (by_value e env f fs v at frames value is) =
      let v_spelled = eval_spelled env e v (at_spelled p s _ env o at) (literals at.node _ at.term) value in
      subst IsSpelledThread (sym is) (resumed_spelled p f fs v (subst FramesSpelled frames o.1) v_spelled)
  local_spelled s r o (by_call g args env h vs at function values is) =
      let all = values_spelled env args vs (at_spelled p s _ env o at) (literals at.node _ at.term) values in
      subst IsSpelledThread (sym is) (keep_spelled p h.body (numbered 0 vs) (numbered_spelled 0 vs all), o.1)
  local_spelled s r o (by_if e m n env b at is) =
      subst IsSpelledThread (sym is) (keep_spelled p (if b then m else n) env (at_spelled p s _ env o at), o.1)
  local_spelled s r o (by_return v f fs control frames is) =
      subst IsSpelledThread (sym is) (resumed_spelled p f fs v (subst FramesSpelled frames o.1) (subst IsSpelledControl control o.0))

  module _ (c : Config) (o : HasSpelledStrings c) where
    thread_spelled : (t : ℕ) (s : Thread) → thread_at c t ≡ Some s → IsSpelledThread s
    thread_spelled t s there = lookup_all IsSpelledThread c.threads t s o.threads there

    with_spelled : (t : ℕ) (s : Thread) → IsSpelledThread s → AllByRecursion (λ (e : ℕ × Thread). IsSpelledThread e.1) (with_thread c t s).threads
    with_spelled t s h = set_all (λ (e : ℕ × Thread). IsSpelledThread e.1) c.threads t s (λ e old. h) o.threads

    -- with a value in place of the control
    value_spelled : (t : ℕ) (s : Thread) (v : Value) → thread_at c t ≡ Some s → IsSpelledValue v → AllByRecursion (λ (e : ℕ × Thread). IsSpelledThread e.1) (with_thread c t (thread_of (Returned v) s.frames)).threads
    value_spelled t s v there h = with_spelled t (thread_of (Returned v) s.frames) (h, (thread_spelled t s there).1)

    act_spelled : (t : ℕ) (a : Act) (d : Config) → step p c (record { thread = t; act = a }) ≡ Some d → HasSpelledStrings d
    act_spelled t ActLocal d h =
        let w = step_of p c (record { thread = t; act = ActLocal }) d h in
        let q = local_step_of p c t w.thread d w.gives in
        subst HasSpelledStrings (sym q.2) (record { threads = with_spelled t q.0 (local_spelled w.thread q.0 (thread_spelled t w.thread w.there) q.1); messages = o.messages })
    act_spelled t ActNew d h =
        let w = step_of p c (record { thread = t; act = ActNew }) d h in
        let q = new_step p c t w.thread d (redex p w.thread.control) refl w.gives in
        subst HasSpelledStrings (sym q.result) (record { threads = value_spelled t w.thread (Mailbox c.next_mailbox) w.there tt; messages = o.messages })
    act_spelled t ActSend d h =
        let w = step_of p c (record { thread = t; act = ActSend }) d h in
        let q = send_step p c t w.thread d (redex p w.thread.control) refl w.gives in
        let at = q.at in
        let m : Message = record { number = c.next_message; mailbox = q.mailbox; tag = q.tag; values = q.values } in
        let all = values_spelled q.env q.args q.values (at_spelled p w.thread _ q.env (thread_spelled t w.thread w.there) at) (literals at.node _ at.term) q.payload in
        subst HasSpelledStrings (sym q.result) (record {
          threads = value_spelled t w.thread (Const UnitConst) w.there tt;
          messages = all_snoc (λ (x : Message). AllByRecursion IsSpelledValue x.values) c.messages m o.messages all;
        })
    act_spelled t ActSpawn d h =
        let w = step_of p c (record { thread = t; act = ActSpawn }) d h in
        let q = spawn_step p c t w.thread d (redex p w.thread.control) refl w.gives in
        let r = value_spelled t w.thread (Const UnitConst) w.there tt in
        let made = thread_of (at_node p q.body q.env) [] in
        let threads = (with_thread c t (returned_unit w.thread.frames)).threads in
        subst HasSpelledStrings (sym q.result) (record {
          threads = all_snoc (λ (e : ℕ × Thread). IsSpelledThread e.1) threads (c.next_thread, made) r (keep_spelled p q.body q.env (at_spelled p w.thread _ q.env (thread_spelled t w.thread w.there) q.at), tt);
          messages = o.messages;
        })
    act_spelled t ActPrint d h =
        let w = step_of p c (record { thread = t; act = ActPrint }) d h in
        let q = print_step p c t w.thread d (redex p w.thread.control) refl w.gives in
        subst HasSpelledStrings (sym q.result) (record { threads = value_spelled t w.thread (Const UnitConst) w.there tt; messages = o.messages })
    act_spelled t ActEnd d h =
        let w = step_of p c (record { thread = t; act = ActEnd }) d h in
        let q = ended p c t w.thread d (end_step p c t w.thread d w.thread.frames (redex p w.thread.control) refl refl w.gives) in
        subst HasSpelledStrings (sym q) (record { threads = remove_all (λ (e : ℕ × Thread). IsSpelledThread e.1) c.threads t o.threads; messages = o.messages })
    act_spelled t ActFree d h =
        let w = step_of p c (record { thread = t; act = ActFree }) d h in
        let q = free_step p c t w.thread d (redex p w.thread.control) refl w.gives in
        let mine = thread_spelled t w.thread w.there in
        let r = with_spelled t (thread_of (at_node p q.body q.env) w.thread.frames) (keep_spelled p q.body q.env (at_spelled p w.thread _ q.env mine q.at), mine.1) in
        subst HasSpelledStrings (sym q.result) (record { threads = r; messages = o.messages })
    act_spelled t (ActReceive k) d h =
        let w = step_of p c (record { thread = t; act = ActReceive k }) d h in
        let q = receive_step p c t k w.thread d (redex p w.thread.control) refl w.gives in
        let mine = thread_spelled t w.thread w.there in
        let message = find_all (λ (x : Message). AllByRecursion IsSpelledValue x.values) (λ (x : Message). nat_eq k x.number) c.messages q.message o.messages q.found in
        let env = bind_all_spelled q.env q.clause.vars q.message.values (at_spelled p w.thread _ q.env mine q.at) message in
        let all = bind_spelled (bind_all q.env q.clause.vars q.message.values) q.clause.from (Mailbox q.message.mailbox) env tt in
        let r = with_spelled t (thread_of (at_node p q.clause.body (received q.clause q.message q.env)) w.thread.frames) (keep_spelled p q.clause.body (received q.clause q.message q.env) all, mine.1) in
        subst HasSpelledStrings (sym q.result) (record {
          threads = r;
          messages = all_filter (λ (x : Message). AllByRecursion IsSpelledValue x.values) (λ (x : Message). not (nat_eq x.number q.message.number)) c.messages o.messages;
        })

  pub run_spelled : (ks : List Step) (c d : Config) → HasSpelledStrings c → run_from p c ks ≡ Some d → HasSpelledStrings d
  run_spelled [] c d o h = let same : c ≡ d = cc in subst HasSpelledStrings same o
  run_spelled (k ∷ ks) c d o h =
      let q = first_of (λ e. run_from p e ks) d (step p c k) h in
      run_spelled ks q.0 d (act_spelled c o k.thread k.act q.0 q.1) q.2

  pub replay_spelled : (es : List Entry) (d : Config) → replay_from p (start p) es ≡ Some d → HasSpelledStrings d
  replay_spelled es d h = run_spelled (history_steps es) (start p) d (starts (function_at p p.main)) (replay_runs p (start p) d es h).1
    where
      starts : (f : Option Function) → HasSpelledStrings (start_of f)
      starts None = record { threads = tt; messages = tt }
      starts (Some f) = record { threads = ((tt, tt), tt); messages = tt }
