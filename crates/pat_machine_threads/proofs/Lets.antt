-- A `let` of an expression in place: what its two steps make of a thread.
use Rattle.std.proofs.Common.{◌≡◌, ℕ, Bool, true, false, ◌||◌, ◌&&◌, cond, nat_eq, List, [], ◌∷◌, Option, Some, None, Result, Ok, Err, IfOk, IfSome, refl, sym, ap, ◌∙◌}
use Rattle.std.specs.Prelude.{not, filter, length, if◌then◌else◌, option_map, option_and_then, slice_get}
use Rattle.std.specs.List.{list_any}
use Rattle.std.proofs.lemmas.Bool.{eqb-true, eq-eqb, or_left, or_right}
use Rattle.pat_semantics_spec.specs.Values.{Value, Env, Expr, VarExpr, Literal, OpExpr, Const, Mailbox, UnitConst, BoolConst, IntConst, TextConst, both_values, value_at, eval, eval_all, apply_values, occurs}
use Rattle.pat_semantics_spec.specs.Programs.{Program, Core, Val, Let, Call, If, Print, New, Send, Spawn, Guard, Node, core_at, core_uses, function_at, is_among, option_list, option_uses, is_free_within, is_free, keep}
use Rattle.pat_semantics_spec.specs.Configs.{Thread, Running, Returned, Frame}
use Rattle.pat_semantics_spec.specs.Steps.{redex_at, bind_name, frame_of, choose, enter, local_at, local_step, resume, thread_of}
use Rattle.pat_machine_spec.specs.Commits.{locally}

-- ---- an expression with its own part of the values

-- the value of a variable that passes is among those that pass
value_passes : (f : ℕ → Bool) (env : Env) (z : ℕ) → f z ≡ true → value_at (filter (λ b. f b.0) env) z ≡ value_at env z
value_passes f [] z h = refl
value_passes f (e ∷ env) z h =
    (elim (f e.0) as (λ t. f e.0 ≡ t → value_at (cond t (e ∷ filter (λ b. f b.0) env) (filter (λ b. f b.0) env)) z ≡ cond (nat_eq z e.0) (Some e.1) (value_at env z)) [
      | true ↦ λ q. ap (λ o. cond (nat_eq z e.0) (Some e.1) o) (value_passes f env z h)
      | false ↦ λ q.
          (elim (nat_eq z e.0) as (λ t. nat_eq z e.0 ≡ t → value_at (filter (λ b. f b.0) env) z ≡ cond t (Some e.1) (value_at env z)) [
            | true ↦ λ w. let same : f z ≡ f e.0 = ap f (eqb-true z e.0 w) in absurd cc
            | false ↦ λ w. value_passes f env z h
          ]) refl
    ]) refl

-- an expression all of whose variables pass has its value there
passing_value : (f : ℕ → Bool) (env : Env) (e : Expr) → ((x : ℕ) → occurs x e ≡ true → f x ≡ true) → eval (filter (λ b. f b.0) env) e ≡ eval env e
passing_value f env (VarExpr x) h = value_passes f env x (h x (eq-eqb x x refl))
passing_value f env (Literal c) h = refl
passing_value f env (OpExpr op a b) h =
    ap (λ o. apply_values op o (eval (filter (λ b. f b.0) env) b)) (passing_value f env a (λ x o. h x (or_left (occurs x a) (occurs x b) o)))
    ∙ ap (apply_values op (eval env a)) (passing_value f env b (λ x o. h x (or_right (occurs x a) (occurs x b) o)))

-- what occurs in an expression is free where it stands
occurs_free : (p : Program) (m : ℕ) (e : Expr) (x : ℕ) → core_at p m ≡ Some (Val e) → occurs x e ≡ true → is_free p x m ≡ true
unfolding is_free
occurs_free p m e x at o = looked p.nodes refl
  where
    looked : (nodes : List Node) → p.nodes ≡ nodes → is_free_within (length p.nodes) p x m ≡ true
    looked [] is = let none : core_at p m ≡ None = ap (λ l. option_map (λ (d : Node). d.core) (slice_get l m)) is in absurd cc
    looked (d ∷ nodes) is =
        ap (λ l. is_free_within (length l) p x m) is
        ∙ ap (option_uses (is_free_within (length nodes) p x) x) at
        ∙ o

value_kept : (p : Program) (m : ℕ) (env : Env) (e : Expr) → core_at p m ≡ Some (Val e) → eval (keep p m env) e ≡ eval env e
value_kept p m env e at = passing_value (λ x. is_free p x m) env e (λ x o. occurs_free p m e x at o)

-- ---- the two steps

both_steps : (p : Program) (n m b : ℕ) (y : Option ℕ) (e : Expr) (env : Env) (v : Value) (frames : List Frame)
    → core_at p n ≡ Some (Let y m b) → core_at p m ≡ Some (Val e) → eval env e ≡ Some v
    → locally p 2 (thread_of (Running n env) frames) ≡ Some (resume p (frame_of p y b env) frames v)
both_steps p n m b y e env v frames outer inner is =
    let f = frame_of p y b env in
    ap (λ o. option_and_then (locally p 1) (local_at p (redex_at o env) frames)) outer
    ∙ ap (λ o. option_and_then (locally p 0) (local_at p (redex_at o (keep p m env)) (f ∷ frames))) inner
    ∙ ap (λ o. option_and_then (locally p 0) (option_map (resume p f frames) o)) (value_kept p m env e inner ∙ is)

-- of a thread that stands at a `let` of an expression that has a value
pub bound_steps : (p : Program) (s : Thread) (n m b : ℕ) (y : Option ℕ) (e : Expr) (env after : Env) (v : Value)
    → s.control ≡ Running n env → core_at p n ≡ Some (Let y m b) → core_at p m ≡ Some (Val e) → eval env e ≡ Some v
    → after ≡ keep p b (bind_name (frame_of p y b env).env y v)
    → locally p 2 s ≡ Some (thread_of (Running b after) s.frames)
bound_steps p s n m b y e env after v control outer inner is goes =
    ap (λ k. locally p 2 (thread_of k s.frames)) control
    ∙ both_steps p n m b y e env v s.frames outer inner is
    ∙ ap (λ l. Some (thread_of (Running b l) s.frames)) (sym goes)

-- ---- a frame that goes on at a `let` or a call

-- what passes the one test passes the other
filter_within : {A : Type 0} (q r : A → Bool) (xs : List A) → ((x : A) → q x ≡ true → r x ≡ true) → filter q (filter r xs) ≡ filter q xs
filter_within q r [] h = refl
filter_within q r (x ∷ xs) h =
    (elim (r x) as (λ t. r x ≡ t → filter q (if t then x ∷ filter r xs else filter r xs) ≡ filter q (x ∷ xs)) [
      | true ↦ λ is. ap (λ l. if q x then x ∷ l else l) (filter_within q r xs h)
      | false ↦ λ is.
          (elim (q x) as (λ t. q x ≡ t → filter q (filter r xs) ≡ (if t then x ∷ filter q xs else filter q xs)) [
            | true ↦ λ on. let off : r x ≡ true = h x on in absurd cc
            | false ↦ λ on. filter_within q r xs h
          ]) refl
    ]) refl

-- what passes two tests passes the third
filter_within_both : {A : Type 0} (s q r : A → Bool) (xs : List A) → ((x : A) → s x ≡ true → q x ≡ true → r x ≡ true) → filter s (filter q (filter r xs)) ≡ filter s (filter q xs)
filter_within_both s q r [] h = refl
filter_within_both s q r (x ∷ xs) h =
    (elim (r x) as (λ t. r x ≡ t → filter s (filter q (if t then x ∷ filter r xs else filter r xs)) ≡ filter s (filter q (x ∷ xs))) [
      | true ↦ λ is.
          (elim (q x) as (λ t. filter s (if t then x ∷ filter q (filter r xs) else filter q (filter r xs)) ≡ filter s (if t then x ∷ filter q xs else filter q xs)) [
            | true ↦ ap (λ l. if s x then x ∷ l else l) (filter_within_both s q r xs h)
            | false ↦ filter_within_both s q r xs h
          ])
      | false ↦ λ is.
          (elim (q x) as (λ t. q x ≡ t → filter s (filter q (filter r xs)) ≡ filter s (if t then x ∷ filter q xs else filter q xs)) [
            | true ↦ λ on.
                (elim (s x) as (λ t. s x ≡ t → filter s (filter q (filter r xs)) ≡ (if t then x ∷ filter s (filter q xs) else filter s (filter q xs))) [
                  | true ↦ λ also. let off : r x ≡ true = h x also on in absurd cc
                  | false ↦ λ also. filter_within_both s q r xs h
                ]) refl
            | false ↦ λ on. filter_within_both s q r xs h
          ]) refl
    ]) refl

-- so do all of a list of expressions
passing_values : (f : ℕ → Bool) (env : Env) (args : List Expr) → ((x : ℕ) → list_any (occurs x) args ≡ true → f x ≡ true) → eval_all (filter (λ b. f b.0) env) args ≡ eval_all env args
passing_values f env [] h = refl
passing_values f env (e ∷ args) h =
    ap (λ o. both_values o (eval_all (filter (λ b. f b.0) env) args)) (passing_value f env e (λ x o. h x (or_left (occurs x e) (list_any (occurs x) args) o)))
    ∙ ap (both_values (eval env e)) (passing_values f env args (λ x o. h x (or_right (occurs x e) (list_any (occurs x) args) o)))

module _ (p : Program) (parts : (x n : ℕ) → is_free p x n ≡ option_uses (λ k. is_free p x k) x (core_at p n)) where
  -- the values of a part are among those of its node
  part_values : (n m : ℕ) (env : Env) → ((x : ℕ) → is_free p x m ≡ true → is_free p x n ≡ true) → keep p m (keep p n env) ≡ keep p m env
  part_values n m env h = filter_within (λ e. is_free p e.0 m) (λ e. is_free p e.0 n) env (λ e. h e.0)

  uses : (n x : ℕ) (core : Core) → core_at p n ≡ Some core → core_uses (λ k. is_free p x k) x core ≡ true → is_free p x n ≡ true
  uses n x core at h = parts x n ∙ ap (option_uses (λ k. is_free p x k) x) at ∙ h

  both_true : (s t : Bool) → s ≡ true → t ≡ true → (t && s) ≡ true
  both_true s t hs ht = ap (λ w. w && s) ht ∙ hs

  other_values : (n m b : ℕ) (y : Option ℕ) (env : Env) → core_at p n ≡ Some (Let y m b) → (frame_of p y b (keep p n env)).env ≡ (frame_of p y b env).env
  other_values n m b y env at =
      filter_within_both (λ e. not (is_among e.0 (option_list y))) (λ e. is_free p e.0 b) (λ e. is_free p e.0 n) env
      (λ e s q. uses n e.0 (Let y m b) at (or_right (is_free p e.0 m) (is_free p e.0 b && not (is_among e.0 (option_list y))) (both_true (not (is_among e.0 (option_list y))) (is_free p e.0 b) s q)))

  chooses : (n m b : ℕ) (e : Expr) (env : Env) (o : Option Value) → core_at p n ≡ Some (If e m b) → choose p o m b (keep p n env) [] ≡ choose p o m b env []
  chooses n m b e env None at = refl
  chooses n m b e env (Some (Mailbox a)) at = refl
  chooses n m b e env (Some (Const UnitConst)) at = refl
  chooses n m b e env (Some (Const (IntConst i))) at = refl
  chooses n m b e env (Some (Const (TextConst t))) at = refl
  chooses n m b e env (Some (Const (BoolConst true))) at =
      ap (λ l. Some (thread_of (Running m l) []))
      (part_values n m env (λ x h. uses n x (If e m b) at (or_right (occurs x e) (is_free p x m || is_free p x b) (or_left (is_free p x m) (is_free p x b) h))))
  chooses n m b e env (Some (Const (BoolConst false))) at =
      ap (λ l. Some (thread_of (Running b l) []))
      (part_values n b env (λ x h. uses n x (If e m b) at (or_right (occurs x e) (is_free p x m || is_free p x b) (or_right (is_free p x m) (is_free p x b) h))))

  step_at : (n : ℕ) (env : Env) (k : Option Core) → core_at p n ≡ k → local_at p (redex_at k (keep p n env)) [] ≡ local_at p (redex_at k env) []
  step_at n env None at = refl
  step_at n env (Some (Val e)) at = refl
  step_at n env (Some (Let y m b)) at =
      ap (λ l. Some (thread_of (Running m l) (frame_of p y b (keep p n env) ∷ [])))
      (part_values n m env (λ x h. uses n x (Let y m b) at (or_left (is_free p x m) (is_free p x b && not (is_among x (option_list y))) h)))
      ∙ ap (λ l. Some (thread_of (Running m (keep p m env)) (record { var = y; body = b; env = l } ∷ []))) (other_values n m b y env at)
  step_at n env (Some (Call g args)) at =
      ap (λ w. enter p (function_at p g) w []) (passing_values (λ x. is_free p x n) env args (λ x h. uses n x (Call g args) at h))
  step_at n env (Some (If e m b)) at =
      ap (λ o. choose p o m b (keep p n env) []) (passing_value (λ x. is_free p x n) env e (λ x h. uses n x (If e m b) at (or_left (occurs x e) (is_free p x m || is_free p x b) h)))
      ∙ chooses n m b e env (eval env e) at
  step_at n env (Some (Print e)) at = refl
  step_at n env (Some (New i)) at = refl
  step_at n env (Some (Send x m args)) at = refl
  step_at n env (Some (Spawn m)) at = refl
  step_at n env (Some (Guard x e f cs)) at = refl

  -- a frame goes on, and takes the step that its body takes with all of the values
  pub led_to : (n : ℕ) (o : Option ℕ) (env : Env) (v : Value) (t : Thread)
      → local_step p (thread_of (Running n (bind_name env o v)) []) ≡ Some t
      → locally p 2 (thread_of (Returned v) (record { var = o; body = n; env = env } ∷ [])) ≡ Some t
  led_to n o env v t taken =
      ap (option_and_then (locally p 0)) (step_at n (bind_name env o v) (core_at p n) refl)
      ∙ ap (option_and_then (locally p 0)) taken

  -- at a let, which is opened
  pub led_to_let : (n m b : ℕ) (y o : Option ℕ) (env own rest : Env) (v : Value) (t : Thread)
      → core_at p n ≡ Some (Let y m b) → own ≡ keep p m (bind_name env o v) → rest ≡ (frame_of p y b (bind_name env o v)).env
      → t ≡ thread_of (Running m own) (record { var = y; body = b; env = rest } ∷ [])
      → locally p 2 (thread_of (Returned v) (record { var = o; body = n; env = env } ∷ [])) ≡ Some t
  led_to_let n m b y o env own rest v t at is_own is_rest is =
      led_to n o env v t
      (ap (λ c. local_at p (redex_at c (bind_name env o v)) []) at
      ∙ ap (λ l. Some (thread_of (Running m l) (frame_of p y b (bind_name env o v) ∷ []))) (sym is_own)
      ∙ ap (λ l. Some (thread_of (Running m own) (record { var = y; body = b; env = l } ∷ []))) (sym is_rest)
      ∙ ap Some (sym is))

  -- with no name for the value
  pub led_on : (n : ℕ) (o : Option ℕ) (env : Env) (v : Value) (t : Thread) → o ≡ None
      → local_step p (thread_of (Running n env) []) ≡ Some t
      → locally p 2 (thread_of (Returned v) (record { var = o; body = n; env = env } ∷ [])) ≡ Some t
  led_on n o env v t none taken = led_to n o env v t (ap (λ w. local_step p (thread_of (Running n (bind_name env w v)) [])) none ∙ taken)

pub through : {S E : Type 0} {P Q : S → Type 0} (r : Result (Option S) E) → ((s : S) → P s → Q s) → IfOk r (λ o. IfSome o P) → IfOk r (λ o. IfSome o Q)
through (Ok None) f h = tt
through (Ok (Some s)) f h = f s h
through (Err e) f h = tt
