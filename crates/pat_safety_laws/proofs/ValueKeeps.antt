-- A term that is an expression may give way to its value; and a value goes to the frame on top.
use Rattle.std.proofs.Common.{◌≡◌, ℕ, Bool, true, false, cond, nat_eq, if◌then◌else◌, List, [], ◌∷◌, Some, None, refl, sym, ap, ◌∙◌, subst, ⊎_elim}
use Rattle.std.specs.Map.{lookup, set_value}
use Rattle.std.proofs.lemmas.Bool.{eq-eqb, ne_eqb, cases_Bool, cond-true, cond-false, false_from_ne_true}
use Rattle.pat_semantics_spec.specs.Values.{Value, Mailbox, Expr, VarExpr, Literal, OpExpr, Env, value_at, eval, ValueFits}
use Rattle.pat_semantics_spec.specs.Programs.{Program, Val}
use Rattle.pat_semantics_spec.specs.WellFormed.{WellFormed}
use Rattle.pat_semantics_spec.specs.Configs.{Running, Returned, Frame, Thread, Config, thread_at, with_thread, is_mailbox, control_refers}
use Rattle.pat_semantics_spec.specs.Steps.{thread_of, resume}
use Rattle.pat_type_system_spec.specs.Types.{Returnable, TypeOf, BaseTerm, MailboxTerm, kind_of_type, mailbox_type, TypeEnv, PassesTo}
use Rattle.pat_type_system_spec.specs.Typings.{Typing, ValueTyped}
use Rattle.pat_type_system_spec.specs.Holdings.{Holding, held, as_holding, control_held, wanted}
use Rattle.pat_type_system_spec.specs.Typed.{IsTyped, ThreadFits, ControlFits}
use Rattle.pat_semantics_laws.proofs.Threads.{lookup_all}
use Rattle.pat_semantics_laws.proofs.Inversion.{StandsAt}
use Rattle.pat_type_system_laws.proofs.Nodes.{NodeFacts, node_facts, fits_kind}
use Rattle.pat_safety_laws.proofs.Refers.{is_mailbox_same, name_is, value_refers}
use Rattle.pat_safety_laws.proofs.Envs.{held_cases, HeldCases, by_variable, by_none}
use Rattle.pat_safety_laws.proofs.Envs.{env_fits}
use Rattle.pat_safety_laws.proofs.Moves.{Move, move_keeps}
use Rattle.pat_safety_laws.proofs.Args.{eval_fits, eval_name}
use Rattle.pat_safety_laws.proofs.ReturnKeeps.{return_keeps}
use Rattle.pat_type_system_laws.proofs.Passing.{passes_twice, type_passes}

-- ---- a value in place of its expression

-- what is held of a mailbox passes to the type of the expression
value_held : (t : TypeOf) (e : Expr) (g : TypeEnv) (env : Env) (v : Value) (b : ℕ) → ValueTyped t e g → eval env e ≡ Some v → ((x z : ℕ) → value_at env x ≡ Some (Mailbox b) → value_at env z ≡ Some (Mailbox b) → x ≡ z) → HeldCases g b env → PassesTo (held g b env) (if is_mailbox b v then as_holding t else None)
value_held t e g env v b h at apart (by_none none is) =
    let off : is_mailbox b v ≡ false =
    false_from_ne_true (is_mailbox b v) (λ on. let n = eval_name env e b (at ∙ ap (λ u. Some u) (is_mailbox_same b v on)) in none n.0 n.2) in
    subst (λ w. PassesTo w (if is_mailbox b v then as_holding t else None)) (sym is)
    (subst (λ w. PassesTo None w) (sym (cond-false (is_mailbox b v) (as_holding t) None off)) tt)
value_held (BaseTerm c) e g env v b h at apart (by_variable z zat is) =
    subst (λ w. PassesTo w (if is_mailbox b v then None else None)) (sym is)
    (elim (is_mailbox b v) as (λ s. PassesTo (g z) (if s then None else None)) [ true ↦ h z | false ↦ h z ])
value_held (MailboxTerm i q f) (VarExpr x) g env v b h at apart (by_variable z zat is) =
    let k = mailbox_type i q f Returnable in
    subst (λ w. PassesTo w (if is_mailbox b v then Some k else None)) (sym is)
    (⊎_elim
    (λ on.
    let same : x ≡ z = apart x z (at ∙ ap (λ u. Some u) (is_mailbox_same b v on)) zat in
    subst (λ w. PassesTo (g z) w) (sym (cond-true (is_mailbox b v) (Some k) None on))
    (subst (λ w. PassesTo (g z) w) (cond-true (nat_eq x z) (Some k) None (eq-eqb x z same)) (h z)))
    (λ off.
    let apart' : nat_eq x z ≡ false = ne_eqb x z (λ same. let sees : Some v ≡ Some (Mailbox b) = sym at ∙ ap (value_at env) same ∙ zat in let is_b : v ≡ Mailbox b = cc in let bad : true ≡ false = sym (name_is b) ∙ ap (is_mailbox b) (sym is_b) ∙ off in cc) in
    subst (λ w. PassesTo (g z) w) (sym (cond-false (is_mailbox b v) (Some k) None off))
    (subst (λ w. PassesTo (g z) w) (cond-false (nat_eq x z) (Some k) None apart') (h z)))
    (cases_Bool (is_mailbox b v)))
value_held (MailboxTerm i q f) (Literal c) g env v b h at apart (by_variable z zat is) = absurd h
value_held (MailboxTerm i q f) (OpExpr op l r) g env v b h at apart (by_variable z zat is) = absurd h

-- if a test passes, one type passes to the other
if_passes : (t : Bool) (h k : Holding) → PassesTo h k → PassesTo (if t then h else None) (if t then k else None)
if_passes true h k p = p
if_passes false h k p = tt

pub value_move : (p : Program) (y : Typing) (interfaces : ℕ → ℕ) (s : Thread) (n : ℕ) (e : Expr) (env : Env) (v : Value) → NodeFacts p y n (Val e) → ThreadFits p y interfaces s → s.control ≡ Running n env → eval env e ≡ Some v → Move p y interfaces s (Returned v)
value_move p y f s n e env v facts fits at value =
    let control = subst (λ k. ControlFits p y f k s.frames) at fits.control in
    let part = control.0 in
    let t = y.results n in
    let w = wanted p y s.frames in
    let fit = eval_fits f facts.fits.function.vars env (env_fits p y f n (Val e) env facts part) e (kind_of_type t) v facts.kinds value in
    record {
      fits = subst (λ k. ValueFits f v k) (fits_kind t w control.1) fit;
      passes = λ b. subst (λ k. PassesTo (control_held p y b k s.frames) (if is_mailbox b v then as_holding w else None)) (sym at)
          (passes_twice (held (y.envs n) b env) (if is_mailbox b v then as_holding t else None) (if is_mailbox b v then as_holding w else None)
          (value_held t e (y.envs n) env v b facts.term value (λ x z hx hz. part.different x z b hx hz) (held_cases (y.envs n) b 0 env part.keys))
          (if_passes (is_mailbox b v) (as_holding t) (as_holding w) (type_passes t w control.1)));
      refers = λ a on.
          let x = eval_name env e a (value ∙ ap (λ u. Some u) (is_mailbox_same a v on)) in
          ap (control_refers a) at ∙ value_refers env x.0 a x.2;
    }

-- ---- a thread that is put twice

pub lookup_put : (ts : List (ℕ × Thread)) (t : ℕ) (s r : Thread) → lookup (nat_eq t) ts ≡ Some s → lookup (nat_eq t) (set_value (nat_eq t) ts r) ≡ Some r
lookup_put [] t s r h = cc
lookup_put (e ∷ es) t s r h =
    (elim (nat_eq t e.0) as (λ v. nat_eq t e.0 ≡ v → cond v (Some e.1) (lookup (nat_eq t) es) ≡ Some s → lookup (nat_eq t) (cond v ((e.0, r) ∷ es) (e ∷ set_value (nat_eq t) es r)) ≡ Some r) [
      | true ↦ λ q k. cond-true (nat_eq t e.0) (Some r) (lookup (nat_eq t) es) q
      | false ↦ λ q k. cond-false (nat_eq t e.0) (Some e.1) (lookup (nat_eq t) (set_value (nat_eq t) es r)) q ∙ lookup_put es t s r k
    ]) refl h

pub put_twice : (ts : List (ℕ × Thread)) (t : ℕ) (r u : Thread) → set_value (nat_eq t) (set_value (nat_eq t) ts r) u ≡ set_value (nat_eq t) ts u
put_twice [] t r u = refl
put_twice (e ∷ es) t r u =
    (elim (nat_eq t e.0) as (λ v. nat_eq t e.0 ≡ v → set_value (nat_eq t) (cond v ((e.0, r) ∷ es) (e ∷ set_value (nat_eq t) es r)) u ≡ cond v ((e.0, u) ∷ es) (e ∷ set_value (nat_eq t) es u)) [
      | true ↦ λ q. cond-true (nat_eq t e.0) ((e.0, u) ∷ es) ((e.0, r) ∷ set_value (nat_eq t) es u) q
      | false ↦ λ q. cond-false (nat_eq t e.0) ((e.0, u) ∷ set_value (nat_eq t) es r) (e ∷ set_value (nat_eq t) (set_value (nat_eq t) es r) u) q ∙ ap (λ l. e ∷ l) (put_twice es t r u)
    ]) refl

-- the law for an expression whose value goes to a frame
pub value_keeps : (p : Program) (y : Typing) (interfaces : ℕ → ℕ) (c : Config) (t : ℕ) (s : Thread) (e : Expr) (env : Env) (f : Frame) (fs : List Frame) (v : Value) → WellFormed p → (typed : IsTyped p y interfaces c) → thread_at c t ≡ Some s → StandsAt p s.control (Val e) env → s.frames ≡ f ∷ fs → eval env e ≡ Some v → IsTyped p y interfaces (with_thread c t (resume p f fs v))
value_keeps p y interfaces c t s e env f fs v wf typed there at frames value =
    let facts = node_facts p y at.node (Val e) wf typed.typing at.term in
    let fits = lookup_all (λ s. ThreadFits p y interfaces s) c.threads t s typed.threads there in
    let r = thread_of (Returned v) (f ∷ fs) in
    let mid = move_keeps p y interfaces c t s (Returned v) typed there (value_move p y interfaces s at.node e env v facts fits at.control_is value) in
    let mid' = subst (λ l. IsTyped p y interfaces (with_thread c t (thread_of (Returned v) l))) frames mid in
    let done = return_keeps p y interfaces (with_thread c t r) t v f fs wf mid' (lookup_put c.threads t s r there) in
    subst (λ ts. IsTyped p y interfaces (record c { threads = ts })) (put_twice c.threads t r (resume p f fs v)) done
