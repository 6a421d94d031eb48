-- Look-ups in environments, and what an environment holds of a mailbox.
use Rattle.std.proofs.Common.{◌≡◌, ℕ, suc, Bool, true, false, cond, nat_eq, nat_lt, if◌then◌else◌, [], ◌∷◌, Some, None, refl, sym, ap, ◌∙◌, arith, ⊎_elim, subst}
use Rattle.std.specs.Prelude.{filter}
use Rattle.std.specs.Map.{lookup}
use Rattle.std.proofs.lemmas.Bool.{eqb-true, eqb-false, eq-eqb, ne_eqb, cond-true, cond-false, cases_Bool}
use Rattle.pat_semantics_spec.specs.Values.{Value, Mailbox, Env, value_at, bind}
use Rattle.pat_semantics_spec.specs.Programs.{Program, is_free, keep}
use Rattle.pat_semantics_spec.specs.Configs.{is_mailbox}
use Rattle.pat_type_system_spec.specs.Types.{TypeEnv}
use Rattle.pat_type_system_spec.specs.Holdings.{held}
use Rattle.pat_safety_laws.proofs.Refers.{is_mailbox_same, name_is}
use Rattle.pat_semantics_spec.specs.Orders.{AscendsFrom}
use Rattle.std.specs.Map.{keys_of}
use Rattle.pat_semantics_laws.proofs.Ascending.{value_above}
use Rattle.std.specs.Prelude.{slice_get}
use Rattle.pat_semantics_spec.specs.Values.{Kind, ValueFits}
use Rattle.pat_semantics_spec.specs.Programs.{Core}
use Rattle.pat_type_system_spec.specs.Holdings.{Holding}
use Rattle.pat_type_system_spec.specs.Typings.{Typing}
use Rattle.pat_type_system_spec.specs.Typed.{PartFits}
use Rattle.pat_type_system_laws.proofs.Nodes.{NodeFacts}
use Rattle.pat_type_system_laws.proofs.Named.{kind_same}

-- ---- look-ups

-- the value that was bound, or the one that was there
pub value_at-bind : (env : Env) (x : ℕ) (v : Value) (z : ℕ) → value_at (bind env x v) z ≡ (if nat_eq z x then Some v else value_at env z)
value_at-bind [] x v z = refl
value_at-bind (e ∷ env) x v z =
    (elim (nat_lt x e.0) as (λ t. nat_lt x e.0 ≡ t → value_at (if t then (x, v) ∷ e ∷ env else if nat_eq x e.0 then (x, v) ∷ env else e ∷ bind env x v) z ≡ (if nat_eq z x then Some v else value_at (e ∷ env) z)) [
      | true ↦ λ q. refl
      | false ↦ λ q.
          (elim (nat_eq x e.0) as (λ t. nat_eq x e.0 ≡ t → value_at (if t then (x, v) ∷ env else e ∷ bind env x v) z ≡ (if nat_eq z x then Some v else value_at (e ∷ env) z)) [
            | true ↦ λ r.
                let same : x ≡ e.0 = eqb-true x e.0 r in
                (elim (nat_eq z x) as (λ t. nat_eq z x ≡ t → cond t (Some v) (lookup (nat_eq z) env) ≡ (if t then Some v else cond (nat_eq z e.0) (Some e.1) (lookup (nat_eq z) env))) [
                  | true ↦ λ w. refl
                  | false ↦ λ w. sym (cond-false (nat_eq z e.0) (Some e.1) (lookup (nat_eq z) env) (ap (nat_eq z) (sym same) ∙ w))
                ]) refl
            | false ↦ λ r.
                (elim (nat_eq z e.0) as (λ t. nat_eq z e.0 ≡ t → cond t (Some e.1) (value_at (bind env x v) z) ≡ (if nat_eq z x then Some v else cond t (Some e.1) (lookup (nat_eq z) env))) [
                  | true ↦ λ w.
                      let same : z ≡ e.0 = eqb-true z e.0 w in
                      let apart : nat_eq z x ≡ false = ne_eqb z x (λ q. eqb-false x e.0 r (sym q ∙ same)) in
                      sym (cond-false (nat_eq z x) (Some v) (Some e.1) apart)
                  | false ↦ λ w. value_at-bind env x v z
                ]) refl
          ]) refl
    ]) refl

-- the value of a free variable, and no other
pub value_at-filter : (f : ℕ → Bool) (env : Env) (z : ℕ) → value_at (filter (λ b. f b.0) env) z ≡ (if f z then value_at env z else None)
value_at-filter f [] z = elim (f z) as (λ t. value_at [] z ≡ (if t then value_at [] z else None)) [ true ↦ refl | false ↦ refl ]
value_at-filter f (e ∷ env) z =
    (elim (f e.0) as (λ t. f e.0 ≡ t → value_at (cond t (e ∷ filter (λ b. f b.0) env) (filter (λ b. f b.0) env)) z ≡ (if f z then value_at (e ∷ env) z else None)) [
      | true ↦ λ q.
          (elim (nat_eq z e.0) as (λ t. nat_eq z e.0 ≡ t → cond t (Some e.1) (value_at (filter (λ b. f b.0) env) z) ≡ (if f z then cond t (Some e.1) (value_at env z) else None)) [
            | true ↦ λ w. sym (cond-true (f z) (Some e.1) None (ap f (eqb-true z e.0 w) ∙ q))
            | false ↦ λ w. value_at-filter f env z
          ]) refl
      | false ↦ λ q.
          value_at-filter f env z
          ∙ (elim (nat_eq z e.0) as (λ t. nat_eq z e.0 ≡ t → (if f z then value_at env z else None) ≡ (if f z then cond t (Some e.1) (value_at env z) else None)) [
            | true ↦ λ w.
                let no : f z ≡ false = ap f (eqb-true z e.0 w) ∙ q in
                cond-false (f z) (value_at env z) None no ∙ sym (cond-false (f z) (Some e.1) None no)
            | false ↦ λ w. refl
          ]) refl
    ]) refl

pub value_at-keep : (p : Program) (n : ℕ) (env : Env) (z : ℕ) → value_at (keep p n env) z ≡ (if is_free p z n then value_at env z else None)
value_at-keep p n env z = value_at-filter (λ x. is_free p x n) env z

-- a value that is kept is that of a free variable
pub kept : (p : Program) (n : ℕ) (env : Env) (z : ℕ) (v : Value) → value_at (keep p n env) z ≡ Some v → (is_free p z n ≡ true) × (value_at env z ≡ Some v)
kept p n env z v h =
    (elim (is_free p z n) as (λ t. is_free p z n ≡ t → (if t then value_at env z else None) ≡ Some v → (is_free p z n ≡ true) × (value_at env z ≡ Some v)) [
      | true ↦ λ q k. (q, k)
      | false ↦ λ q k. cc
    ]) refl (sym (value_at-keep p n env z) ∙ h)

-- ---- what is held of a mailbox

-- a variable names the mailbox, and what is held is its type; or none does, and nothing is held
pub data HeldCases (g : TypeEnv) (b : ℕ) (env : Env) : Type 0 where
  by_variable : (z : ℕ) → value_at env z ≡ Some (Mailbox b) → held g b env ≡ g z → HeldCases g b env
  by_none : ((z : ℕ) → value_at env z ≡ Some (Mailbox b) → ⊥) → held g b env ≡ None → HeldCases g b env

held_on : (g : TypeEnv) (b : ℕ) (e : ℕ × Value) (env : Env) → AscendsFrom (suc e.0) (keys_of env) → is_mailbox b e.1 ≡ false → HeldCases g b env → HeldCases g b (e ∷ env)
held_on g b e env a off (by_variable z at is) =
    let above = value_above (suc e.0) env z (Mailbox b) a at in
    let apart : nat_eq z e.0 ≡ false = ne_eqb z e.0 (λ q. omega arith) in
    by_variable z (cond-false (nat_eq z e.0) (Some e.1) (lookup (nat_eq z) env) apart ∙ at) (cond-false (is_mailbox b e.1) (g e.0) (held g b env) off ∙ is)
held_on g b e env a off (by_none none is) =
    by_none
    (λ z h. (elim (nat_eq z e.0) as (λ t. cond t (Some e.1) (lookup (nat_eq z) env) ≡ Some (Mailbox b) → ⊥) [
      | true ↦ λ k. let same : e.1 ≡ Mailbox b = cc in true_false (sym (name_is b) ∙ ap (is_mailbox b) (sym same) ∙ off)
      | false ↦ λ k. none z k
    ]) h)
    (cond-false (is_mailbox b e.1) (g e.0) (held g b env) off ∙ is)
  where
    true_false : true ≡ false → ⊥
    true_false e = cc

pub held_cases : (g : TypeEnv) (b n : ℕ) (env : Env) → AscendsFrom n (keys_of env) → HeldCases g b env
held_cases g b n [] a = by_none (λ z h. cc) refl
held_cases g b n (e ∷ env) a =
    ⊎_elim
    (λ found. by_variable e.0 (cond-true (nat_eq e.0 e.0) (Some e.1) (lookup (nat_eq e.0) env) (eq-eqb e.0 e.0 refl) ∙ ap (λ v. Some v) (is_mailbox_same b e.1 found)) (cond-true (is_mailbox b e.1) (g e.0) (held g b env) found))
    (λ off. held_on g b e env a.1 off (held_cases g b (suc e.0) env a.1))
    (cases_Bool (is_mailbox b e.1))

-- what holds of no holding and of each variable's type holds of what an environment holds
pub held_all : (g : TypeEnv) (b : ℕ) (P : Holding → Type 0) → P None → ((x : ℕ) → P (g x)) → (env : Env) → P (held g b env)
held_all g b P none each [] = none
held_all g b P none each (e ∷ env) =
    elim (is_mailbox b e.1) as (λ v. P (if v then g e.0 else held g b env)) [
      | true ↦ each e.0
      | false ↦ held_all g b P none each env
    ]

-- a variable's value is of the variable's kind
pub env_fits : (p : Program) (y : Typing) (interfaces : ℕ → ℕ) (n : ℕ) (core : Core) (env : Env) (facts : NodeFacts p y n core) → PartFits p interfaces n [] env → (x : ℕ) (v : Value) (k : Kind) → value_at env x ≡ Some v → slice_get facts.fits.function.vars x ≡ Some k → ValueFits interfaces v k
env_fits p y f n core env facts part x v k at is =
    let h = part.kinds x v at in
    let e : Some h.0 ≡ Some k = sym (kind_same p y n x h.0 core facts h.1) ∙ is in
    let same : h.0 ≡ k = cc in
    subst (λ w. ValueFits f v w) same h.2
