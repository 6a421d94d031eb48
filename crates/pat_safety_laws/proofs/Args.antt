-- The values of expressions: their kinds, and the mailboxes among them.
use Rattle.std.proofs.Common.{◌≡◌, ℕ, suc, true, false, nat_eq, List, [], ◌∷◌, map, Option, Some, None, refl, sym, ap, ◌∙◌, subst, ⊎_elim, arith, zero, ◌+◌, if◌then◌else◌, ◌||◌, ◌<◌, length}
use Rattle.std.specs.Prelude.{is_some, slice_get, option_map}
use Rattle.std.specs.List.{AllByRecursion, IsDistinct, list_any}
use Rattle.std.proofs.lemmas.Bool.{or_cases, eqb-true, eqb-false, ne_eqb, cond-true, cond-false, false_from_ne_true, eq-eqb, or_left, or_right}
use Rattle.pat_semantics_spec.specs.Values.{Base, BaseInt, BaseBool, BaseText, Value, Const, Mailbox, Constant, BoolConst, IntConst, TextConst, Kind, Plain, MailboxOf, Op, Add, Sub, Mul, Equal, Less, Expr, VarExpr, Literal, OpExpr, Env, value_at, base_of, apply, apply_values, eval, eval_all, both_values, ValueFits, ValuesFit}
use Rattle.pat_semantics_spec.specs.Programs.{Sort, kind_of}
use Rattle.pat_semantics_spec.specs.WellFormed.{op_kind, expr_kind, HaveKinds}
use Rattle.pat_semantics_spec.specs.Configs.{is_mailbox, env_refers}
use Rattle.pat_type_system_spec.specs.Types.{MailboxType, TypeEnv, PassesTo}
use Rattle.pat_type_system_spec.specs.Typings.{with_option, args_need, mailbox_args, if_mailbox}
use Rattle.pat_type_system_spec.specs.Holdings.{payload_held, held}
use Rattle.pat_type_system_spec.specs.Typed.{mailboxes_of}
use Rattle.pat_safety_laws.proofs.Refers.{is_mailbox_same, name_is, payload_none}
use Rattle.pat_type_system_laws.proofs.Environments.{option_here, option_there}
use Rattle.pat_safety_laws.proofs.Payloads.{names_head, names_tail}
use Rattle.pat_type_system_laws.proofs.Named.{PlacesTyped}
use Rattle.pat_semantics_laws.proofs.Lists.{distinct_parts}
use Rattle.pat_semantics_spec.specs.Steps.{numbered}
use Rattle.pat_safety_laws.proofs.Envs.{held_cases, HeldCases, by_variable, by_none}
use Rattle.pat_semantics_spec.specs.Orders.{AscendsFrom}
use Rattle.std.specs.Map.{keys_of}

-- ---- the value of an expression has its kind

-- the base type that an operator gives
abbrev op_base : Op → Base
op_base Add = BaseInt
op_base Sub = BaseInt
op_base Mul = BaseInt
op_base Equal = BaseBool
op_base Less = BaseBool

const_base : {d e : Constant} → Some d ≡ Some e → base_of e ≡ base_of d
const_base {d} {e} q = let same : d ≡ e = cc in ap base_of (sym same)

apply_base : (op : Op) (a b c : Constant) → apply op a b ≡ Some c → base_of c ≡ op_base op
apply_base Add (IntConst m) (IntConst n) c h = const_base h
apply_base Sub (IntConst m) (IntConst n) c h = const_base h
apply_base Mul (IntConst m) (IntConst n) c h = const_base h
apply_base Equal (IntConst m) (IntConst n) c h = const_base h
apply_base Equal (BoolConst x) (BoolConst z) c h = const_base h
apply_base Equal (TextConst s) (TextConst t) c h = const_base h
apply_base Less (IntConst m) (IntConst n) c h = const_base h
apply_base _ _ _ c h = cc

op_kind_is : (op : Op) (a b : Option Kind) (k : Kind) → op_kind op a b ≡ Some k → k ≡ Plain (op_base op)
op_kind_is Add (Some (Plain BaseInt)) (Some (Plain BaseInt)) k h = cc
op_kind_is Sub (Some (Plain BaseInt)) (Some (Plain BaseInt)) k h = cc
op_kind_is Mul (Some (Plain BaseInt)) (Some (Plain BaseInt)) k h = cc
op_kind_is Equal (Some (Plain BaseInt)) (Some (Plain BaseInt)) k h = cc
op_kind_is Equal (Some (Plain BaseBool)) (Some (Plain BaseBool)) k h = cc
op_kind_is Equal (Some (Plain BaseText)) (Some (Plain BaseText)) k h = cc
op_kind_is Less (Some (Plain BaseInt)) (Some (Plain BaseInt)) k h = cc
op_kind_is _ _ _ k h = cc

-- the value of an operator is of base type
pub record OpValue (op : Op) (v : Value) : Type 0 where
  pub constant : Constant
  pub is : v ≡ Const constant
  pub base : base_of constant ≡ op_base op

op_value_of : (op : Op) (a b : Constant) (v : Value) (o : Option Constant) → apply op a b ≡ o → option_map Const o ≡ Some v → OpValue op v
op_value_of op a b v None e h = cc
op_value_of op a b v (Some c) e h = let same : Const c ≡ v = cc in record { constant = c; is = sym same; base = apply_base op a b c e }

op_value : (op : Op) (a b : Option Value) (v : Value) → apply_values op a b ≡ Some v → OpValue op v
op_value op (Some (Const a)) (Some (Const b)) v h = op_value_of op a b v (apply op a b) refl h
op_value op _ _ v h = cc

-- the values of a list's first expression and of the others
pub record AllParts (env : Env) (e : Expr) (es : List Expr) (vs : List Value) : Type 0 where
  pub first : Value
  pub rest : List Value
  pub first_is : eval env e ≡ Some first
  pub rest_is : eval_all env es ≡ Some rest
  pub all_is : vs ≡ first ∷ rest

all_parts_of : (env : Env) (e : Expr) (es : List Expr) (vs : List Value) (o : Option Value) (os : Option (List Value)) → eval env e ≡ o → eval_all env es ≡ os → both_values o os ≡ Some vs → AllParts env e es vs
all_parts_of env e es vs (Some v) (Some ws) q r h = record { first = v; rest = ws; first_is = q; rest_is = r; all_is = cc }
all_parts_of env e es vs (Some v) None q r h = cc
all_parts_of env e es vs None os q r h = cc

pub all_parts : (env : Env) (e : Expr) (es : List Expr) (vs : List Value) → eval_all env (e ∷ es) ≡ Some vs → AllParts env e es vs
all_parts env e es vs h = all_parts_of env e es vs (eval env e) (eval_all env es) refl refl h

-- a value that is a mailbox is that of a variable
pub eval_name : (env : Env) (e : Expr) (a : ℕ) → eval env e ≡ Some (Mailbox a) → (x : ℕ) × (e ≡ VarExpr x) × (value_at env x ≡ Some (Mailbox a))
eval_name env (VarExpr x) a h = (x, refl, h)
eval_name env (Literal c) a h = cc
eval_name env (OpExpr op l r) a h = let v = op_value op (eval env l) (eval env r) (Mailbox a) h in let e = v.is in cc

module _ (interfaces : ℕ → ℕ) (vars : List Kind) (env : Env) (fit : (x : ℕ) (v : Value) (k : Kind) → value_at env x ≡ Some v → slice_get vars x ≡ Some k → ValueFits interfaces v k) where
  pub eval_fits : (e : Expr) (k : Kind) (v : Value) → expr_kind vars e ≡ Some k → eval env e ≡ Some v → ValueFits interfaces v k
  eval_fits (VarExpr x) k v hk hv = fit x v k hv hk
  eval_fits (Literal c) k v hk hv =
      let sk : Plain (base_of c) ≡ k = cc in
      let sv : Const c ≡ v = cc in
      subst (λ w. ValueFits interfaces w k) sv (subst (λ w. ValueFits interfaces (Const c) w) sk refl)
  eval_fits (OpExpr op a b) k v hk hv =
      let o = op_value op (eval env a) (eval env b) v hv in
      let sk = op_kind_is op (expr_kind vars a) (expr_kind vars b) k hk in
      subst (λ w. ValueFits interfaces w k) (sym o.is) (subst (λ w. ValueFits interfaces (Const o.constant) w) (sym sk) o.base)

  pub all_fit : (es : List Expr) (ks : List Kind) (vs : List Value) → HaveKinds vars es ks → eval_all env es ≡ Some vs → ValuesFit interfaces vs ks
  all_fit [] [] vs h e = let same : [] ≡ vs = cc in subst (λ w. ValuesFit interfaces w []) same tt
  all_fit [] (k ∷ ks) vs h e = absurd h
  all_fit (x ∷ es) [] vs h e = absurd h
  all_fit (x ∷ es) (k ∷ ks) vs h e =
      let p = all_parts env x es vs e in
      subst (λ w. ValuesFit interfaces w (k ∷ ks)) (sym p.all_is) (eval_fits x k p.first h.0 p.first_is, all_fit es ks p.rest h.1 p.rest_is)

  -- ---- a mailbox among arguments

  -- the first place where it stands gives what is needed of its variable
  pub args_held : (b x : ℕ) → ((z : ℕ) → value_at env z ≡ Some (Mailbox b) → z ≡ x) → value_at env x ≡ Some (Mailbox b) → (types : TypeEnv) (k : ℕ) (es : List Expr) (ss : List Sort) (vs : List Value) → HaveKinds vars es (map kind_of ss) → PlacesTyped types k ss → eval_all env es ≡ Some vs → args_need types k es x ≡ payload_held b types k vs
  args_held b x only at types k [] ss vs h p e = let same : [] ≡ vs = cc in ap (payload_held b types k) same
  args_held b x only at types k (a ∷ es) [] vs h p e = absurd h
  args_held b x only at types k (VarExpr z ∷ es) (s ∷ ss) vs h p e =
      let q = all_parts env (VarExpr z) es vs e in
      let rest = args_held b x only at types (suc k) es ss q.rest h.1 p.1 q.rest_is in
      let turned = ap (payload_held b types k) (sym q.all_is) in
      (elim (nat_eq z x) as (λ t. nat_eq z x ≡ t → with_option z (types k) (args_need types (suc k) es) x ≡ payload_held b types k vs) [
        | true ↦ λ w.
            let same : z ≡ x = eqb-true z x w in
            let sees : Some q.first ≡ Some (Mailbox b) = sym q.first_is ∙ ap (value_at env) same ∙ at in
            let is : q.first ≡ Mailbox b = cc in
            let on : is_mailbox b q.first ≡ true = ap (is_mailbox b) is ∙ name_is b in
            let some = typed_place (kind_of s) refl (subst (λ u. ValueFits interfaces u (kind_of s)) is (fit z q.first (kind_of s) q.first_is h.0)) (p.0) in
            option_here z (types k) (args_need types (suc k) es) x some w ∙ sym (cond-true (is_mailbox b q.first) (types k) (payload_held b types (suc k) q.rest) on) ∙ turned
        | false ↦ λ w.
            let off : is_mailbox b q.first ≡ false = false_from_ne_true (is_mailbox b q.first) (λ on. eqb-false z x w (only z (q.first_is ∙ ap (λ u. Some u) (is_mailbox_same b q.first on)))) in
            option_there z (types k) (args_need types (suc k) es) x w ∙ rest ∙ sym (cond-false (is_mailbox b q.first) (types k) (payload_held b types (suc k) q.rest) off) ∙ turned
      ]) refl
    where
      typed_place : (kind : Kind) → kind_of s ≡ kind → ValueFits interfaces (Mailbox b) (kind_of s) → ((i : ℕ) → kind_of s ≡ MailboxOf i → is_some (types k) ≡ true) → is_some (types k) ≡ true
      typed_place (Plain c) e f typed = absurd (subst (λ w. ValueFits interfaces (Mailbox b) w) e f)
      typed_place (MailboxOf i) e f typed = typed i e
  args_held b x only at types k (Literal c ∷ es) (s ∷ ss) vs h p e =
      let q = all_parts env (Literal c) es vs e in
      let off : is_mailbox b q.first ≡ false = false_from_ne_true (is_mailbox b q.first) (λ on. let same = is_mailbox_same b q.first on in let f = q.first_is in cc) in
      args_held b x only at types (suc k) es ss q.rest h.1 p.1 q.rest_is ∙ sym (cond-false (is_mailbox b q.first) (types k) (payload_held b types (suc k) q.rest) off) ∙ ap (payload_held b types k) (sym q.all_is)
  args_held b x only at types k (OpExpr op l r ∷ es) (s ∷ ss) vs h p e =
      let q = all_parts env (OpExpr op l r) es vs e in
      let v = op_value op (eval env l) (eval env r) q.first q.first_is in
      let off : is_mailbox b q.first ≡ false = ap (is_mailbox b) v.is in
      args_held b x only at types (suc k) es ss q.rest h.1 p.1 q.rest_is ∙ sym (cond-false (is_mailbox b q.first) (types k) (payload_held b types (suc k) q.rest) off) ∙ ap (payload_held b types k) (sym q.all_is)

-- a mailbox among the values of expressions is among the values of variables
pub args_refer : (env : Env) (b : ℕ) (es : List Expr) (vs : List Value) → eval_all env es ≡ Some vs → list_any (is_mailbox b) vs ≡ true → (x : ℕ) × (value_at env x ≡ Some (Mailbox b))
args_refer env b [] vs e h = let same : [] ≡ vs = cc in let f : list_any (is_mailbox b) [] ≡ true = ap (λ w. list_any (is_mailbox b) w) same ∙ h in cc
args_refer env b (a ∷ es) vs e h =
    let q = all_parts env a es vs e in
    let g : list_any (is_mailbox b) (q.first ∷ q.rest) ≡ true = ap (λ w. list_any (is_mailbox b) w) (sym q.all_is) ∙ h in
    ⊎_elim
    (λ l. let n = eval_name env a b (q.first_is ∙ ap (λ u. Some u) (is_mailbox_same b q.first l)) in (n.0, n.2))
    (λ r. args_refer env b es q.rest q.rest_is r)
    (or_cases (is_mailbox b q.first) (list_any (is_mailbox b) q.rest) g)

-- a mailbox whose variable is none of the mailbox arguments isn't among the values
module _ (interfaces : ℕ → ℕ) (vars : List Kind) (env : Env) (fit : (x : ℕ) (v : Value) (k : Kind) → value_at env x ≡ Some v → slice_get vars x ≡ Some k → ValueFits interfaces v k) (apart : (x z a : ℕ) → value_at env x ≡ Some (Mailbox a) → value_at env z ≡ Some (Mailbox a) → x ≡ z) where
  typed_here : (b k : ℕ) (types : TypeEnv) (s : Sort) (v : Value) → ValueFits interfaces v (kind_of s) → v ≡ Mailbox b → ((i : ℕ) → kind_of s ≡ MailboxOf i → is_some (types k) ≡ true) → is_some (types k) ≡ true
  typed_here b k types s v f is typed = go (kind_of s) refl
    where
      go : (kind : Kind) → kind_of s ≡ kind → is_some (types k) ≡ true
      go (Plain c) e = absurd (subst (λ w. ValueFits interfaces (Mailbox b) w) e (subst (λ u. ValueFits interfaces u (kind_of s)) is f))
      go (MailboxOf i) e = typed i e

  mailbox_first : (o : Option MailboxType) (x : ℕ) (xs : List ℕ) → is_some o ≡ true → if_mailbox o x xs ≡ x ∷ xs
  mailbox_first None x xs h = cc
  mailbox_first (Some a) x xs h = refl

  mailbox_tail : (P : ℕ → Type 0) (o : Option MailboxType) (x : ℕ) (xs : List ℕ) → AllByRecursion P (if_mailbox o x xs) → AllByRecursion P xs
  mailbox_tail P None x xs h = h
  mailbox_tail P (Some a) x xs h = h.1

  args_tail : (P : ℕ → Type 0) (types : TypeEnv) (k : ℕ) (e : Expr) (es : List Expr) → AllByRecursion P (mailbox_args types k (e ∷ es)) → AllByRecursion P (mailbox_args types (suc k) es)
  args_tail P types k (VarExpr x) es h = mailbox_tail P (types k) x (mailbox_args types (suc k) es) h
  args_tail P types k (Literal c) es h = h
  args_tail P types k (OpExpr op a b) es h = h

  args_head : (P : ℕ → Type 0) (types : TypeEnv) (k x : ℕ) (es : List Expr) → is_some (types k) ≡ true → AllByRecursion P (mailbox_args types k (VarExpr x ∷ es)) → P x
  args_head P types k x es some h = (subst (AllByRecursion P) (mailbox_first (types k) x (mailbox_args types (suc k) es) some) h).0

  pub names_apart : (b x : ℕ) → value_at env x ≡ Some (Mailbox b) → (types : TypeEnv) (k : ℕ) (es : List Expr) (ss : List Sort) (vs : List Value) → HaveKinds vars es (map kind_of ss) → PlacesTyped types k ss → eval_all env es ≡ Some vs → AllByRecursion (λ z. nat_eq x z ≡ false) (mailbox_args types k es) → AllByRecursion (λ c. nat_eq b c ≡ false) (mailboxes_of vs)
  names_apart b x at types k [] ss vs h p e a = let same : [] ≡ vs = cc in subst (λ w. AllByRecursion (λ c. nat_eq b c ≡ false) (mailboxes_of w)) same tt
  names_apart b x at types k (y ∷ es) [] vs h p e a = absurd h
  names_apart b x at types k (y ∷ es) (s ∷ ss) vs h p e a =
      let q = all_parts env y es vs e in
      let rest = names_apart b x at types (suc k) es ss q.rest h.1 p.1 q.rest_is (args_tail (λ z. nat_eq x z ≡ false) types k y es a) in
      subst (λ w. AllByRecursion (λ c. nat_eq b c ≡ false) (mailboxes_of w)) (sym q.all_is) (go q.first q.rest q.first_is rest)
    where
      go : (v : Value) (ws : List Value) → eval env y ≡ Some v → AllByRecursion (λ c. nat_eq b c ≡ false) (mailboxes_of ws) → AllByRecursion (λ c. nat_eq b c ≡ false) (mailboxes_of (v ∷ ws))
      go (Const c) ws f rest = rest
      go (Mailbox c) ws f rest =
          let n = eval_name env y c f in
          let fits = eval_fits interfaces vars env fit y (kind_of s) (Mailbox c) h.0 f in
          let some = typed_here c k types s (Mailbox c) fits refl p.0 in
          let off = args_head (λ z. nat_eq x z ≡ false) types k n.0 es some (subst (λ (u : Expr). AllByRecursion (λ z. nat_eq x z ≡ false) (mailbox_args types k (u ∷ es))) n.1 a) in
          (ne_eqb b c (λ same. eqb-false x n.0 off (apart x n.0 b at (n.2 ∙ ap (λ u. Some (Mailbox u)) (sym same)))), rest)

  distinct_mailbox : (o : Option MailboxType) (x : ℕ) (xs : List ℕ) → IsDistinct nat_eq (if_mailbox o x xs) → IsDistinct nat_eq xs
  distinct_mailbox None x xs d = d
  distinct_mailbox (Some a) x xs d = (distinct_parts x xs d).1

  args_rest : (types : TypeEnv) (k : ℕ) (e : Expr) (es : List Expr) → IsDistinct nat_eq (mailbox_args types k (e ∷ es)) → IsDistinct nat_eq (mailbox_args types (suc k) es)
  args_rest types k (VarExpr x) es h = distinct_mailbox (types k) x (mailbox_args types (suc k) es) h
  args_rest types k (Literal c) es h = h
  args_rest types k (OpExpr op a b) es h = h

  args_apart : (types : TypeEnv) (k x : ℕ) (es : List Expr) → is_some (types k) ≡ true → IsDistinct nat_eq (mailbox_args types k (VarExpr x ∷ es)) → AllByRecursion (λ z. nat_eq x z ≡ false) (mailbox_args types (suc k) es)
  args_apart types k x es some d = (distinct_parts x (mailbox_args types (suc k) es) (subst (IsDistinct nat_eq) (mailbox_first (types k) x (mailbox_args types (suc k) es) some) d)).0

  pub names_distinct : (types : TypeEnv) (k : ℕ) (es : List Expr) (ss : List Sort) (vs : List Value) → HaveKinds vars es (map kind_of ss) → PlacesTyped types k ss → eval_all env es ≡ Some vs → IsDistinct nat_eq (mailbox_args types k es) → IsDistinct nat_eq (mailboxes_of vs)
  unfolding IsDistinct
  names_distinct types k [] ss vs h p e d = let same : [] ≡ vs = cc in subst (λ w. IsDistinct nat_eq (mailboxes_of w)) same tt
  names_distinct types k (y ∷ es) [] vs h p e d = absurd h
  names_distinct types k (y ∷ es) (s ∷ ss) vs h p e d =
      let q = all_parts env y es vs e in
      let rest = names_distinct types (suc k) es ss q.rest h.1 p.1 q.rest_is (args_rest types k y es d) in
      subst (λ w. IsDistinct nat_eq (mailboxes_of w)) (sym q.all_is) (go q.first q.rest q.first_is q.rest_is rest)
    where
      go : (v : Value) (ws : List Value) → eval env y ≡ Some v → eval_all env es ≡ Some ws → IsDistinct nat_eq (mailboxes_of ws) → IsDistinct nat_eq (mailboxes_of (v ∷ ws))
      go (Const c) ws f g rest = rest
      go (Mailbox c) ws f g rest =
          let n = eval_name env y c f in
          let fits = eval_fits interfaces vars env fit y (kind_of s) (Mailbox c) h.0 f in
          let some = typed_here c k types s (Mailbox c) fits refl p.0 in
          let off = args_apart types k n.0 es some (subst (λ (u : Expr). IsDistinct nat_eq (mailbox_args types k (u ∷ es))) n.1 d) in
          (names_apart c n.0 n.2 types (suc k) es ss ws h.1 p.1 g off, rest)

-- ---- values under numbers

pub numbered_at : (k : ℕ) (vs : List Value) (j : ℕ) → value_at (numbered k vs) (k + j) ≡ slice_get vs j
numbered_at k [] j = refl
numbered_at k (v ∷ vs) zero = cond-true (nat_eq (k + 0) k) (Some v) (value_at (numbered (suc k) vs) (k + 0)) (eq-eqb (k + 0) k (omega arith))
numbered_at k (v ∷ vs) (suc j) =
    let same : suc k + j ≡ k + suc j = omega arith in
    cond-false (nat_eq (k + suc j) k) (Some v) (value_at (numbered (suc k) vs) (k + suc j)) (ne_eqb (k + suc j) k (λ q. omega arith))
    ∙ ap (value_at (numbered (suc k) vs)) (sym same)
    ∙ numbered_at (suc k) vs j

pub place_at : (vs : List Value) (z : ℕ) → value_at (numbered 0 vs) z ≡ slice_get vs z
place_at vs z = let same : z ≡ 0 + z = omega arith in ap (value_at (numbered 0 vs)) same ∙ numbered_at 0 vs z

-- what is held of values under numbers is held as of a message's
pub numbered_held : (types : TypeEnv) (b k : ℕ) (vs : List Value) → held types b (numbered k vs) ≡ payload_held b types k vs
numbered_held types b k [] = refl
numbered_held types b k (v ∷ vs) = ap (λ h. if is_mailbox b v then types k else h) (numbered_held types b (suc k) vs)

pub numbered_refers : (b k : ℕ) (vs : List Value) → env_refers b (numbered k vs) ≡ list_any (is_mailbox b) vs
numbered_refers b k [] = refl
numbered_refers b k (v ∷ vs) = ap (λ t. is_mailbox b v || t) (numbered_refers b (suc k) vs)

pub place_any : (b : ℕ) (vs : List Value) (z : ℕ) → slice_get vs z ≡ Some (Mailbox b) → list_any (is_mailbox b) vs ≡ true
place_any b [] z h = cc
place_any b (v ∷ vs) zero h = let same : v ≡ Mailbox b = cc in or_left (is_mailbox b v) (list_any (is_mailbox b) vs) (ap (is_mailbox b) same ∙ name_is b)
place_any b (v ∷ vs) (suc z) h = or_right (is_mailbox b v) (list_any (is_mailbox b) vs) (place_any b vs z h)

pub places_apart : (vs : List Value) → IsDistinct nat_eq (mailboxes_of vs) → (z w b : ℕ) → slice_get vs z ≡ Some (Mailbox b) → slice_get vs w ≡ Some (Mailbox b) → z ≡ w
places_apart [] d z w b hz hw = cc
places_apart (v ∷ vs) d zero zero b hz hw = refl
places_apart (v ∷ vs) d zero (suc w) b hz hw =
    let same : v ≡ Mailbox b = cc in
    let off = names_head b vs (subst (λ (u : Value). IsDistinct nat_eq (mailboxes_of (u ∷ vs))) same d) in
    let bad : true ≡ false = sym (place_any b vs w hw) ∙ off in cc
places_apart (v ∷ vs) d (suc z) zero b hz hw =
    let same : v ≡ Mailbox b = cc in
    let off = names_head b vs (subst (λ (u : Value). IsDistinct nat_eq (mailboxes_of (u ∷ vs))) same d) in
    let bad : true ≡ false = sym (place_any b vs z hz) ∙ off in cc
places_apart (v ∷ vs) d (suc z) (suc w) b hz hw = ap (λ k. suc k) (places_apart vs (names_tail v vs d) z w b hz hw)

-- a place of a signature has a value, of its kind
pub fit_some : (interfaces : ℕ → ℕ) (vs : List Value) (ss : List Sort) (z : ℕ) → ValuesFit interfaces vs (map kind_of ss) → z < length ss → (v : Value) × (slice_get vs z ≡ Some v)
fit_some f vs [] z h l = absurd (omega arith)
fit_some f [] (s ∷ ss) z h l = absurd h
fit_some f (v ∷ vs) (s ∷ ss) zero h l = (v, refl)
fit_some f (v ∷ vs) (s ∷ ss) (suc z) h l = fit_some f vs ss z h.1 (omega arith)

pub fit_kind : (interfaces : ℕ → ℕ) (vs : List Value) (ks : List Kind) (z : ℕ) (v : Value) → ValuesFit interfaces vs ks → slice_get vs z ≡ Some v → (k : Kind) × (slice_get ks z ≡ Some k) × ValueFits interfaces v k
fit_kind f [] ks z v h at = cc
fit_kind f (w ∷ vs) [] z v h at = absurd h
fit_kind f (w ∷ vs) (k ∷ ks) zero v h at = let same : w ≡ v = cc in (k, refl, subst (λ u. ValueFits f u k) same h.0)
fit_kind f (w ∷ vs) (k ∷ ks) (suc z) v h at = fit_kind f vs ks z v h.1 at

-- ---- what is held of arguments

-- what is held of a mailbox passes to what its place among the arguments has
pub args_pass : (interfaces : ℕ → ℕ) (vars : List Kind) (env : Env) → ((x : ℕ) (v : Value) (k : Kind) → value_at env x ≡ Some v → slice_get vars x ≡ Some k → ValueFits interfaces v k) → AscendsFrom 0 (keys_of env) → ((x z a : ℕ) → value_at env x ≡ Some (Mailbox a) → value_at env z ≡ Some (Mailbox a) → x ≡ z) → (g types : TypeEnv) (es : List Expr) (ss : List Sort) (vs : List Value) → HaveKinds vars es (map kind_of ss) → PlacesTyped types 0 ss → eval_all env es ≡ Some vs → (b : ℕ) → ((x : ℕ) → value_at env x ≡ Some (Mailbox b) → PassesTo (g x) (args_need types 0 es x)) → PassesTo (held g b env) (payload_held b types 0 vs)
args_pass f vars env fit keys apart g types es ss vs kinds places values b passes = go (held_cases g b 0 env keys)
  where
    go : HeldCases g b env → PassesTo (held g b env) (payload_held b types 0 vs)
    go (by_variable x at is) =
        subst (λ w. PassesTo w (payload_held b types 0 vs)) (sym is)
        (subst (λ w. PassesTo (g x) w) (args_held f vars env fit b x (λ z hz. apart z x b hz at) at types 0 es ss vs kinds places values) (passes x at))
    go (by_none none is) =
        let off : list_any (is_mailbox b) vs ≡ false = false_from_ne_true (list_any (is_mailbox b) vs) (λ on. let r = args_refer env b es vs values on in none r.0 r.1) in
        subst (λ w. PassesTo w (payload_held b types 0 vs)) (sym is) (subst (λ w. PassesTo None w) (sym (payload_none b types 0 vs off)) tt)
