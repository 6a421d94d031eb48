-- What is listed is what the definitions demand.
use Rattle.std.proofs.Common.{◌≡◌, ℕ, suc, ◌+◌, Bool, true, false, not, nat_eq, cond, if◌then◌else◌, List, [], ◌∷◌, ◌++◌, map, filter, Option, Some, None, ⊎_elim, refl, sym, ap, ◌∙◌, arith}
use Rattle.std.specs.Prelude.{slice_get}
use Rattle.std.specs.Map.{keys_of}
use Rattle.std.proofs.lemmas.Bool.{eq-eqb, eqb-true, cases_Bool, cond-false}
use mathlib.Core.Path.{fun_ext}
use Rattle.pat_semantics_spec.specs.Values.{Expr, VarExpr, Literal, OpExpr}
use Rattle.pat_semantics_spec.specs.Programs.{is_among}
use Rattle.pat_semantics_laws.proofs.Lists.{ne_turn}
use Rattle.pat_type_system_spec.specs.Types.{Returnable, MailboxType, mailbox_type, TypeEnv, no_types, with_type, without, returnable}
use Rattle.pat_type_system_spec.specs.Typings.{with_option, args_need, if_mailbox, mailbox_args, without_name}
use Rattle.pat_type_schemes_spec.specs.NodeTypes.{Needs, need_of}
use Rattle.pat_derivation_spec.specs.Demands.{Pass, Divide, There}
use Rattle.pat_derivation_spec.specs.Conditions.{then_others, passes, divides}
use Rattle.pat_obligations.specs.Lists.{without_entry, returnable_entries, others_in, with_others}
use Rattle.pat_obligations.specs.Listed.{asked_arg, asked_args, entry_before, passes_in, divides_in, theres_in}

turn : (a b : ℕ) → nat_eq a b ≡ nat_eq b a
turn a b =
    ⊎_elim
    (λ q. q ∙ sym (eq-eqb b a (sym (eqb-true a b q))))
    (λ q. q ∙ sym (ne_turn a b q))
    (cases_Bool (nat_eq a b))

-- ---- environments

pub cons_is : (x : ℕ) (a : MailboxType) (es : Needs) → need_of ((x, a) ∷ es) ≡ with_type x a (need_of es)
cons_is x a es = fun_ext (λ z. ap (λ b. if b then Some a else need_of es z) (turn z x))

pub before_is : (x : ℕ) (o : Option MailboxType) (es : Needs) → need_of (entry_before x o es) ≡ with_option x o (need_of es)
before_is x None es = refl
before_is x (Some a) es = cons_is x a es

pub returnable_is : (es : Needs) → need_of (returnable_entries es) ≡ (λ x. returnable (need_of es x))
returnable_is es = fun_ext (at es)
  where
    at : (es : Needs) (z : ℕ) → need_of (returnable_entries es) z ≡ returnable (need_of es z)
    at [] z = refl
    at (e ∷ es) z =
        (elim (nat_eq z e.0) as (λ b. (if b then Some (mailbox_type e.1.interface e.1.polarity e.1.pattern Returnable) else need_of (returnable_entries es) z) ≡ returnable (if b then Some e.1 else need_of es z)) [
          | true ↦ refl
          | false ↦ at es z
        ])

-- ---- lists of names

pub others_are : (xs ys : List ℕ) → others_in xs ys ≡ filter (λ y. not (is_among y xs)) ys
others_are xs [] = refl
others_are xs (y ∷ ys) =
    (elim (is_among y xs) as (λ b. (if b then others_in xs ys else y ∷ others_in xs ys) ≡ cond (not b) (y ∷ filter (λ z. not (is_among z xs)) ys) (filter (λ z. not (is_among z xs)) ys)) [
      | true ↦ others_are xs ys
      | false ↦ ap (λ zs. y ∷ zs) (others_are xs ys)
    ])

pub with_are : (xs ys : List ℕ) → with_others xs ys ≡ then_others xs ys
with_are xs ys = ap (λ zs. xs ++ zs) (others_are xs ys)

pub passes_are : (xs : List ℕ) (g h : Needs) → passes_in xs g h ≡ passes xs (need_of g) (need_of h)
passes_are [] g h = refl
passes_are (x ∷ xs) g h = ap (λ ds. Pass (need_of g x) (need_of h x) ∷ ds) (passes_are xs g h)

pub divides_are : (xs : List ℕ) (but : Option ℕ) (g m n : Needs) → divides_in xs but g m n ≡ divides xs (need_of g) (without_name but (need_of m)) (without_name but (need_of n))
divides_are [] but g m n = refl
divides_are (x ∷ xs) but g m n =
    ap (λ ds. Divide (need_of g x) (without_name but (need_of m) x) (without_name but (need_of n) x) ∷ ds) (divides_are xs but g m n)

pub theres_are : (xs : List ℕ) (g h : Needs) → theres_in xs g h ≡ map (λ z. There (need_of g z) (need_of h z)) xs
theres_are [] g h = refl
theres_are (x ∷ xs) g h = ap (λ ds. There (need_of g x) (need_of h x) ∷ ds) (theres_are xs g h)

-- ---- without a variable

other_key : (x z : ℕ) (e : ℕ × MailboxType) (es : Needs) → nat_eq x e.0 ≡ true → (if nat_eq x z then None else need_of es z) ≡ (if nat_eq x z then None else (if nat_eq z e.0 then Some e.1 else need_of es z))
other_key x z e es t = go (nat_eq x z) refl
  where
    go : (b : Bool) → nat_eq x z ≡ b → (if b then None else need_of es z) ≡ (if b then None else (if nat_eq z e.0 then Some e.1 else need_of es z))
    go true q = refl
    go false q =
        let k : nat_eq z e.0 ≡ false = turn z e.0 ∙ ap (λ y. nat_eq y z) (sym (eqb-true x e.0 t)) ∙ q in
        sym (cond-false (nat_eq z e.0) (Some e.1) (need_of es z) k)

kept_key : (x z : ℕ) (e : ℕ × MailboxType) (es : Needs) → nat_eq x e.0 ≡ false → need_of (without_entry x es) z ≡ (if nat_eq x z then None else need_of es z) → (if nat_eq z e.0 then Some e.1 else need_of (without_entry x es) z) ≡ (if nat_eq x z then None else (if nat_eq z e.0 then Some e.1 else need_of es z))
kept_key x z e es f deeper = go (nat_eq z e.0) refl
  where
    go : (b : Bool) → nat_eq z e.0 ≡ b → (if b then Some e.1 else need_of (without_entry x es) z) ≡ (if nat_eq x z then None else (if b then Some e.1 else need_of es z))
    go true q =
        let k : nat_eq x z ≡ false = ap (nat_eq x) (eqb-true z e.0 q) ∙ f in
        sym (cond-false (nat_eq x z) None (Some e.1) k)
    go false q = deeper

without_at : (x : ℕ) (es : Needs) (z : ℕ) → need_of (without_entry x es) z ≡ (if nat_eq x z then None else need_of es z)
without_at x [] z =
    nothing (nat_eq x z)
  where
    nothing : (b : Bool) → ◌≡◌ {A = Option MailboxType} None (if b then None else None)
    nothing true = refl
    nothing false = refl
without_at x (e ∷ es) z =
    let kept = λ (b : Bool). need_of (cond (not b) (e ∷ without_entry x es) (without_entry x es)) z in
    ⊎_elim
    (λ t. ap kept t ∙ without_at x es z ∙ other_key x z e es t)
    (λ f. ap kept f ∙ kept_key x z e es f (without_at x es z))
    (cases_Bool (nat_eq x e.0))

pub without_is : (x : ℕ) (es : Needs) → need_of (without_entry x es) ≡ without x (need_of es)
without_is x es = fun_ext (without_at x es)

-- ---- what arguments ask

abbrev pub joined : Option (Option MailboxType) → Option MailboxType
joined None = None
joined (Some o) = o

-- the types at the places from k on stand in the list
abbrev pub StandAt : TypeEnv → ℕ → List (Option MailboxType) → Type 0
StandAt types k ts = (j : ℕ) → types (k + j) ≡ joined (slice_get ts j)

pub first_at : (types : TypeEnv) (k : ℕ) (t : Option MailboxType) (ts : List (Option MailboxType)) → StandAt types k (t ∷ ts) → types k ≡ t
first_at types k t ts h = let e : k ≡ k + 0 = omega arith in ap types e ∙ h 0

pub later_at : (types : TypeEnv) (k : ℕ) (t : Option MailboxType) (ts : List (Option MailboxType)) → StandAt types k (t ∷ ts) → StandAt types (suc k) ts
later_at types k t ts h j = let e : suc k + j ≡ k + suc j = omega arith in ap types e ∙ h (suc j)

pub none_at : (types : TypeEnv) (k : ℕ) → StandAt types k [] → types k ≡ None
none_at types k h = let e : k ≡ k + 0 = omega arith in ap types e ∙ h 0

pub none_later : (types : TypeEnv) (k : ℕ) → StandAt types k [] → StandAt types (suc k) []
none_later types k h j = let e : suc k + j ≡ k + suc j = omega arith in ap types e ∙ h (suc j)

none_asked : (types : TypeEnv) (k : ℕ) (es : List Expr) → StandAt types k [] → args_need types k es ≡ no_types
none_asked types k [] h = refl
none_asked types k (VarExpr x ∷ es) h =
    ap (λ o. with_option x o (args_need types (suc k) es)) (none_at types k h) ∙ none_asked types (suc k) es (none_later types k h)
none_asked types k (Literal c ∷ es) h = none_asked types (suc k) es (none_later types k h)
none_asked types k (OpExpr op a b ∷ es) h = none_asked types (suc k) es (none_later types k h)

none_named : (types : TypeEnv) (k : ℕ) (es : List Expr) → StandAt types k [] → mailbox_args types k es ≡ []
none_named types k [] h = refl
none_named types k (VarExpr x ∷ es) h =
    ap (λ o. if_mailbox o x (mailbox_args types (suc k) es)) (none_at types k h) ∙ none_named types (suc k) es (none_later types k h)
none_named types k (Literal c ∷ es) h = none_named types (suc k) es (none_later types k h)
none_named types k (OpExpr op a b ∷ es) h = none_named types (suc k) es (none_later types k h)

arg_is : (x : ℕ) (t : Option MailboxType) (rest : Needs) → need_of (asked_arg t (VarExpr x) rest) ≡ with_option x t (need_of rest)
arg_is x None rest = refl
arg_is x (Some a) rest = cons_is x a rest

arg_named : (x : ℕ) (t : Option MailboxType) (rest : Needs) → keys_of (asked_arg t (VarExpr x) rest) ≡ if_mailbox t x (keys_of rest)
arg_named x None rest = refl
arg_named x (Some a) rest = refl

arg_plain : (t : Option MailboxType) (e : Expr) (rest : Needs) → ((x : ℕ) → e ≡ VarExpr x → ⊥) → asked_arg t e rest ≡ rest
arg_plain None (VarExpr x) rest h = refl
arg_plain None (Literal c) rest h = refl
arg_plain None (OpExpr op a b) rest h = refl
arg_plain (Some t) (VarExpr x) rest h = absurd (h x refl)
arg_plain (Some t) (Literal c) rest h = refl
arg_plain (Some t) (OpExpr op a b) rest h = refl

pub args_are : (types : TypeEnv) (k : ℕ) (ts : List (Option MailboxType)) (es : List Expr) → StandAt types k ts → need_of (asked_args ts es) ≡ args_need types k es
args_are types k ts [] h = refl
args_are types k [] (e ∷ es) h = sym (none_asked types k (e ∷ es) h)
args_are types k (t ∷ ts) (VarExpr x ∷ es) h =
    arg_is x t (asked_args ts es)
    ∙ ap (with_option x t) (args_are types (suc k) ts es (later_at types k t ts h))
    ∙ ap (λ o. with_option x o (args_need types (suc k) es)) (sym (first_at types k t ts h))
args_are types k (t ∷ ts) (Literal c ∷ es) h =
    ap need_of (arg_plain t (Literal c) (asked_args ts es) (λ x q. cc)) ∙ args_are types (suc k) ts es (later_at types k t ts h)
args_are types k (t ∷ ts) (OpExpr op a b ∷ es) h =
    ap need_of (arg_plain t (OpExpr op a b) (asked_args ts es) (λ x q. cc)) ∙ args_are types (suc k) ts es (later_at types k t ts h)

pub args_named : (types : TypeEnv) (k : ℕ) (ts : List (Option MailboxType)) (es : List Expr) → StandAt types k ts → keys_of (asked_args ts es) ≡ mailbox_args types k es
args_named types k ts [] h = refl
args_named types k [] (e ∷ es) h = sym (none_named types k (e ∷ es) h)
args_named types k (t ∷ ts) (VarExpr x ∷ es) h =
    arg_named x t (asked_args ts es)
    ∙ ap (if_mailbox t x) (args_named types (suc k) ts es (later_at types k t ts h))
    ∙ ap (λ o. if_mailbox o x (mailbox_args types (suc k) es)) (sym (first_at types k t ts h))
args_named types k (t ∷ ts) (Literal c ∷ es) h =
    ap keys_of (arg_plain t (Literal c) (asked_args ts es) (λ x q. cc)) ∙ args_named types (suc k) ts es (later_at types k t ts h)
args_named types k (t ∷ ts) (OpExpr op a b ∷ es) h =
    ap keys_of (arg_plain t (OpExpr op a b) (asked_args ts es) (λ x q. cc)) ∙ args_named types (suc k) ts es (later_at types k t ts h)
