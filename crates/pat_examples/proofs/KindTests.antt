-- Tests of kinds that compute, and what they show.
use Rattle.std.proofs.Common.{◌≡◌, ℕ, Bool, true, false, ◌&&◌, nat_eq, List, [], ◌∷◌, length, map, Option, Some, None, refl, ap, ap₂, subst}
use Rattle.std.specs.Prelude.{slice_get, nat_lt}
use Rattle.std.proofs.lemmas.Bool.{and_parts, eqb-true}
use Rattle.pat_words_spec.specs.Patterns.{Pat, is_closed}
use Rattle.pat_semantics_spec.specs.Values.{Base, BaseUnit, BaseBool, BaseInt, BaseText, Kind, Plain, MailboxOf, Expr}
use Rattle.pat_semantics_spec.specs.Programs.{Program, Interface, Function, TagDecl, Clause, Core, Val, Let, Call, If, Print, New, Send, Spawn, Guard, Node, node_at, function_at, tag_at, kind_of}
use Rattle.pat_semantics_spec.specs.WellFormed.{HasKind, HaveKinds, VarsHaveKinds, IsPrintable, IsPatternOf, ClauseKinds, CoreKinds, expr_kind}
use Rattle.pat_words_spec.specs.Tags.{tags_below}
use Rattle.pat_examples.proofs.Tests.{all_of, all_true, all_differ, differ, below_true}

-- ---- equal kinds

-- the same base type
abbrev pub base_eq : Base → Base → Bool
base_eq BaseUnit BaseUnit = true
base_eq BaseBool BaseBool = true
base_eq BaseInt BaseInt = true
base_eq BaseText BaseText = true
base_eq _ _ = false

pub base_same : (a b : Base) → base_eq a b ≡ true → a ≡ b
base_same BaseUnit BaseUnit h = refl
base_same BaseBool BaseBool h = refl
base_same BaseInt BaseInt h = refl
base_same BaseText BaseText h = refl
base_same _ _ h = cc

-- the same kind
abbrev pub kind_eq : Kind → Kind → Bool
kind_eq (Plain a) (Plain b) = base_eq a b
kind_eq (MailboxOf i) (MailboxOf j) = nat_eq i j
kind_eq _ _ = false

pub kind_same : (j k : Kind) → kind_eq j k ≡ true → j ≡ k
kind_same (Plain a) (Plain b) h = ap (λ x. Plain x) (base_same a b h)
kind_same (MailboxOf i) (MailboxOf j) h = ap (λ x. MailboxOf x) (eqb-true i j h)
kind_same _ _ h = cc

-- the same kinds, place by place
abbrev pub kinds_eq : List Kind → List Kind → Bool
kinds_eq [] [] = true
kinds_eq (j ∷ js) (k ∷ ks) = kind_eq j k && kinds_eq js ks
kinds_eq _ _ = false

pub kinds_same : (js ks : List Kind) → kinds_eq js ks ≡ true → js ≡ ks
kinds_same [] [] h = refl
kinds_same (j ∷ js) (k ∷ ks) h =
    let both = and_parts (kind_eq j k) (kinds_eq js ks) h in
    ap₂ (λ x xs. x ∷ xs) (kind_same j k both.0) (kinds_same js ks both.1)
kinds_same _ _ h = cc

-- the kind is there, and is this one
abbrev pub is_kind : Option Kind → Kind → Bool
is_kind None k = false
is_kind (Some j) k = kind_eq j k

pub kind_is : (o : Option Kind) (k : Kind) → is_kind o k ≡ true → o ≡ Some k
kind_is None k h = cc
kind_is (Some j) k h = ap (λ x. Some x) (kind_same j k h)

-- ---- nodes, expressions and variables

-- the node is there, of this kind
abbrev node_is : Option Node → Kind → Bool
node_is None k = false
node_is (Some d) k = kind_eq d.kind k

-- node n is there, of this kind
abbrev pub node_has : Program → ℕ → Kind → Bool
node_has p n k = node_is (node_at p n) k

pub has_kind : (p : Program) (n : ℕ) (k : Kind) → node_has p n k ≡ true → HasKind p n k
has_kind p n k h = go (node_at p n) refl h
  where
    go : (o : Option Node) → node_at p n ≡ o → node_is o k ≡ true → HasKind p n k
    go None e w = cc
    go (Some d) e w = (d, e, kind_same d.kind k w)

-- the expressions have the kinds, place by place
abbrev pub have_kinds : List Kind → List Expr → List Kind → Bool
have_kinds vars [] [] = true
have_kinds vars (e ∷ es) (k ∷ ks) = is_kind (expr_kind vars e) k && have_kinds vars es ks
have_kinds vars _ _ = false

pub exprs_have : (vars : List Kind) (es : List Expr) (ks : List Kind) → have_kinds vars es ks ≡ true → HaveKinds vars es ks
exprs_have vars [] [] h = tt
exprs_have vars (e ∷ es) (k ∷ ks) h =
    let both = and_parts (is_kind (expr_kind vars e) k) (have_kinds vars es ks) h in
    (kind_is (expr_kind vars e) k both.0, exprs_have vars es ks both.1)
exprs_have vars [] (k ∷ ks) h = cc
exprs_have vars (e ∷ es) [] h = cc

-- the variables have the kinds, place by place
abbrev pub vars_have : List Kind → List ℕ → List Kind → Bool
vars_have vars [] [] = true
vars_have vars (x ∷ xs) (k ∷ ks) = is_kind (slice_get vars x) k && vars_have vars xs ks
vars_have vars _ _ = false

pub variables_have : (vars : List Kind) (xs : List ℕ) (ks : List Kind) → vars_have vars xs ks ≡ true → VarsHaveKinds vars xs ks
variables_have vars [] [] h = tt
variables_have vars (x ∷ xs) (k ∷ ks) h =
    let both = and_parts (is_kind (slice_get vars x) k) (vars_have vars xs ks) h in
    (kind_is (slice_get vars x) k both.0, variables_have vars xs ks both.1)
variables_have vars [] (k ∷ ks) h = cc
variables_have vars (x ∷ xs) [] h = cc

-- a kind that print takes
abbrev pub is_printable : Option Kind → Bool
is_printable (Some (Plain BaseBool)) = true
is_printable (Some (Plain BaseInt)) = true
is_printable (Some (Plain BaseText)) = true
is_printable _ = false

pub printable : (o : Option Kind) → is_printable o ≡ true → (j : Kind) × (o ≡ Some j) × IsPrintable j
printable (Some (Plain BaseBool)) h = (Plain BaseBool, refl, tt)
printable (Some (Plain BaseInt)) h = (Plain BaseInt, refl, tt)
printable (Some (Plain BaseText)) h = (Plain BaseText, refl, tt)
printable (Some (Plain BaseUnit)) h = cc
printable (Some (MailboxOf i)) h = cc
printable None h = cc

-- ---- patterns

-- the interface is there, and the pattern is one of it
abbrev interface_has : Option Interface → Pat → Bool
interface_has None e = false
interface_has (Some j) e = tags_below (length j.tags) e && is_closed e

-- a written pattern of interface i
abbrev pub is_pattern_of : Program → ℕ → Pat → Bool
is_pattern_of p i e = interface_has (slice_get p.interfaces i) e

pub pattern_of : (p : Program) (i : ℕ) (e : Pat) → is_pattern_of p i e ≡ true → IsPatternOf p i e
pattern_of p i e h = go (slice_get p.interfaces i) refl h
  where
    go : (o : Option Interface) → slice_get p.interfaces i ≡ o → interface_has o e ≡ true → IsPatternOf p i e
    go None q w = cc
    go (Some j) q w =
        let both = and_parts (tags_below (length j.tags) e) (is_closed e) w in
        record { interface = j; there = q; tags = both.0; closed = both.1 }

-- ---- terms

-- a receive clause of a tag that is declared
abbrev clause_has : Program → List Kind → ℕ → Kind → Clause → Option TagDecl → Bool
clause_has p vars i k r None = false
clause_has p vars i k r (Some decl) =
    vars_have vars r.vars (map kind_of decl.payloads) && (is_kind (slice_get vars r.from) (MailboxOf i) && node_has p r.body k)

-- a receive clause of a guard on a mailbox of interface i
abbrev clause_fits : Program → List Kind → ℕ → Kind → Clause → Bool
clause_fits p vars i k r = clause_has p vars i k r (tag_at p i r.tag)

clause_kinds : (p : Program) (vars : List Kind) (i : ℕ) (k : Kind) (r : Clause) → clause_fits p vars i k r ≡ true → ClauseKinds p vars i k r
clause_kinds p vars i k r h = go (tag_at p i r.tag) refl h
  where
    go : (o : Option TagDecl) → tag_at p i r.tag ≡ o → clause_has p vars i k r o ≡ true → ClauseKinds p vars i k r
    go None q w = cc
    go (Some decl) q w =
        let a = and_parts (vars_have vars r.vars (map kind_of decl.payloads)) (is_kind (slice_get vars r.from) (MailboxOf i) && node_has p r.body k) w in
        let b = and_parts (is_kind (slice_get vars r.from) (MailboxOf i)) (node_has p r.body k) a.1 in
        record {
          decl = decl;
          declared = q;
          payloads = variables_have vars r.vars (map kind_of decl.payloads) a.0;
          from = kind_is (slice_get vars r.from) (MailboxOf i) b.0;
          body = has_kind p r.body k b.1;
        }

-- the node, if there is one, has this kind
abbrev option_has : Program → Option ℕ → Kind → Bool
option_has p None k = true
option_has p (Some n) k = node_has p n k

option_kind : (p : Program) (o : Option ℕ) (k : Kind) → option_has p o k ≡ true → (n : ℕ) → o ≡ Some n → HasKind p n k
option_kind p None k h n e = cc
option_kind p (Some m) k h n e = let same : m ≡ n = cc in subst (λ x. HasKind p x k) same (has_kind p m k h)

-- a guard without clauses is of kind unit
abbrev is_bare : Option ℕ → List Clause → Kind → Bool
is_bare None [] k = kind_eq k (Plain BaseUnit)
is_bare _ _ k = true

bare_unit : (o : Option ℕ) (cs : List Clause) (k : Kind) → is_bare o cs k ≡ true → o ≡ None → cs ≡ [] → k ≡ Plain BaseUnit
bare_unit None [] k h e f = kind_same k (Plain BaseUnit) h
bare_unit None (c ∷ cs) k h e f = cc
bare_unit (Some n) [] k h e f = cc
bare_unit (Some n) (c ∷ cs) k h e f = cc

-- a let whose name's kind is there
abbrev named_has : Program → Option Kind → ℕ → ℕ → Kind → Bool
named_has p None m n k = false
named_has p (Some j) m n k = node_has p m j && node_has p n k

-- a call of a function that is there
abbrev call_has : List Kind → List Expr → Kind → Option Function → Bool
call_has vars args k None = false
call_has vars args k (Some g) = have_kinds vars args (map kind_of g.params) && kind_eq (kind_of g.result) k

-- the payload of a tag that is declared
abbrev payload_has : List Kind → List Expr → Option TagDecl → Bool
payload_has vars args None = false
payload_has vars args (Some decl) = have_kinds vars args (map kind_of decl.payloads)

-- a send to a variable of this kind
abbrev send_has : Program → List Kind → ℕ → List Expr → Option Kind → Bool
send_has p vars m args (Some (MailboxOf i)) = payload_has vars args (tag_at p i m)
send_has p vars m args _ = false

-- a guard on a variable of this kind
abbrev guard_has : Program → List Kind → Kind → Pat → Option ℕ → List Clause → Option Kind → Bool
guard_has p vars k e free cs (Some (MailboxOf i)) =
    is_pattern_of p i e && (option_has p free k && (all_of (clause_fits p vars i k) cs && (all_differ nat_eq (map (λ r. r.tag) cs) && is_bare free cs k)))
guard_has p vars k e free cs _ = false

-- a term of this kind
abbrev pub core_fits : Program → List Kind → Kind → Core → Bool
core_fits p vars k (Val e) = is_kind (expr_kind vars e) k
core_fits p vars k (Let None m n) = node_has p m (Plain BaseUnit) && node_has p n k
core_fits p vars k (Let (Some y) m n) = named_has p (slice_get vars y) m n k
core_fits p vars k (Call f args) = call_has vars args k (function_at p f)
core_fits p vars k (If e m n) = is_kind (expr_kind vars e) (Plain BaseBool) && (node_has p m k && node_has p n k)
core_fits p vars k (Print e) = kind_eq k (Plain BaseUnit) && is_printable (expr_kind vars e)
core_fits p vars k (New i) = kind_eq k (MailboxOf i) && nat_lt i (length p.interfaces)
core_fits p vars k (Send x m args) = kind_eq k (Plain BaseUnit) && send_has p vars m args (slice_get vars x)
core_fits p vars k (Spawn m) = kind_eq k (Plain BaseUnit) && node_has p m (Plain BaseUnit)
core_fits p vars k (Guard x e free cs) = guard_has p vars k e free cs (slice_get vars x)

pub core_kinds : (p : Program) (vars : List Kind) (k : Kind) (core : Core) → core_fits p vars k core ≡ true → CoreKinds p vars k core
core_kinds p vars k (Val e) h = kind_is (expr_kind vars e) k h
core_kinds p vars k (Let None m n) h =
    let a = and_parts (node_has p m (Plain BaseUnit)) (node_has p n k) h in
    (has_kind p m (Plain BaseUnit) a.0, has_kind p n k a.1)
core_kinds p vars k (Let (Some y) m n) h = go (slice_get vars y) refl h
  where
    go : (o : Option Kind) → slice_get vars y ≡ o → named_has p o m n k ≡ true → CoreKinds p vars k (Let (Some y) m n)
    go None q w = cc
    go (Some j) q w =
        let a = and_parts (node_has p m j) (node_has p n k) w in
        (j, q, has_kind p m j a.0, has_kind p n k a.1)
core_kinds p vars k (Call f args) h = go (function_at p f) refl h
  where
    go : (o : Option Function) → function_at p f ≡ o → call_has vars args k o ≡ true → CoreKinds p vars k (Call f args)
    go None q w = cc
    go (Some g) q w =
        let a = and_parts (have_kinds vars args (map kind_of g.params)) (kind_eq (kind_of g.result) k) w in
        (g, q, exprs_have vars args (map kind_of g.params) a.0, kind_same (kind_of g.result) k a.1)
core_kinds p vars k (If e m n) h =
    let a = and_parts (is_kind (expr_kind vars e) (Plain BaseBool)) (node_has p m k && node_has p n k) h in
    let b = and_parts (node_has p m k) (node_has p n k) a.1 in
    (kind_is (expr_kind vars e) (Plain BaseBool) a.0, has_kind p m k b.0, has_kind p n k b.1)
core_kinds p vars k (Print e) h =
    let a = and_parts (kind_eq k (Plain BaseUnit)) (is_printable (expr_kind vars e)) h in
    (kind_same k (Plain BaseUnit) a.0, printable (expr_kind vars e) a.1)
core_kinds p vars k (New i) h =
    let a = and_parts (kind_eq k (MailboxOf i)) (nat_lt i (length p.interfaces)) h in
    (kind_same k (MailboxOf i) a.0, below_true i (length p.interfaces) a.1)
core_kinds p vars k (Send x m args) h =
    let a = and_parts (kind_eq k (Plain BaseUnit)) (send_has p vars m args (slice_get vars x)) h in
    (kind_same k (Plain BaseUnit) a.0, go (slice_get vars x) refl a.1)
  where
    on : (i : ℕ) → slice_get vars x ≡ Some (MailboxOf i) → (o : Option TagDecl) → tag_at p i m ≡ o → payload_has vars args o ≡ true → (i : ℕ) × (decl : TagDecl) × (slice_get vars x ≡ Some (MailboxOf i)) × (tag_at p i m ≡ Some decl) × HaveKinds vars args (map kind_of decl.payloads)
    on i q None e w = cc
    on i q (Some decl) e w = (i, decl, q, e, exprs_have vars args (map kind_of decl.payloads) w)

    go : (o : Option Kind) → slice_get vars x ≡ o → send_has p vars m args o ≡ true → (i : ℕ) × (decl : TagDecl) × (slice_get vars x ≡ Some (MailboxOf i)) × (tag_at p i m ≡ Some decl) × HaveKinds vars args (map kind_of decl.payloads)
    go (Some (MailboxOf i)) q w = on i q (tag_at p i m) refl w
    go (Some (Plain b)) q w = cc
    go None q w = cc
core_kinds p vars k (Spawn m) h =
    let a = and_parts (kind_eq k (Plain BaseUnit)) (node_has p m (Plain BaseUnit)) h in
    (kind_same k (Plain BaseUnit) a.0, has_kind p m (Plain BaseUnit) a.1)
core_kinds p vars k (Guard x e free cs) h = go (slice_get vars x) refl h
  where
    go : (o : Option Kind) → slice_get vars x ≡ o → guard_has p vars k e free cs o ≡ true → CoreKinds p vars k (Guard x e free cs)
    go (Some (MailboxOf i)) q w =
        let tags = map (λ r. r.tag) cs in
        let a = and_parts (is_pattern_of p i e) (option_has p free k && (all_of (clause_fits p vars i k) cs && (all_differ nat_eq tags && is_bare free cs k))) w in
        let b = and_parts (option_has p free k) (all_of (clause_fits p vars i k) cs && (all_differ nat_eq tags && is_bare free cs k)) a.1 in
        let c = and_parts (all_of (clause_fits p vars i k) cs) (all_differ nat_eq tags && is_bare free cs k) b.1 in
        let d = and_parts (all_differ nat_eq tags) (is_bare free cs k) c.1 in (
          i,
          q,
          pattern_of p i e a.0,
          option_kind p free k b.0,
          all_true (clause_fits p vars i k) (ClauseKinds p vars i k) (clause_kinds p vars i k) cs c.0,
          differ nat_eq tags d.0,
          bare_unit free cs k d.1,
        )
    go (Some (Plain b)) q w = cc
    go None q w = cc
