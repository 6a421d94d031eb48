-- A variable that names a mailbox and is free in a node is named by the node's environment.
use Rattle.std.proofs.Common.{◌≡◌, ℕ, zero, suc, ◌+◌, ◌≤◌, true, false, ◌||◌, ◌&&◌, not, nat_eq, if◌then◌else◌, List, [], ◌∷◌, ◌++◌, length, map, Option, Some, None, refl, sym, ap, ◌∙◌, subst, arith, ⊎_elim}
use Rattle.std.specs.Prelude.{is_some, slice_get, option_map, option_and_then}
use Rattle.std.specs.List.{AllByRecursion, list_any}
use Rattle.std.proofs.lemmas.Bool.{eqb-true, eq-eqb, cond-true, cond-false, or_cases, and_parts, or_left, or_right, eqb-false, false_from_ne_true, ne_eqb}
use Rattle.std.proofs.lemmas.Option.{slice_get_past}
use Rattle.pat_words_spec.specs.Patterns.{Pat, residual, Tag}
use Rattle.pat_semantics_spec.specs.Values.{Base, BaseBool, BaseInt, BaseText, Kind, Plain, MailboxOf, Op, Add, Sub, Mul, Equal, Less, Expr, VarExpr, Literal, OpExpr, occurs}
use Rattle.pat_semantics_spec.specs.Programs.{Program, Sending, Receiving, Sort, BaseSort, MailboxSort, Function, TagDecl, Clause, Core, Val, Let, Call, If, Print, New, Send, Spawn, Guard, Node, node_at, core_at, function_at, parts, option_list, clause_bodies, clause_binders, is_among, is_free, clause_uses, core_uses, kind_of, tag_at, Interface, KindAt}
use Rattle.pat_semantics_spec.specs.WellFormed.{WellFormed, InterfaceFits, IsPayload, CoreKinds, op_kind, expr_kind, HaveKinds, IsPrintable}
use Rattle.pat_semantics_laws.proofs.FreeVars.{free_unfolds, part_after}
use Rattle.pat_type_system_spec.specs.Types.{MailboxType, TypeOf, BaseTerm, MailboxTerm, kind_of_type, TypeEnv, PassesTo, SplitsTo, with_type, without, no_types, returnable, mailbox_type, Second, Returnable}
use Rattle.pat_type_system_spec.specs.Typings.{Typing, IsTyping, CoreTyped, GuardTyped, ClauseTyped, ValueTyped, with_option, with_payloads, args_need, clause_env, without_name, param_type, payload_type, payload_sort, sort_type}
use Rattle.pat_type_system_laws.proofs.Nodes.{NodeFacts, node_facts, part_core}
use Rattle.pat_type_system_laws.proofs.Environments.{payloads_off}
use Rattle.pat_type_system_spec.specs.Holdings.{Holding}
use Rattle.pat_semantics_laws.proofs.Lists.{clash, not_true, any_first, any_last, all_at}

-- ---- expressions

-- a kind that is there and plain
pub record OfPlain (o : Option Kind) : Type 0 where
  pub base : Base
  pub is : o ≡ Some (Plain base)

-- an operator takes values of base types
pub op_parts : (op : Op) (a b : Option Kind) (k : Kind) → op_kind op a b ≡ Some k → OfPlain a × OfPlain b
op_parts Add (Some (Plain BaseInt)) (Some (Plain BaseInt)) k h = (record { base = BaseInt; is = refl }, record { base = BaseInt; is = refl })
op_parts Sub (Some (Plain BaseInt)) (Some (Plain BaseInt)) k h = (record { base = BaseInt; is = refl }, record { base = BaseInt; is = refl })
op_parts Mul (Some (Plain BaseInt)) (Some (Plain BaseInt)) k h = (record { base = BaseInt; is = refl }, record { base = BaseInt; is = refl })
op_parts Equal (Some (Plain BaseInt)) (Some (Plain BaseInt)) k h = (record { base = BaseInt; is = refl }, record { base = BaseInt; is = refl })
op_parts Equal (Some (Plain BaseBool)) (Some (Plain BaseBool)) k h = (record { base = BaseBool; is = refl }, record { base = BaseBool; is = refl })
op_parts Equal (Some (Plain BaseText)) (Some (Plain BaseText)) k h = (record { base = BaseText; is = refl }, record { base = BaseText; is = refl })
op_parts Less (Some (Plain BaseInt)) (Some (Plain BaseInt)) k h = (record { base = BaseInt; is = refl }, record { base = BaseInt; is = refl })
op_parts _ _ _ k h = cc

-- a mailbox variable that occurs in an expression is the whole expression
pub mailbox_occurs : (vars : List Kind) (z i : ℕ) → slice_get vars z ≡ Some (MailboxOf i) → (e : Expr) (k : Kind) → expr_kind vars e ≡ Some k → occurs z e ≡ true → (e ≡ VarExpr z) × (k ≡ MailboxOf i)
mailbox_occurs vars z i at (VarExpr x) k h o =
    let same : z ≡ x = eqb-true z x o in
    let there : Some k ≡ Some (MailboxOf i) = sym h ∙ ap (slice_get vars) (sym same) ∙ at in
    (ap (λ v. VarExpr v) (sym same), cc)
mailbox_occurs vars z i at (Literal c) k h o = cc
mailbox_occurs vars z i at (OpExpr op a b) k h o =
    let p = op_parts op (expr_kind vars a) (expr_kind vars b) k h in
    ⊎_elim
    (λ l. let q = mailbox_occurs vars z i at a (Plain p.0.base) p.0.is l in cc)
    (λ r. let q = mailbox_occurs vars z i at b (Plain p.1.base) p.1.is r in cc)
    (or_cases (occurs z a) (occurs z b) o)

-- so it doesn't occur in one of a base type
pub base_occurs : (vars : List Kind) (z i : ℕ) → slice_get vars z ≡ Some (MailboxOf i) → (e : Expr) (b : Base) → expr_kind vars e ≡ Some (Plain b) → occurs z e ≡ true → ⊥
base_occurs vars z i at e b h o = let q = mailbox_occurs vars z i at e (Plain b) h o in cc

-- ---- arguments

-- what passes to something is something
pub passes_some : (h k : Holding) → PassesTo h k → is_some k ≡ true → is_some h ≡ true
passes_some None None p s = s
passes_some None (Some b) p s = absurd p
passes_some (Some a) k p s = refl

-- places that are mailboxes have types, from k on
abbrev pub PlacesTyped : TypeEnv → ℕ → List Sort → Type 0
PlacesTyped types k [] = Unit {0}
PlacesTyped types k (s ∷ ss) = ((i : ℕ) → kind_of s ≡ MailboxOf i → is_some (types k) ≡ true) × PlacesTyped types (suc k) ss

option_some : (x : ℕ) (o : Option MailboxType) (g : TypeEnv) (z : ℕ) → is_some (g z) ≡ true → is_some (with_option x o g z) ≡ true
option_some x None g z h = h
option_some x (Some a) g z h = elim (nat_eq x z) as (λ t. is_some (if t then Some a else g z) ≡ true) [ true ↦ refl | false ↦ h ]

option_first : (x : ℕ) (o : Option MailboxType) (g : TypeEnv) (z : ℕ) → is_some o ≡ true → nat_eq x z ≡ true → is_some (with_option x o g z) ≡ true
option_first x None g z s h = cc
option_first x (Some a) g z s h = ap is_some (cond-true (nat_eq x z) (Some a) (g z) h)

need_on : (types : TypeEnv) (k : ℕ) (e : Expr) (es : List Expr) (z : ℕ) → is_some (args_need types (suc k) es z) ≡ true → is_some (args_need types k (e ∷ es) z) ≡ true
need_on types k (VarExpr x) es z h = option_some x (types k) (args_need types (suc k) es) z h
need_on types k (Literal c) es z h = h
need_on types k (OpExpr op a b) es z h = h

pub args_named : (vars : List Kind) (z i : ℕ) → slice_get vars z ≡ Some (MailboxOf i) → (types : TypeEnv) (k : ℕ) (es : List Expr) (ss : List Sort) → HaveKinds vars es (map kind_of ss) → PlacesTyped types k ss → list_any (occurs z) es ≡ true → is_some (args_need types k es z) ≡ true
args_named vars z i at types k [] ss h p o = cc
args_named vars z i at types k (e ∷ es) [] h p o = absurd h
args_named vars z i at types k (e ∷ es) (s ∷ ss) h p o =
    ⊎_elim
    (λ here.
    let q = mailbox_occurs vars z i at e (kind_of s) h.0 here in
    subst (λ (x : Expr). is_some (args_need types k (x ∷ es) z) ≡ true) (sym q.0)
    (option_first z (types k) (args_need types (suc k) es) z (p.0 i q.1) (eq-eqb z z refl)))
    (λ rest. need_on types k e es z (args_named vars z i at types (suc k) es ss h.1 p.1 rest))
    (or_cases (occurs z e) (list_any (occurs z) es) o)

-- a term that is an expression
pub value_named : (vars : List Kind) (z i : ℕ) → slice_get vars z ≡ Some (MailboxOf i) → (t : TypeOf) (e : Expr) (g : TypeEnv) → expr_kind vars e ≡ Some (kind_of_type t) → ValueTyped t e g → occurs z e ≡ true → is_some (g z) ≡ true
value_named vars z i at (BaseTerm b) e g k h o = absurd (base_occurs vars z i at e b k o)
value_named vars z i at (MailboxTerm j q f) (VarExpr x) g k h o =
    let same : z ≡ x = eqb-true z x o in
    passes_some (g z) (with_type x (mailbox_type j q f Returnable) (no_types) z) (h z)
    (ap is_some (cond-true (nat_eq x z) (Some (mailbox_type j q f Returnable)) None (eq-eqb x z (sym same))))
value_named vars z i at (MailboxTerm j q f) (Literal c) g k h o = absurd h
value_named vars z i at (MailboxTerm j q f) (OpExpr op a b) g k h o = absurd h

-- ---- places of signatures and of tags

places_of : (f : ℕ → Option Sort) (types : TypeEnv) (k : ℕ) (ss : List Sort) → ((j : ℕ) → f (k + j) ≡ slice_get ss j) → ((j : ℕ) (s : Sort) (i : ℕ) → f j ≡ Some s → kind_of s ≡ MailboxOf i → is_some (types j) ≡ true) → PlacesTyped types k ss
places_of f types k [] at typed = tt
places_of f types k (s ∷ ss) at typed = (
  (λ i q. let same : k + 0 ≡ k = omega arith in typed k s i (ap f (sym same) ∙ at 0) q),
  places_of f types (suc k) ss (λ j. let same : suc k + j ≡ k + suc j = omega arith in ap f same ∙ at (suc j)) typed,
)

zero_plus : (f : ℕ → Option Sort) (j : ℕ) → f (0 + j) ≡ f j
zero_plus f j = let same : 0 + j ≡ j = omega arith in ap f same

sort_some : (e : Pat) (s : Sort) (i : ℕ) → kind_of s ≡ MailboxOf i → is_some (sort_type e s) ≡ true
sort_some e (BaseSort b) i h = cc
sort_some e (MailboxSort j q f) i h = refl

pub params_typed : (y : Typing) (f : ℕ) (g : Function) → PlacesTyped (param_type y f g) 0 g.params
params_typed y f g =
    places_of (slice_get g.params) (param_type y f g) 0 g.params (zero_plus (slice_get g.params))
    (λ j s i at q. ap (λ o. is_some (option_and_then (sort_type (y.param_patterns f j)) o)) at ∙ sort_some (y.param_patterns f j) s i q)

payload_some : (p : Program) (s : Sort) (i : ℕ) → IsPayload p s → kind_of s ≡ MailboxOf i → is_some (payload_sort s) ≡ true
payload_some p (BaseSort b) i fits h = cc
payload_some p (MailboxSort j Sending (Some e)) i fits h = refl
payload_some p (MailboxSort j Sending None) i fits h = absurd fits
payload_some p (MailboxSort j Receiving None) i fits h = absurd fits
payload_some p (MailboxSort j Receiving (Some e)) i fits h = refl

pub payloads_typed : (p : Program) (decl : TagDecl) → AllByRecursion (IsPayload p) decl.payloads → PlacesTyped (payload_type decl) 0 decl.payloads
payloads_typed p decl a =
    places_of (slice_get decl.payloads) (payload_type decl) 0 decl.payloads (zero_plus (slice_get decl.payloads))
    (λ j s i at q. ap (λ o. is_some (option_and_then payload_sort o)) at ∙ payload_some p s i (all_at (IsPayload p) decl.payloads j s a at) q)

-- the payloads of a declared tag are as well-formedness asks
pub tag_payloads : (p : Program) → WellFormed p → (i m : ℕ) (decl : TagDecl) → tag_at p i m ≡ Some decl → AllByRecursion (IsPayload p) decl.payloads
tag_payloads p w i m decl h = go (slice_get p.interfaces i) refl h
  where
    go : (o : Option Interface) → slice_get p.interfaces i ≡ o → option_and_then (λ j. slice_get j.tags m) o ≡ Some decl → AllByRecursion (IsPayload p) decl.payloads
    go None e k = cc
    go (Some j) e k =
        let fits = all_at (InterfaceFits p) p.interfaces i j w.interfaces e in
        all_at (λ t. AllByRecursion (IsPayload p) t.payloads) j.tags m decl fits.payloads k

-- ---- a node

split_bound : (a b c : Holding) → SplitsTo a b c → is_some b ≡ true → is_some a ≡ true
split_bound None None None h s = s
split_bound None (Some b) c h s = absurd h
split_bound None None (Some c) h s = absurd h
split_bound (Some a) b c h s = refl

split_body : (a b c : Holding) → SplitsTo a b c → is_some c ≡ true → is_some a ≡ true
split_body None None None h s = s
split_body None (Some b) c h s = absurd h
split_body None None (Some c) h s = absurd h
split_body (Some a) b c h s = refl

returnable_some : (h : Holding) → is_some (returnable h) ≡ true → is_some h ≡ true
returnable_some None s = s
returnable_some (Some a) s = refl

without_some : (x : ℕ) (g : TypeEnv) (z : ℕ) → is_some (without x g z) ≡ true → is_some (g z) ≡ true
without_some x g z h =
    (elim (nat_eq x z) as (λ t. is_some (if t then None else g z) ≡ true → is_some (g z) ≡ true) [ true ↦ λ k. cc | false ↦ λ k. k ]) h

-- a variable that a clause doesn't bind is offered as it is without the guarded one
clause_env_out : (g : TypeEnv) (x i : ℕ) (e : Pat) (decl : TagDecl) (r : Clause) (z : ℕ) → is_among z (clause_binders r) ≡ false → clause_env g x i e decl r z ≡ without x g z
clause_env_out g x i e decl r z out =
    let off_from : nat_eq z r.from ≡ false = false_from_ne_true (nat_eq z r.from) (λ q. clash (any_last (nat_eq z) r.vars (r.from ∷ []) (or_left (nat_eq z r.from) false q)) out) in
    let off_vars : is_among z r.vars ≡ false = false_from_ne_true (is_among z r.vars) (λ q. clash (any_first (nat_eq z) r.vars (r.from ∷ []) q) out) in
    cond-false (nat_eq r.from z) (Some (mailbox_type i Receiving (residual e r.tag) Returnable)) (with_payloads (payload_type decl) 0 r.vars (without x g) z) (ne_eqb r.from z (λ q. eqb-false z r.from off_from (sym q)))
    ∙ payloads_off (payload_type decl) 0 r.vars (without x g) z off_vars

clauses_named : (p : Program) (y : Typing) (g : TypeEnv) (t : TypeOf) (z x i : ℕ) (e : Pat) (cs : List Clause) → AllByRecursion (ClauseTyped p y g t x i e) cs → list_any (clause_uses (is_free p z) z) cs ≡ true → ((k : ℕ) → is_among k (clause_bodies cs) ≡ true → is_free p z k ≡ true → is_some (y.envs k z) ≡ true) → is_some (g z) ≡ true
clauses_named p y g t z x i e [] a o ih = cc
clauses_named p y g t z x i e (r ∷ cs) a o ih =
    ⊎_elim
    (λ here.
    let q = and_parts (is_free p z r.body) (not (is_among z (clause_binders r))) here in
    let out = not_true (is_among z (clause_binders r)) q.1 in
    let s = ih r.body (or_left (nat_eq r.body r.body) (is_among r.body (clause_bodies cs)) (eq-eqb r.body r.body refl)) q.0 in
    let offered = passes_some (clause_env g x i e a.0.decl r z) (y.envs r.body z) (a.0.passes z) s in
    without_some x g z (ap is_some (sym (clause_env_out g x i e a.0.decl r z out)) ∙ offered))
    (λ rest. clauses_named p y g t z x i e cs a.1 rest (λ k am. ih k (or_right (nat_eq k r.body) (is_among k (clause_bodies cs)) am)))
    (or_cases (clause_uses (is_free p z) z r) (list_any (clause_uses (is_free p z) z) cs) o)

guard_named : (p : Program) (y : Typing) (g : TypeEnv) (t : TypeOf) (z x : ℕ) (e : Pat) (free : Option ℕ) (cs : List Clause) → GuardTyped p y g t x e free cs → (nat_eq z x || (list_any (is_free p z) (option_list free) || list_any (clause_uses (is_free p z) z) cs)) ≡ true → ((k : ℕ) → is_among k (option_list free ++ clause_bodies cs) ≡ true → is_free p z k ≡ true → is_some (y.envs k z) ≡ true) → is_some (g z) ≡ true
guard_named p y g t z x e free cs h o ih =
    ⊎_elim
    (λ own. let same : z ≡ x = eqb-true z x own in ap is_some (ap g same ∙ h.named))
    (λ parts. ⊎_elim
    (λ f. freed free refl f)
    (λ c. clauses_named p y g t z x h.guarded.interface e cs h.receives c (λ k am. ih k (any_last (nat_eq k) (option_list free) (clause_bodies cs) am)))
    (or_cases (list_any (is_free p z) (option_list free)) (list_any (clause_uses (is_free p z) z) cs) parts))
    (or_cases (nat_eq z x) (list_any (is_free p z) (option_list free) || list_any (clause_uses (is_free p z) z) cs) o)
  where
    freed : (o : Option ℕ) → free ≡ o → list_any (is_free p z) (option_list o) ≡ true → is_some (g z) ≡ true
    freed None q f = cc
    freed (Some m) q f =
        let free_m : is_free p z m ≡ true = ⊎_elim (λ a. a) (λ b. cc) (or_cases (is_free p z m) false f) in
        let among : is_among m (option_list free ++ clause_bodies cs) ≡ true =
        any_first (nat_eq m) (option_list free) (clause_bodies cs) (subst (λ w. is_among m (option_list w) ≡ true) (sym q) (or_left (nat_eq m m) false (eq-eqb m m refl))) in
        without_some x g z (passes_some (without x g z) (y.envs m z) (h.free_passes m q z) (ih m among free_m))

pub kind_same : (p : Program) (y : Typing) (n z : ℕ) (k : Kind) (core : Core) (facts : NodeFacts p y n core) → KindAt p n z k → slice_get facts.fits.function.vars z ≡ Some k
kind_same p y n z k core facts (d, g, at, of, is) =
    let same : d ≡ facts.node = let e = sym at ∙ facts.there in cc in
    let e : Some g ≡ Some facts.fits.function = sym of ∙ ap (λ (w : Node). function_at p w.function) same ∙ facts.fits.of in
    let fun : g ≡ facts.fits.function = cc in
    ap (λ (w : Function). slice_get w.vars z) (sym fun) ∙ is

-- the interface of a send's target is that of its variable's kind
pub target_same : (p : Program) (y : Typing) (n x i : ℕ) (core : Core) (facts : NodeFacts p y n core) (j : ℕ) (need : MailboxType) → need.interface ≡ j → PassesTo (y.envs n x) (Some need) → slice_get facts.fits.function.vars x ≡ Some (MailboxOf i) → i ≡ j
target_same p y n x i core facts j need at passes kind = go (y.envs n x) refl passes
  where
    go : (o : Holding) → y.envs n x ≡ o → PassesTo o (Some need) → i ≡ j
    go None e q = absurd q
    go (Some a) e q =
        let k = kind_same p y n x (MailboxOf a.interface) core facts (facts.typed.kinds x a e) in
        let r : Some (MailboxOf i) ≡ Some (MailboxOf a.interface) = sym kind ∙ k in
        let same : i ≡ a.interface = cc in
        same ∙ q.interface ∙ at

core_named : (p : Program) (y : Typing) (z n i : ℕ) (core : Core) → WellFormed p → (facts : NodeFacts p y n core) → slice_get facts.fits.function.vars z ≡ Some (MailboxOf i) → CoreKinds p facts.fits.function.vars (kind_of_type (y.results n)) core → CoreTyped p y (y.envs n) (y.results n) core → core_uses (is_free p z) z core ≡ true → ((k : ℕ) → is_among k (parts core) ≡ true → is_free p z k ≡ true → is_some (y.envs k z) ≡ true) → is_some (y.envs n z) ≡ true
core_named p y z n i (Val e) w facts at kinds h o ih = value_named facts.fits.function.vars z i at (y.results n) e (y.envs n) kinds h o
core_named p y z n i (Print e) w facts at kinds h o ih =
    let q = mailbox_occurs facts.fits.function.vars z i at e kinds.1.0 kinds.1.1 o in
    absurd (subst IsPrintable q.1 kinds.1.2)
core_named p y z n i (New j) w facts at kinds h o ih = cc
core_named p y z n i (Call f args) w facts at kinds h o ih =
    let e : Some kinds.0 ≡ Some h.0 = sym kinds.1 ∙ h.1 in
    let same : kinds.0 ≡ h.0 = cc in
    let have = subst (λ (g : Function). HaveKinds facts.fits.function.vars args (map kind_of g.params)) same kinds.2 in
    passes_some (y.envs n z) (args_need (param_type y f h.0) 0 args z) (h.3 z)
    (args_named facts.fits.function.vars z i at (param_type y f h.0) 0 args h.0.params have (params_typed y f h.0) o)
core_named p y z n i (Send x m args) w facts at kinds h o ih =
    let vars = facts.fits.function.vars in
    let k = kinds.1 in
    let need = mailbox_type h.0 Sending (Tag m) Second in
    let all = args_need (payload_type h.1) 0 args in
    let at_x : PassesTo (y.envs n x) (Some need) =
    subst (λ o. PassesTo (y.envs n x) o) (cond-true (nat_eq x x) (Some need) (all x) (eq-eqb x x refl)) (h.4 x) in
    let same_i : k.0 ≡ h.0 = target_same p y n x k.0 (Send x m args) facts h.0 need refl at_x k.2 in
    let e : Some k.1 ≡ Some h.1 = sym k.3 ∙ ap (λ j. tag_at p j m) same_i ∙ h.2 in
    let same : k.1 ≡ h.1 = cc in
    let have = subst (λ (d : TagDecl). HaveKinds vars args (map kind_of d.payloads)) same k.4 in
    passes_some (y.envs n z) (with_type x need all z) (h.4 z)
    (⊎_elim
    (λ own. ap is_some (cond-true (nat_eq x z) (Some need) (all z) (eq-eqb x z (sym (eqb-true z x own)))))
    (λ rest.
    let some = args_named vars z i at (payload_type h.1) 0 args h.1.payloads have (payloads_typed p h.1 (tag_payloads p w h.0 m h.1 h.2)) rest in
    elim (nat_eq x z) as (λ t. is_some (if t then Some need else all z) ≡ true) [ true ↦ refl | false ↦ some ])
    (or_cases (nat_eq z x) (list_any (occurs z) args) o))
core_named p y z n i (If e m b) w facts at kinds h o ih =
    ⊎_elim
    (λ test. absurd (base_occurs facts.fits.function.vars z i at e BaseBool kinds.0 test))
    (λ rest. ⊎_elim
    (λ l. passes_some (y.envs n z) (y.envs m z) (h.2 z) (ih m (or_left (nat_eq m m) (is_among m (b ∷ [])) (eq-eqb m m refl)) l))
    (λ r. passes_some (y.envs n z) (y.envs b z) (h.3 z) (ih b (or_right (nat_eq b m) (is_among b (b ∷ [])) (or_left (nat_eq b b) false (eq-eqb b b refl))) r))
    (or_cases (is_free p z m) (is_free p z b) rest))
    (or_cases (occurs z e) (is_free p z m || is_free p z b) o)
core_named p y z n i (Spawn m) w facts at kinds h o ih =
    returnable_some (y.envs n z) (passes_some (returnable (y.envs n z)) (y.envs m z) (h.1 z) (ih m (or_left (nat_eq m m) false (eq-eqb m m refl)) o))
core_named p y z n i (Let x m b) w facts at kinds h o ih =
    ⊎_elim
    (λ l. split_bound (y.envs n z) (y.envs m z) (without_name x (y.envs b) z) (h.1 z) (ih m (or_left (nat_eq m m) (is_among m (b ∷ [])) (eq-eqb m m refl)) l))
    (λ r.
    let q = and_parts (is_free p z b) (not (is_among z (option_list x))) r in
    let some = ih b (or_right (nat_eq b m) (is_among b (b ∷ [])) (or_left (nat_eq b b) false (eq-eqb b b refl))) q.0 in
    split_body (y.envs n z) (y.envs m z) (without_name x (y.envs b) z) (h.1 z) (named_body x (not_true (is_among z (option_list x)) q.1) some))
    (or_cases (is_free p z m) (is_free p z b && not (is_among z (option_list x))) o)
  where
    named_body : (x : Option ℕ) → is_among z (option_list x) ≡ false → is_some (y.envs b z) ≡ true → is_some (without_name x (y.envs b) z) ≡ true
    named_body None out s = s
    named_body (Some x) out s =
        let off : nat_eq x z ≡ false = ne_eqb x z (λ q. clash (or_left (nat_eq z x) false (eq-eqb z x (sym q))) out) in
        ap is_some (cond-false (nat_eq x z) None (y.envs b z) off) ∙ s
core_named p y z n i (Guard x e free cs) w facts at kinds h o ih = guard_named p y (y.envs n) (y.results n) z x e free cs h o ih

-- a part of a node is of the same function
pub part_kind : (p : Program) (n z : ℕ) (k : Kind) (core : Core) → WellFormed p → core_at p n ≡ Some core → (m : ℕ) → is_among m (parts core) ≡ true → KindAt p n z k → KindAt p m z k
part_kind p n z k core w at m a (d, g, there, of, is) =
    let same : d.core ≡ core = let e = ap (λ o. option_map (λ (x : Node). x.core) o) (sym there) ∙ at in cc in
    let q = (w.nodes n d there).parts_after m (subst (λ c. is_among m (parts c) ≡ true) (sym same) a) in
    (q.1.0, g, q.1.1, ap (function_at p) q.1.2 ∙ of, is)

named_from : (p : Program) (y : Typing) (z i : ℕ) → WellFormed p → IsTyping p y → (d n : ℕ) → length p.nodes ≤ d + n → (core : Core) → core_at p n ≡ Some core → KindAt p n z (MailboxOf i) → is_free p z n ≡ true → is_some (y.envs n z) ≡ true
named_from p y z i w t zero n long core at kind o =
    let past : node_at p n ≡ None = slice_get_past p.nodes n (omega arith) in
    let none : core_at p n ≡ None = ap (λ o. option_map (λ (d : Node). d.core) o) past in
    let e = sym none ∙ at in cc
named_from p y z i w t (suc d) n long core at kind o =
    let facts = node_facts p y n core w t at in
    core_named p y z n i core w facts (kind_same p y n z (MailboxOf i) core facts kind) facts.kinds facts.term (sym (free_unfolds p z n core w at) ∙ o)
    (λ k a o_k.
    let after = part_after p n core (node_at p n) w refl at k a in
    let part = part_core p n core w at k a in
    named_from p y z i w t d k (omega arith) part.0 part.1 (part_kind p n z (MailboxOf i) core w at k a kind) o_k)

pub free_named : (p : Program) (y : Typing) → WellFormed p → IsTyping p y → (z i n : ℕ) (core : Core) → core_at p n ≡ Some core → KindAt p n z (MailboxOf i) → is_free p z n ≡ true → is_some (y.envs n z) ≡ true
free_named p y w t z i n core at kind o = named_from p y z i w t (length p.nodes) n (omega arith) core at kind o
