-- A test of well-formed programs that computes: where it passes, the program is well formed.
use Rattle.std.proofs.Common.{◌≡◌, ℕ, zero, suc, ◌<◌, ◌≤◌, Bool, true, false, not, ◌||◌, ◌&&◌, nat_eq, if◌then◌else◌, List, [], ◌∷◌, length, map, Option, Some, None, refl, sym, ◌∙◌, subst, arith, ⊎_elim}
use Rattle.std.specs.Prelude.{nat_lt, take, bytes_eq, option_map}
use Rattle.std.specs.List.{AllByRecursion, list_any}
use Rattle.std.proofs.lemmas.Bool.{and_parts, or_cases, eqb-true, lt-ltb, cond-true, cond-false, false_from_ne_true}
use Rattle.pat_words_spec.specs.Patterns.{is_inhabited}
use Rattle.pat_words_laws.proofs.PatternLaws.{inhabited_to}
use Rattle.pat_semantics_spec.specs.Values.{BaseUnit, BaseBool, BaseInt, BaseText, Kind, Expr, VarExpr, Literal, OpExpr, occurs}
use Rattle.pat_semantics_spec.specs.Programs.{Program, Sending, Receiving, Sort, BaseSort, MailboxSort, Interface, TagDecl, Function, Core, Val, Let, Call, If, Print, New, Send, Spawn, Guard, Node, node_at, function_at, kind_of, parts, option_list, clause_binders, is_among, clause_uses, core_uses, option_uses, is_free_within, is_free}
use Rattle.pat_semantics_spec.specs.WellFormed.{WellFormed, InterfaceFits, FunctionFits, NodeFits, IsPartOf, IsPayload, IsSignature, uses_of, bindings_of}
use Rattle.pat_semantics_laws.proofs.Lists.{any_some}
use Rattle.pat_examples.proofs.Tests.{all_upto, upto, all_of, all_true, all_from, at_each, all_differ, differ, below_true, asked}
use Rattle.pat_examples.proofs.KindTests.{kind_eq, kind_same, kinds_eq, kinds_same, is_pattern_of, pattern_of, core_fits, core_kinds}

-- ---- what is free occurs

-- the variables of an expression are below m
abbrev expr_below : ℕ → Expr → Bool
expr_below m (VarExpr x) = nat_lt x m
expr_below m (Literal c) = true
expr_below m (OpExpr op a b) = expr_below m a && expr_below m b

-- the variables that occur in a term, apart from its parts, are below m
abbrev pub core_below : ℕ → Core → Bool
core_below m (Val e) = expr_below m e
core_below m (Let y a b) = true
core_below m (Call f args) = all_of (expr_below m) args
core_below m (If e a b) = expr_below m e
core_below m (Print e) = expr_below m e
core_below m (New i) = true
core_below m (Send x t args) = nat_lt x m && all_of (expr_below m) args
core_below m (Spawn a) = true
core_below m (Guard x e f cs) = nat_lt x m

occurs_below : (m x : ℕ) (e : Expr) → expr_below m e ≡ true → occurs x e ≡ true → x < m
occurs_below m x (VarExpr y) h o = subst (λ z. z < m) (sym (eqb-true x y o)) (below_true y m h)
occurs_below m x (Literal c) h o = cc
occurs_below m x (OpExpr op a b) h o =
    let both = and_parts (expr_below m a) (expr_below m b) h in
    ⊎_elim (occurs_below m x a both.0) (occurs_below m x b both.1) (or_cases (occurs x a) (occurs x b) o)

args_below : (m x : ℕ) (es : List Expr) → all_of (expr_below m) es ≡ true → list_any (occurs x) es ≡ true → x < m
args_below m x [] h o = cc
args_below m x (e ∷ es) h o =
    let both = and_parts (expr_below m e) (all_of (expr_below m) es) h in
    ⊎_elim (occurs_below m x e both.0) (args_below m x es both.1) (or_cases (occurs x e) (list_any (occurs x) es) o)

named_below : (m x y : ℕ) → nat_lt y m ≡ true → nat_eq x y ≡ true → x < m
named_below m x y h o = subst (λ z. z < m) (sym (eqb-true x y o)) (below_true y m h)

uses_below : (m x : ℕ) (free : ℕ → Bool) → ((k : ℕ) → free k ≡ true → x < m) → (core : Core) → core_below m core ≡ true → core_uses free x core ≡ true → x < m
uses_below m x free ih (Val e) h u = occurs_below m x e h u
uses_below m x free ih (Let y a b) h u =
    ⊎_elim (ih a) (λ w. ih b (and_parts (free b) (not (is_among x (option_list y))) w).0) (or_cases (free a) (free b && not (is_among x (option_list y))) u)
uses_below m x free ih (Call f args) h u = args_below m x args h u
uses_below m x free ih (If e a b) h u =
    ⊎_elim (occurs_below m x e h) (λ w. ⊎_elim (ih a) (ih b) (or_cases (free a) (free b) w)) (or_cases (occurs x e) (free a || free b) u)
uses_below m x free ih (Print e) h u = occurs_below m x e h u
uses_below m x free ih (New i) h u = cc
uses_below m x free ih (Send y t args) h u =
    let both = and_parts (nat_lt y m) (all_of (expr_below m) args) h in
    ⊎_elim (named_below m x y both.0) (args_below m x args both.1) (or_cases (nat_eq x y) (list_any (occurs x) args) u)
uses_below m x free ih (Spawn a) h u = ih a u
uses_below m x free ih (Guard y e f cs) h u =
    ⊎_elim (named_below m x y h)
    (λ w. ⊎_elim
    (λ v. let k = any_some free (option_list f) v in ih k.0 k.1)
    (λ v. let r = any_some (clause_uses free x) cs v in ih r.0.body (and_parts (free r.0.body) (not (is_among x (clause_binders r.0))) r.1).0)
    (or_cases (list_any free (option_list f)) (list_any (clause_uses free x) cs) w))
    (or_cases (nat_eq x y) (list_any free (option_list f) || list_any (clause_uses free x) cs) u)

within_below : (p : Program) (m x : ℕ) → ((n : ℕ) (d : Node) → node_at p n ≡ Some d → core_below m d.core ≡ true) → (depth n : ℕ) → is_free_within depth p x n ≡ true → x < m
within_below p m x below zero n h = cc
within_below p m x below (suc depth) n h = go (node_at p n) refl h (λ k. within_below p m x below depth k)
  where
    go : (o : Option Node) → node_at p n ≡ o → option_uses (is_free_within depth p x) x (option_map (λ (d : Node). d.core) o) ≡ true → ((k : ℕ) → is_free_within depth p x k ≡ true → x < m) → x < m
    go None e u ih = cc
    go (Some d) e u ih = uses_below m x (is_free_within depth p x) ih d.core (below n d e) u

free_below : (p : Program) (m x n : ℕ) → ((k : ℕ) (d : Node) → node_at p k ≡ Some d → core_below m d.core ≡ true) → is_free p x n ≡ true → x < m
unfolding is_free
free_below p m x n below h = within_below p m x below (length p.nodes) n h

-- ---- signatures and interfaces

-- a payload's type
abbrev payload_fits : Program → Sort → Bool
payload_fits p (BaseSort b) = true
payload_fits p (MailboxSort i q None) = false
payload_fits p (MailboxSort i Sending (Some e)) = is_pattern_of p i e && is_inhabited e
payload_fits p (MailboxSort i Receiving (Some e)) = is_pattern_of p i e

is_payload : (p : Program) (s : Sort) → payload_fits p s ≡ true → IsPayload p s
is_payload p (BaseSort b) h = tt
is_payload p (MailboxSort i Sending None) h = cc
is_payload p (MailboxSort i Receiving None) h = cc
is_payload p (MailboxSort i Sending (Some e)) h =
    let both = and_parts (is_pattern_of p i e) (is_inhabited e) h in
    (pattern_of p i e both.0, inhabited_to e both.1)
is_payload p (MailboxSort i Receiving (Some e)) h = pattern_of p i e h

-- a type of a function's signature
abbrev signature_fits : Program → Sort → Bool
signature_fits p (BaseSort b) = true
signature_fits p (MailboxSort i q None) = nat_lt i (length p.interfaces)
signature_fits p (MailboxSort i Sending (Some e)) = is_pattern_of p i e && is_inhabited e
signature_fits p (MailboxSort i Receiving (Some e)) = is_pattern_of p i e

is_signature : (p : Program) (s : Sort) → signature_fits p s ≡ true → IsSignature p s
is_signature p (BaseSort b) h = tt
is_signature p (MailboxSort i Sending None) h = below_true i (length p.interfaces) h
is_signature p (MailboxSort i Receiving None) h = below_true i (length p.interfaces) h
is_signature p (MailboxSort i Sending (Some e)) h =
    let both = and_parts (is_pattern_of p i e) (is_inhabited e) h in
    (pattern_of p i e both.0, inhabited_to e both.1)
is_signature p (MailboxSort i Receiving (Some e)) h = pattern_of p i e h

-- the payloads of a tag
abbrev tag_fits : Program → TagDecl → Bool
tag_fits p t = all_of (payload_fits p) t.payloads

-- from 1 to 32 tags with different names, and their payloads
abbrev interface_fits : Program → Interface → Bool
interface_fits p i =
    nat_lt 0 (length i.tags) && (nat_lt (length i.tags) 33 && (all_differ bytes_eq (map (λ t. t.name) i.tags) && all_of (tag_fits p) i.tags))

is_interface : (p : Program) (i : Interface) → interface_fits p i ≡ true → InterfaceFits p i
is_interface p i h =
    let names = map (λ t. t.name) i.tags in
    let a = and_parts (nat_lt 0 (length i.tags)) (nat_lt (length i.tags) 33 && (all_differ bytes_eq names && all_of (tag_fits p) i.tags)) h in
    let b = and_parts (nat_lt (length i.tags) 33) (all_differ bytes_eq names && all_of (tag_fits p) i.tags) a.1 in
    let c = and_parts (all_differ bytes_eq names) (all_of (tag_fits p) i.tags) b.1 in
    let some = below_true 0 (length i.tags) a.0 in
    let few = below_true (length i.tags) 33 b.0 in
    record {
      some = omega arith;
      few = omega arith;
      names = differ bytes_eq names c.0;
      payloads = all_true (tag_fits p) (λ t. AllByRecursion (IsPayload p) t.payloads) (λ t w. all_true (payload_fits p) (IsPayload p) (is_payload p) t.payloads w) i.tags c.1;
    }

-- ---- functions

-- the node is there, of function f and kind k
abbrev body_is : Option Node → ℕ → Kind → Bool
body_is None f k = false
body_is (Some d) f k = nat_eq d.function f && kind_eq d.kind k

-- a parameter is bound nowhere, and another variable in one place
abbrev binds_right : Program → ℕ → Function → ℕ → Bool
binds_right p f g x = nat_eq (bindings_of p f x) (if nat_lt x (length g.params) then 0 else 1)

-- what is free in the body is a parameter
abbrev scope_right : Program → Function → ℕ → Bool
scope_right p g x = not (is_free p x g.body) || nat_lt x (length g.params)

-- a function; m is above all variables
abbrev function_fits : ℕ → Program → ℕ → Function → Bool
function_fits m p f g =
    body_is (node_at p g.body) f (kind_of g.result)
    && (kinds_eq (take (length g.params) g.vars) (map kind_of g.params)
    && (nat_lt (length g.params) (suc (length g.vars))
    && (all_of (signature_fits p) g.params
    && (signature_fits p g.result
    && (all_upto (length g.vars) (binds_right p f g)
    && all_upto m (scope_right p g))))))

function_is : (m : ℕ) (p : Program) (f : ℕ) (g : Function) → ((k : ℕ) (d : Node) → node_at p k ≡ Some d → core_below m d.core ≡ true) → function_fits m p f g ≡ true → FunctionFits p f g
function_is m p f g below h =
    let t1 = body_is (node_at p g.body) f (kind_of g.result) in
    let t2 = kinds_eq (take (length g.params) g.vars) (map kind_of g.params) in
    let t3 = nat_lt (length g.params) (suc (length g.vars)) in
    let t4 = all_of (signature_fits p) g.params in
    let t5 = signature_fits p g.result in
    let t6 = all_upto (length g.vars) (binds_right p f g) in
    let t7 = all_upto m (scope_right p g) in
    let a = and_parts t1 (t2 && (t3 && (t4 && (t5 && (t6 && t7))))) h in
    let b = and_parts t2 (t3 && (t4 && (t5 && (t6 && t7)))) a.1 in
    let c = and_parts t3 (t4 && (t5 && (t6 && t7))) b.1 in
    let d = and_parts t4 (t5 && (t6 && t7)) c.1 in
    let e = and_parts t5 (t6 && t7) d.1 in
    let s = and_parts t6 t7 e.1 in
    let room = below_true (length g.params) (suc (length g.vars)) c.0 in
    let fit : length g.params ≤ length g.vars = omega arith in
    record {
      body = body (node_at p g.body) refl a.0;
      params = kinds_same (take (length g.params) g.vars) (map kind_of g.params) b.0;
      enough = fit;
      signature = (all_true (signature_fits p) (IsSignature p) (is_signature p) g.params d.0, is_signature p g.result e.0);
      bound_once = λ x l after. eqb-true (bindings_of p f x) (if nat_lt x (length g.params) then 0 else 1) (upto (length g.vars) (binds_right p f g) s.0 x l)
          ∙ cond-false (nat_lt x (length g.params)) 0 1 (false_from_ne_true (nat_lt x (length g.params)) (λ w. let l' = below_true x (length g.params) w in omega arith));
      parameters = λ x l. eqb-true (bindings_of p f x) (if nat_lt x (length g.params) then 0 else 1) (upto (length g.vars) (binds_right p f g) s.0 x (omega arith))
          ∙ cond-true (nat_lt x (length g.params)) 0 1 (lt-ltb x (length g.params) l);
      in_scope = λ x free. below_true x (length g.params) (asked (is_free p x g.body) (nat_lt x (length g.params)) (upto m (scope_right p g) s.1 x (free_below p m x g.body below free)) free);
    }
  where
    body : (o : Option Node) → node_at p g.body ≡ o → body_is o f (kind_of g.result) ≡ true → (d : Node) × (node_at p g.body ≡ Some d) × (d.function ≡ f) × (d.kind ≡ kind_of g.result)
    body None q w = cc
    body (Some d) q w =
        let both = and_parts (nat_eq d.function f) (kind_eq d.kind (kind_of g.result)) w in
        (d, q, eqb-true d.function f both.0, kind_same d.kind (kind_of g.result) both.1)

-- ---- nodes

-- the node is there, of function f
abbrev part_is : Option Node → ℕ → Bool
part_is None f = false
part_is (Some e) f = nat_eq e.function f

-- a part comes after its node and is of its function
abbrev part_fits : Program → ℕ → Node → ℕ → Bool
part_fits p n d k = nat_lt n k && part_is (node_at p k) d.function

is_part : (p : Program) (n : ℕ) (d : Node) (k : ℕ) → part_fits p n d k ≡ true → IsPartOf p n d k
is_part p n d k h =
    let both = and_parts (nat_lt n k) (part_is (node_at p k) d.function) h in
    (below_true n k both.0, go (node_at p k) refl both.1)
  where
    go : (o : Option Node) → node_at p k ≡ o → part_is o d.function ≡ true → (e : Node) × (node_at p k ≡ Some e) × (e.function ≡ d.function)
    go None q w = cc
    go (Some e) q w = (e, q, eqb-true e.function d.function w)

-- what holds of each number of a list holds of one that is among them
each_among : (P : ℕ → Type 0) (ks : List ℕ) → AllByRecursion P ks → (k : ℕ) → is_among k ks ≡ true → P k
each_among P [] a k h = cc
each_among P (j ∷ js) a k h =
    ⊎_elim (λ l. subst P (sym (eqb-true k j l)) a.0) (λ r. each_among P js a.1 k r) (or_cases (nat_eq k j) (is_among k js) h)

-- a node of a function that is there
abbrev node_with : Program → ℕ → Node → Option Function → Bool
node_with p n d None = false
node_with p n d (Some g) = all_of (part_fits p n d) (parts d.core) && (nat_eq (uses_of p n) 1 && core_fits p g.vars d.kind d.core)

-- a node
abbrev node_fits : Program → ℕ → Node → Bool
node_fits p n d = node_with p n d (function_at p d.function)

node_is : (p : Program) (n : ℕ) (d : Node) → node_fits p n d ≡ true → NodeFits p n d
node_is p n d h = go (function_at p d.function) refl h
  where
    go : (o : Option Function) → function_at p d.function ≡ o → node_with p n d o ≡ true → NodeFits p n d
    go None q w = cc
    go (Some g) q w =
        let a = and_parts (all_of (part_fits p n d) (parts d.core)) (nat_eq (uses_of p n) 1 && core_fits p g.vars d.kind d.core) w in
        let b = and_parts (nat_eq (uses_of p n) 1) (core_fits p g.vars d.kind d.core) a.1 in
        record {
          function = g;
          of = q;
          parts_after = each_among (IsPartOf p n d) (parts d.core) (all_true (part_fits p n d) (IsPartOf p n d) (is_part p n d) (parts d.core) a.0);
          once = eqb-true (uses_of p n) 1 b.0;
          kinds = core_kinds p g.vars d.kind d.core b.1;
        }

-- ---- programs

-- the type is unit
abbrev is_nothing : Sort → Bool
is_nothing (BaseSort BaseUnit) = true
is_nothing _ = false

nothing : (s : Sort) → is_nothing s ≡ true → s ≡ BaseSort BaseUnit
nothing (BaseSort BaseUnit) h = refl
nothing (BaseSort BaseBool) h = cc
nothing (BaseSort BaseInt) h = cc
nothing (BaseSort BaseText) h = cc
nothing (MailboxSort i q e) h = cc

-- there are no parameters
abbrev has_none : List Sort → Bool
has_none [] = true
has_none _ = false

none : (ss : List Sort) → has_none ss ≡ true → ss ≡ []
none [] h = refl
none (s ∷ ss) h = cc

-- main is there, without parameters and with result unit
abbrev main_is : Option Function → Bool
main_is None = false
main_is (Some g) = has_none g.params && is_nothing g.result

-- the program is well formed; m is above all variables
abbrev pub program_fits : ℕ → Program → Bool
program_fits m p =
    main_is (function_at p p.main)
    && (all_differ bytes_eq (map (λ i. i.name) p.interfaces)
    && (all_of (interface_fits p) p.interfaces
    && (all_from 0 (function_fits m p) p.functions
    && (all_from 0 (node_fits p) p.nodes
    && all_from 0 (λ n d. core_below m d.core) p.nodes))))

pub well_formed : (m : ℕ) (p : Program) → program_fits m p ≡ true → WellFormed p
well_formed m p h =
    let t1 = main_is (function_at p p.main) in
    let t2 = all_differ bytes_eq (map (λ i. i.name) p.interfaces) in
    let t3 = all_of (interface_fits p) p.interfaces in
    let t4 = all_from 0 (function_fits m p) p.functions in
    let t5 = all_from 0 (node_fits p) p.nodes in
    let t6 = all_from 0 (λ n d. core_below m d.core) p.nodes in
    let a = and_parts t1 (t2 && (t3 && (t4 && (t5 && t6)))) h in
    let b = and_parts t2 (t3 && (t4 && (t5 && t6))) a.1 in
    let c = and_parts t3 (t4 && (t5 && t6)) b.1 in
    let d = and_parts t4 (t5 && t6) c.1 in
    let e = and_parts t5 t6 d.1 in
    record {
      main = go (function_at p p.main) refl a.0;
      interface_names = differ bytes_eq (map (λ i. i.name) p.interfaces) b.0;
      interfaces = all_true (interface_fits p) (InterfaceFits p) (is_interface p) p.interfaces c.0;
      functions = λ f g at. function_is m p f g (at_each (λ n d. core_below m d.core) p.nodes e.1) (at_each (function_fits m p) p.functions d.0 f g at);
      nodes = λ n d at. node_is p n d (at_each (node_fits p) p.nodes e.0 n d at);
    }
  where
    go : (o : Option Function) → function_at p p.main ≡ o → main_is o ≡ true → (g : Function) × (function_at p p.main ≡ Some g) × (g.params ≡ []) × (g.result ≡ BaseSort BaseUnit)
    go None q w = cc
    go (Some g) q w =
        let both = and_parts (has_none g.params) (is_nothing g.result) w in
        (g, q, none g.params both.0, nothing g.result both.1)
