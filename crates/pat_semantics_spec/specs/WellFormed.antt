-- Well-formed programs.
use Rattle.std.specs.Prelude.{◌≡◌, ℕ, ◌+◌, ◌≤◌, ◌<◌, Bool, true, false, nat_eq, List, [], ◌∷◌, length, Option, Some, None, map, take, bytes_eq, slice_get, IsTrue, if◌then◌else◌}
use Rattle.std.specs.List.{AllByRecursion, IsDistinct}
use Rattle.pat_words_spec.specs.Words.{Word}
use Rattle.pat_words_spec.specs.Patterns.{Pat, In, is_closed}
use Rattle.pat_words_spec.specs.Tags.{tags_below}
use Rattle.pat_semantics_spec.specs.Values.{BaseUnit, BaseBool, BaseInt, BaseText, Kind, Plain, MailboxOf, Op, Add, Sub, Mul, Equal, Less, Expr, VarExpr, Literal, OpExpr, base_of}
use Rattle.pat_semantics_spec.specs.Programs.{Sending, Receiving, Sort, BaseSort, MailboxSort, TagDecl, Interface, Function, Clause, Core, Val, Let, Call, If, Print, New, Send, Spawn, Guard, Node, Program, node_at, function_at, tag_at, kind_of, parts, binders, is_among, is_free}

-- the kind that an operator gives to two kinds that it takes
abbrev pub op_kind : Op → Option Kind → Option Kind → Option Kind
op_kind Add (Some (Plain BaseInt)) (Some (Plain BaseInt)) = Some (Plain BaseInt)
op_kind Sub (Some (Plain BaseInt)) (Some (Plain BaseInt)) = Some (Plain BaseInt)
op_kind Mul (Some (Plain BaseInt)) (Some (Plain BaseInt)) = Some (Plain BaseInt)
op_kind Equal (Some (Plain BaseInt)) (Some (Plain BaseInt)) = Some (Plain BaseBool)
op_kind Equal (Some (Plain BaseBool)) (Some (Plain BaseBool)) = Some (Plain BaseBool)
op_kind Equal (Some (Plain BaseText)) (Some (Plain BaseText)) = Some (Plain BaseBool)
op_kind Less (Some (Plain BaseInt)) (Some (Plain BaseInt)) = Some (Plain BaseBool)
op_kind _ _ _ = None

-- the kind of an expression, where variables have these kinds
abbrev pub expr_kind : List Kind → Expr → Option Kind
expr_kind vars (VarExpr x) = slice_get vars x
expr_kind vars (Literal c) = Some (Plain (base_of c))
expr_kind vars (OpExpr op a b) = op_kind op (expr_kind vars a) (expr_kind vars b)

-- the expressions are as many as the kinds and have them, place by place
abbrev pub HaveKinds : List Kind → List Expr → List Kind → Type 0
HaveKinds vars [] [] = Unit {0}
HaveKinds vars (e ∷ es) (k ∷ ks) = (expr_kind vars e ≡ Some k) × HaveKinds vars es ks
HaveKinds vars _ _ = ⊥

-- node n is there and has this kind
abbrev pub HasKind : Program → ℕ → Kind → Type 0
HasKind p n k = (d : Node) × (node_at p n ≡ Some d) × (d.kind ≡ k)

-- print takes an integer, a truth value or a text
abbrev pub IsPrintable : Kind → Type 0
IsPrintable (Plain BaseUnit) = ⊥
IsPrintable (Plain _) = Unit {0}
IsPrintable (MailboxOf i) = ⊥

-- a written pattern of an interface
pub record IsPatternOf (p : Program) (i : ℕ) (e : Pat) : Type 0 where
  pub interface : Interface
  pub there : slice_get p.interfaces i ≡ Some interface
  pub tags : IsTrue (tags_below (length interface.tags) e)
  pub closed : IsTrue (is_closed e)

-- the variables are as many as the kinds and have them
abbrev pub VarsHaveKinds : List Kind → List ℕ → List Kind → Type 0
VarsHaveKinds vars [] [] = Unit {0}
VarsHaveKinds vars (x ∷ xs) (k ∷ ks) = (slice_get vars x ≡ Some k) × VarsHaveKinds vars xs ks
VarsHaveKinds vars _ _ = ⊥

-- a receive clause of a guard on a mailbox of interface i
pub record ClauseKinds (p : Program) (vars : List Kind) (i : ℕ) (k : Kind) (r : Clause) : Type 0 where
  pub decl : TagDecl
  pub declared : tag_at p i r.tag ≡ Some decl
  pub payloads : VarsHaveKinds vars r.vars (map kind_of decl.payloads)
  pub from : slice_get vars r.from ≡ Some (MailboxOf i)
  pub body : HasKind p r.body k

-- the kinds of a term's parts, for a term of this kind; a guard without clauses is of kind unit
abbrev pub CoreKinds : Program → List Kind → Kind → Core → Type 0
CoreKinds p vars k (Val e) = expr_kind vars e ≡ Some k
CoreKinds p vars k (Let None m n) = HasKind p m (Plain BaseUnit) × HasKind p n k
CoreKinds p vars k (Let (Some y) m n) = (j : Kind) × (slice_get vars y ≡ Some j) × HasKind p m j × HasKind p n k
CoreKinds p vars k (Call f args) =
    (g : Function) × (function_at p f ≡ Some g) × HaveKinds vars args (map kind_of g.params) × (kind_of g.result ≡ k)
CoreKinds p vars k (If e m n) = (expr_kind vars e ≡ Some (Plain BaseBool)) × HasKind p m k × HasKind p n k
CoreKinds p vars k (Print e) = (k ≡ Plain BaseUnit) × ((j : Kind) × (expr_kind vars e ≡ Some j) × IsPrintable j)
CoreKinds p vars k (New i) = (k ≡ MailboxOf i) × (i < length p.interfaces)
CoreKinds p vars k (Send x m args) =
    (k ≡ Plain BaseUnit)
    × ((i : ℕ) × (decl : TagDecl) × (slice_get vars x ≡ Some (MailboxOf i)) × (tag_at p i m ≡ Some decl) × HaveKinds vars args (map kind_of decl.payloads))
CoreKinds p vars k (Spawn m) = (k ≡ Plain BaseUnit) × HasKind p m (Plain BaseUnit)
CoreKinds p vars k (Guard x e free cs) =
    (i : ℕ)
    × (slice_get vars x ≡ Some (MailboxOf i))
    × IsPatternOf p i e
    × ((n : ℕ) → free ≡ Some n → HasKind p n k)
    × AllByRecursion (ClauseKinds p vars i k) cs
    × IsDistinct nat_eq (map (λ r. r.tag) cs)
    × (free ≡ None → cs ≡ [] → k ≡ Plain BaseUnit)

-- a part comes after its node, and is of the same function
abbrev pub IsPartOf : Program → ℕ → Node → ℕ → Type 0
IsPartOf p n d k = (n < k) × ((e : Node) × (node_at p k ≡ Some e) × (e.function ≡ d.function))

-- one where the test passes
abbrev pub count_if : Bool → ℕ
count_if true = 1
count_if false = 0

-- how often the number is in the list
abbrev pub count_among : ℕ → List ℕ → ℕ
count_among n [] = 0
count_among n (k ∷ ks) = count_if (nat_eq n k) + count_among n ks

-- how often n is the body of one of the functions
abbrev pub uses_as_body : ℕ → List Function → ℕ
uses_as_body n [] = 0
uses_as_body n (f ∷ fs) = count_if (nat_eq n f.body) + uses_as_body n fs

-- how often n is a part of one of the nodes
abbrev pub uses_as_part : ℕ → List Node → ℕ
uses_as_part n [] = 0
uses_as_part n (d ∷ ds) = count_among n (parts d.core) + uses_as_part n ds

-- how often n is a function's body or a part
abbrev pub uses_of : Program → ℕ → ℕ
uses_of p n = uses_as_body n p.functions + uses_as_part n p.nodes

-- how often x is bound by those of the nodes that are of function f
abbrev pub bindings_in : ℕ → ℕ → List Node → ℕ
bindings_in f x [] = 0
bindings_in f x (d ∷ ds) = (if nat_eq d.function f then count_among x (binders d.core) else 0) + bindings_in f x ds

-- how often variable x of function f is bound
abbrev pub bindings_of : Program → ℕ → ℕ → ℕ
bindings_of p f x = bindings_in f x p.nodes

-- a payload's type: a base type, or a mailbox type whose pattern is written; a sending one has a word
abbrev pub IsPayload : Program → Sort → Type 0
IsPayload p (BaseSort b) = Unit {0}
IsPayload p (MailboxSort i q None) = ⊥
IsPayload p (MailboxSort i Sending (Some e)) = IsPatternOf p i e × ((w : Word) × In e w)
IsPayload p (MailboxSort i Receiving (Some e)) = IsPatternOf p i e

-- a type in a function's signature
abbrev pub IsSignature : Program → Sort → Type 0
IsSignature p (BaseSort b) = Unit {0}
IsSignature p (MailboxSort i q None) = i < length p.interfaces
IsSignature p (MailboxSort i Sending (Some e)) = IsPatternOf p i e × ((w : Word) × In e w)
IsSignature p (MailboxSort i Receiving (Some e)) = IsPatternOf p i e

-- from 1 to 32 tags with different names, and payloads as above
pub record InterfaceFits (p : Program) (i : Interface) : Type 0 where
  pub some : 1 ≤ length i.tags
  pub few : length i.tags ≤ 32
  pub names : IsDistinct bytes_eq (map (λ t. t.name) i.tags)
  pub payloads : AllByRecursion (λ t. AllByRecursion (IsPayload p) t.payloads) i.tags

-- a function: its body is its node, of its result's kind, and its variables are parameters or bound in one place, and used in their scope
pub record FunctionFits (p : Program) (f : ℕ) (g : Function) : Type 0 where
  pub body : (d : Node) × (node_at p g.body ≡ Some d) × (d.function ≡ f) × (d.kind ≡ kind_of g.result)
  pub params : take (length g.params) g.vars ≡ map kind_of g.params
  pub enough : length g.params ≤ length g.vars
  pub signature : AllByRecursion (IsSignature p) g.params × IsSignature p g.result
  pub bound_once : (x : ℕ) → x < length g.vars → length g.params ≤ x → bindings_of p f x ≡ 1
  pub parameters : (x : ℕ) → x < length g.params → bindings_of p f x ≡ 0
  pub in_scope : (x : ℕ) → IsTrue (is_free p x g.body) → x < length g.params

-- a node: its parts come after it, and it and its parts have the kinds that its term asks
pub record NodeFits (p : Program) (n : ℕ) (d : Node) : Type 0 where
  pub function : Function
  pub of : function_at p d.function ≡ Some function
  pub parts_after : (k : ℕ) → IsTrue (is_among k (parts d.core)) → IsPartOf p n d k
  pub once : uses_of p n ≡ 1
  pub kinds : CoreKinds p function.vars d.kind d.core

-- the program is well formed
pub record WellFormed (p : Program) : Type 0 where
  pub main : (g : Function) × (function_at p p.main ≡ Some g) × (g.params ≡ []) × (g.result ≡ BaseSort BaseUnit)
  pub interface_names : IsDistinct bytes_eq (map (λ i. i.name) p.interfaces)
  pub interfaces : AllByRecursion (InterfaceFits p) p.interfaces
  pub functions : (f : ℕ) (g : Function) → function_at p f ≡ Some g → FunctionFits p f g
  pub nodes : (n : ℕ) (d : Node) → node_at p n ≡ Some d → NodeFits p n d
