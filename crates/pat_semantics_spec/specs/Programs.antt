-- Core programs: interfaces, functions and numbered nodes.
use Rattle.std.specs.Prelude.{◌≡◌, ℕ, zero, suc, Bool, true, false, ◌||◌, ◌&&◌, not, nat_eq, List, [], ◌∷◌, ◌++◌, length, Option, Some, None, option_map, option_and_then, slice_get, filter}
use Rattle.std.specs.List.{list_any, flat_map}
use Rattle.pat_words_spec.specs.Patterns.{Pat}
use Rattle.pat_semantics_spec.specs.Values.{Base, Kind, Plain, MailboxOf, Expr, occurs, Env}

-- whether a mailbox may be sent to or received from
pub data Polarity : Type 0 where
  Sending : Polarity
  Receiving : Polarity

-- a written type: a base type, or a mailbox of an interface with a polarity and, if written, a pattern
pub data Sort : Type 0 where
  BaseSort : (base : Base) → Sort
  MailboxSort : (interface : ℕ) → (polarity : Polarity) → (pattern : Option Pat) → Sort

-- a tag of an interface, with the types of its payloads
pub record TagDecl : Type 0 where
  pub name : List ℕ
  pub payloads : List Sort

-- an interface: its tags have the numbers from 0 on
pub record Interface : Type 0 where
  pub name : List ℕ
  pub tags : List TagDecl

-- a function: its variables have the numbers from 0 on, parameters first, and kinds
pub record Function : Type 0 where
  pub name : List ℕ
  pub params : List Sort
  pub result : Sort
  pub vars : List Kind
  pub body : ℕ

-- a receive clause: the tag, the names of the payloads, the name of what is left of the mailbox, and the body
pub record Clause : Type 0 where
  pub tag : ℕ
  pub vars : List ℕ
  pub from : ℕ
  pub body : ℕ

-- a term, whose parts are numbers of nodes
pub data Core : Type 0 where
  Val : (expr : Expr) → Core
  Let : (var : Option ℕ) → (bound body : ℕ) → Core
  Call : (function : ℕ) → (args : List Expr) → Core
  If : (test : Expr) → (yes no : ℕ) → Core
  Print : (expr : Expr) → Core
  New : (interface : ℕ) → Core
  Send : (target tag : ℕ) → (args : List Expr) → Core
  Spawn : (body : ℕ) → Core
  Guard : (var : ℕ) → (pattern : Pat) → (free : Option ℕ) → (receives : List Clause) → Core

-- a node: a term of a function, with its kind
pub record Node : Type 0 where
  pub core : Core
  pub kind : Kind
  pub function : ℕ

-- a program: interfaces, functions and nodes have the numbers from 0 on, and main is the number of a function
pub record Program : Type 0 where
  pub interfaces : List Interface
  pub functions : List Function
  pub main : ℕ
  pub nodes : List Node

-- the node with this number
abbrev pub node_at : Program → ℕ → Option Node
node_at p n = slice_get p.nodes n

-- the term of a node
abbrev pub core_at : Program → ℕ → Option Core
core_at p n = option_map (λ d. d.core) (node_at p n)

-- the function with this number
abbrev pub function_at : Program → ℕ → Option Function
function_at p f = slice_get p.functions f

-- a tag of an interface
abbrev pub tag_at : Program → ℕ → ℕ → Option TagDecl
tag_at p i m = option_and_then (λ j. slice_get j.tags m) (slice_get p.interfaces i)

-- the kind of a written type
abbrev pub kind_of : Sort → Kind
kind_of (BaseSort b) = Plain b
kind_of (MailboxSort i q e) = MailboxOf i

-- a list of one number, or of none
abbrev pub option_list : Option ℕ → List ℕ
option_list None = []
option_list (Some n) = n ∷ []

-- the bodies of the clauses of a guard
abbrev pub clause_bodies : List Clause → List ℕ
clause_bodies [] = []
clause_bodies (c ∷ cs) = c.body ∷ clause_bodies cs

-- the parts of a term, in the order of the source
abbrev pub parts : Core → List ℕ
parts (Let y m n) = m ∷ n ∷ []
parts (If e m n) = m ∷ n ∷ []
parts (Spawn m) = m ∷ []
parts (Guard x e free cs) = option_list free ++ clause_bodies cs
parts _ = []

-- the variables that a clause binds
abbrev pub clause_binders : Clause → List ℕ
clause_binders c = c.vars ++ c.from ∷ []

-- the variables that a term binds in its parts
abbrev pub binders : Core → List ℕ
binders (Let y m n) = option_list y
binders (Guard x e free cs) = flat_map clause_binders cs
binders _ = []

-- whether the number is in the list
abbrev pub is_among : ℕ → List ℕ → Bool
is_among x xs = list_any (nat_eq x) xs

-- whether the variable is free in a clause, where `free k` says so of its body
abbrev pub clause_uses : (ℕ → Bool) → ℕ → Clause → Bool
clause_uses free x c = free c.body && not (is_among x (clause_binders c))

-- whether the variable is free in a term, where `free k` says so of its part k
abbrev pub core_uses : (ℕ → Bool) → ℕ → Core → Bool
core_uses free x (Val e) = occurs x e
core_uses free x (Let y m n) = free m || (free n && not (is_among x (option_list y)))
core_uses free x (Call f args) = list_any (occurs x) args
core_uses free x (If e m n) = occurs x e || (free m || free n)
core_uses free x (Print e) = occurs x e
core_uses free x (New i) = false
core_uses free x (Send y m args) = nat_eq x y || list_any (occurs x) args
core_uses free x (Spawn m) = free m
core_uses free x (Guard y e f cs) = nat_eq x y || (list_any free (option_list f) || list_any (clause_uses free x) cs)

-- whether the variable is free in a term, if there is one
abbrev pub option_uses : (ℕ → Bool) → ℕ → Option Core → Bool
option_uses free x None = false
option_uses free x (Some core) = core_uses free x core

-- whether the variable is free in the node, looking at most d levels deep
abbrev pub is_free_within : ℕ → Program → ℕ → ℕ → Bool
is_free_within zero p x n = false
is_free_within (suc d) p x n = option_uses (is_free_within d p x) x (core_at p n)

-- whether the variable is free in the node; parts have greater numbers, so no node is deeper than there are nodes
unfoldable pub is_free : Program → ℕ → ℕ → Bool
is_free p x n = is_free_within (length p.nodes) p x n

-- the values of just the node's free variables
abbrev pub keep : Program → ℕ → Env → Env
keep p n env = filter (λ b. is_free p b.0 n) env

-- the kind of a variable of the function of a node
abbrev pub KindAt : Program → ℕ → ℕ → Kind → Type 0
KindAt p n x k =
    (d : Node) × (g : Function) × (node_at p n ≡ Some d) × (function_at p d.function ≡ Some g) × (slice_get g.vars x ≡ Some k)

-- whether the type is that of a mailbox to receive from
abbrev pub is_receiving : Sort → Bool
is_receiving (MailboxSort i Receiving e) = true
is_receiving _ = false

-- whether an interface of the program declares a payload that hands over the right to receive
abbrev pub delegates : Program → Bool
delegates p = list_any (λ i. list_any (λ t. list_any is_receiving t.payloads) i.tags) p.interfaces
