-- Typings of programs.
use Rattle.std.specs.Prelude.{◌≡◌, ℕ, suc, Bool, nat_eq, List, [], ◌∷◌, Option, Some, None, is_some, option_and_then, unwrap_or, slice_get, IsTrue}
use Rattle.std.specs.List.{AllByRecursion, IsDistinct, list_any}
use Rattle.pat_semantics_spec.specs.Words.{Word}
use Rattle.pat_semantics_spec.specs.Patterns.{Pat, Tag, One, In, Included, Covers, residual}
use Rattle.pat_semantics_spec.specs.Values.{BaseUnit, MailboxOf, Expr, VarExpr}
use Rattle.pat_semantics_spec.specs.Programs.{Polarity, Sending, Receiving, Sort, BaseSort, MailboxSort, TagDecl, Function, Clause, Core, Val, Let, Call, If, Print, New, Send, Spawn, Guard, Node, Program, node_at, function_at, tag_at, is_among, clause_binders, KindAt}
use Rattle.pat_type_system_spec.specs.Types.{Usage, Second, Returnable, MailboxType, TypeOf, BaseTerm, MailboxTerm, kind_of_type, mailbox_type, Fits, TypeFits, MayDrop, TypeEnv, EnvPasses, EnvSplits, no_types, with_type, without, returnable}

-- a typing: a result type and an environment for each node, and a pattern for each type in a signature that has none
pub record Typing : Type 0 where
  pub results : ℕ → TypeOf
  pub envs : ℕ → TypeEnv
  pub param_patterns : ℕ → ℕ → Pat
  pub result_patterns : ℕ → Pat

-- a receiving parameter is returnable, a sending one second-class
abbrev pub param_usage : Polarity → Usage
param_usage Sending = Second
param_usage Receiving = Returnable

-- the type that a signature gives, with the pattern e where none is written
abbrev pub sort_type : Pat → Sort → Option MailboxType
sort_type e (BaseSort b) = None
sort_type e (MailboxSort i q f) = Some (mailbox_type i q (unwrap_or f e) (param_usage q))

-- the type of a function's parameter at a place, if it is a mailbox
abbrev pub param_type : Typing → ℕ → Function → TypeEnv
param_type y f g k = option_and_then (sort_type (y.param_patterns f k)) (slice_get g.params k)

-- the result type that a signature gives, with the pattern e where none is written
abbrev pub result_of : Pat → Sort → TypeOf
result_of e (BaseSort b) = BaseTerm b
result_of e (MailboxSort i q f) = MailboxTerm i q (unwrap_or f e)

-- the type of a function's result
abbrev pub result_type : Typing → ℕ → Function → TypeOf
result_type y f g = result_of (y.result_patterns f) g.result

-- a payload's type, if it is a mailbox: second-class
abbrev pub payload_sort : Sort → Option MailboxType
payload_sort (MailboxSort i q (Some e)) = Some (mailbox_type i q e Second)
payload_sort _ = None

-- the type of a tag's payload at a place, if it is a mailbox: second-class
abbrev pub payload_type : TagDecl → TypeEnv
payload_type decl k = option_and_then payload_sort (slice_get decl.payloads k)

-- the environment where x has this type, if there is one
abbrev pub with_option : ℕ → Option MailboxType → TypeEnv → TypeEnv
with_option x None g = g
with_option x (Some a) g = with_type x a g

-- what arguments need of their variables, where the places from k on have these types
abbrev pub args_need : TypeEnv → ℕ → List Expr → TypeEnv
args_need types k [] = no_types
args_need types k (VarExpr x ∷ es) = with_option x (types k) (args_need types (suc k) es)
args_need types k (_ ∷ es) = args_need types (suc k) es

-- the variable too, where the place is a mailbox
abbrev pub if_mailbox : Option MailboxType → ℕ → List ℕ → List ℕ
if_mailbox None x xs = xs
if_mailbox (Some a) x xs = x ∷ xs

-- the variables at the places that are mailboxes
abbrev pub mailbox_args : TypeEnv → ℕ → List Expr → List ℕ
mailbox_args types k [] = []
mailbox_args types k (VarExpr x ∷ es) = if_mailbox (types k) x (mailbox_args types (suc k) es)
mailbox_args types k (_ ∷ es) = mailbox_args types (suc k) es

-- the variables with the types at their places, over an environment
abbrev pub with_payloads : TypeEnv → ℕ → List ℕ → TypeEnv → TypeEnv
with_payloads types k [] g = g
with_payloads types k (x ∷ xs) g = with_option x (types k) (with_payloads types (suc k) xs g)

-- what there is for the body of a receive clause of a guard x : E, over what there is for the guard
abbrev pub clause_env : TypeEnv → ℕ → ℕ → Pat → TagDecl → Clause → TypeEnv
clause_env g x i e decl r =
    with_type r.from (mailbox_type i Receiving (residual e r.tag) Returnable) (with_payloads (payload_type decl) 0 r.vars (without x g))

-- a payload of the tag is a mailbox
abbrev pub HasMailboxPayload : TagDecl → Type 0
HasMailboxPayload decl = (k : ℕ) × IsTrue (is_some (payload_type decl k))

-- a receive clause of a guard x : E on a mailbox of interface i, in a node of type t
pub record ClauseTyped (p : Program) (y : Typing) (g : TypeEnv) (t : TypeOf) (x i : ℕ) (e : Pat) (r : Clause) : Type 0 where
  pub decl : TagDecl
  pub declared : tag_at p i r.tag ≡ Some decl
  pub result : y.results r.body ≡ t
  pub passes : EnvPasses (clause_env g x i e decl r) (y.envs r.body)
  -- beside a mailbox payload the body uses the clause's own names alone
  pub own_names : HasMailboxPayload decl → (z : ℕ) → IsTrue (is_some (y.envs r.body z)) → IsTrue (is_among z (clause_binders r))

-- the tag is that of a receive clause
abbrev pub is_received : List Clause → ℕ → Bool
is_received cs m = list_any (λ r. nat_eq m r.tag) cs

-- a guard x : E
pub record GuardTyped (p : Program) (y : Typing) (g : TypeEnv) (t : TypeOf) (x : ℕ) (e : Pat) (free : Option ℕ) (cs : List Clause) : Type 0 where
  pub guarded : MailboxType
  pub named : g x ≡ Some guarded
  pub fits : Fits guarded (mailbox_type guarded.interface Receiving e Returnable)
  pub free_result : (m : ℕ) → free ≡ Some m → y.results m ≡ t
  pub free_passes : (m : ℕ) → free ≡ Some m → EnvPasses (without x g) (y.envs m)
  pub receives : AllByRecursion (ClauseTyped p y g t x guarded.interface e) cs
  pub none_passes : free ≡ None → cs ≡ [] → EnvPasses (without x g) no_types
  pub covers : Covers e (is_received cs) (is_some free)

-- the name of a let: the body has it with the bound part's type, or does without and the type may be dropped
abbrev pub NamePasses : TypeOf → Option MailboxType → Type 0
NamePasses (BaseTerm b) o = o ≡ None
NamePasses (MailboxTerm i q e) (Some a) = (a.interface ≡ i) × (a.polarity ≡ q) × (a.pattern ≡ e)
NamePasses (MailboxTerm i q e) None = MayDrop (mailbox_type i q e Returnable)

-- a term that is an expression, of this type
abbrev pub ValueTyped : TypeOf → Expr → TypeEnv → Type 0
ValueTyped (BaseTerm b) e g = EnvPasses g no_types
ValueTyped (MailboxTerm i q f) (VarExpr x) g = EnvPasses g (with_type x (mailbox_type i q f Returnable) no_types)
ValueTyped (MailboxTerm i q f) _ g = ⊥

-- the environment without the name, if there is one
abbrev pub without_name : Option ℕ → TypeEnv → TypeEnv
without_name None g = g
without_name (Some x) g = without x g

-- the type of the name, if there is one
abbrev pub name_type : Option ℕ → TypeEnv → Option MailboxType
name_type None g = None
name_type (Some x) g = g x

-- the type of a new mailbox
abbrev pub NewTyped : ℕ → TypeOf → Type 0
NewTyped i (MailboxTerm j Receiving e) = (i ≡ j) × Included One e
NewTyped i _ = ⊥

-- the conditions of a term of type t in the environment g
abbrev pub CoreTyped : Program → Typing → TypeEnv → TypeOf → Core → Type 0
CoreTyped p y g t (Val e) = ValueTyped t e g
CoreTyped p y g t (Print e) = EnvPasses g no_types
CoreTyped p y g t (Let x m n) =
    (y.results n ≡ t) × EnvSplits g (y.envs m) (without_name x (y.envs n)) × NamePasses (y.results m) (name_type x (y.envs n))
CoreTyped p y g t (Call f args) =
    (h : Function)
    × (function_at p f ≡ Some h)
    × IsDistinct nat_eq (mailbox_args (param_type y f h) 0 args)
    × EnvPasses g (args_need (param_type y f h) 0 args)
    × TypeFits (result_type y f h) t
CoreTyped p y g t (If e m n) = (y.results m ≡ t) × (y.results n ≡ t) × EnvPasses g (y.envs m) × EnvPasses g (y.envs n)
CoreTyped p y g t (New i) = NewTyped i t × EnvPasses g no_types
CoreTyped p y g t (Send x m args) =
    (i : ℕ)
    × (decl : TagDecl)
    × (tag_at p i m ≡ Some decl)
    × IsDistinct nat_eq (x ∷ mailbox_args (payload_type decl) 0 args)
    × EnvPasses g (with_type x (mailbox_type i Sending (Tag m) Second) (args_need (payload_type decl) 0 args))
CoreTyped p y g t (Spawn m) = (y.results m ≡ BaseTerm BaseUnit) × EnvPasses (λ x. returnable (g x)) (y.envs m)
CoreTyped p y g t (Guard x e free cs) = GuardTyped p y g t x e free cs

-- a sending pattern has a word
abbrev pub HasWord : Polarity → Pat → Type 0
HasWord Sending e = (w : Word) × In e w
HasWord Receiving e = Unit {0}

-- a sending type of a term has a word
abbrev pub TypeHasWord : TypeOf → Type 0
TypeHasWord (BaseTerm b) = Unit {0}
TypeHasWord (MailboxTerm i q e) = HasWord q e

-- a node
pub record NodeTyped (p : Program) (y : Typing) (n : ℕ) (d : Node) : Type 0 where
  pub kind : kind_of_type (y.results n) ≡ d.kind
  pub kinds : (x : ℕ) (a : MailboxType) → y.envs n x ≡ Some a → KindAt p n x (MailboxOf a.interface)
  pub words : (x : ℕ) (a : MailboxType) → y.envs n x ≡ Some a → HasWord a.polarity a.pattern
  pub result_word : TypeHasWord (y.results n)
  pub term : CoreTyped p y (y.envs n) (y.results n) d.core

-- a function
pub record FunctionTyped (p : Program) (y : Typing) (f : ℕ) (g : Function) : Type 0 where
  pub result : y.results g.body ≡ result_type y f g
  pub params : EnvPasses (param_type y f g) (y.envs g.body)
  pub param_words : (k : ℕ) (a : MailboxType) → param_type y f g k ≡ Some a → HasWord a.polarity a.pattern

-- y types the program
pub record IsTyping (p : Program) (y : Typing) : Type 0 where
  pub functions : (f : ℕ) (g : Function) → function_at p f ≡ Some g → FunctionTyped p y f g
  pub nodes : (n : ℕ) (d : Node) → node_at p n ≡ Some d → NodeTyped p y n d

-- the program can be typed
abbrev pub IsTypable : Program → Type 0
IsTypable p = (y : Typing) × IsTyping p y
