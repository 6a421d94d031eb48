-- The demands of each node, where environments are lists: what is asked stands in a list, and where a name stands twice its first
-- entry counts.
use Rattle.std.specs.Prelude.{ℕ, suc, nat_lt, if◌then◌else◌, List, [], ◌∷◌, ◌++◌, map, Option, Some, None, slice_get}
use Rattle.std.specs.List.{range_with_len}
use Rattle.std.specs.Map.{keys_of}
use Rattle.pat_words_spec.specs.Patterns.{Pat, One, Tag, residual}
use Rattle.pat_semantics_spec.specs.Values.{Kind, MailboxOf, Expr, VarExpr}
use Rattle.pat_semantics_spec.specs.Programs.{Sending, Receiving, Sort, TagDecl, Clause, Core, Val, Let, Call, If, Print, New, Send, Spawn, Guard, Program, tag_at}
use Rattle.pat_type_system_spec.specs.Types.{Second, Returnable, MailboxType, TypeOf, BaseTerm, MailboxTerm, mailbox_type}
use Rattle.pat_type_system_spec.specs.Typings.{payload_sort, without_name}
use Rattle.pat_type_schemes_spec.specs.NodeTypes.{Needs, NodeType, need_of}
use Rattle.pat_derivation_spec.specs.Derivations.{Line, Derivation, line_at}
use Rattle.pat_derivation_spec.specs.Demands.{Demand, Pass, Divide, There, Name}
use Rattle.pat_derivation_spec.specs.Conditions.{but_not, but_not_name, result_passes}
use Rattle.pat_derivations.specs.environments.Lists.{without_entry, returnable_entries, with_others}

-- the types of a function's signature: those of its parameters, where they are mailboxes, and that of its result
pub record Signature : Type 0 where
  pub params : List (Option MailboxType)
  pub result : TypeOf

-- the type of a term, taken as that of a variable that is returnable
abbrev pub returnable_of : TypeOf → Option MailboxType
returnable_of (BaseTerm b) = None
returnable_of (MailboxTerm i q e) = Some (mailbox_type i q e Returnable)

-- what an argument asks, before others
abbrev pub asked_arg : Option MailboxType → Expr → Needs → Needs
asked_arg (Some a) (VarExpr x) rest = (x, a) ∷ rest
asked_arg _ _ rest = rest

-- what arguments ask
abbrev pub asked_args : List (Option MailboxType) → List Expr → Needs
asked_args ts [] = []
asked_args [] (e ∷ es) = []
asked_args (t ∷ ts) (e ∷ es) = asked_arg t e (asked_args ts es)

-- what an expression of this type asks
abbrev pub asked_value : TypeOf → Expr → Needs
asked_value (MailboxTerm i q f) (VarExpr x) = (x, mailbox_type i q f Returnable) ∷ []
asked_value _ e = []

-- an entry, if there is a type, before others
abbrev pub entry_before : ℕ → Option MailboxType → Needs → Needs
entry_before x None rest = rest
entry_before x (Some a) rest = (x, a) ∷ rest

-- the names with the types of payloads
abbrev pub named_payloads : List Sort → List ℕ → Needs
named_payloads ss [] = []
named_payloads [] (x ∷ xs) = []
named_payloads (s ∷ ss) (x ∷ xs) = entry_before x (payload_sort s) (named_payloads ss xs)

-- what there is for the body of a receive clause of a guard x : E, over what there is for the guard
abbrev pub clause_entries : Needs → ℕ → ℕ → Pat → TagDecl → Clause → Needs
clause_entries needs x i e decl r =
    (r.from, mailbox_type i Receiving (residual e r.tag) Returnable) ∷ (named_payloads decl.payloads r.vars ++ without_entry x needs)

-- the parameters that are mailboxes, the first of them being variable k
abbrev pub param_entries : ℕ → List (Option MailboxType) → Needs
param_entries k [] = []
param_entries k (o ∷ os) = entry_before k o (param_entries (suc k) os)

-- each of the names passes from the one environment to the other
abbrev pub passes_in : List ℕ → Needs → Needs → List Demand
passes_in [] g h = []
passes_in (x ∷ xs) g h = Pass (need_of g x) (need_of h x) ∷ passes_in xs g h

-- each of the names is divided among the parts of a let of this name
abbrev pub divides_in : List ℕ → Option ℕ → Needs → Needs → Needs → List Demand
divides_in [] but g m n = []
divides_in (x ∷ xs) but g m n =
    Divide (need_of g x) (without_name but (need_of m) x) (without_name but (need_of n) x) ∷ divides_in xs but g m n

-- each of the names is there, if it is asked
abbrev pub theres_in : List ℕ → Needs → Needs → List Demand
theres_in [] g h = []
theres_in (x ∷ xs) g h = There (need_of g x) (need_of h x) ∷ theres_in xs g h

-- what is there passes to a part with this line, those names first, and the part names no other
abbrev pub passes_to : List ℕ → Needs → Option Line → List Demand
passes_to xs g None = []
passes_to xs g (Some l) = passes_in (with_others xs (keys_of l.of.needs)) g l.of.needs

-- the name of a let, where it is that of a mailbox
abbrev pub listed_name : Option Kind → TypeOf → Needs → ℕ → List Demand
listed_name (Some (MailboxOf i)) t needs x = Name t (need_of needs x) ∷ []
listed_name _ t needs x = []

abbrev pub listed_named : List Kind → Line → Line → Option ℕ → List Demand
listed_named vars m n None = []
listed_named vars m n (Some x) = listed_name (slice_get vars x) m.of.result n.of.needs x

-- the named variables pass to what is asked, and what else is there passes too
abbrev pub asks : Needs → Needs → List Demand
asks needs asked = passes_in (with_others (keys_of asked) (keys_of needs)) needs asked

-- nothing is asked
abbrev pub drops : Needs → List Demand
drops needs = passes_in (keys_of needs) needs []

abbrev pub listed_call : Needs → TypeOf → List Expr → Option Signature → List Demand
listed_call needs t args None = []
listed_call needs t args (Some g) = asks needs (asked_args g.params args) ++ result_passes g.result t

abbrev pub listed_send : Needs → ℕ → ℕ → ℕ → List Expr → Option TagDecl → List Demand
listed_send needs i x m args None = []
listed_send needs i x m args (Some decl) =
    asks needs ((x, mailbox_type i Sending (Tag m) Second) ∷ asked_args (map payload_sort decl.payloads) args)

abbrev pub listed_target : Program → Needs → ℕ → ℕ → List Expr → Option Kind → List Demand
listed_target p needs x m args (Some (MailboxOf i)) = listed_send needs i x m args (tag_at p i m)
listed_target p needs x m args _ = []

-- the names of one part are there
abbrev pub listed_part : Needs → Option ℕ → Needs → List Demand
listed_part needs x part = theres_in (but_not_name x (keys_of part)) needs part

-- the names of all three environments, but that of the let in its parts
abbrev pub let_names : Needs → Option ℕ → Needs → Needs → List ℕ
let_names needs x m n = with_others (with_others (keys_of needs) (but_not_name x (keys_of m))) (but_not_name x (keys_of n))

abbrev pub listed_let : List Kind → Needs → Option ℕ → Option Line → Option Line → List Demand
listed_let vars needs x None None = []
listed_let vars needs x (Some m) None = listed_part needs x m.of.needs
listed_let vars needs x None (Some n) = listed_part needs x n.of.needs
listed_let vars needs x (Some m) (Some n) =
    divides_in (let_names needs x m.of.needs n.of.needs) x needs m.of.needs n.of.needs ++ listed_named vars m n x

abbrev pub listed_clause : Derivation → Needs → ℕ → ℕ → Pat → Clause → Option TagDecl → List Demand
listed_clause d needs x i e r None = []
listed_clause d needs x i e r (Some decl) =
    passes_to (with_others (but_not x (keys_of needs)) (r.from ∷ r.vars)) (clause_entries needs x i e decl r) (line_at d r.body)

abbrev pub listed_free : Derivation → Needs → ℕ → ℕ → List Demand
listed_free d needs x m = passes_to (but_not x (keys_of needs)) (without_entry x needs) (line_at d m)

-- the free clause, if it waits and comes before this body
abbrev pub free_before : Derivation → Needs → ℕ → Option ℕ → ℕ → List Demand
free_before d needs x None body = []
free_before d needs x (Some m) body = if nat_lt m body then listed_free d needs x m else []

-- whether it waits on
abbrev pub waits_after : Option ℕ → ℕ → Option ℕ
waits_after None body = None
waits_after (Some m) body = if nat_lt m body then None else Some m

-- the free clause, if it still waits
abbrev pub free_last : Derivation → Needs → ℕ → Option ℕ → List Demand
free_last d needs x None = []
free_last d needs x (Some m) = listed_free d needs x m

-- what a receive clause demands, and the free clause before it
abbrev pub listed_one : Program → Derivation → Needs → ℕ → ℕ → Pat → Option ℕ → Clause → List Demand
listed_one p d needs x i e free r =
    free_before d needs x free r.body ++ listed_clause d needs x i e r (tag_at p i r.tag)

-- what the clauses demand, in the order of their bodies
abbrev pub listed_clauses : Program → Derivation → Needs → ℕ → ℕ → Pat → Option ℕ → List Clause → List Demand
listed_clauses p d needs x i e free [] = free_last d needs x free
listed_clauses p d needs x i e free (r ∷ rs) =
    listed_one p d needs x i e free r ++ listed_clauses p d needs x i e (waits_after free r.body) rs

abbrev pub listed_bodies : Program → Derivation → Needs → ℕ → ℕ → Pat → Option ℕ → List Clause → List Demand
listed_bodies p d needs x i e None [] = passes_in (but_not x (keys_of needs)) (without_entry x needs) []
listed_bodies p d needs x i e free rs = listed_clauses p d needs x i e free rs

abbrev pub listed_guard : Program → Derivation → Needs → ℕ → Pat → Option ℕ → List Clause → Option Kind → List Demand
listed_guard p d needs x e free rs (Some (MailboxOf i)) =
    Pass (need_of needs x) (Some (mailbox_type i Receiving e Returnable)) ∷ listed_bodies p d needs x i e free rs
listed_guard p d needs x e free rs _ = []

-- what a term demands
abbrev pub listed_term : Program → Derivation → List Signature → List Kind → NodeType → Core → List Demand
listed_term p d gs vars t (Val e) = asks t.needs (asked_value t.result e)
listed_term p d gs vars t (Print e) = drops t.needs
listed_term p d gs vars t (Let x m n) = listed_let vars t.needs x (line_at d m) (line_at d n)
listed_term p d gs vars t (Call f args) = listed_call t.needs t.result args (slice_get gs f)
listed_term p d gs vars t (If e m n) =
    passes_to (keys_of t.needs) t.needs (line_at d m) ++ passes_to (keys_of t.needs) t.needs (line_at d n)
listed_term p d gs vars t (New i) = result_passes (MailboxTerm i Receiving One) t.result ++ drops t.needs
listed_term p d gs vars t (Send x m args) = listed_target p t.needs x m args (slice_get vars x)
listed_term p d gs vars t (Spawn m) = passes_to (keys_of t.needs) (returnable_entries t.needs) (line_at d m)
listed_term p d gs vars t (Guard x e free rs) = listed_guard p d t.needs x e free rs (slice_get vars x)

-- what the first node of a function demands for its parameters, of which there are so many types
abbrev pub listed_first : ℕ → List (Option MailboxType) → Needs → List Demand
listed_first count params needs =
    passes_in (with_others (range_with_len 0 count) (keys_of needs)) (param_entries 0 params) needs
