-- Programs that reach a fault.
use Rattle.std.specs.Prelude.{◌≡◌, ℕ, List, [], ◌∷◌, Some, None, codes, false}
use Rattle.std.specs.List.{AllByRecursion}
use Rattle.pat_words_spec.specs.Patterns.{Pat, One, Tag, Sum, Covers}
use Rattle.pat_semantics_spec.specs.Values.{MailboxOf, Expr, VarExpr}
use Rattle.pat_semantics_spec.specs.Programs.{Sending, Receiving, TagDecl, Clause, Program, Function, Node, Let, Call, New, Send, Guard, node_at, function_at, tag_at, KindAt}
use Rattle.pat_semantics_spec.specs.Configs.{Config}
use Rattle.pat_semantics_spec.specs.Steps.{Step}
use Rattle.pat_semantics_spec.specs.Runs.{run}
use Rattle.pat_semantics_spec.specs.Faults.{Fault, FailingGuard}
use Rattle.pat_type_system_spec.specs.Types.{Second, Returnable, MailboxType, TypeOf, kind_of_type, mailbox_type, Fits, TypeEnv, EnvPasses, with_type}
use Rattle.pat_type_system_spec.specs.Typings.{Typing, payload_type, args_need, clause_env, is_received, HasWord, TypeHasWord, NodeTyped, FunctionTyped}
use Rattle.pat_examples.specs.safety.Build.{unit_node, mailbox_node, nothing, clause, tag, function, sending_as}

-- it makes a mailbox and lets it go:
-- interface I { m() }
-- def main(): Unit { let a = new[I] in () }
abbrev pub leak : Program
leak = record {
  interfaces = record { name = codes "I"; tags = tag (codes "m") [] ∷ [] } ∷ [];
  functions = function (codes "main") [] (MailboxOf 0 ∷ []) 0 ∷ [];
  main = 0;
  nodes = unit_node 0 (Let (Some 0) 1 2) ∷ mailbox_node 0 0 (New 0) ∷ unit_node 0 nothing ∷ [];
}

-- it sends a mailbox to itself:
-- interface I { m(I!k), k() }
-- def main(): Unit { let a = new[I] in a ! m(a); guard a : m + k { receive m(u) from b -> u ! k(); free(b) receive k() from b -> free(b) } }
abbrev pub alias : Program
alias = record {
  interfaces = record { name = codes "I"; tags = tag (codes "m") (sending_as 0 (Tag 1) ∷ []) ∷ tag (codes "k") [] ∷ [] } ∷ [];
  functions = function (codes "main") [] (MailboxOf 0 ∷ MailboxOf 0 ∷ MailboxOf 0 ∷ MailboxOf 0 ∷ []) 0 ∷ [];
  main = 0;
  nodes =
      unit_node 0 (Let (Some 0) 1 2)
      ∷ mailbox_node 0 0 (New 0)
      ∷ unit_node 0 (Let None 3 4)
      ∷ unit_node 0 (Send 0 0 (VarExpr 0 ∷ []))
      ∷ unit_node 0 (Guard 0 (Sum (Tag 0) (Tag 1)) None (clause 0 (1 ∷ []) 2 5 ∷ clause 1 [] 3 9 ∷ []))
      ∷ unit_node 0 (Let None 6 7)
      ∷ unit_node 0 (Send 1 1 [])
      ∷ unit_node 0 (Guard 2 One (Some 8) [])
      ∷ unit_node 0 nothing
      ∷ unit_node 0 (Guard 3 One (Some 10) [])
      ∷ unit_node 0 nothing
      ∷ [];
}

-- beside a received payload, it uses another name of the same mailbox:
-- interface J { k() }
-- interface I { m(J!1) }
-- def g(x: J!1): Unit { () }
-- def main(): Unit { let j = new[J] in let a = new[I] in a ! m(j); guard a : m { receive m(u) from b -> free(b); free(j); g(u) } }
abbrev pub beside : Program
beside = record {
  interfaces =
      record { name = codes "J"; tags = tag (codes "k") [] ∷ [] }
      ∷ record { name = codes "I"; tags = tag (codes "m") (sending_as 0 One ∷ []) ∷ [] }
      ∷ [];
  functions =
      function (codes "g") (sending_as 0 One ∷ []) (MailboxOf 0 ∷ []) 0
      ∷ function (codes "main") [] (MailboxOf 0 ∷ MailboxOf 1 ∷ MailboxOf 0 ∷ MailboxOf 1 ∷ []) 1
      ∷ [];
  main = 1;
  nodes =
      unit_node 0 nothing
      ∷ unit_node 1 (Let (Some 0) 2 3)
      ∷ mailbox_node 1 0 (New 0)
      ∷ unit_node 1 (Let (Some 1) 4 5)
      ∷ mailbox_node 1 1 (New 1)
      ∷ unit_node 1 (Let None 6 7)
      ∷ unit_node 1 (Send 1 0 (VarExpr 0 ∷ []))
      ∷ unit_node 1 (Guard 1 (Tag 0) None (clause 0 (2 ∷ []) 3 8 ∷ []))
      ∷ unit_node 1 (Let None 9 11)
      ∷ unit_node 1 (Guard 3 One (Some 10) [])
      ∷ unit_node 1 nothing
      ∷ unit_node 1 (Let None 12 14)
      ∷ unit_node 1 (Guard 0 One (Some 13) [])
      ∷ unit_node 1 nothing
      ∷ unit_node 1 (Call 0 (VarExpr 2 ∷ []))
      ∷ [];
}

-- it waits for a message that nobody can send:
-- interface I { m() }
-- def main(): Unit { let a = new[I] in guard a : m { receive m() from b -> free(b) } }
abbrev pub waiting : Program
waiting = record {
  interfaces = record { name = codes "I"; tags = tag (codes "m") [] ∷ [] } ∷ [];
  functions = function (codes "main") [] (MailboxOf 0 ∷ MailboxOf 0 ∷ []) 0 ∷ [];
  main = 0;
  nodes =
      unit_node 0 (Let (Some 0) 1 2)
      ∷ mailbox_node 0 0 (New 0)
      ∷ unit_node 0 (Guard 0 (Tag 0) None (clause 0 [] 1 3 ∷ []))
      ∷ unit_node 0 (Guard 1 One (Some 4) [])
      ∷ unit_node 0 nothing
      ∷ [];
}

-- some steps from the program's start lead to a fault, so the program isn't safe
abbrev pub ReachesFault : Program → Type 0
ReachesFault p = (ks : List Step) × (c : Config) × (run p ks ≡ Some c) × Fault p c

-- some steps from the program's start lead to a failing guard
abbrev pub ReachesFailingGuard : Program → Type 0
ReachesFailingGuard p = (ks : List Step) × (c : Config) × (run p ks ≡ Some c) × FailingGuard p c

-- y meets all conditions of a typing but those of the term of node k, where it meets `rest`
pub record TypedBut (p : Program) (y : Typing) (k : ℕ) (rest : Type 0) : Type 0 where
  pub functions : (f : ℕ) (g : Function) → function_at p f ≡ Some g → FunctionTyped p y f g
  pub nodes : (n : ℕ) (d : Node) → node_at p n ≡ Some d → (n ≡ k → ⊥) → NodeTyped p y n d
  pub kind : (d : Node) → node_at p k ≡ Some d → kind_of_type (y.results k) ≡ d.kind
  pub kinds : (x : ℕ) (a : MailboxType) → y.envs k x ≡ Some a → KindAt p k x (MailboxOf a.interface)
  pub words : (x : ℕ) (a : MailboxType) → y.envs k x ≡ Some a → HasWord a.polarity a.pattern
  pub result_word : TypeHasWord (y.results k)
  pub term : rest

-- a send but for the rule that target and payloads are different variables: the target fits, and each payload
pub record SendsButAlias (p : Program) (g : TypeEnv) (x m : ℕ) (args : List Expr) : Type 0 where
  pub interface : ℕ
  pub decl : TagDecl
  pub declared : tag_at p interface m ≡ Some decl
  pub target : EnvPasses g (with_type x (mailbox_type interface Sending (Tag m) Second) (args_need (payload_type decl) 0 args))
  pub payloads : EnvPasses g (args_need (payload_type decl) 0 args)

-- a clause but for the rule that beside a mailbox payload its body uses the clause's own names alone
pub record ClauseButOwn (p : Program) (y : Typing) (g : TypeEnv) (t : TypeOf) (x i : ℕ) (e : Pat) (r : Clause) : Type 0 where
  pub decl : TagDecl
  pub declared : tag_at p i r.tag ≡ Some decl
  pub result : y.results r.body ≡ t
  pub passes : EnvPasses (clause_env g x i e decl r) (y.envs r.body)

-- a guard without a free clause whose receive clauses are such
pub record GuardsButOwn (p : Program) (y : Typing) (g : TypeEnv) (t : TypeOf) (x : ℕ) (e : Pat) (cs : List Clause) : Type 0 where
  pub guarded : MailboxType
  pub named : g x ≡ Some guarded
  pub fits : Fits guarded (mailbox_type guarded.interface Receiving e Returnable)
  pub receives : AllByRecursion (ClauseButOwn p y g t x guarded.interface e) cs
  pub covers : Covers e (is_received cs) false

-- the program that sends a mailbox to itself meets all other conditions
abbrev pub OnlyAlias : Type 0
OnlyAlias = (y : Typing) × TypedBut alias y 3 (SendsButAlias alias (y.envs 3) 0 0 (VarExpr 0 ∷ []))

-- the program that uses another name beside a payload meets all other conditions
abbrev pub OnlyBeside : Type 0
OnlyBeside =
    (y : Typing) × TypedBut beside y 7 (GuardsButOwn beside y (y.envs 7) (y.results 7) 1 (Tag 0) (clause 0 (2 ∷ []) 3 8 ∷ []))
