-- What a tree resolves to, and what of the text a program keeps.
use Rattle.std.specs.Prelude.{◌≡◌, ◌≢◌, ℕ, List, [], ◌∷◌, ◌++◌, Some, None}
use Rattle.std.specs.List.{AllByRecursion, flat_map}
use Rattle.pat_lexer_spec.specs.Spelled.{IsName, IsString}
use Rattle.pat_semantics_spec.specs.Values.{Constant, TextConst, Expr, VarExpr, Literal, OpExpr}
use Rattle.pat_semantics_spec.specs.Programs.{Core, Val, Call, If, Print, Send, Program}
use Rattle.pat_parser_spec.specs.Trees as tree
use Rattle.pat_resolver_spec.specs.Heads.{definitions_of}
use Rattle.pat_resolver_spec.specs.Findings.{Finding, findings}
use Rattle.pat_resolver_spec.specs.Numbering.{numbered}

-- nothing is found in the tree, and this is its program, where the text ends at the offset
pub record Resolves (end : ℕ) (t : tree.Tree) (p : Program) : Type 0 where
  pub sound : findings end t ≡ []
  pub program : numbered t ≡ p

-- this is found first in the tree
pub record BreaksFirst (end : ℕ) (t : tree.Tree) (x : Finding) : Type 0 where
  pub behind : List Finding
  pub first : findings end t ≡ x ∷ behind

-- a payload's mailbox type has a pattern
abbrev pub HasPattern : tree.WrittenType → Type 0
HasPattern (tree.BaseType b at) = Unit {0}
HasPattern (tree.MailboxType x q None at) = ⊥
HasPattern (tree.MailboxType x q (Some e) at) = Unit {0}

-- a message as the grammar has it
pub record IsMessage (m : tree.Message) : Type 0 where
  pub name : IsName m.name.text
  pub payloads : AllByRecursion HasPattern m.payloads

-- a declaration as the grammar has it: it has a name, and an interface a message
abbrev pub IsDecl : tree.Decl → Type 0
IsDecl (tree.InterfaceDecl x ms) = IsName x.text × (ms ≢ []) × AllByRecursion IsMessage ms
IsDecl (tree.DefDecl x ps r m) = IsName x.text

-- ---- strings

-- the string of a literal, if it is one
abbrev pub constant_strings : Constant → List (List ℕ)
constant_strings (TextConst s) = s ∷ []
constant_strings _ = []

-- the string literals of an expression, in order
abbrev pub expr_strings : Expr → List (List ℕ)
expr_strings (VarExpr x) = []
expr_strings (Literal c) = constant_strings c
expr_strings (OpExpr op a b) = expr_strings a ++ expr_strings b

-- the string literals of a term, without those of its parts
abbrev pub core_strings : Core → List (List ℕ)
core_strings (Val e) = expr_strings e
core_strings (Call f es) = flat_map expr_strings es
core_strings (If e m n) = expr_strings e
core_strings (Print e) = expr_strings e
core_strings (Send x t es) = flat_map expr_strings es
core_strings _ = []

-- the string literals of a program, by its nodes
abbrev pub program_strings : Program → List (List ℕ)
program_strings p = flat_map (λ d. core_strings d.core) p.nodes

-- those of an expression as it is written
abbrev pub written_expr_strings : tree.Expr → List (List ℕ)
written_expr_strings (tree.StrExpr s at) = s ∷ []
written_expr_strings (tree.OpExpr op a b at) = written_expr_strings a ++ written_expr_strings b
written_expr_strings _ = []

-- those of a term as it is written
abbrev mutual
  pub term_strings : tree.Term → List (List ℕ)
  term_strings (tree.LetTerm x m n at) = term_strings m ++ term_strings n
  term_strings (tree.IfTerm e m n at) = written_expr_strings e ++ term_strings m ++ term_strings n
  term_strings (tree.PrintTerm e at) = written_expr_strings e
  term_strings (tree.SpawnTerm m at) = term_strings m
  term_strings (tree.GuardTerm x p cs at) = clauses_strings cs
  term_strings (tree.SendTerm x t es at) = flat_map written_expr_strings es
  term_strings (tree.CallTerm f es at) = flat_map written_expr_strings es
  term_strings (tree.ValueTerm e at) = written_expr_strings e
  term_strings _ = []

  pub clauses_strings : tree.Clauses → List (List ℕ)
  clauses_strings tree.no_clauses = []
  clauses_strings (tree.with_clause (tree.FailClause w) cs) = clauses_strings cs
  clauses_strings (tree.with_clause (tree.FreeClause w m) cs) = term_strings m ++ clauses_strings cs
  clauses_strings (tree.with_clause (tree.ReceiveClause w t xs y m) cs) = term_strings m ++ clauses_strings cs

-- the string literals of a tree, in the order of the text
abbrev pub tree_strings : tree.Tree → List (List ℕ)
tree_strings t = flat_map (λ d. term_strings d.body) (definitions_of t)

-- what the grammar says of each tree, and the rules do not
pub record IsWritten (t : tree.Tree) : Type 0 where
  pub decls : AllByRecursion IsDecl t
  pub strings : AllByRecursion IsString (tree_strings t)
