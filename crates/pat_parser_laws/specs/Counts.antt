-- How large trees are.
use Rattle.std.specs.Prelude.{ℕ, suc, ◌+◌, List, [], ◌∷◌, Option, Some, None}
use Rattle.pat_parser_spec.specs.Trees.{Pattern, TagPattern, SumPattern, ProdPattern, StarPattern, WrittenType, BaseType, MailboxType, Message, Param, Expr, OpExpr, Term, LetTerm, IfTerm, PrintTerm, NewTerm, SpawnTerm, FreeTerm, GuardTerm, SendTerm, CallTerm, ValueTerm, Clause, FailClause, FreeClause, ReceiveClause, Clauses, no_clauses, with_clause, Decl, InterfaceDecl, DefDecl, Tree}

-- the sum over a list
abbrev pub sum_of : {A : Type 0} → (A → ℕ) → List A → ℕ
sum_of f [] = 0
sum_of f (x ∷ xs) = f x + sum_of f xs

-- how many names a list has
abbrev pub names_in : {A : Type 0} → List A → ℕ
names_in xs = sum_of (λ x. 1) xs

-- how many expressions there are in one
abbrev pub expr_size : Expr → ℕ
expr_size (OpExpr op a b at) = suc (expr_size a + expr_size b)
expr_size _ = 1

-- how many patterns and names
abbrev pub pattern_size : Pattern → ℕ
pattern_size (TagPattern x) = 2
pattern_size (SumPattern p q) = suc (pattern_size p + pattern_size q)
pattern_size (ProdPattern p q) = suc (pattern_size p + pattern_size q)
pattern_size (StarPattern p) = suc (pattern_size p)
pattern_size _ = 1

abbrev pub written_size : Option Pattern → ℕ
written_size None = 0
written_size (Some p) = pattern_size p

abbrev pub type_size : WrittenType → ℕ
type_size (BaseType b at) = 0
type_size (MailboxType x q p at) = suc (written_size p)

abbrev pub let_size : {A : Type 0} → Option A → ℕ
let_size None = 0
let_size (Some x) = 1

-- how many terms, expressions, patterns and names
abbrev mutual
  pub term_size : Term → ℕ
  term_size (LetTerm x m n at) = suc (let_size x + term_size m + term_size n)
  term_size (IfTerm e m n at) = suc (expr_size e + term_size m + term_size n)
  term_size (PrintTerm e at) = suc (expr_size e)
  term_size (NewTerm x at) = 2
  term_size (SpawnTerm m at) = suc (term_size m)
  term_size (FreeTerm x at) = 2
  term_size (GuardTerm x p cs at) = suc (suc (pattern_size p + clauses_size cs))
  term_size (SendTerm x y es at) = 3 + sum_of expr_size es
  term_size (CallTerm f es at) = 2 + sum_of expr_size es
  term_size (ValueTerm e at) = suc (expr_size e)

  pub clause_size : Clause → ℕ
  clause_size (FailClause w) = 0
  clause_size (FreeClause w m) = term_size m
  clause_size (ReceiveClause w x ns y m) = 2 + names_in ns + term_size m

  pub clauses_size : Clauses → ℕ
  clauses_size no_clauses = 0
  clauses_size (with_clause c cs) = clause_size c + clauses_size cs

abbrev pub message_size : Message → ℕ
message_size m = suc (sum_of type_size m.payloads)

abbrev pub param_size : Param → ℕ
param_size p = suc (type_size p.type)

abbrev pub decl_size : Decl → ℕ
decl_size (InterfaceDecl x ms) = suc (sum_of message_size ms)
decl_size (DefDecl x ps r m) = suc (sum_of param_size ps + type_size r + term_size m)

-- how many terms, expressions, patterns and names a tree has
abbrev pub tree_size : Tree → ℕ
tree_size ds = sum_of decl_size ds
