-- Trees, with the place of each part in the text.
use Rattle.std.specs.Prelude.{ℕ, ℤ, suc, ◌+◌, Bool, List, [], ◌∷◌, Option}
use Rattle.pat_semantics_spec.specs.Values.{Base, Op}
use Rattle.pat_semantics_spec.specs.Programs.{Polarity}

-- a place: the offset of the first byte, and the offset after the last
pub record Span : Type 0 where
  pub from : ℕ
  pub to : ℕ

abbrev pub span : ℕ → ℕ → Span
span a b = record { from = a; to = b }

-- a name by its bytes, and its place
pub record Name : Type 0 where
  pub text : List ℕ
  pub span : Span

-- a pattern as it is written
pub data Pattern : Type 0 where
  ZeroPattern : (at : Span) → Pattern
  OnePattern : (at : Span) → Pattern
  TagPattern : (tag : Name) → Pattern
  SumPattern : (left right : Pattern) → Pattern
  ProdPattern : (left right : Pattern) → Pattern
  StarPattern : (part : Pattern) → Pattern

-- a type as it is written; a mailbox type may leave its pattern out
pub data WrittenType : Type 0 where
  BaseType : (base : Base) → (at : Span) → WrittenType
  MailboxType : (interface : Name) → (polarity : Polarity) → (pattern : Option Pattern) → (at : Span) → WrittenType

-- a message of an interface: its tag, and the types of its payloads
pub record Message : Type 0 where
  pub name : Name
  pub payloads : List WrittenType

-- a parameter of a function
pub record Param : Type 0 where
  pub name : Name
  pub type : WrittenType

-- an expression
pub data Expr : Type 0 where
  VarExpr : (name : List ℕ) → (at : Span) → Expr
  UnitExpr : (at : Span) → Expr
  BoolExpr : (value : Bool) → (at : Span) → Expr
  IntExpr : (value : ℤ) → (at : Span) → Expr
  StrExpr : (bytes : List ℕ) → (at : Span) → Expr
  OpExpr : (op : Op) → (left right : Expr) → (at : Span) → Expr

mutual
  -- a term; a let without a name is a sequence
  pub data Term : Type 0 where
    LetTerm : (name : Option Name) → (bound body : Term) → (at : Span) → Term
    IfTerm : (test : Expr) → (yes no : Term) → (at : Span) → Term
    PrintTerm : (value : Expr) → (at : Span) → Term
    NewTerm : (interface : Name) → (at : Span) → Term
    SpawnTerm : (body : Term) → (at : Span) → Term
    FreeTerm : (mailbox : Name) → (at : Span) → Term
    GuardTerm : (mailbox : Name) → (pattern : Pattern) → (clauses : Clauses) → (at : Span) → Term
    SendTerm : (target tag : Name) → (args : List Expr) → (at : Span) → Term
    CallTerm : (function : Name) → (args : List Expr) → (at : Span) → Term
    ValueTerm : (value : Expr) → (at : Span) → Term

  -- a clause of a guard, with the place of its first word
  pub data Clause : Type 0 where
    FailClause : (word : Span) → Clause
    FreeClause : (word : Span) → (body : Term) → Clause
    ReceiveClause : (word : Span) → (tag : Name) → (names : List Name) → (from : Name) → (body : Term) → Clause

  -- the clauses of a guard, in order
  pub data Clauses : Type 0 where
    no_clauses : Clauses
    with_clause : (first : Clause) → (others : Clauses) → Clauses

-- a declaration
pub data Decl : Type 0 where
  InterfaceDecl : (name : Name) → (messages : List Message) → Decl
  DefDecl : (name : Name) → (params : List Param) → (result : WrittenType) → (body : Term) → Decl

-- a whole text: its declarations in order
abbrev pub Tree : Type 0
Tree = List Decl

-- the place of a term
abbrev pub term_at : Term → Span
term_at (LetTerm x m n at) = at
term_at (IfTerm e m n at) = at
term_at (PrintTerm e at) = at
term_at (NewTerm x at) = at
term_at (SpawnTerm m at) = at
term_at (FreeTerm x at) = at
term_at (GuardTerm x p cs at) = at
term_at (SendTerm x t es at) = at
term_at (CallTerm f es at) = at
term_at (ValueTerm e at) = at

-- clauses in a row
abbrev pub listed : List Clause → Clauses
listed [] = no_clauses
listed (c ∷ cs) = with_clause c (listed cs)

-- how many operators an expression has
abbrev pub operators : Expr → ℕ
operators (OpExpr op a b at) = suc (operators a + operators b)
operators _ = 0

-- how many operators a pattern has
abbrev pub pattern_operators : Pattern → ℕ
pattern_operators (SumPattern p q) = suc (pattern_operators p + pattern_operators q)
pattern_operators (ProdPattern p q) = suc (pattern_operators p + pattern_operators q)
pattern_operators (StarPattern p) = suc (pattern_operators p)
pattern_operators _ = 0
