-- Trees whose names are names and whose strings are those of strings.
use Rattle.std.specs.Prelude.{List, [], ◌∷◌, Option, Some, None}
use Rattle.pat_lexer_spec.specs.Tokens.{Spanned}
use Rattle.pat_lexer_spec.specs.Spelled.{IsSpelled, IsName, IsString}
use Rattle.pat_parser_spec.specs.Trees.{Name, Pattern, TagPattern, SumPattern, ProdPattern, StarPattern, WrittenType, BaseType, MailboxType, Message, Param, Expr, VarExpr, StrExpr, OpExpr, Term, LetTerm, IfTerm, PrintTerm, NewTerm, SpawnTerm, FreeTerm, GuardTerm, SendTerm, CallTerm, ValueTerm, Clause, FailClause, FreeClause, ReceiveClause, Clauses, no_clauses, with_clause, Decl, InterfaceDecl, DefDecl, Tree}

abbrev pub EachOf : {A : Type 0} → (A → Type 0) → List A → Type 0
EachOf P [] = Unit {0}
EachOf P (x ∷ xs) = P x × EachOf P xs

-- bytes spell each of the tokens
abbrev pub AreSpelled : List Spanned → Type 0
AreSpelled ts = EachOf (λ t. IsSpelled t.token) ts

abbrev pub NameIs : Name → Type 0
NameIs x = IsName x.text

abbrev pub PatternNamed : Pattern → Type 0
PatternNamed (TagPattern x) = NameIs x
PatternNamed (SumPattern p q) = PatternNamed p × PatternNamed q
PatternNamed (ProdPattern p q) = PatternNamed p × PatternNamed q
PatternNamed (StarPattern p) = PatternNamed p
PatternNamed _ = Unit {0}

abbrev pub WrittenNamed : Option Pattern → Type 0
WrittenNamed None = Unit {0}
WrittenNamed (Some p) = PatternNamed p

abbrev pub TypeNamed : WrittenType → Type 0
TypeNamed (BaseType b at) = Unit {0}
TypeNamed (MailboxType x q p at) = NameIs x × WrittenNamed p

abbrev pub ExprNamed : Expr → Type 0
ExprNamed (VarExpr x at) = IsName x
ExprNamed (StrExpr s at) = IsString s
ExprNamed (OpExpr op a b at) = ExprNamed a × ExprNamed b
ExprNamed _ = Unit {0}

abbrev pub LetNamed : Option Name → Type 0
LetNamed None = Unit {0}
LetNamed (Some x) = NameIs x

abbrev mutual
  pub TermNamed : Term → Type 0
  TermNamed (LetTerm x m n at) = LetNamed x × TermNamed m × TermNamed n
  TermNamed (IfTerm e m n at) = ExprNamed e × TermNamed m × TermNamed n
  TermNamed (PrintTerm e at) = ExprNamed e
  TermNamed (NewTerm x at) = NameIs x
  TermNamed (SpawnTerm m at) = TermNamed m
  TermNamed (FreeTerm x at) = NameIs x
  TermNamed (GuardTerm x p cs at) = NameIs x × PatternNamed p × ClausesNamed cs
  TermNamed (SendTerm x y es at) = NameIs x × NameIs y × EachOf ExprNamed es
  TermNamed (CallTerm f es at) = NameIs f × EachOf ExprNamed es
  TermNamed (ValueTerm e at) = ExprNamed e

  pub ClauseNamed : Clause → Type 0
  ClauseNamed (FailClause w) = Unit {0}
  ClauseNamed (FreeClause w m) = TermNamed m
  ClauseNamed (ReceiveClause w x ns y m) = NameIs x × EachOf NameIs ns × NameIs y × TermNamed m

  pub ClausesNamed : Clauses → Type 0
  ClausesNamed no_clauses = Unit {0}
  ClausesNamed (with_clause c cs) = ClauseNamed c × ClausesNamed cs

abbrev pub MessageNamed : Message → Type 0
MessageNamed m = NameIs m.name × EachOf TypeNamed m.payloads

abbrev pub ParamNamed : Param → Type 0
ParamNamed p = NameIs p.name × TypeNamed p.type

abbrev pub DeclNamed : Decl → Type 0
DeclNamed (InterfaceDecl x ms) = NameIs x × EachOf MessageNamed ms
DeclNamed (DefDecl x ps r m) = NameIs x × EachOf ParamNamed ps × TypeNamed r × TermNamed m

-- every name of the tree is a name, and every string one that a string stands for
abbrev pub TreeNamed : Tree → Type 0
TreeNamed ds = EachOf DeclNamed ds
