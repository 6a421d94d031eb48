-- Trees with their places left aside.
use Rattle.std.specs.Prelude.{map, option_map}
use Rattle.pat_parser_spec.specs.Trees.{Span, span, Name, Pattern, ZeroPattern, OnePattern, TagPattern, SumPattern, ProdPattern, StarPattern, WrittenType, BaseType, MailboxType, Message, Param, Expr, VarExpr, UnitExpr, BoolExpr, IntExpr, StrExpr, OpExpr, Term, LetTerm, IfTerm, PrintTerm, NewTerm, SpawnTerm, FreeTerm, GuardTerm, SendTerm, CallTerm, ValueTerm, Clause, FailClause, FreeClause, ReceiveClause, Clauses, no_clauses, with_clause, Decl, InterfaceDecl, DefDecl, Tree}

-- no place: from 0 to 0
abbrev pub nowhere : Span
nowhere = span 0 0

abbrev pub bare_name : Name → Name
bare_name x = record { text = x.text; span = nowhere }

abbrev pub bare_pattern : Pattern → Pattern
bare_pattern (ZeroPattern at) = ZeroPattern nowhere
bare_pattern (OnePattern at) = OnePattern nowhere
bare_pattern (TagPattern x) = TagPattern (bare_name x)
bare_pattern (SumPattern p q) = SumPattern (bare_pattern p) (bare_pattern q)
bare_pattern (ProdPattern p q) = ProdPattern (bare_pattern p) (bare_pattern q)
bare_pattern (StarPattern p) = StarPattern (bare_pattern p)

abbrev pub bare_type : WrittenType → WrittenType
bare_type (BaseType b at) = BaseType b nowhere
bare_type (MailboxType x q p at) = MailboxType (bare_name x) q (option_map bare_pattern p) nowhere

abbrev pub bare_expr : Expr → Expr
bare_expr (VarExpr x at) = VarExpr x nowhere
bare_expr (UnitExpr at) = UnitExpr nowhere
bare_expr (BoolExpr b at) = BoolExpr b nowhere
bare_expr (IntExpr n at) = IntExpr n nowhere
bare_expr (StrExpr x at) = StrExpr x nowhere
bare_expr (OpExpr op a b at) = OpExpr op (bare_expr a) (bare_expr b) nowhere

abbrev mutual
  pub bare_term : Term → Term
  bare_term (LetTerm x m n at) = LetTerm (option_map bare_name x) (bare_term m) (bare_term n) nowhere
  bare_term (IfTerm e m n at) = IfTerm (bare_expr e) (bare_term m) (bare_term n) nowhere
  bare_term (PrintTerm e at) = PrintTerm (bare_expr e) nowhere
  bare_term (NewTerm x at) = NewTerm (bare_name x) nowhere
  bare_term (SpawnTerm m at) = SpawnTerm (bare_term m) nowhere
  bare_term (FreeTerm x at) = FreeTerm (bare_name x) nowhere
  bare_term (GuardTerm x p cs at) = GuardTerm (bare_name x) (bare_pattern p) (bare_clauses cs) nowhere
  bare_term (SendTerm x t es at) = SendTerm (bare_name x) (bare_name t) (map bare_expr es) nowhere
  bare_term (CallTerm f es at) = CallTerm (bare_name f) (map bare_expr es) nowhere
  bare_term (ValueTerm e at) = ValueTerm (bare_expr e) nowhere

  pub bare_clause : Clause → Clause
  bare_clause (FailClause w) = FailClause nowhere
  bare_clause (FreeClause w m) = FreeClause nowhere (bare_term m)
  bare_clause (ReceiveClause w x ns y m) = ReceiveClause nowhere (bare_name x) (map bare_name ns) (bare_name y) (bare_term m)

  pub bare_clauses : Clauses → Clauses
  bare_clauses no_clauses = no_clauses
  bare_clauses (with_clause c cs) = with_clause (bare_clause c) (bare_clauses cs)

abbrev pub bare_message : Message → Message
bare_message m = record { name = bare_name m.name; payloads = map bare_type m.payloads }

abbrev pub bare_param : Param → Param
bare_param p = record { name = bare_name p.name; type = bare_type p.type }

abbrev pub bare_decl : Decl → Decl
bare_decl (InterfaceDecl x ms) = InterfaceDecl (bare_name x) (map bare_message ms)
bare_decl (DefDecl x ps r m) = DefDecl (bare_name x) (map bare_param ps) (bare_type r) (bare_term m)

abbrev pub bare : Tree → Tree
bare ds = map bare_decl ds
