-- What the definitions see of trees.
use Rattle.std.specs.Prelude.{List, [], ◌∷◌, map, Option, Some, None, option_map}
use Rattle.pat_parser_spec.specs.Trees as trees
use Rattle.pat_primitives.specs.Views.{base_view, polarity_view, op_view}
use Rattle.pat_syntax.specs.declared.span.Span.{Span}
use Rattle.pat_tree.specs.declared.pattern.Name.{Name}
use Rattle.pat_tree.specs.declared.pattern.TreePattern.{TreePattern, Zero, One, Tag, Sum', Prod', Star'}
use Rattle.pat_tree.specs.declared.expression.TreeExpr.{TreeExpr}
use Rattle.pat_tree.specs.declared.expression.ExprForm.{ExprForm, Var, Unit as UnitForm, Bool as BoolForm, Int as IntForm, Str as StrForm, Op'}
use Rattle.pat_tree.specs.declared.term.Term.{Term}
use Rattle.pat_tree.specs.declared.term.Form.{Form, Let', If', Print, New, Spawn', Free, Guard', Send, Call, Value, Row_of-TreeClause, end_of-TreeClause, more_of-TreeClause}
use Rattle.pat_tree.specs.declared.term.TreeClause.{TreeClause, Fail, Free' as FreeClause, Receive' as ReceiveClause}
use Rattle.pat_tree.specs.declared.tree.TreeType.{TreeType}
use Rattle.pat_tree.specs.declared.tree.TreeType.TheVariants as type
use Rattle.pat_tree.specs.declared.tree.TreeMessage.{TreeMessage}
use Rattle.pat_tree.specs.declared.tree.Param.{Param}
use Rattle.pat_tree.specs.declared.tree.Decl.{Decl}
use Rattle.pat_tree.specs.declared.tree.Decl.TheVariants as decl
use Rattle.pat_tree.specs.declared.tree.Tree.{Tree}

abbrev pub span_view : Span → trees.Span
span_view s = record { from = s.from; to = s.to }

abbrev pub name_view : Name → trees.Name
name_view x = record { text = x.text; span = span_view x.span }

abbrev pub pattern_view : TreePattern → trees.Pattern
pattern_view (Zero s) = trees.ZeroPattern (span_view s)
pattern_view (One s) = trees.OnePattern (span_view s)
pattern_view (Tag x) = trees.TagPattern (name_view x)
pattern_view (Sum' p a q b) = trees.SumPattern (pattern_view a) (pattern_view b)
pattern_view (Prod' p a q b) = trees.ProdPattern (pattern_view a) (pattern_view b)
pattern_view (Star' p a) = trees.StarPattern (pattern_view a)

-- a form at a place
abbrev pub expr_at : ExprForm → trees.Span → trees.Expr
expr_at (Var x) at = trees.VarExpr x at
expr_at UnitForm at = trees.UnitExpr at
expr_at (BoolForm b) at = trees.BoolExpr b at
expr_at (IntForm n) at = trees.IntExpr n at
expr_at (StrForm x) at = trees.StrExpr x at
expr_at (Op' o p a s q b t) at = trees.OpExpr (op_view o) (expr_at a (span_view s)) (expr_at b (span_view t)) at

abbrev pub expr_view : TreeExpr → trees.Expr
expr_view e = expr_at e.form (span_view e.span)

abbrev mutual
  pub term_at : Form → trees.Span → trees.Term
  term_at (Let' x p m s q n t) at = trees.LetTerm (option_map name_view x) (term_at m (span_view s)) (term_at n (span_view t)) at
  term_at (If' e p m s q n t) at = trees.IfTerm (expr_view e) (term_at m (span_view s)) (term_at n (span_view t)) at
  term_at (Print e) at = trees.PrintTerm (expr_view e) at
  term_at (New x) at = trees.NewTerm (name_view x) at
  term_at (Spawn' p m s) at = trees.SpawnTerm (term_at m (span_view s)) at
  term_at (Free x) at = trees.FreeTerm (name_view x) at
  term_at (Guard' x p shape cs) at = trees.GuardTerm (name_view x) (pattern_view p) (clauses_view cs) at
  term_at (Send x t es) at = trees.SendTerm (name_view x) (name_view t) (map expr_view es) at
  term_at (Call f es) at = trees.CallTerm (name_view f) (map expr_view es) at
  term_at (Value e) at = trees.ValueTerm (expr_view e) at

  pub clause_view : TreeClause → trees.Clause
  clause_view (Fail s) = trees.FailClause (span_view s)
  clause_view (FreeClause s m t) = trees.FreeClause (span_view s) (term_at m (span_view t))
  clause_view (ReceiveClause s x ns z m t) = trees.ReceiveClause (span_view s) (name_view x) (map name_view ns) (name_view z) (term_at m (span_view t))

  pub clauses_view : {n : _} → Row_of-TreeClause n → trees.Clauses
  clauses_view end_of-TreeClause = trees.no_clauses
  clauses_view (more_of-TreeClause c rest) = trees.with_clause (clause_view c) (clauses_view rest)

abbrev pub term_view : Term → trees.Term
term_view m = term_at m.form (span_view m.span)

abbrev pub type_view : TreeType → trees.WrittenType
type_view (type.Base b s) = trees.BaseType (base_view b) (span_view s)
type_view (type.Mailbox x q p s) = trees.MailboxType (name_view x) (polarity_view q) (option_map pattern_view p) (span_view s)

abbrev pub message_view : TreeMessage → trees.Message
message_view m = record { name = name_view m.name; payloads = map type_view m.payloads }

abbrev pub param_view : Param → trees.Param
param_view p = record { name = name_view p.name; type = type_view p.of }

abbrev pub decl_view : Decl → trees.Decl
decl_view (decl.Interface x ms) = trees.InterfaceDecl (name_view x) (map message_view ms)
decl_view (decl.Def x ps r m) = trees.DefDecl (name_view x) (map param_view ps) (type_view r) (term_view m)

abbrev pub tree_view : Tree → trees.Tree
tree_view t = map decl_view t.decls
