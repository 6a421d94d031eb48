-- What the code's programs are in the definitions, which have no places in a text.
use Rattle.std.specs.Prelude.{map, option_map}
use Rattle.pat_primitives.specs.Values.{BaseUnit, BaseBool, BaseInt, BaseText, Kind, Plain, MailboxOf, UnitConst, BoolConst, IntConst, TextConst, Expr, VarExpr, Literal, OpExpr}
use Rattle.pat_primitives.specs.Programs.{Sort, BaseSort, MailboxSort, TagDecl, Interface, Function, Clause, Core, Val, Let, Call, If, Print, New, Send, Spawn, Guard, Node, Program}
use Rattle.pat_patterns.specs.Views.{pattern_view}
use Rattle.pat_primitives.specs.Views.{base_view, polarity_view, op_view}
use Rattle.pat_core.specs.declared.expression.Expr.{Expr as CodeExpr, Var as CodeVar, Unit as CodeUnitExpr, Bool as CodeBoolExpr, Int as CodeIntExpr, Str as CodeStrExpr, Op' as CodeOpExpr}
use Rattle.pat_core.specs.declared.program.Kind.{Kind as CodeKind}
use Rattle.pat_core.specs.declared.program.Kind.TheVariants as kind
use Rattle.pat_core.specs.declared.program.Sort.{Sort as CodeSort}
use Rattle.pat_core.specs.declared.program.Sort.TheVariants as sort
use Rattle.pat_core.specs.declared.program.TagDecl.{TagDecl as CodeTagDecl}
use Rattle.pat_core.specs.declared.program.Interface.{Interface as CodeInterface}
use Rattle.pat_core.specs.declared.program.Function.{Function as CodeFunction}
use Rattle.pat_core.specs.declared.program.Clause.{Clause as CodeClause}
use Rattle.pat_core.specs.declared.program.Core.{Core as CodeCore}
use Rattle.pat_core.specs.declared.program.Core.TheVariants as core
use Rattle.pat_core.specs.declared.program.Node.{Node as CodeNode}
use Rattle.pat_core.specs.declared.program.Program.{Program as CodeProgram}

-- an expression without its boxes
abbrev pub expr_view : CodeExpr → Expr
expr_view (CodeVar x) = VarExpr x
expr_view CodeUnitExpr = Literal UnitConst
expr_view (CodeBoolExpr b) = Literal (BoolConst b)
expr_view (CodeIntExpr n) = Literal (IntConst n)
expr_view (CodeStrExpr s) = Literal (TextConst s)
expr_view (CodeOpExpr op p a q b) = OpExpr (op_view op) (expr_view a) (expr_view b)

abbrev pub kind_view : CodeKind → Kind
kind_view kind.Unit = Plain BaseUnit
kind_view kind.Bool = Plain BaseBool
kind_view kind.Int = Plain BaseInt
kind_view kind.Str = Plain BaseText
kind_view (kind.Mailbox i) = MailboxOf i

abbrev pub sort_view : CodeSort → Sort
sort_view (sort.Base b) = BaseSort (base_view b)
sort_view (sort.Mailbox m) = MailboxSort m.interface (polarity_view m.polarity) (option_map pattern_view m.pattern)

abbrev pub tag_view : CodeTagDecl → TagDecl
tag_view t = record { name = t.name; payloads = map sort_view t.payloads }

abbrev pub interface_view : CodeInterface → Interface
interface_view i = record { name = i.name; tags = map tag_view i.tags }

abbrev pub function_view : CodeFunction → Function
function_view f = record { name = f.name; params = map sort_view f.params; result = sort_view f.result; vars = map kind_view f.vars; body = f.body }

abbrev pub clause_view : CodeClause → Clause
clause_view c = record { tag = c.tag; vars = c.vars; from = c.from; body = c.body }

abbrev pub core_view : CodeCore → Core
core_view (core.Value e) = Val (expr_view e)
core_view (core.Let x m n) = Let x m n
core_view (core.Call f es) = Call f (map expr_view es)
core_view (core.If e m n) = If (expr_view e) m n
core_view (core.Print e) = Print (expr_view e)
core_view (core.New i) = New i
core_view (core.Send x t es) = Send x t (map expr_view es)
core_view (core.Spawn m) = Spawn m
core_view (core.Guard x p f cs) = Guard x (pattern_view p) f (map clause_view cs)

abbrev pub node_view : CodeNode → Node
node_view d = record { core = core_view d.core; kind = kind_view d.kind; function = d.function }

-- a program without boxes and places
abbrev pub program_view : CodeProgram → Program
program_view p = record { interfaces = map interface_view p.interfaces; functions = map function_view p.functions; main = p.main; nodes = map node_view p.nodes }
