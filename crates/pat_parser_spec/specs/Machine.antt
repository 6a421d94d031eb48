-- Reading from left to right, a token at a time, with a stack of what is still owed.
use Rattle.std.specs.Prelude.{ℕ, zero, suc, ◌+◌, Bool, true, false, ◌||◌, List, [], ◌∷◌, ◌++◌, Option, Some, None, nat_lt, Result, Ok, Err}
use Rattle.pat_lexer_spec.specs.Words as word
use Rattle.pat_lexer_spec.specs.Marks as mark
use Rattle.pat_lexer_spec.specs.Tokens.{Token, Name, Integer, Word, Mark}
use Rattle.pat_semantics_spec.specs.Values.{Base, Op, Add, Sub, Mul, Equal, Less}
use Rattle.pat_semantics_spec.specs.Programs.{Polarity, Sending, Receiving}
use Rattle.pat_parser_spec.specs.Trees as tree
use Rattle.pat_parser_spec.specs.Trees.{span, term_at, listed}
use Rattle.pat_parser_spec.specs.Items.{Item, place_of, Limits, literal, constant, base_named}
use Rattle.pat_parser_spec.specs.Grammar.{Operand, combined}

-- ---- what stands before an operand, by level

pub record Pending : Type 0 where
  pub compared : Option (Op × Operand)
  pub added : Option (Op × Operand)
  pub multiplied : Option Operand

abbrev pub nothing : Pending
nothing = record { compared = None; added = None; multiplied = None }

abbrev pub product_of : Option Operand → Operand → ℕ → Operand
product_of None b t = b
product_of (Some a) b t = combined Mul a b t

abbrev pub joined : Option (Op × Operand) → Operand → ℕ → Operand
joined None b t = b
joined (Some a) b t = combined a.0 a.1 b t

abbrev pub sum_of : Pending → Operand → ℕ → Operand
sum_of p a t = joined p.added (product_of p.multiplied a t) t

abbrev pub whole_of : Pending → Operand → ℕ → Operand
whole_of p a t = joined p.compared (sum_of p a t) t

-- what stands before a factor of a pattern: a sum, a product, and stars
pub record Before : Type 0 where
  pub added : Option tree.Pattern
  pub multiplied : Option tree.Pattern
  pub stars : ℕ

abbrev pub none_before : Before
none_before = record { added = None; multiplied = None; stars = 0 }

abbrev pub starred : ℕ → tree.Pattern → tree.Pattern
starred zero p = p
starred (suc n) p = starred n (tree.StarPattern p)

abbrev pub times_pattern : Option tree.Pattern → tree.Pattern → tree.Pattern
times_pattern None q = q
times_pattern (Some p) q = tree.ProdPattern p q

abbrev pub plus_pattern : Option tree.Pattern → tree.Pattern → tree.Pattern
plus_pattern None q = q
plus_pattern (Some p) q = tree.SumPattern p q

abbrev pub product_in : Before → tree.Pattern → tree.Pattern
product_in p q = times_pattern p.multiplied (starred p.stars q)

abbrev pub whole_in : Before → tree.Pattern → tree.Pattern
whole_in p q = plus_pattern p.added (product_in p q)

-- ---- what is read in part

-- a call or a send whose arguments are being read
pub data Head : Type 0 where
  ToCall : (function : tree.Name) → Head
  ToSend : (target tag : tree.Name) → Head

abbrev pub head_from : Head → ℕ
head_from (ToCall f) = f.span.from
head_from (ToSend x y) = x.span.from

abbrev pub made : Head → List tree.Expr → ℕ → tree.Term
made (ToCall f) es t = tree.CallTerm f es (span f.span.from t)
made (ToSend x y) es t = tree.SendTerm x y es (span x.span.from t)

-- a guard, the clauses read so far, how many brackets were open before its brace and are inside, and how many statements
pub record Guarding : Type 0 where
  pub mailbox : tree.Name
  pub pattern : tree.Pattern
  pub from : ℕ
  pub opened : ℕ
  pub inside : ℕ
  pub statements : ℕ
  pub clauses : List tree.Clause

abbrev pub with_clause : Guarding → tree.Clause → Guarding
with_clause g c = record { mailbox = g.mailbox; pattern = g.pattern; from = g.from; opened = g.opened; inside = g.inside; statements = g.statements; clauses = g.clauses ++ c ∷ [] }

abbrev pub guard_term : Guarding → ℕ → tree.Term
guard_term g t = tree.GuardTerm g.mailbox g.pattern (listed g.clauses) (span g.from t)

-- the head of a receive clause, and the names read so far
pub record ClauseHead : Type 0 where
  pub guard : Guarding
  pub word : tree.Span
  pub tag : tree.Name
  pub names : List tree.Name

abbrev pub with_name : ClauseHead → tree.Name → ClauseHead
with_name r x = record { guard = r.guard; word = r.word; tag = r.tag; names = r.names ++ x ∷ [] }

-- an interface, behind some declarations
pub record Interfacing : Type 0 where
  pub decls : List tree.Decl
  pub name : tree.Name
  pub messages : List tree.Message

abbrev pub with_message : Interfacing → tree.Name → List tree.WrittenType → Interfacing
with_message i x ps = record { decls = i.decls; name = i.name; messages = i.messages ++ record { name = x; payloads = ps } ∷ [] }

-- the head of a function, behind some declarations
pub record Defining : Type 0 where
  pub decls : List tree.Decl
  pub name : tree.Name
  pub params : List tree.Param

abbrev pub with_param : Defining → tree.Name → tree.WrittenType → Defining
with_param d x a = record { decls = d.decls; name = d.name; params = d.params ++ record { name = x; type = a } ∷ [] }

-- whose name is wanted
pub data Naming : Type 0 where
  InterfaceName : (decls : List tree.Decl) → Naming
  MessageName : (i : Interfacing) → Naming
  FunctionName : (decls : List tree.Decl) → Naming
  ParamName : (d : Defining) → Naming
  LetName : (from : ℕ) → Naming
  NewName : (from opened : ℕ) → Naming
  FreeName : (from opened : ℕ) → Naming
  GuardName : (from : ℕ) → Naming
  TagName : (target : tree.Name) → Naming
  ReceiveName : (g : Guarding) → (word : tree.Span) → Naming
  BinderName : (r : ClauseHead) → Naming
  FromName : (r : ClauseHead) → Naming

-- what is owed; opened and statements are what was open before

-- where a type stands: in a message, in a parameter, or behind the parameters
pub data TypeFrame : Type 0 where
  InMessage : (i : Interfacing) → (name : tree.Name) → (payloads : List tree.WrittenType) → TypeFrame
  InParam : (d : Defining) → (name : tree.Name) → TypeFrame
  InResult : (d : Defining) → TypeFrame

-- where a pattern stands: in a type, in a guard, or in a bracket
pub data PatternFrame : Type 0 where
  InTyped : (name : tree.Name) → (polarity : Polarity) → PatternFrame
  InGuarded : (mailbox : tree.Name) → (from : ℕ) → PatternFrame
  InPatternBracket : (p : Before) → (opened : ℕ) → PatternFrame

-- where an expression stands: in a bracket, in a print, among arguments, or as a test
pub data ExprFrame : Type 0 where
  InBracket : (p : Pending) → (from opened : ℕ) → ExprFrame
  InPrint : (from opened : ℕ) → ExprFrame
  InArgs : (h : Head) → (args : List tree.Expr) → (opened : ℕ) → ExprFrame
  InTest : (from : ℕ) → ExprFrame

-- a term that is being bound, or the body that follows one
pub data LetFrame : Type 0 where
  InBound : (name : tree.Name) → (from : ℕ) → LetFrame
  InBody : (name : Option tree.Name) → (bound : tree.Term) → (from : ℕ) → LetFrame

-- a term in braces
pub data BlockFrame : Type 0 where
  InBlock : (from opened statements : ℕ) → BlockFrame
  InYes : (test : tree.Expr) → (from opened statements : ℕ) → BlockFrame
  InNo : (test : tree.Expr) → (yes : tree.Term) → (from opened statements : ℕ) → BlockFrame
  InSpawn : (from opened statements : ℕ) → BlockFrame
  InDef : (d : Defining) → (result : tree.WrittenType) → BlockFrame

-- the body of a clause
pub data ClauseFrame : Type 0 where
  InFree : (g : Guarding) → (word : tree.Span) → ClauseFrame
  InReceive : (r : ClauseHead) → (from : tree.Name) → ClauseFrame

pub data Frame : Type 0 where
  AtType : (frame : TypeFrame) → Frame
  AtPattern : (frame : PatternFrame) → Frame
  AtExpr : (frame : ExprFrame) → Frame
  AtLet : (frame : LetFrame) → Frame
  AtBlock : (frame : BlockFrame) → Frame
  AtGuard : (frame : ClauseFrame) → Frame

-- what may come next
pub data Control : Type 0 where
  AtDecl : (first : Bool) → (decls : List tree.Decl) → Control
  WantName : (what : Naming) → Control
  GotName : (what : Naming) → (name : tree.Name) → Control
  FirstPayload : Control
  AfterMessage : (i : Interfacing) → Control
  FirstParam : (d : Defining) → Control
  AfterParams : (d : Defining) → Control
  WantType : Control
  AfterTypeName : (name : tree.Name) → Control
  AfterPolarity : (name : tree.Name) → (polarity : Polarity) → (to : ℕ) → Control
  HaveType : (type : tree.WrittenType) → Control
  WantPattern : (p : Before) → Control
  HavePattern : (p : Before) → (q : tree.Pattern) → (to : ℕ) → Control
  Start : (whole : Bool) → Control
  Named : (name : tree.Name) → Control
  AfterPrint : (from : ℕ) → Control
  AfterNew : (from : ℕ) → Control
  AfterSpawn : (from : ℕ) → Control
  AfterFree : (from : ℕ) → Control
  AfterYes : (test : tree.Expr) → (yes : tree.Term) → (from : ℕ) → Control
  AfterElse : (test : tree.Expr) → (yes : tree.Term) → (from : ℕ) → Control
  AtClause : (first : Bool) → (g : Guarding) → Control
  AfterFreeWord : (g : Guarding) → (word : tree.Span) → Control
  FirstBinder : (r : ClauseHead) → Control
  AfterBinders : (r : ClauseHead) → Control
  FirstArg : Control
  Opened : Control
  Want : (p : Pending) → Control
  Have : (p : Pending) → (a : Operand) → (to : ℕ) → Control
  Done : (term : tree.Term) → (from : ℕ) → Control

pub record State : Type 0 where
  pub control : Control
  pub stack : List Frame
  pub opened : ℕ
  pub operators : ℕ
  pub statements : ℕ

abbrev pub state : Control → List Frame → ℕ → ℕ → ℕ → State
state c fs o k s = record { control = c; stack = fs; opened = o; operators = k; statements = s }

-- why a token is refused
pub data Fault : Type 0 where
  Unexpected : Fault
  TooDeep : Fault

abbrev pub Next : Type 0
Next = Result State Fault

abbrev pub within : Bool → State → Next
within true y = Ok y
within false y = Err TooDeep

-- what a token does: it leads on, opens a bracket or an operator with so many open, opens a statement with so many
-- open, or may not stand here
pub data Move : Type 0 where
  Goes : (next : State) → Move
  Opens : (opened operators : ℕ) → (next : State) → Move
  Starts : (statements : ℕ) → (next : State) → Move
  Refused : Move

-- the move within the limits; a free token is exempt from them
abbrev pub settle : Limits → Bool → Move → Next
settle lim free (Goes y) = Ok y
settle lim free (Opens o k y) = within (free || nat_lt (o + k) lim.tokens) y
settle lim free (Starts s y) = within (free || nat_lt s lim.statements) y
settle lim free Refused = Err Unexpected

abbrev pub name_at : List ℕ → tree.Span → tree.Name
name_at x w = record { text = x; span = w }

-- ---- types

abbrev pub type_comma : List Frame → ℕ → tree.WrittenType → Move
type_comma (AtType (InMessage i x ps) ∷ fs) o a = Goes (state WantType (AtType (InMessage i x (ps ++ a ∷ [])) ∷ fs) o 0 0)
type_comma (AtType (InParam d x) ∷ fs) o a = Goes (state (WantName (ParamName (with_param d x a))) fs o 0 0)
type_comma _ o a = Refused

abbrev pub type_close : List Frame → tree.WrittenType → Move
type_close (AtType (InMessage i x ps) ∷ fs) a = Goes (state (AfterMessage (with_message i x (ps ++ a ∷ []))) fs 1 0 0)
type_close (AtType (InParam d x) ∷ fs) a = Goes (state (AfterParams (with_param d x a)) fs 0 0 0)
type_close _ a = Refused

abbrev pub type_open : List Frame → ℕ → tree.WrittenType → Move
type_open (AtType (InResult d) ∷ fs) o a = Opens o 0 (state (Start true) (AtBlock (InDef d a) ∷ fs) (suc o) 0 0)
type_open _ o a = Refused

-- behind a type
abbrev pub type_step : List Frame → ℕ → tree.WrittenType → Token → tree.Span → Move
type_step fs o a (Mark mark.Comma) w = type_comma fs o a
type_step fs o a (Mark mark.RoundClose) w = type_close fs a
type_step fs o a (Mark mark.CurlyOpen) w = type_open fs o a
type_step fs o a _ w = Refused

abbrev pub base_step : List Frame → ℕ → Option Base → tree.Span → Move
base_step fs o (Some b) w = Goes (state (HaveType (tree.BaseType b w)) fs o 0 0)
base_step fs o None w = Refused

-- where a type is wanted
abbrev pub want_type : List Frame → ℕ → Token → tree.Span → Move
want_type fs o (Name x) w = Goes (state (AfterTypeName (name_at x w)) fs o 0 0)
want_type fs o c w = base_step fs o (base_named c) w

-- whether the type is a payload's
abbrev pub is_payload : List Frame → Bool
is_payload (AtType (InMessage i x ps) ∷ fs) = true
is_payload _ = false

abbrev pub polarized : Bool → List Frame → ℕ → tree.Name → Polarity → tree.Span → Move
polarized true fs o x q w = Goes (state (WantPattern none_before) (AtPattern (InTyped x q) ∷ fs) o 0 0)
polarized false fs o x q w = Goes (state (AfterPolarity x q w.to) fs o 0 0)

abbrev pub after_type_name : List Frame → ℕ → tree.Name → Token → tree.Span → Move
after_type_name fs o x (Mark mark.Bang) w = polarized (is_payload fs) fs o x Sending w
after_type_name fs o x (Mark mark.Question) w = polarized (is_payload fs) fs o x Receiving w
after_type_name fs o x _ w = Refused

abbrev pub payload_none : List Frame → Move
payload_none (AtType (InMessage i x ps) ∷ fs) = Goes (state (AfterMessage (with_message i x ps)) fs 1 0 0)
payload_none _ = Refused

abbrev pub first_payload : List Frame → ℕ → Token → tree.Span → Move
first_payload fs o (Mark mark.RoundClose) w = payload_none fs
first_payload fs o c w = want_type fs o c w

-- ---- patterns

abbrev pub number_step : List Frame → ℕ → ℕ → ℕ → Before → Option tree.Pattern → tree.Span → Move
number_step fs o k s p (Some q) w = Goes (state (HavePattern p q w.to) fs o k s)
number_step fs o k s p None w = Refused

-- where a factor is wanted
abbrev pub want_pattern : List Frame → ℕ → ℕ → ℕ → Before → Token → tree.Span → Move
want_pattern fs o k s p (Name x) w = Goes (state (HavePattern p (tree.TagPattern (name_at x w)) w.to) fs o k s)
want_pattern fs o k s p (Integer n) w = number_step fs o k s p (constant n w) w
want_pattern fs o k s p (Mark mark.Star) w = Opens o k (state (WantPattern (record { added = p.added; multiplied = p.multiplied; stars = suc p.stars })) fs o (suc k) s)
want_pattern fs o k s p (Mark mark.RoundOpen) w = Opens o k (state (WantPattern none_before) (AtPattern (InPatternBracket p o) ∷ fs) (suc o) k s)
want_pattern fs o k s p _ w = Refused

abbrev pub typed_by : tree.Name → Polarity → tree.Pattern → ℕ → tree.WrittenType
typed_by x q p t = tree.MailboxType x q (Some p) (span x.span.from t)

abbrev pub pattern_close : List Frame → ℕ → ℕ → tree.Pattern → ℕ → tree.Span → Move
pattern_close (AtPattern (InPatternBracket p o) ∷ fs) k s q t w = Goes (state (HavePattern p q w.to) fs o k s)
pattern_close (AtPattern (InTyped x r) ∷ fs) k s q t w = type_close fs (typed_by x r q t)
pattern_close _ k s q t w = Refused

abbrev pub pattern_comma : List Frame → ℕ → tree.Pattern → ℕ → Move
pattern_comma (AtPattern (InTyped x r) ∷ fs) o q t = type_comma fs o (typed_by x r q t)
pattern_comma _ o q t = Refused

abbrev pub pattern_open : List Frame → ℕ → ℕ → tree.Pattern → ℕ → Move
pattern_open (AtPattern (InTyped x r) ∷ fs) o s q t = type_open fs o (typed_by x r q t)
pattern_open (AtPattern (InGuarded x f) ∷ fs) o s q t = Opens o 0 (state (AtClause true (record { mailbox = x; pattern = q; from = f; opened = o; inside = suc o; statements = s; clauses = [] })) fs (suc o) 0 s)
pattern_open _ o s q t = Refused

-- behind a factor
abbrev pub have_pattern : List Frame → ℕ → ℕ → ℕ → Before → tree.Pattern → ℕ → Token → tree.Span → Move
have_pattern fs o k s p q t (Mark mark.Dot) w = Opens o k (state (WantPattern (record { added = p.added; multiplied = Some (product_in p q); stars = 0 })) fs o (suc k) s)
have_pattern fs o k s p q t (Mark mark.Plus) w = Opens o k (state (WantPattern (record { added = Some (whole_in p q); multiplied = None; stars = 0 })) fs o (suc k) s)
have_pattern fs o k s p q t (Mark mark.RoundClose) w = pattern_close fs k s (whole_in p q) t w
have_pattern fs o k s p q t (Mark mark.Comma) w = pattern_comma fs o (whole_in p q) t
have_pattern fs o k s p q t (Mark mark.CurlyOpen) w = pattern_open fs o s (whole_in p q) t
have_pattern fs o k s p q t _ w = Refused

-- behind the polarity of a type that may leave its pattern out
abbrev pub after_polarity : List Frame → ℕ → tree.Name → Polarity → ℕ → Token → tree.Span → Move
after_polarity fs o x q t (Mark mark.Comma) w = type_comma fs o (tree.MailboxType x q None (span x.span.from t))
after_polarity fs o x q t (Mark mark.RoundClose) w = type_close fs (tree.MailboxType x q None (span x.span.from t))
after_polarity fs o x q t (Mark mark.CurlyOpen) w = type_open fs o (tree.MailboxType x q None (span x.span.from t))
after_polarity fs o x q t c w = want_pattern (AtPattern (InTyped x q) ∷ fs) o 0 0 none_before c w

-- ---- behind a simple term

-- a term with the bodies that it ends, and what stands below them
abbrev pub bodies : List Frame → tree.Term → List Frame × tree.Term
bodies [] m = ([], m)
bodies (AtLet (InBody x n f) ∷ fs) m = bodies fs (tree.LetTerm x n m (span f (term_at m).to))
bodies (g ∷ fs) m = (g ∷ fs, m)

abbrev pub guard_end : Bool → List Frame → Guarding → tree.Span → Move
guard_end true fs g w = Refused
guard_end false fs g w = Goes (state (Done (guard_term g w.to) g.from) fs g.opened 0 g.statements)

-- where a clause may begin, and the guard may end if this isn't its first clause
abbrev pub clause_step : Bool → List Frame → Guarding → Token → tree.Span → Move
clause_step first fs g (Word word.Fail) w = Goes (state (AtClause false (with_clause g (tree.FailClause w))) fs g.inside 0 g.statements)
clause_step first fs g (Word word.Free) w = Goes (state (AfterFreeWord g w) fs g.inside 0 g.statements)
clause_step first fs g (Word word.Receive) w = Goes (state (WantName (ReceiveName g w)) fs g.inside 0 g.statements)
clause_step first fs g (Mark mark.CurlyClose) w = guard_end first fs g w
clause_step first fs g _ w = Refused

abbrev pub free_of : Guarding → tree.Span → tree.Term → Guarding
free_of g a m = with_clause g (tree.FreeClause a m)

abbrev pub receive_of : ClauseHead → tree.Name → tree.Term → Guarding
receive_of r x m = with_clause r.guard (tree.ReceiveClause r.word r.tag r.names x m)

-- the body of a clause ends where the next clause begins
abbrev pub next_clause : List Frame → tree.Term → Token → tree.Span → Move
next_clause (AtGuard (InFree g a) ∷ fs) m c w = clause_step false fs (free_of g a m) c w
next_clause (AtGuard (InReceive r x) ∷ fs) m c w = clause_step false fs (receive_of r x m) c w
next_clause _ m c w = Refused

-- a closing brace
abbrev pub block_end : List Frame → tree.Term → tree.Span → Move
block_end (AtBlock (InBlock f o s) ∷ fs) m w = Goes (state (Done m f) fs o 0 s)
block_end (AtBlock (InYes e f o s) ∷ fs) m w = Goes (state (AfterYes e m f) fs o 0 s)
block_end (AtBlock (InNo e n f o s) ∷ fs) m w = Goes (state (Done (tree.IfTerm e n m (span f w.to)) f) fs o 0 s)
block_end (AtBlock (InSpawn f o s) ∷ fs) m w = Goes (state (Done (tree.SpawnTerm m (span f w.to)) f) fs o 0 s)
block_end (AtGuard (InFree g a) ∷ fs) m w = guard_end false fs (free_of g a m) w
block_end (AtGuard (InReceive r x) ∷ fs) m w = guard_end false fs (receive_of r x m) w
block_end (AtBlock (InDef d a) ∷ fs) m w = Goes (state (AtDecl false (d.decls ++ tree.DefDecl d.name d.params a m ∷ [])) fs 0 0 0)
block_end _ m w = Refused

-- a simple term may be followed by a semicolon
abbrev pub takes_next : List Frame → Bool
takes_next (AtLet (InBody x m f) ∷ fs) = true
takes_next (AtBlock b ∷ fs) = true
takes_next (AtGuard c ∷ fs) = true
takes_next _ = false

abbrev pub then_next : Bool → List Frame → ℕ → ℕ → tree.Term → ℕ → Move
then_next true fs o s m f = Starts s (state (Start true) (AtLet (InBody None m f) ∷ fs) o 0 (suc s))
then_next false fs o s m f = Refused

abbrev pub then_in : List Frame → ℕ → ℕ → tree.Term → Move
then_in (AtLet (InBound x f) ∷ fs) o s m = Starts s (state (Start true) (AtLet (InBody (Some x) m f) ∷ fs) o 0 (suc s))
then_in _ o s m = Refused

abbrev pub done_step : List Frame → ℕ → ℕ → tree.Term → ℕ → Token → tree.Span → Move
done_step fs o s m f (Mark mark.Semicolon) w = then_next (takes_next fs) fs o s m f
done_step fs o s m f (Word word.In) w = then_in fs o s m
done_step fs o s m f (Mark mark.CurlyClose) w = block_end (bodies fs m).0 (bodies fs m).1 w
done_step fs o s m f (Word word.Fail) w = next_clause (bodies fs m).0 (bodies fs m).1 (Word word.Fail) w
done_step fs o s m f (Word word.Free) w = next_clause (bodies fs m).0 (bodies fs m).1 (Word word.Free) w
done_step fs o s m f (Word word.Receive) w = next_clause (bodies fs m).0 (bodies fs m).1 (Word word.Receive) w
done_step fs o s m f _ w = Refused

-- ---- expressions

abbrev pub end_close : List Frame → ℕ → ℕ → Operand → tree.Span → Move
end_close (AtExpr (InBracket p f o) ∷ fs) k s a w = Goes (state (Have p (a.0, f) w.to) fs o k s)
end_close (AtExpr (InPrint f o) ∷ fs) k s a w = Goes (state (Done (tree.PrintTerm a.0 (span f w.to)) f) fs o 0 s)
end_close (AtExpr (InArgs h es o) ∷ fs) k s a w = Goes (state (Done (made h (es ++ a.0 ∷ []) w.to) (head_from h)) fs o 0 s)
end_close _ k s a w = Refused

abbrev pub end_comma : List Frame → ℕ → ℕ → Operand → Move
end_comma (AtExpr (InArgs h es o1) ∷ fs) o s a = Goes (state (Want nothing) (AtExpr (InArgs h (es ++ a.0 ∷ []) o1) ∷ fs) o 0 s)
end_comma _ o s a = Refused

abbrev pub end_open : List Frame → ℕ → ℕ → Operand → Move
end_open (AtExpr (InTest f) ∷ fs) o s a = Opens o 0 (state (Start true) (AtBlock (InYes a.0 f o s) ∷ fs) (suc o) 0 s)
end_open _ o s a = Refused

-- behind an expression
abbrev pub end_step : List Frame → ℕ → ℕ → ℕ → Operand → ℕ → Token → tree.Span → Move
end_step fs o k s a t (Mark mark.RoundClose) w = end_close fs k s a w
end_step fs o k s a t (Mark mark.Comma) w = end_comma fs o s a
end_step fs o k s a t (Mark mark.CurlyOpen) w = end_open fs o s a
end_step fs o k s a t c w = done_step fs o s (tree.ValueTerm a.0 (span a.1 t)) a.1 c w

abbrev pub compare_step : List Frame → ℕ → ℕ → ℕ → Pending → Operand → ℕ → Op → Option (Op × Operand) → Move
compare_step fs o k s p a t q None = Opens o k (state (Want (record { compared = Some (q, sum_of p a t); added = None; multiplied = None })) fs o (suc k) s)
compare_step fs o k s p a t q (Some x) = Refused

abbrev pub add_step : List Frame → ℕ → ℕ → ℕ → Pending → Operand → ℕ → Op → Move
add_step fs o k s p a t q = Opens o k (state (Want (record { compared = p.compared; added = Some (q, sum_of p a t); multiplied = None })) fs o (suc k) s)

abbrev pub times_step : List Frame → ℕ → ℕ → ℕ → Pending → Operand → ℕ → Move
times_step fs o k s p a t = Opens o k (state (Want (record { compared = p.compared; added = p.added; multiplied = Some (product_of p.multiplied a t) })) fs o (suc k) s)

-- behind an operand
abbrev pub have_step : List Frame → ℕ → ℕ → ℕ → Pending → Operand → ℕ → Token → tree.Span → Move
have_step fs o k s p a t (Mark mark.Star) w = times_step fs o k s p a t
have_step fs o k s p a t (Mark mark.Plus) w = add_step fs o k s p a t Add
have_step fs o k s p a t (Mark mark.Minus) w = add_step fs o k s p a t Sub
have_step fs o k s p a t (Mark mark.DoubleEquals) w = compare_step fs o k s p a t Equal p.compared
have_step fs o k s p a t (Mark mark.Less) w = compare_step fs o k s p a t Less p.compared
have_step fs o k s p a t c w = end_step fs o k s (whole_of p a t) t c w

abbrev pub leaf_step : List Frame → ℕ → ℕ → ℕ → Pending → Option tree.Expr → tree.Span → Move
leaf_step fs o k s p (Some e) w = Goes (state (Have p (e, w.from) w.to) fs o k s)
leaf_step fs o k s p None w = Refused

-- where an operand is wanted
abbrev pub want_step : List Frame → ℕ → ℕ → ℕ → Pending → Token → tree.Span → Move
want_step fs o k s p (Mark mark.RoundOpen) w = Opens o k (state Opened (AtExpr (InBracket p w.from o) ∷ fs) (suc o) k s)
want_step fs o k s p c w = leaf_step fs o k s p (literal c w) w

abbrev pub opened_close : List Frame → ℕ → ℕ → tree.Span → Move
opened_close (AtExpr (InBracket p f o) ∷ fs) k s w = Goes (state (Have p (tree.UnitExpr (span f w.to), f) w.to) fs o k s)
opened_close _ k s w = Refused

abbrev pub opened_step : List Frame → ℕ → ℕ → ℕ → Token → tree.Span → Move
opened_step fs o k s (Mark mark.RoundClose) w = opened_close fs k s w
opened_step fs o k s c w = want_step fs o k s nothing c w

abbrev pub first_close : List Frame → ℕ → tree.Span → Move
first_close (AtExpr (InArgs h es o) ∷ fs) s w = Goes (state (Done (made h es w.to) (head_from h)) fs o 0 s)
first_close _ s w = Refused

abbrev pub first_step : List Frame → ℕ → ℕ → ℕ → Token → tree.Span → Move
first_step fs o k s (Mark mark.RoundClose) w = first_close fs s w
first_step fs o k s c w = want_step fs o k s nothing c w

-- ---- terms

abbrev pub let_step : Bool → List Frame → ℕ → ℕ → tree.Span → Move
let_step true fs o s w = Goes (state (WantName (LetName w.from)) fs o 0 s)
let_step false fs o s w = Refused

-- where a term begins; a whole term may be a let
abbrev pub start_step : List Frame → ℕ → ℕ → ℕ → Bool → Token → tree.Span → Move
start_step fs o k s b (Name x) w = Goes (state (Named (name_at x w)) fs o k s)
start_step fs o k s b (Word word.Let) w = let_step b fs o s w
start_step fs o k s b (Word word.Print) w = Goes (state (AfterPrint w.from) fs o 0 s)
start_step fs o k s b (Word word.New) w = Goes (state (AfterNew w.from) fs o 0 s)
start_step fs o k s b (Word word.Spawn) w = Goes (state (AfterSpawn w.from) fs o 0 s)
start_step fs o k s b (Word word.Free) w = Goes (state (AfterFree w.from) fs o 0 s)
start_step fs o k s b (Word word.If) w = Goes (state (Want nothing) (AtExpr (InTest w.from) ∷ fs) o 0 s)
start_step fs o k s b (Word word.Guard) w = Goes (state (WantName (GuardName w.from)) fs o 0 s)
start_step fs o k s b (Mark mark.CurlyOpen) w = Opens o k (state (Start true) (AtBlock (InBlock w.from o s) ∷ fs) (suc o) 0 s)
start_step fs o k s b c w = want_step fs o k s nothing c w

-- a name where a term begins
abbrev pub named_step : List Frame → ℕ → ℕ → ℕ → tree.Name → Token → tree.Span → Move
named_step fs o k s x (Mark mark.Bang) w = Goes (state (WantName (TagName x)) fs o 0 s)
named_step fs o k s x (Mark mark.RoundOpen) w = Opens o k (state FirstArg (AtExpr (InArgs (ToCall x) [] o) ∷ fs) (suc o) 0 s)
named_step fs o k s x c w = have_step fs o k s nothing (tree.VarExpr x.text x.span, x.span.from) x.span.to c w

abbrev pub after_print : List Frame → ℕ → ℕ → ℕ → Token → tree.Span → Move
after_print fs o s f (Mark mark.RoundOpen) w = Opens o 0 (state (Want nothing) (AtExpr (InPrint f o) ∷ fs) (suc o) 0 s)
after_print fs o s f _ w = Refused

abbrev pub after_new : List Frame → ℕ → ℕ → ℕ → Token → tree.Span → Move
after_new fs o s f (Mark mark.SquareOpen) w = Opens o 0 (state (WantName (NewName f o)) fs (suc o) 0 s)
after_new fs o s f _ w = Refused

abbrev pub after_spawn : List Frame → ℕ → ℕ → ℕ → Token → tree.Span → Move
after_spawn fs o s f (Mark mark.CurlyOpen) w = Opens o 0 (state (Start true) (AtBlock (InSpawn f o s) ∷ fs) (suc o) 0 s)
after_spawn fs o s f _ w = Refused

abbrev pub after_free : List Frame → ℕ → ℕ → ℕ → Token → tree.Span → Move
after_free fs o s f (Mark mark.RoundOpen) w = Opens o 0 (state (WantName (FreeName f o)) fs (suc o) 0 s)
after_free fs o s f _ w = Refused

abbrev pub after_yes : List Frame → ℕ → ℕ → tree.Expr → tree.Term → ℕ → Token → tree.Span → Move
after_yes fs o s e m f (Word word.Else) w = Goes (state (AfterElse e m f) fs o 0 s)
after_yes fs o s e m f _ w = Refused

abbrev pub after_else : List Frame → ℕ → ℕ → tree.Expr → tree.Term → ℕ → Token → tree.Span → Move
after_else fs o s e m f (Mark mark.CurlyOpen) w = Opens o 0 (state (Start true) (AtBlock (InNo e m f o s) ∷ fs) (suc o) 0 s)
after_else fs o s e m f _ w = Refused

abbrev pub after_free_word : List Frame → ℕ → ℕ → Guarding → tree.Span → Token → tree.Span → Move
after_free_word fs o s g a (Mark mark.Arrow) w = Goes (state (Start true) (AtGuard (InFree g a) ∷ fs) o 0 s)
after_free_word fs o s g a _ w = Refused

abbrev pub first_binder : List Frame → ℕ → ℕ → ClauseHead → Token → tree.Span → Move
first_binder fs o s r (Name x) w = Goes (state (GotName (BinderName r) (name_at x w)) fs o 0 s)
first_binder fs o s r (Mark mark.RoundClose) w = Goes (state (AfterBinders r) fs r.guard.inside 0 s)
first_binder fs o s r _ w = Refused

abbrev pub after_binders : List Frame → ℕ → ℕ → ClauseHead → Token → tree.Span → Move
after_binders fs o s r (Word word.From) w = Goes (state (WantName (FromName r)) fs o 0 s)
after_binders fs o s r _ w = Refused

-- ---- declarations

abbrev pub decl_step : List Frame → ℕ → List tree.Decl → Token → tree.Span → Move
decl_step fs o ds (Word word.Interface) w = Goes (state (WantName (InterfaceName ds)) fs o 0 0)
decl_step fs o ds (Word word.Def) w = Goes (state (WantName (FunctionName ds)) fs o 0 0)
decl_step fs o ds _ w = Refused

abbrev pub after_message : List Frame → ℕ → Interfacing → Token → tree.Span → Move
after_message fs o i (Mark mark.Comma) w = Goes (state (WantName (MessageName i)) fs o 0 0)
after_message fs o i (Mark mark.CurlyClose) w = Goes (state (AtDecl false (i.decls ++ tree.InterfaceDecl i.name i.messages ∷ [])) fs 0 0 0)
after_message fs o i _ w = Refused

abbrev pub first_param : List Frame → ℕ → Defining → Token → tree.Span → Move
first_param fs o d (Name x) w = Goes (state (GotName (ParamName d) (name_at x w)) fs o 0 0)
first_param fs o d (Mark mark.RoundClose) w = Goes (state (AfterParams d) fs 0 0 0)
first_param fs o d _ w = Refused

abbrev pub after_params : List Frame → ℕ → Defining → Token → tree.Span → Move
after_params fs o d (Mark mark.Colon) w = Goes (state WantType (AtType (InResult d) ∷ fs) o 0 0)
after_params fs o d _ w = Refused

-- ---- names

abbrev pub want_name : List Frame → ℕ → ℕ → Naming → Token → tree.Span → Move
want_name fs o s what (Name x) w = Goes (state (GotName what (name_at x w)) fs o 0 s)
want_name fs o s what _ w = Refused

abbrev pub interface_named : List Frame → ℕ → List tree.Decl → tree.Name → Token → tree.Span → Move
interface_named fs o ds x (Mark mark.CurlyOpen) w = Opens o 0 (state (WantName (MessageName (record { decls = ds; name = x; messages = [] }))) fs (suc o) 0 0)
interface_named fs o ds x _ w = Refused

abbrev pub message_named : List Frame → ℕ → Interfacing → tree.Name → Token → tree.Span → Move
message_named fs o i x (Mark mark.RoundOpen) w = Opens o 0 (state FirstPayload (AtType (InMessage i x []) ∷ fs) (suc o) 0 0)
message_named fs o i x _ w = Refused

abbrev pub function_named : List Frame → ℕ → List tree.Decl → tree.Name → Token → tree.Span → Move
function_named fs o ds x (Mark mark.RoundOpen) w = Opens o 0 (state (FirstParam (record { decls = ds; name = x; params = [] })) fs (suc o) 0 0)
function_named fs o ds x _ w = Refused

abbrev pub param_named : List Frame → ℕ → Defining → tree.Name → Token → tree.Span → Move
param_named fs o d x (Mark mark.Colon) w = Goes (state WantType (AtType (InParam d x) ∷ fs) o 0 0)
param_named fs o d x _ w = Refused

abbrev pub let_named : List Frame → ℕ → ℕ → ℕ → tree.Name → Token → tree.Span → Move
let_named fs o s f x (Mark mark.Equals) w = Goes (state (Start false) (AtLet (InBound x f) ∷ fs) o 0 s)
let_named fs o s f x _ w = Refused

abbrev pub new_named : List Frame → ℕ → ℕ → ℕ → tree.Name → Token → tree.Span → Move
new_named fs s f o x (Mark mark.SquareClose) w = Goes (state (Done (tree.NewTerm x (span f w.to)) f) fs o 0 s)
new_named fs s f o x _ w = Refused

abbrev pub free_named : List Frame → ℕ → ℕ → ℕ → tree.Name → Token → tree.Span → Move
free_named fs s f o x (Mark mark.RoundClose) w = Goes (state (Done (tree.FreeTerm x (span f w.to)) f) fs o 0 s)
free_named fs s f o x _ w = Refused

abbrev pub guard_named : List Frame → ℕ → ℕ → ℕ → tree.Name → Token → tree.Span → Move
guard_named fs o s f x (Mark mark.Colon) w = Goes (state (WantPattern none_before) (AtPattern (InGuarded x f) ∷ fs) o 0 s)
guard_named fs o s f x _ w = Refused

abbrev pub tag_named : List Frame → ℕ → ℕ → tree.Name → tree.Name → Token → tree.Span → Move
tag_named fs o s x y (Mark mark.RoundOpen) w = Opens o 0 (state FirstArg (AtExpr (InArgs (ToSend x y) [] o) ∷ fs) (suc o) 0 s)
tag_named fs o s x y _ w = Refused

abbrev pub receive_named : List Frame → ℕ → ℕ → Guarding → tree.Span → tree.Name → Token → tree.Span → Move
receive_named fs o s g a x (Mark mark.RoundOpen) w = Opens o 0 (state (FirstBinder (record { guard = g; word = a; tag = x; names = [] })) fs (suc o) 0 s)
receive_named fs o s g a x _ w = Refused

abbrev pub binder_named : List Frame → ℕ → ℕ → ClauseHead → tree.Name → Token → tree.Span → Move
binder_named fs o s r x (Mark mark.Comma) w = Goes (state (WantName (BinderName (with_name r x))) fs o 0 s)
binder_named fs o s r x (Mark mark.RoundClose) w = Goes (state (AfterBinders (with_name r x)) fs r.guard.inside 0 s)
binder_named fs o s r x _ w = Refused

abbrev pub from_named : List Frame → ℕ → ℕ → ClauseHead → tree.Name → Token → tree.Span → Move
from_named fs o s r x (Mark mark.Arrow) w = Goes (state (Start true) (AtGuard (InReceive r x) ∷ fs) o 0 s)
from_named fs o s r x _ w = Refused

-- behind a name that was wanted
abbrev pub got_name : List Frame → ℕ → ℕ → Naming → tree.Name → Token → tree.Span → Move
got_name fs o s (InterfaceName ds) x c w = interface_named fs o ds x c w
got_name fs o s (MessageName i) x c w = message_named fs o i x c w
got_name fs o s (FunctionName ds) x c w = function_named fs o ds x c w
got_name fs o s (ParamName d) x c w = param_named fs o d x c w
got_name fs o s (LetName f) x c w = let_named fs o s f x c w
got_name fs o s (NewName f o1) x c w = new_named fs s f o1 x c w
got_name fs o s (FreeName f o1) x c w = free_named fs s f o1 x c w
got_name fs o s (GuardName f) x c w = guard_named fs o s f x c w
got_name fs o s (TagName y) x c w = tag_named fs o s y x c w
got_name fs o s (ReceiveName g a) x c w = receive_named fs o s g a x c w
got_name fs o s (BinderName r) x c w = binder_named fs o s r x c w
got_name fs o s (FromName r) x c w = from_named fs o s r x c w

-- ---- a token, and all of them

abbrev pub move : Control → List Frame → ℕ → ℕ → ℕ → Token → tree.Span → Move
move (AtDecl b ds) fs o k s c w = decl_step fs o ds c w
move (WantName what) fs o k s c w = want_name fs o s what c w
move (GotName what x) fs o k s c w = got_name fs o s what x c w
move FirstPayload fs o k s c w = first_payload fs o c w
move (AfterMessage i) fs o k s c w = after_message fs o i c w
move (FirstParam d) fs o k s c w = first_param fs o d c w
move (AfterParams d) fs o k s c w = after_params fs o d c w
move WantType fs o k s c w = want_type fs o c w
move (AfterTypeName x) fs o k s c w = after_type_name fs o x c w
move (AfterPolarity x q t) fs o k s c w = after_polarity fs o x q t c w
move (HaveType a) fs o k s c w = type_step fs o a c w
move (WantPattern p) fs o k s c w = want_pattern fs o k s p c w
move (HavePattern p q t) fs o k s c w = have_pattern fs o k s p q t c w
move (Start b) fs o k s c w = start_step fs o k s b c w
move (Named x) fs o k s c w = named_step fs o k s x c w
move (AfterPrint f) fs o k s c w = after_print fs o s f c w
move (AfterNew f) fs o k s c w = after_new fs o s f c w
move (AfterSpawn f) fs o k s c w = after_spawn fs o s f c w
move (AfterFree f) fs o k s c w = after_free fs o s f c w
move (AfterYes e m f) fs o k s c w = after_yes fs o s e m f c w
move (AfterElse e m f) fs o k s c w = after_else fs o s e m f c w
move (AtClause b g) fs o k s c w = clause_step b fs g c w
move (AfterFreeWord g a) fs o k s c w = after_free_word fs o s g a c w
move (FirstBinder r) fs o k s c w = first_binder fs o s r c w
move (AfterBinders r) fs o k s c w = after_binders fs o s r c w
move FirstArg fs o k s c w = first_step fs o k s c w
move Opened fs o k s c w = opened_step fs o k s c w
move (Want p) fs o k s c w = want_step fs o k s p c w
move (Have p a t) fs o k s c w = have_step fs o k s p a t c w
move (Done m f) fs o k s c w = done_step fs o s m f c w

abbrev pub step : Limits → State → Item → Next
step lim x t = settle lim t.1.free (move x.control x.stack x.opened x.operators x.statements t.0 (place_of t.1))

-- the tree, where the tokens may end
abbrev pub finish_at : Control → Option tree.Tree
finish_at (AtDecl false ds) = Some ds
finish_at _ = None

abbrev pub finish : State → Option tree.Tree
finish x = finish_at x.control

abbrev pub bind : {A B : Type 0} → Result A Fault → (A → Result B Fault) → Result B Fault
bind (Ok x) f = f x
bind (Err e) f = Err e

abbrev pub run : Limits → State → List Item → Next
run lim x [] = Ok x
run lim x (t ∷ ts) = bind (step lim x t) (λ y. run lim y ts)

abbrev pub begin : State
begin = state (AtDecl true []) [] 0 0 0

-- reading on, up to a refusal and its offset
abbrev pub placed : ℕ → Next → (State → Result State (Fault × ℕ)) → Result State (Fault × ℕ)
placed n (Ok y) f = f y
placed n (Err e) f = Err (e, n)

abbrev pub reads : Limits → State → List Item → Result State (Fault × ℕ)
reads lim x [] = Ok x
reads lim x (t ∷ ts) = placed t.1.from (step lim x t) (λ y. reads lim y ts)

abbrev pub ended : ℕ → Option tree.Tree → Result tree.Tree (Fault × ℕ)
ended end (Some m) = Ok m
ended end None = Err (Unexpected, end)

abbrev pub and_ended : ℕ → Result State (Fault × ℕ) → Result tree.Tree (Fault × ℕ)
and_ended end (Ok y) = ended end (finish y)
and_ended end (Err e) = Err e

-- the tree, or the first refusal and its offset; the text ends at the offset end
abbrev pub parsed : Limits → ℕ → List Item → Result tree.Tree (Fault × ℕ)
parsed lim end ts = and_ended end (reads lim begin ts)
