-- The canonical text of a tree: round brackets and braces only where the grammar needs them, a declaration a line.
use Rattle.std.specs.Prelude.{pos, Bool, true, false, List, [], ◌∷◌, Option, Some, None}
use Rattle.pat_lexer_spec.specs.Words as word
use Rattle.pat_lexer_spec.specs.Marks as mark
use Rattle.pat_lexer_spec.specs.Tokens.{Token, Integer, Str, Word, Mark}
use Rattle.pat_lexer_spec.specs.Tokens as token
use Rattle.pat_semantics_spec.specs.Values.{Base, BaseUnit, BaseBool, BaseInt, BaseText, Op, Add, Sub, Mul, Equal, Less}
use Rattle.pat_semantics_spec.specs.Programs.{Polarity, Sending, Receiving}
use Rattle.pat_parser_spec.specs.Trees.{Name, Pattern, ZeroPattern, OnePattern, TagPattern, SumPattern, ProdPattern, StarPattern, WrittenType, BaseType, MailboxType, Message, Param, Expr, VarExpr, UnitExpr, BoolExpr, IntExpr, StrExpr, OpExpr, Term, LetTerm, IfTerm, PrintTerm, NewTerm, SpawnTerm, FreeTerm, GuardTerm, SendTerm, CallTerm, ValueTerm, Clause, FailClause, FreeClause, ReceiveClause, Clauses, no_clauses, with_clause, Decl, InterfaceDecl, DefDecl, Tree}

-- a piece of the text: a token, a space, or the end of a line
pub data Piece : Type 0 where
  Tok : (token : Token) → Piece
  Blank : Piece
  Line : Piece

abbrev pub Pieces : Type 0
Pieces = List Piece

-- what a part puts before the pieces that follow it
abbrev pub Onto : Type 0
Onto = Pieces → Pieces

abbrev pub marked : mark.Mark → Onto
marked m r = Tok (Mark m) ∷ r

abbrev pub worded : word.Reserved → Onto
worded w r = Tok (Word w) ∷ r

abbrev pub name_onto : Name → Onto
name_onto x r = Tok (token.Name x.text) ∷ r

-- in round brackets where they are needed
abbrev pub bracketed : Bool → Onto → Onto
bracketed true f r = Tok (Mark mark.RoundOpen) ∷ f (Tok (Mark mark.RoundClose) ∷ r)
bracketed false f r = f r

-- in braces where they are needed
abbrev pub braced : Bool → Onto → Onto
braced true f r = Tok (Mark mark.CurlyOpen) ∷ Blank ∷ f (Blank ∷ Tok (Mark mark.CurlyClose) ∷ r)
braced false f r = f r

-- further ones, each behind a comma
abbrev pub more_onto : {A : Type 0} → (A → Onto) → List A → Onto
more_onto f [] r = r
more_onto f (x ∷ xs) r = Tok (Mark mark.Comma) ∷ Blank ∷ f x (more_onto f xs r)

-- with commas between
abbrev pub list_onto : {A : Type 0} → (A → Onto) → List A → Onto
list_onto f [] r = r
list_onto f (x ∷ xs) r = f x (more_onto f xs r)

-- ---- expressions

abbrev pub op_token : Op → Token
op_token Add = Mark mark.Plus
op_token Sub = Mark mark.Minus
op_token Mul = Mark mark.Star
op_token Equal = Mark mark.DoubleEquals
op_token Less = Mark mark.Less

-- whether an expression needs brackets where an atom, a product or a sum is wanted
abbrev pub opens_atom : Expr → Bool
opens_atom (OpExpr op a b at) = true
opens_atom _ = false

abbrev pub opens_product : Expr → Bool
opens_product (OpExpr Add a b at) = true
opens_product (OpExpr Sub a b at) = true
opens_product (OpExpr Equal a b at) = true
opens_product (OpExpr Less a b at) = true
opens_product _ = false

abbrev pub opens_sum : Expr → Bool
opens_sum (OpExpr Equal a b at) = true
opens_sum (OpExpr Less a b at) = true
opens_sum _ = false

abbrev pub opens_left : Op → Expr → Bool
opens_left Mul a = opens_product a
opens_left Add a = opens_sum a
opens_left Sub a = opens_sum a
opens_left Equal a = opens_sum a
opens_left Less a = opens_sum a

abbrev pub opens_right : Op → Expr → Bool
opens_right Mul b = opens_atom b
opens_right Add b = opens_product b
opens_right Sub b = opens_product b
opens_right Equal b = opens_sum b
opens_right Less b = opens_sum b

abbrev pub truth : Bool → word.Reserved
truth true = word.TrueWord
truth false = word.FalseWord

abbrev pub expr_onto : Expr → Onto
expr_onto (VarExpr x at) r = Tok (token.Name x) ∷ r
expr_onto (UnitExpr at) r = Tok (Mark mark.RoundOpen) ∷ Tok (Mark mark.RoundClose) ∷ r
expr_onto (BoolExpr b at) r = Tok (Word (truth b)) ∷ r
expr_onto (IntExpr n at) r = Tok (Integer n) ∷ r
expr_onto (StrExpr x at) r = Tok (Str x) ∷ r
expr_onto (OpExpr op a b at) r = bracketed (opens_left op a) (expr_onto a) (Blank ∷ Tok (op_token op) ∷ Blank ∷ bracketed (opens_right op b) (expr_onto b) r)

-- ---- patterns and types

abbrev pub opens_factor : Pattern → Bool
opens_factor (SumPattern p q) = true
opens_factor (ProdPattern p q) = true
opens_factor _ = false

abbrev pub opens_sum_pattern : Pattern → Bool
opens_sum_pattern (SumPattern p q) = true
opens_sum_pattern _ = false

abbrev pub pattern_onto : Pattern → Onto
pattern_onto (ZeroPattern at) r = Tok (Integer (pos 0)) ∷ r
pattern_onto (OnePattern at) r = Tok (Integer (pos 1)) ∷ r
pattern_onto (TagPattern x) r = name_onto x r
pattern_onto (SumPattern p q) r = pattern_onto p (Blank ∷ Tok (Mark mark.Plus) ∷ Blank ∷ bracketed (opens_sum_pattern q) (pattern_onto q) r)
pattern_onto (ProdPattern p q) r = bracketed (opens_sum_pattern p) (pattern_onto p) (Tok (Mark mark.Dot) ∷ bracketed (opens_factor q) (pattern_onto q) r)
pattern_onto (StarPattern p) r = Tok (Mark mark.Star) ∷ bracketed (opens_factor p) (pattern_onto p) r

abbrev pub base_word : Base → word.Reserved
base_word BaseUnit = word.UnitWord
base_word BaseBool = word.BoolWord
base_word BaseInt = word.IntWord
base_word BaseText = word.StringWord

abbrev pub polarity_mark : Polarity → mark.Mark
polarity_mark Sending = mark.Bang
polarity_mark Receiving = mark.Question

abbrev pub written_onto : Option Pattern → Onto
written_onto None r = r
written_onto (Some p) r = pattern_onto p r

abbrev pub type_onto : WrittenType → Onto
type_onto (BaseType b at) r = worded (base_word b) r
type_onto (MailboxType x q p at) r = name_onto x (marked (polarity_mark q) (written_onto p r))

-- ---- terms

-- whether a term needs braces to be bound
abbrev pub opens_simple : Term → Bool
opens_simple (LetTerm x m n at) = true
opens_simple _ = false

abbrev pub args_onto : List Expr → Onto
args_onto es r = marked mark.RoundOpen (list_onto expr_onto es (marked mark.RoundClose r))

abbrev mutual
  pub term_onto : Term → Onto
  term_onto (LetTerm None m n at) r = braced (opens_simple m) (term_onto m) (marked mark.Semicolon (Blank ∷ term_onto n r))
  term_onto (LetTerm (Some x) m n at) r = worded word.Let (Blank ∷ name_onto x (Blank ∷ marked mark.Equals (Blank ∷ braced (opens_simple m) (term_onto m) (Blank ∷ worded word.In (Blank ∷ term_onto n r)))))
  term_onto (IfTerm e m n at) r = worded word.If (Blank ∷ expr_onto e (Blank ∷ braced true (term_onto m) (Blank ∷ worded word.Else (Blank ∷ braced true (term_onto n) r))))
  term_onto (PrintTerm e at) r = worded word.Print (marked mark.RoundOpen (expr_onto e (marked mark.RoundClose r)))
  term_onto (NewTerm x at) r = worded word.New (marked mark.SquareOpen (name_onto x (marked mark.SquareClose r)))
  term_onto (SpawnTerm m at) r = worded word.Spawn (Blank ∷ braced true (term_onto m) r)
  term_onto (FreeTerm x at) r = worded word.Free (marked mark.RoundOpen (name_onto x (marked mark.RoundClose r)))
  term_onto (GuardTerm x p cs at) r = worded word.Guard (Blank ∷ name_onto x (Blank ∷ marked mark.Colon (Blank ∷ pattern_onto p (Blank ∷ marked mark.CurlyOpen (Blank ∷ clauses_onto cs (marked mark.CurlyClose r))))))
  term_onto (SendTerm x y es at) r = name_onto x (Blank ∷ marked mark.Bang (Blank ∷ name_onto y (args_onto es r)))
  term_onto (CallTerm f es at) r = name_onto f (args_onto es r)
  term_onto (ValueTerm e at) r = expr_onto e r

  pub clause_onto : Clause → Onto
  clause_onto (FailClause w) r = worded word.Fail r
  clause_onto (FreeClause w m) r = worded word.Free (Blank ∷ marked mark.Arrow (Blank ∷ term_onto m r))
  clause_onto (ReceiveClause w x ns y m) r = worded word.Receive (Blank ∷ name_onto x (marked mark.RoundOpen (list_onto name_onto ns (marked mark.RoundClose (Blank ∷ worded word.From (Blank ∷ name_onto y (Blank ∷ marked mark.Arrow (Blank ∷ term_onto m r))))))))

  pub clauses_onto : Clauses → Onto
  clauses_onto no_clauses r = r
  clauses_onto (with_clause c cs) r = clause_onto c (Blank ∷ clauses_onto cs r)

-- ---- declarations

abbrev pub message_onto : Message → Onto
message_onto m r = name_onto m.name (marked mark.RoundOpen (list_onto type_onto m.payloads (marked mark.RoundClose r)))

abbrev pub param_onto : Param → Onto
param_onto p r = name_onto p.name (marked mark.Colon (Blank ∷ type_onto p.type r))

abbrev pub decl_onto : Decl → Onto
decl_onto (InterfaceDecl x ms) r = worded word.Interface (Blank ∷ name_onto x (Blank ∷ marked mark.CurlyOpen (Blank ∷ list_onto message_onto ms (Blank ∷ marked mark.CurlyClose r))))
decl_onto (DefDecl x ps a m) r = worded word.Def (Blank ∷ name_onto x (marked mark.RoundOpen (list_onto param_onto ps (marked mark.RoundClose (marked mark.Colon (Blank ∷ type_onto a (Blank ∷ braced true (term_onto m) r)))))))

abbrev pub tree_onto : Tree → Onto
tree_onto [] r = r
tree_onto (d ∷ ds) r = decl_onto d (Line ∷ tree_onto ds r)

-- the pieces of the canonical text
abbrev pub canonical : Tree → Pieces
canonical ds = tree_onto ds []

-- the tokens of pieces
abbrev pub tokens_of : Pieces → List Token
tokens_of [] = []
tokens_of (Tok c ∷ r) = c ∷ tokens_of r
tokens_of (Blank ∷ r) = tokens_of r
tokens_of (Line ∷ r) = tokens_of r
