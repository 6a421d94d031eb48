-- No two pieces of a canonical text that stand side by side run together: a test on neighbours that every part keeps.
use Rattle.std.proofs.Common.{◌≡◌, Bool, true, false, List, [], ◌∷◌, Option, Some, None, refl}
use Rattle.std.specs.Prelude.{◌&&◌}
use Rattle.pat_lexer_spec.specs.Words as word
use Rattle.pat_lexer_spec.specs.Marks as mark
use Rattle.pat_lexer_spec.specs.Tokens.{Token, Integer, Str, Word, Mark}
use Rattle.pat_lexer_spec.specs.Tokens as token
use Rattle.pat_semantics_spec.specs.Values.{Op, Add, Sub, Mul, Equal, Less}
use Rattle.pat_semantics_spec.specs.Programs.{Polarity, Sending, Receiving}
use Rattle.pat_parser_spec.specs.Trees.{Name, Pattern, ZeroPattern, OnePattern, TagPattern, SumPattern, ProdPattern, StarPattern, WrittenType, BaseType, MailboxType, Message, Param, Expr, VarExpr, UnitExpr, BoolExpr, IntExpr, StrExpr, OpExpr, Term, LetTerm, IfTerm, PrintTerm, NewTerm, SpawnTerm, FreeTerm, GuardTerm, SendTerm, CallTerm, ValueTerm, Clause, FailClause, FreeClause, ReceiveClause, Clauses, no_clauses, with_clause, Decl, InterfaceDecl, DefDecl}
use Rattle.pat_print_spec.specs.Canonical.{Tok, Blank, Line, Pieces, Onto, marked, worded, name_onto, bracketed, braced, more_onto, list_onto, opens_left, opens_right, op_token, expr_onto, opens_factor, opens_sum_pattern, pattern_onto, polarity_mark, written_onto, type_onto, opens_simple, args_onto, term_onto, clause_onto, clauses_onto, message_onto, param_onto, decl_onto, tree_onto}

-- no name and no digit stands first
abbrev pub quiet : Pieces → Bool
quiet [] = true
quiet (Blank ∷ r) = true
quiet (Line ∷ r) = true
quiet (Tok (Mark m) ∷ r) = true
quiet (Tok (token.Name x) ∷ r) = false
quiet (Tok (Integer n) ∷ r) = false
quiet (Tok (Str s) ∷ r) = false
quiet (Tok (Word w) ∷ r) = false

-- no token stands first
abbrev pub spaced : Pieces → Bool
spaced [] = true
spaced (Blank ∷ r) = true
spaced (Line ∷ r) = true
spaced (Tok c ∷ r) = false

-- the token ends where these pieces follow
abbrev pub ends : Token → Pieces → Bool
ends (token.Name x) r = quiet r
ends (Integer n) r = quiet r
ends (Word w) r = quiet r
ends (Str s) r = true
ends (Mark mark.Equals) r = spaced r
ends (Mark mark.Minus) r = spaced r
ends (Mark _) r = true

-- each token ends where the pieces behind it follow
abbrev pub apart : Pieces → Bool
apart [] = true
apart (Tok c ∷ r) = ends c r && apart r
apart (Blank ∷ r) = apart r
apart (Line ∷ r) = apart r

pub both_true : (a b : Bool) → a ≡ true → b ≡ true → (a && b) ≡ true
both_true true b p q = q
both_true false b p q = p

-- what stands behind a part is kept apart by it, where nothing of its own runs on
abbrev Parts : Onto → Type 0
Parts f = (r : Pieces) → quiet r ≡ true → apart r ≡ true → apart (f r) ≡ true

name_apart : (x : Name) → Parts (name_onto x)
name_apart x r q h = both_true (quiet r) (apart r) q h

bracketed_apart : (c : Bool) (f : Onto) → Parts f → Parts (bracketed c f)
bracketed_apart true f k r q h = k (Tok (Mark mark.RoundClose) ∷ r) refl h
bracketed_apart false f k r q h = k r q h

braced_apart : (c : Bool) (f : Onto) → Parts f → Parts (braced c f)
braced_apart true f k r q h = k (Blank ∷ Tok (Mark mark.CurlyClose) ∷ r) refl h
braced_apart false f k r q h = k r q h

more_quiet : {A : Type 0} (f : A → Onto) (xs : List A) (r : Pieces) → quiet r ≡ true → quiet (more_onto f xs r) ≡ true
more_quiet f [] r q = q
more_quiet f (x ∷ xs) r q = refl

more_apart : {A : Type 0} (f : A → Onto) → ((x : A) → Parts (f x)) → (xs : List A) → Parts (more_onto f xs)
more_apart f k [] r q h = h
more_apart f k (x ∷ xs) r q h = k x (more_onto f xs r) (more_quiet f xs r q) (more_apart f k xs r q h)

list_apart : {A : Type 0} (f : A → Onto) → ((x : A) → Parts (f x)) → (xs : List A) → Parts (list_onto f xs)
list_apart f k [] r q h = h
list_apart f k (x ∷ xs) r q h = k x (more_onto f xs r) (more_quiet f xs r q) (more_apart f k xs r q h)

-- ---- expressions, patterns and types

op_apart : (op : Op) (r : Pieces) → apart r ≡ true → apart (Tok (op_token op) ∷ Blank ∷ r) ≡ true
op_apart Add r h = h
op_apart Sub r h = h
op_apart Mul r h = h
op_apart Equal r h = h
op_apart Less r h = h

expr_apart : (e : Expr) → Parts (expr_onto e)
expr_apart (VarExpr x at) r q h = both_true (quiet r) (apart r) q h
expr_apart (UnitExpr at) r q h = h
expr_apart (BoolExpr b at) r q h = both_true (quiet r) (apart r) q h
expr_apart (IntExpr n at) r q h = both_true (quiet r) (apart r) q h
expr_apart (StrExpr s at) r q h = h
expr_apart (OpExpr op a b at) r q h =
    bracketed_apart (opens_left op a) (expr_onto a) (expr_apart a) (Blank ∷ Tok (op_token op) ∷ Blank ∷ bracketed (opens_right op b) (expr_onto b) r) refl
    (op_apart op (bracketed (opens_right op b) (expr_onto b) r) (bracketed_apart (opens_right op b) (expr_onto b) (expr_apart b) r q h))

pattern_apart : (p : Pattern) → Parts (pattern_onto p)
pattern_apart (ZeroPattern at) r q h = both_true (quiet r) (apart r) q h
pattern_apart (OnePattern at) r q h = both_true (quiet r) (apart r) q h
pattern_apart (TagPattern x) r q h = both_true (quiet r) (apart r) q h
pattern_apart (SumPattern a b) r q h =
    pattern_apart a (Blank ∷ Tok (Mark mark.Plus) ∷ Blank ∷ bracketed (opens_sum_pattern b) (pattern_onto b) r) refl (bracketed_apart (opens_sum_pattern b) (pattern_onto b) (pattern_apart b) r q h)
pattern_apart (ProdPattern a b) r q h =
    bracketed_apart (opens_sum_pattern a) (pattern_onto a) (pattern_apart a) (Tok (Mark mark.Dot) ∷ bracketed (opens_factor b) (pattern_onto b) r) refl (bracketed_apart (opens_factor b) (pattern_onto b) (pattern_apart b) r q h)
pattern_apart (StarPattern a) r q h = bracketed_apart (opens_factor a) (pattern_onto a) (pattern_apart a) r q h

written_apart : (p : Option Pattern) → Parts (written_onto p)
written_apart None r q h = h
written_apart (Some p) r q h = pattern_apart p r q h

polarity_apart : (p : Polarity) (r : Pieces) → apart r ≡ true → apart (Tok (Mark (polarity_mark p)) ∷ r) ≡ true
polarity_apart Sending r h = h
polarity_apart Receiving r h = h

type_apart : (a : WrittenType) → Parts (type_onto a)
type_apart (BaseType b at) r q h = both_true (quiet r) (apart r) q h
type_apart (MailboxType x p w at) r q h = polarity_apart p (written_onto w r) (written_apart w r q h)

-- ---- terms

args_apart : (es : List Expr) (r : Pieces) → apart r ≡ true → apart (args_onto es r) ≡ true
args_apart es r h = list_apart expr_onto expr_apart es (Tok (Mark mark.RoundClose) ∷ r) refl h

mutual
  term_apart : (m : Term) → Parts (term_onto m)
  term_apart (LetTerm None m n at) r q h = braced_apart (opens_simple m) (term_onto m) (term_apart m) (marked mark.Semicolon (Blank ∷ term_onto n r)) refl (term_apart n r q h)
  term_apart (LetTerm (Some x) m n at) r q h = braced_apart (opens_simple m) (term_onto m) (term_apart m) (Blank ∷ worded word.In (Blank ∷ term_onto n r)) refl (term_apart n r q h)
  term_apart (IfTerm e m n at) r q h =
      expr_apart e (Blank ∷ braced true (term_onto m) (Blank ∷ worded word.Else (Blank ∷ braced true (term_onto n) r))) refl
      (term_apart m (Blank ∷ Tok (Mark mark.CurlyClose) ∷ Blank ∷ worded word.Else (Blank ∷ braced true (term_onto n) r)) refl
      (term_apart n (Blank ∷ Tok (Mark mark.CurlyClose) ∷ r) refl h))
  term_apart (PrintTerm e at) r q h = expr_apart e (Tok (Mark mark.RoundClose) ∷ r) refl h
  term_apart (NewTerm x at) r q h = h
  term_apart (SpawnTerm m at) r q h = term_apart m (Blank ∷ Tok (Mark mark.CurlyClose) ∷ r) refl h
  term_apart (FreeTerm x at) r q h = h
  term_apart (GuardTerm x p cs at) r q h =
      pattern_apart p (Blank ∷ marked mark.CurlyOpen (Blank ∷ clauses_onto cs (marked mark.CurlyClose r))) refl (clauses_apart cs (Tok (Mark mark.CurlyClose) ∷ r) refl h)
  term_apart (SendTerm x y es at) r q h = args_apart es r h
  term_apart (CallTerm f es at) r q h = args_apart es r h
  term_apart (ValueTerm e at) r q h = expr_apart e r q h

  clause_apart : (c : Clause) → Parts (clause_onto c)
  clause_apart (FailClause w) r q h = both_true (quiet r) (apart r) q h
  clause_apart (FreeClause w m) r q h = term_apart m r q h
  clause_apart (ReceiveClause w x ns y m) r q h =
      list_apart name_onto name_apart ns (marked mark.RoundClose (Blank ∷ worded word.From (Blank ∷ name_onto y (Blank ∷ marked mark.Arrow (Blank ∷ term_onto m r))))) refl (term_apart m r q h)

  clauses_apart : (cs : Clauses) → Parts (clauses_onto cs)
  clauses_apart no_clauses r q h = h
  clauses_apart (with_clause c cs) r q h = clause_apart c (Blank ∷ clauses_onto cs r) refl (clauses_apart cs r q h)

-- ---- declarations

message_apart : (m : Message) → Parts (message_onto m)
message_apart m r q h = list_apart type_onto type_apart m.payloads (Tok (Mark mark.RoundClose) ∷ r) refl h

param_apart : (p : Param) → Parts (param_onto p)
param_apart p r q h = type_apart p.type r q h

decl_apart : (d : Decl) → Parts (decl_onto d)
decl_apart (InterfaceDecl x ms) r q h = list_apart message_onto message_apart ms (Blank ∷ Tok (Mark mark.CurlyClose) ∷ r) refl h
decl_apart (DefDecl x ps a m) r q h =
    list_apart param_onto param_apart ps (marked mark.RoundClose (marked mark.Colon (Blank ∷ type_onto a (Blank ∷ braced true (term_onto m) r)))) refl
    (type_apart a (Blank ∷ braced true (term_onto m) r) refl (term_apart m (Blank ∷ Tok (Mark mark.CurlyClose) ∷ r) refl h))

pub tree_apart : (ds : List Decl) → apart (tree_onto ds []) ≡ true
tree_apart [] = refl
tree_apart (d ∷ ds) = decl_apart d (Line ∷ tree_onto ds []) refl (tree_apart ds)
