-- The canonical text of a tree is that of the tree without its places.
use Rattle.std.proofs.Common.{◌≡◌, ℕ, Bool, true, false, List, [], ◌∷◌, map, Some, None, refl, sym, ap, ◌∙◌, subst}
use Rattle.pat_lexer_spec.specs.Words as word
use Rattle.pat_lexer_spec.specs.Marks as mark
use Rattle.pat_lexer_spec.specs.Tokens.{Mark, Spanned}
use Rattle.pat_lexer_spec.specs.Divisions.{Divides}
use Rattle.pat_semantics_spec.specs.Values.{Op, Add, Sub, Mul, Equal, Less}
use Rattle.pat_parser_spec.specs.Trees.{Name, Pattern, ZeroPattern, OnePattern, TagPattern, SumPattern, ProdPattern, StarPattern, WrittenType, BaseType, MailboxType, Message, Param, Expr, VarExpr, UnitExpr, BoolExpr, IntExpr, StrExpr, OpExpr, Term, LetTerm, IfTerm, PrintTerm, NewTerm, SpawnTerm, FreeTerm, GuardTerm, SendTerm, CallTerm, ValueTerm, Clause, FailClause, FreeClause, ReceiveClause, Clauses, no_clauses, with_clause, Decl, InterfaceDecl, DefDecl, Tree}
use Rattle.pat_parser_spec.specs.Items.{Limits}
use Rattle.pat_parser_spec.specs.Claims.{SpellsTree}
use Rattle.pat_print_spec.specs.Bare.{bare_name, bare_pattern, bare_type, bare_expr, bare_term, bare_clause, bare_clauses, bare_message, bare_param, bare_decl, bare}
use Rattle.pat_print_spec.specs.Canonical.{Tok, Blank, Line, Pieces, Onto, marked, worded, name_onto, bracketed, braced, more_onto, list_onto, op_token, opens_atom, opens_product, opens_sum, opens_left, opens_right, expr_onto, opens_factor, opens_sum_pattern, pattern_onto, polarity_mark, type_onto, opens_simple, args_onto, term_onto, clause_onto, clauses_onto, message_onto, param_onto, decl_onto, tree_onto, canonical}
use Rattle.pat_print_spec.specs.Text.{text_of, canonical_text}
use Rattle.pat_print_laws.specs.ReadAgain.{CanBeSpelled, ReadsAs}
use Rattle.pat_print_laws.proofs.Again.{spelled, read_spelled}

-- the same pieces in front of any
abbrev Same : Onto → Onto → Type 0
Same f g = (r : Pieces) → f r ≡ g r

bracket_same : (p q : Bool) (f g : Onto) → p ≡ q → Same f g → Same (bracketed p f) (bracketed q g)
bracket_same true true f g e h r = ap (λ (t : Pieces). Tok (Mark mark.RoundOpen) ∷ t) (h (Tok (Mark mark.RoundClose) ∷ r))
bracket_same false false f g e h r = h r
bracket_same true false f g e h r = cc
bracket_same false true f g e h r = cc

brace_same : (p q : Bool) (f g : Onto) → p ≡ q → Same f g → Same (braced p f) (braced q g)
brace_same true true f g e h r = ap (λ (t : Pieces). Tok (Mark mark.CurlyOpen) ∷ Blank ∷ t) (h (Blank ∷ Tok (Mark mark.CurlyClose) ∷ r))
brace_same false false f g e h r = h r
brace_same true false f g e h r = cc
brace_same false true f g e h r = cc

more_same : {A : Type 0} (f : A → Onto) (b : A → A) → ((x : A) → Same (f (b x)) (f x)) → (xs : List A) → Same (more_onto f (map b xs)) (more_onto f xs)
more_same f b h [] r = refl
more_same f b h (x ∷ xs) r =
    ap (λ (t : Pieces). Tok (Mark mark.Comma) ∷ Blank ∷ f (b x) t) (more_same f b h xs r)
    ∙ ap (λ (t : Pieces). Tok (Mark mark.Comma) ∷ Blank ∷ t) (h x (more_onto f xs r))

list_same : {A : Type 0} (f : A → Onto) (b : A → A) → ((x : A) → Same (f (b x)) (f x)) → (xs : List A) → Same (list_onto f (map b xs)) (list_onto f xs)
list_same f b h [] r = refl
list_same f b h (x ∷ xs) r = ap (f (b x)) (more_same f b h xs r) ∙ h x (more_onto f xs r)

name_same : (x : Name) → Same (name_onto (bare_name x)) (name_onto x)
name_same x r = refl

-- ---- expressions

atom_same : (e : Expr) → opens_atom (bare_expr e) ≡ opens_atom e
atom_same (VarExpr x at) = refl
atom_same (UnitExpr at) = refl
atom_same (BoolExpr b at) = refl
atom_same (IntExpr n at) = refl
atom_same (StrExpr x at) = refl
atom_same (OpExpr op a b at) = refl

product_same : (e : Expr) → opens_product (bare_expr e) ≡ opens_product e
product_same (VarExpr x at) = refl
product_same (UnitExpr at) = refl
product_same (BoolExpr b at) = refl
product_same (IntExpr n at) = refl
product_same (StrExpr x at) = refl
product_same (OpExpr Add a b at) = refl
product_same (OpExpr Sub a b at) = refl
product_same (OpExpr Mul a b at) = refl
product_same (OpExpr Equal a b at) = refl
product_same (OpExpr Less a b at) = refl

sum_same : (e : Expr) → opens_sum (bare_expr e) ≡ opens_sum e
sum_same (VarExpr x at) = refl
sum_same (UnitExpr at) = refl
sum_same (BoolExpr b at) = refl
sum_same (IntExpr n at) = refl
sum_same (StrExpr x at) = refl
sum_same (OpExpr Add a b at) = refl
sum_same (OpExpr Sub a b at) = refl
sum_same (OpExpr Mul a b at) = refl
sum_same (OpExpr Equal a b at) = refl
sum_same (OpExpr Less a b at) = refl

left_same : (op : Op) (a : Expr) → opens_left op (bare_expr a) ≡ opens_left op a
left_same Add a = sum_same a
left_same Sub a = sum_same a
left_same Mul a = product_same a
left_same Equal a = sum_same a
left_same Less a = sum_same a

right_same : (op : Op) (b : Expr) → opens_right op (bare_expr b) ≡ opens_right op b
right_same Add b = product_same b
right_same Sub b = product_same b
right_same Mul b = atom_same b
right_same Equal b = sum_same b
right_same Less b = sum_same b

expr_same : (e : Expr) → Same (expr_onto (bare_expr e)) (expr_onto e)
expr_same (VarExpr x at) r = refl
expr_same (UnitExpr at) r = refl
expr_same (BoolExpr b at) r = refl
expr_same (IntExpr n at) r = refl
expr_same (StrExpr x at) r = refl
expr_same (OpExpr op a b at) r =
    ap (λ (t : Pieces). bracketed (opens_left op (bare_expr a)) (expr_onto (bare_expr a)) (Blank ∷ Tok (op_token op) ∷ Blank ∷ t))
    (bracket_same (opens_right op (bare_expr b)) (opens_right op b) (expr_onto (bare_expr b)) (expr_onto b) (right_same op b) (λ s. expr_same b s) r)
    ∙ bracket_same (opens_left op (bare_expr a)) (opens_left op a) (expr_onto (bare_expr a)) (expr_onto a) (left_same op a) (λ s. expr_same a s) (Blank ∷ Tok (op_token op) ∷ Blank ∷ bracketed (opens_right op b) (expr_onto b) r)

-- ---- patterns and types

factor_same : (p : Pattern) → opens_factor (bare_pattern p) ≡ opens_factor p
factor_same (ZeroPattern at) = refl
factor_same (OnePattern at) = refl
factor_same (TagPattern x) = refl
factor_same (SumPattern p q) = refl
factor_same (ProdPattern p q) = refl
factor_same (StarPattern p) = refl

sum_pattern_same : (p : Pattern) → opens_sum_pattern (bare_pattern p) ≡ opens_sum_pattern p
sum_pattern_same (ZeroPattern at) = refl
sum_pattern_same (OnePattern at) = refl
sum_pattern_same (TagPattern x) = refl
sum_pattern_same (SumPattern p q) = refl
sum_pattern_same (ProdPattern p q) = refl
sum_pattern_same (StarPattern p) = refl

pattern_same : (p : Pattern) → Same (pattern_onto (bare_pattern p)) (pattern_onto p)
pattern_same (ZeroPattern at) r = refl
pattern_same (OnePattern at) r = refl
pattern_same (TagPattern x) r = refl
pattern_same (SumPattern p q) r =
    ap (λ (t : Pieces). pattern_onto (bare_pattern p) (Blank ∷ Tok (Mark mark.Plus) ∷ Blank ∷ t))
    (bracket_same (opens_sum_pattern (bare_pattern q)) (opens_sum_pattern q) (pattern_onto (bare_pattern q)) (pattern_onto q) (sum_pattern_same q) (λ s. pattern_same q s) r)
    ∙ pattern_same p (Blank ∷ Tok (Mark mark.Plus) ∷ Blank ∷ bracketed (opens_sum_pattern q) (pattern_onto q) r)
pattern_same (ProdPattern p q) r =
    ap (λ (t : Pieces). bracketed (opens_sum_pattern (bare_pattern p)) (pattern_onto (bare_pattern p)) (Tok (Mark mark.Dot) ∷ t))
    (bracket_same (opens_factor (bare_pattern q)) (opens_factor q) (pattern_onto (bare_pattern q)) (pattern_onto q) (factor_same q) (λ s. pattern_same q s) r)
    ∙ bracket_same (opens_sum_pattern (bare_pattern p)) (opens_sum_pattern p) (pattern_onto (bare_pattern p)) (pattern_onto p) (sum_pattern_same p) (λ s. pattern_same p s) (Tok (Mark mark.Dot) ∷ bracketed (opens_factor q) (pattern_onto q) r)
pattern_same (StarPattern p) r =
    ap (λ (t : Pieces). Tok (Mark mark.Star) ∷ t)
    (bracket_same (opens_factor (bare_pattern p)) (opens_factor p) (pattern_onto (bare_pattern p)) (pattern_onto p) (factor_same p) (λ s. pattern_same p s) r)

type_same : (a : WrittenType) → Same (type_onto (bare_type a)) (type_onto a)
type_same (BaseType b at) r = refl
type_same (MailboxType x q None at) r = refl
type_same (MailboxType x q (Some p) at) r = ap (λ (t : Pieces). name_onto x (marked (polarity_mark q) t)) (pattern_same p r)

-- ---- terms

args_same : (es : List Expr) → Same (args_onto (map bare_expr es)) (args_onto es)
args_same es r = ap (λ (t : Pieces). marked mark.RoundOpen t) (list_same expr_onto bare_expr expr_same es (marked mark.RoundClose r))

simple_same : (m : Term) → opens_simple (bare_term m) ≡ opens_simple m
simple_same (LetTerm x m n at) = refl
simple_same (IfTerm e m n at) = refl
simple_same (PrintTerm e at) = refl
simple_same (NewTerm x at) = refl
simple_same (SpawnTerm m at) = refl
simple_same (FreeTerm x at) = refl
simple_same (GuardTerm x p cs at) = refl
simple_same (SendTerm x y es at) = refl
simple_same (CallTerm f es at) = refl
simple_same (ValueTerm e at) = refl

mutual
  term_same : (m : Term) → Same (term_onto (bare_term m)) (term_onto m)
  term_same (LetTerm None m n at) r =
      ap (λ (t : Pieces). braced (opens_simple (bare_term m)) (term_onto (bare_term m)) (marked mark.Semicolon (Blank ∷ t))) (term_same n r)
      ∙ brace_same (opens_simple (bare_term m)) (opens_simple m) (term_onto (bare_term m)) (term_onto m) (simple_same m) (λ s. term_same m s) (marked mark.Semicolon (Blank ∷ term_onto n r))
  term_same (LetTerm (Some x) m n at) r =
      ap (λ (t : Pieces). worded word.Let (Blank ∷ name_onto x (Blank ∷ marked mark.Equals (Blank ∷ t))))
      (ap (λ (t : Pieces). braced (opens_simple (bare_term m)) (term_onto (bare_term m)) (Blank ∷ worded word.In (Blank ∷ t))) (term_same n r)
      ∙ brace_same (opens_simple (bare_term m)) (opens_simple m) (term_onto (bare_term m)) (term_onto m) (simple_same m) (λ s. term_same m s) (Blank ∷ worded word.In (Blank ∷ term_onto n r)))
  term_same (IfTerm e m n at) r =
      ap (λ (t : Pieces). worded word.If (Blank ∷ t))
      (ap (λ (t : Pieces). expr_onto (bare_expr e) (Blank ∷ braced true (term_onto (bare_term m)) (Blank ∷ worded word.Else (Blank ∷ t))))
      (brace_same true true (term_onto (bare_term n)) (term_onto n) refl (λ s. term_same n s) r)
      ∙ ap (λ (t : Pieces). expr_onto (bare_expr e) (Blank ∷ t))
      (brace_same true true (term_onto (bare_term m)) (term_onto m) refl (λ s. term_same m s) (Blank ∷ worded word.Else (Blank ∷ braced true (term_onto n) r)))
      ∙ expr_same e (Blank ∷ braced true (term_onto m) (Blank ∷ worded word.Else (Blank ∷ braced true (term_onto n) r))))
  term_same (PrintTerm e at) r = ap (λ (t : Pieces). worded word.Print (marked mark.RoundOpen t)) (expr_same e (marked mark.RoundClose r))
  term_same (NewTerm x at) r = refl
  term_same (SpawnTerm m at) r =
      ap (λ (t : Pieces). worded word.Spawn (Blank ∷ t)) (brace_same true true (term_onto (bare_term m)) (term_onto m) refl (λ s. term_same m s) r)
  term_same (FreeTerm x at) r = refl
  term_same (GuardTerm x p cs at) r =
      ap (λ (t : Pieces). worded word.Guard (Blank ∷ name_onto x (Blank ∷ marked mark.Colon (Blank ∷ t))))
      (ap (λ (t : Pieces). pattern_onto (bare_pattern p) (Blank ∷ marked mark.CurlyOpen (Blank ∷ t))) (clauses_same cs (marked mark.CurlyClose r))
      ∙ pattern_same p (Blank ∷ marked mark.CurlyOpen (Blank ∷ clauses_onto cs (marked mark.CurlyClose r))))
  term_same (SendTerm x y es at) r = ap (λ (t : Pieces). name_onto x (Blank ∷ marked mark.Bang (Blank ∷ name_onto y t))) (args_same es r)
  term_same (CallTerm f es at) r = ap (λ (t : Pieces). name_onto f t) (args_same es r)
  term_same (ValueTerm e at) r = expr_same e r

  clause_same : (c : Clause) → Same (clause_onto (bare_clause c)) (clause_onto c)
  clause_same (FailClause w) r = refl
  clause_same (FreeClause w m) r = ap (λ (t : Pieces). worded word.Free (Blank ∷ marked mark.Arrow (Blank ∷ t))) (term_same m r)
  clause_same (ReceiveClause w x ns y m) r =
      ap (λ (t : Pieces). worded word.Receive (Blank ∷ name_onto x (marked mark.RoundOpen t)))
      (ap (λ (t : Pieces). list_onto name_onto (map bare_name ns) (marked mark.RoundClose (Blank ∷ worded word.From (Blank ∷ name_onto y (Blank ∷ marked mark.Arrow (Blank ∷ t)))))) (term_same m r)
      ∙ list_same name_onto bare_name name_same ns (marked mark.RoundClose (Blank ∷ worded word.From (Blank ∷ name_onto y (Blank ∷ marked mark.Arrow (Blank ∷ term_onto m r))))))

  clauses_same : (cs : Clauses) → Same (clauses_onto (bare_clauses cs)) (clauses_onto cs)
  clauses_same no_clauses r = refl
  clauses_same (with_clause c cs) r = ap (λ (t : Pieces). clause_onto (bare_clause c) (Blank ∷ t)) (clauses_same cs r) ∙ clause_same c (Blank ∷ clauses_onto cs r)

-- ---- declarations

message_same : (m : Message) → Same (message_onto (bare_message m)) (message_onto m)
message_same m r = ap (λ (t : Pieces). name_onto m.name (marked mark.RoundOpen t)) (list_same type_onto bare_type type_same m.payloads (marked mark.RoundClose r))

param_same : (p : Param) → Same (param_onto (bare_param p)) (param_onto p)
param_same p r = ap (λ (t : Pieces). name_onto p.name (marked mark.Colon (Blank ∷ t))) (type_same p.type r)

decl_same : (d : Decl) → Same (decl_onto (bare_decl d)) (decl_onto d)
decl_same (InterfaceDecl x ms) r =
    ap (λ (t : Pieces). worded word.Interface (Blank ∷ name_onto x (Blank ∷ marked mark.CurlyOpen (Blank ∷ t))))
    (list_same message_onto bare_message message_same ms (Blank ∷ marked mark.CurlyClose r))
decl_same (DefDecl x ps a m) r =
    ap (λ (t : Pieces). worded word.Def (Blank ∷ name_onto x (marked mark.RoundOpen t)))
    (ap (λ (t : Pieces). list_onto param_onto (map bare_param ps) (marked mark.RoundClose (marked mark.Colon (Blank ∷ type_onto (bare_type a) (Blank ∷ t)))))
    (brace_same true true (term_onto (bare_term m)) (term_onto m) refl (term_same m) r)
    ∙ ap (λ (t : Pieces). list_onto param_onto (map bare_param ps) (marked mark.RoundClose (marked mark.Colon (Blank ∷ t)))) (type_same a (Blank ∷ braced true (term_onto m) r))
    ∙ list_same param_onto bare_param param_same ps (marked mark.RoundClose (marked mark.Colon (Blank ∷ type_onto a (Blank ∷ braced true (term_onto m) r)))))

tree_same : (ds : Tree) → Same (tree_onto (bare ds)) (tree_onto ds)
tree_same [] r = refl
tree_same (d ∷ ds) r = ap (λ (t : Pieces). decl_onto (bare_decl d) (Line ∷ t)) (tree_same ds r) ∙ decl_same d (Line ∷ tree_onto ds r)

-- trees that are the same, places aside, have the same canonical text
pub same_text : (m n : Tree) → bare m ≡ bare n → canonical_text m ≡ canonical_text n
same_text m n h = ap text_of (sym (tree_same m []) ∙ ap (λ (t : Tree). canonical t) h ∙ tree_same n [])

-- the text of any tree that is, places aside, one that spelled tokens spell
pub bare_again : (lim : Limits) (m : Tree) → CanBeSpelled lim m → ReadsAs lim (canonical_text m) m
bare_again lim m c =
    let a = read_spelled lim c.tokens c.tree c.spelled c.spells in
    record { tokens = a.tokens; tree = a.tree; divides = subst (λ l. Divides l a.tokens) (sym (same_text m c.tree c.same)) a.divides; spelled = a.spelled; same = c.same ∙ a.same }

-- the tree of a text is one
pub of_text : (lim : Limits) (text : List ℕ) (ts : List Spanned) (m : Tree) → Divides text ts → SpellsTree lim ts m → CanBeSpelled lim m
of_text lim text ts m d t = record { tokens = ts; tree = m; spelled = spelled d.1; spells = t; same = refl }
