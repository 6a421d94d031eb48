-- A part puts its own bytes before those of what follows it, whatever follows.
use Rattle.std.proofs.Common.{◌≡◌, Bool, true, false, List, [], ◌∷◌, ◌++◌, refl, ap, sym, ◌∙◌, append_assoc, append-nil, Some, None, Option}
use Rattle.pat_parser_spec.specs.Trees.{Name, Pattern, ZeroPattern, OnePattern, TagPattern, SumPattern, ProdPattern, StarPattern, WrittenType, BaseType, MailboxType, Message, Param, Expr, VarExpr, UnitExpr, BoolExpr, IntExpr, StrExpr, OpExpr, Term, LetTerm, IfTerm, PrintTerm, NewTerm, SpawnTerm, FreeTerm, GuardTerm, SendTerm, CallTerm, ValueTerm, Clause, FailClause, FreeClause, ReceiveClause, Clauses, no_clauses, with_clause, Decl, InterfaceDecl, DefDecl}
use Rattle.pat_print_spec.specs.Canonical.{Piece, Tok, Blank, Line, Pieces, Onto, name_onto, bracketed, braced, more_onto, list_onto, opens_left, opens_right, expr_onto, opens_factor, opens_sum_pattern, pattern_onto, written_onto, type_onto, opens_simple, args_onto, term_onto, clause_onto, clauses_onto, message_onto, param_onto, decl_onto, tree_onto}
use Rattle.pat_print_spec.specs.Text.{token_bytes, text_of}
use Rattle.pat_print.specs.Parts.{binding_onto, test_onto, guarded_onto, names_onto, received_onto, params_onto, payloads_onto}

-- what a part puts before any pieces, it puts before none, and their bytes follow
pub record Keeps (f : Onto) : Type 0 where
  pub is : (r : Pieces) → text_of (f r) ≡ text_of (f []) ++ text_of r

pub piece : (p : Piece) → Keeps (λ r. p ∷ r)
piece (Tok c) = record { is = λ r. ap (λ l. l ++ text_of r) (sym (append-nil (token_bytes c))) }
piece Blank = record { is = λ r. refl }
piece Line = record { is = λ r. refl }

pub nothing : Keeps (λ r. r)
nothing = record { is = λ r. refl }

-- one part before another
pub both : {f g : Onto} → Keeps f → Keeps g → Keeps (λ r. f (g r))
both {f} {g} h k = record {
  is = λ r. h.is (g r) ∙ ap (λ l. text_of (f []) ++ l) (k.is r) ∙ sym (append_assoc (text_of (f [])) (text_of (g [])) (text_of r)) ∙ ap (λ l. l ++ text_of r) (sym (h.is (g [])));
}

pub in_brackets : {f : Onto} (c : Bool) → Keeps f → Keeps (bracketed c f)
in_brackets true h = both (piece _) (both h (piece _))
in_brackets false h = h

pub in_braces : {f : Onto} (c : Bool) → Keeps f → Keeps (braced c f)
in_braces true h = both (piece _) (both (piece _) (both h (both (piece _) (piece _))))
in_braces false h = h

pub more_keeps : {A : Type 0} {f : A → Onto} → ((x : A) → Keeps (f x)) → (xs : List A) → Keeps (more_onto f xs)
more_keeps h [] = nothing
more_keeps h (x ∷ xs) = both (piece _) (both (piece _) (both (h x) (more_keeps h xs)))

pub list_keeps : {A : Type 0} {f : A → Onto} → ((x : A) → Keeps (f x)) → (xs : List A) → Keeps (list_onto f xs)
list_keeps h [] = nothing
list_keeps h (x ∷ xs) = both (h x) (more_keeps h xs)

-- ---- expressions, patterns and types

pub name_keeps : (x : Name) → Keeps (name_onto x)
name_keeps x = piece _

pub expr_keeps : (e : Expr) → Keeps (expr_onto e)
expr_keeps (VarExpr x at) = piece _
expr_keeps (UnitExpr at) = both (piece _) (piece _)
expr_keeps (BoolExpr b at) = piece _
expr_keeps (IntExpr n at) = piece _
expr_keeps (StrExpr s at) = piece _
expr_keeps (OpExpr op a b at) = both (in_brackets (opens_left op a) (expr_keeps a)) (both (piece _) (both (piece _) (both (piece _) (in_brackets (opens_right op b) (expr_keeps b)))))

pub pattern_keeps : (p : Pattern) → Keeps (pattern_onto p)
pattern_keeps (ZeroPattern at) = piece _
pattern_keeps (OnePattern at) = piece _
pattern_keeps (TagPattern x) = piece _
pattern_keeps (SumPattern p q) = both (pattern_keeps p) (both (piece _) (both (piece _) (both (piece _) (in_brackets (opens_sum_pattern q) (pattern_keeps q)))))
pattern_keeps (ProdPattern p q) = both (in_brackets (opens_sum_pattern p) (pattern_keeps p)) (both (piece _) (in_brackets (opens_factor q) (pattern_keeps q)))
pattern_keeps (StarPattern p) = both (piece _) (in_brackets (opens_factor p) (pattern_keeps p))

pub written_keeps : (p : Option Pattern) → Keeps (written_onto p)
written_keeps None = nothing
written_keeps (Some p) = pattern_keeps p

pub type_keeps : (a : WrittenType) → Keeps (type_onto a)
type_keeps (BaseType b at) = piece _
type_keeps (MailboxType x q p at) = both (piece _) (both (piece _) (written_keeps p))

-- ---- terms

pub args_keeps : (es : List Expr) → Keeps (args_onto es)
args_keeps es = both (piece _) (both (list_keeps expr_keeps es) (piece _))

mutual
  pub term_keeps : (m : Term) → Keeps (term_onto m)
  term_keeps (LetTerm None m n at) = both (in_braces (opens_simple m) (term_keeps m)) (both (piece _) (both (piece _) (term_keeps n)))
  term_keeps (LetTerm (Some x) m n at) = both (piece _) (both (piece _) (both (piece _) (both (piece _) (both (piece _) (both (piece _) (both (in_braces (opens_simple m) (term_keeps m)) (both (piece _) (both (piece _) (both (piece _) (term_keeps n))))))))))
  term_keeps (IfTerm e m n at) = both (piece _) (both (piece _) (both (expr_keeps e) (both (piece _) (both (in_braces true (term_keeps m)) (both (piece _) (both (piece _) (both (piece _) (in_braces true (term_keeps n)))))))))
  term_keeps (PrintTerm e at) = both (piece _) (both (piece _) (both (expr_keeps e) (piece _)))
  term_keeps (NewTerm x at) = both (piece _) (both (piece _) (both (piece _) (piece _)))
  term_keeps (SpawnTerm m at) = both (piece _) (both (piece _) (in_braces true (term_keeps m)))
  term_keeps (FreeTerm x at) = both (piece _) (both (piece _) (both (piece _) (piece _)))
  term_keeps (GuardTerm x p cs at) = both (piece _) (both (piece _) (both (piece _) (both (piece _) (both (piece _) (both (piece _) (both (pattern_keeps p) (both (piece _) (both (piece _) (both (piece _) (both (clauses_keeps cs) (piece _)))))))))))
  term_keeps (SendTerm x y es at) = both (piece _) (both (piece _) (both (piece _) (both (piece _) (both (piece _) (args_keeps es)))))
  term_keeps (CallTerm f es at) = both (piece _) (args_keeps es)
  term_keeps (ValueTerm e at) = expr_keeps e

  pub clause_keeps : (c : Clause) → Keeps (clause_onto c)
  clause_keeps (FailClause w) = piece _
  clause_keeps (FreeClause w m) = both (piece _) (both (piece _) (both (piece _) (both (piece _) (term_keeps m))))
  clause_keeps (ReceiveClause w x ns y m) = both (piece _) (both (piece _) (both (piece _) (both (piece _) (both (list_keeps name_keeps ns) (both (piece _) (both (piece _) (both (piece _) (both (piece _) (both (piece _) (both (piece _) (both (piece _) (both (piece _) (term_keeps m)))))))))))))

  pub clauses_keeps : (cs : Clauses) → Keeps (clauses_onto cs)
  clauses_keeps no_clauses = nothing
  clauses_keeps (with_clause c cs) = both (clause_keeps c) (both (piece _) (clauses_keeps cs))

-- ---- declarations

pub message_keeps : (m : Message) → Keeps (message_onto m)
message_keeps m = both (piece _) (both (piece _) (both (list_keeps type_keeps m.payloads) (piece _)))

pub param_keeps : (p : Param) → Keeps (param_onto p)
param_keeps p = both (piece _) (both (piece _) (both (piece _) (type_keeps p.type)))

pub decl_keeps : (d : Decl) → Keeps (decl_onto d)
decl_keeps (InterfaceDecl x ms) = both (piece _) (both (piece _) (both (piece _) (both (piece _) (both (piece _) (both (piece _) (both (list_keeps message_keeps ms) (both (piece _) (piece _))))))))
decl_keeps (DefDecl x ps a m) = both (piece _) (both (piece _) (both (piece _) (both (piece _) (both (list_keeps param_keeps ps) (both (piece _) (both (piece _) (both (piece _) (both (type_keeps a) (both (piece _) (in_braces true (term_keeps m)))))))))))

pub tree_keeps : (ds : List Decl) → Keeps (tree_onto ds)
tree_keeps [] = nothing
tree_keeps (d ∷ ds) = both (decl_keeps d) (both (piece _) (tree_keeps ds))

-- ---- parts that the code appends in one go

pub binding_keeps : (x : Option Name) (m : Term) → Keeps (binding_onto x m)
binding_keeps None m = both (in_braces (opens_simple m) (term_keeps m)) (both (piece _) (piece _))
binding_keeps (Some x) m = both (piece _) (both (piece _) (both (piece _) (both (piece _) (both (piece _) (both (piece _) (both (in_braces (opens_simple m) (term_keeps m)) (both (piece _) (both (piece _) (piece _)))))))))

pub test_keeps : (e : Expr) → Keeps (test_onto e)
test_keeps e = both (piece _) (both (piece _) (both (expr_keeps e) (piece _)))

pub guarded_keeps : (x : Name) (p : Pattern) → Keeps (guarded_onto x p)
guarded_keeps x p = both (piece _) (both (piece _) (both (piece _) (both (piece _) (both (piece _) (both (piece _) (both (pattern_keeps p) (both (piece _) (both (piece _) (piece _)))))))))

pub names_keeps : (ns : List Name) → Keeps (names_onto ns)
names_keeps ns = both (piece _) (both (list_keeps name_keeps ns) (piece _))

pub received_keeps : (x : Name) (ns : List Name) (y : Name) → Keeps (received_onto x ns y)
received_keeps x ns y = both (piece _) (both (piece _) (both (piece _) (both (names_keeps ns) (both (piece _) (both (piece _) (both (piece _) (both (piece _) (both (piece _) (both (piece _) (piece _))))))))))

pub params_keeps : (ps : List Param) → Keeps (params_onto ps)
params_keeps ps = both (piece _) (both (list_keeps param_keeps ps) (piece _))

pub payloads_keeps : (types : List WrittenType) → Keeps (payloads_onto types)
payloads_keeps types = both (piece _) (both (list_keeps type_keeps types) (piece _))
