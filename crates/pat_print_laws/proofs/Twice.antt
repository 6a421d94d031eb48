-- A tree without its places has none to lose.
use Rattle.std.proofs.Common.{◌≡◌, List, [], ◌∷◌, map, Option, Some, None, refl, ap, ◌∙◌}
use Rattle.std.specs.Prelude.{option_map}
use Rattle.pat_parser_spec.specs.Trees.{Name, Pattern, ZeroPattern, OnePattern, TagPattern, SumPattern, ProdPattern, StarPattern, WrittenType, BaseType, MailboxType, Message, Param, Expr, VarExpr, UnitExpr, BoolExpr, IntExpr, StrExpr, OpExpr, Term, LetTerm, IfTerm, PrintTerm, NewTerm, SpawnTerm, FreeTerm, GuardTerm, SendTerm, CallTerm, ValueTerm, Clause, FailClause, FreeClause, ReceiveClause, Clauses, no_clauses, with_clause, Decl, InterfaceDecl, DefDecl, Tree}
use Rattle.pat_print_spec.specs.Bare.{nowhere, bare_name, bare_pattern, bare_type, bare_expr, bare_term, bare_clause, bare_clauses, bare_message, bare_param, bare_decl, bare}

list_twice : {A : Type 0} (f : A → A) → ((x : A) → f (f x) ≡ f x) → (xs : List A) → map f (map f xs) ≡ map f xs
list_twice f h [] = refl
list_twice f h (x ∷ xs) = ap (λ (y : _). y ∷ map f (map f xs)) (h x) ∙ ap (λ (w : List _). f x ∷ w) (list_twice f h xs)

option_twice : {A : Type 0} (f : A → A) → ((x : A) → f (f x) ≡ f x) → (x : Option A) → option_map f (option_map f x) ≡ option_map f x
option_twice f h None = refl
option_twice f h (Some x) = ap Some (h x)

name_twice : (x : Name) → bare_name (bare_name x) ≡ bare_name x
name_twice x = refl

pattern_twice : (p : Pattern) → bare_pattern (bare_pattern p) ≡ bare_pattern p
pattern_twice (ZeroPattern at) = refl
pattern_twice (OnePattern at) = refl
pattern_twice (TagPattern x) = refl
pattern_twice (SumPattern p q) = ap (λ (u : Pattern). SumPattern u (bare_pattern (bare_pattern q))) (pattern_twice p) ∙ ap (SumPattern (bare_pattern p)) (pattern_twice q)
pattern_twice (ProdPattern p q) = ap (λ (u : Pattern). ProdPattern u (bare_pattern (bare_pattern q))) (pattern_twice p) ∙ ap (ProdPattern (bare_pattern p)) (pattern_twice q)
pattern_twice (StarPattern p) = ap StarPattern (pattern_twice p)

type_twice : (a : WrittenType) → bare_type (bare_type a) ≡ bare_type a
type_twice (BaseType b at) = refl
type_twice (MailboxType x q p at) = ap (λ (u : Option Pattern). MailboxType (bare_name x) q u nowhere) (option_twice bare_pattern pattern_twice p)

expr_twice : (e : Expr) → bare_expr (bare_expr e) ≡ bare_expr e
expr_twice (VarExpr x at) = refl
expr_twice (UnitExpr at) = refl
expr_twice (BoolExpr b at) = refl
expr_twice (IntExpr n at) = refl
expr_twice (StrExpr x at) = refl
expr_twice (OpExpr op a b at) = ap (λ (u : Expr). OpExpr op u (bare_expr (bare_expr b)) nowhere) (expr_twice a) ∙ ap (λ (u : Expr). OpExpr op (bare_expr a) u nowhere) (expr_twice b)

mutual
  term_twice : (m : Term) → bare_term (bare_term m) ≡ bare_term m
  term_twice (LetTerm x m n at) = ap (λ (u : Option Name). LetTerm u (bare_term (bare_term m)) (bare_term (bare_term n)) nowhere) (option_twice bare_name name_twice x) ∙ ap (λ (u : Term). LetTerm (option_map bare_name x) u (bare_term (bare_term n)) nowhere) (term_twice m) ∙ ap (λ (u : Term). LetTerm (option_map bare_name x) (bare_term m) u nowhere) (term_twice n)
  term_twice (IfTerm e m n at) = ap (λ (u : Expr). IfTerm u (bare_term (bare_term m)) (bare_term (bare_term n)) nowhere) (expr_twice e) ∙ ap (λ (u : Term). IfTerm (bare_expr e) u (bare_term (bare_term n)) nowhere) (term_twice m) ∙ ap (λ (u : Term). IfTerm (bare_expr e) (bare_term m) u nowhere) (term_twice n)
  term_twice (PrintTerm e at) = ap (λ (u : Expr). PrintTerm u nowhere) (expr_twice e)
  term_twice (NewTerm x at) = refl
  term_twice (SpawnTerm m at) = ap (λ (u : Term). SpawnTerm u nowhere) (term_twice m)
  term_twice (FreeTerm x at) = refl
  term_twice (GuardTerm x p cs at) = ap (λ (u : Pattern). GuardTerm (bare_name x) u (bare_clauses (bare_clauses cs)) nowhere) (pattern_twice p) ∙ ap (λ (u : Clauses). GuardTerm (bare_name x) (bare_pattern p) u nowhere) (clauses_twice cs)
  term_twice (SendTerm x y es at) = ap (λ (u : List Expr). SendTerm (bare_name x) (bare_name y) u nowhere) (list_twice bare_expr expr_twice es)
  term_twice (CallTerm f es at) = ap (λ (u : List Expr). CallTerm (bare_name f) u nowhere) (list_twice bare_expr expr_twice es)
  term_twice (ValueTerm e at) = ap (λ (u : Expr). ValueTerm u nowhere) (expr_twice e)

  clause_twice : (c : Clause) → bare_clause (bare_clause c) ≡ bare_clause c
  clause_twice (FailClause w) = refl
  clause_twice (FreeClause w m) = ap (FreeClause nowhere) (term_twice m)
  clause_twice (ReceiveClause w x ns y m) = ap (λ (u : List Name). ReceiveClause nowhere (bare_name x) u (bare_name y) (bare_term (bare_term m))) (list_twice bare_name name_twice ns) ∙ ap (ReceiveClause nowhere (bare_name x) (map bare_name ns) (bare_name y)) (term_twice m)

  clauses_twice : (cs : Clauses) → bare_clauses (bare_clauses cs) ≡ bare_clauses cs
  clauses_twice no_clauses = refl
  clauses_twice (with_clause c cs) = ap (λ (u : Clause). with_clause u (bare_clauses (bare_clauses cs))) (clause_twice c) ∙ ap (with_clause (bare_clause c)) (clauses_twice cs)

message_twice : (m : Message) → bare_message (bare_message m) ≡ bare_message m
message_twice m = ap (λ (u : List WrittenType). record { name = bare_name m.name; payloads = u }) (list_twice bare_type type_twice m.payloads)

param_twice : (p : Param) → bare_param (bare_param p) ≡ bare_param p
param_twice p = ap (λ (u : WrittenType). record { name = bare_name p.name; type = u }) (type_twice p.type)

decl_twice : (d : Decl) → bare_decl (bare_decl d) ≡ bare_decl d
decl_twice (InterfaceDecl x ms) = ap (InterfaceDecl (bare_name x)) (list_twice bare_message message_twice ms)
decl_twice (DefDecl x ps a m) = ap (λ (u : List Param). DefDecl (bare_name x) u (bare_type (bare_type a)) (bare_term (bare_term m))) (list_twice bare_param param_twice ps) ∙ ap (λ (u : WrittenType). DefDecl (bare_name x) (map bare_param ps) u (bare_term (bare_term m))) (type_twice a) ∙ ap (DefDecl (bare_name x) (map bare_param ps) (bare_type a)) (term_twice m)

pub bare_twice : (t : Tree) → bare (bare t) ≡ bare t
bare_twice t = list_twice bare_decl decl_twice t
