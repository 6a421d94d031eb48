-- For each token a tree has four parts at most, counting its terms, expressions, patterns and names.
use Rattle.std.proofs.Common.{◌≡◌, ℕ, suc, ◌+◌, ◌*◌, ◌≤◌, Bool, true, false, List, [], ◌∷◌, ◌++◌, length, map, Some, None, refl, sym, ap, arith}
use Rattle.std.specs.Prelude.{ℤ, pos, cond}
use Rattle.std.specs.Ordering.{int_eq}
use Rattle.pat_lexer_spec.specs.Words as word
use Rattle.pat_lexer_spec.specs.Tokens.{Token, Spanned, Name, Integer, Str, Word}
use Rattle.pat_parser_spec.specs.Trees as tree
use Rattle.pat_parser_spec.specs.Trees.{listed}
use Rattle.pat_parser_spec.specs.Items.{Item, place_of, named, Limits, literal, constant, bound_item}
use Rattle.pat_parser_spec.specs.Grammar as grammar
use Rattle.pat_parser_spec.specs.Grammar.{Level, Operand, Expr, Pattern, Separated, one, more, Optional, none, some, Arg, Binder, binder, Part, Term, value, print, new, spawn, free, send, call, branch, guard, block, simple, then, bind, Clauses, no_clause, fail_clause, free_clause, receive_clause, WrittenType, base, mailbox, short, Message, message, Param, param, Decls, no_decl, interface, function}
use Rattle.pat_parser_spec.specs.Claims.{SpellsTree}
use Rattle.pat_parser_laws.specs.Counts.{sum_of, expr_size, pattern_size, type_size, term_size, clause_size, clauses_size, message_size, param_size, decl_size, tree_size}

sum_snoc : {A : Type 0} (f : A → ℕ) (xs : List A) (x : A) → sum_of f (xs ++ x ∷ []) ≡ sum_of f xs + f x
sum_snoc f [] x = omega arith
sum_snoc f (y ∷ xs) x = let h = sum_snoc f xs x in omega arith

some_expr : (e : tree.Expr) → 1 ≤ expr_size e
some_expr (tree.OpExpr op a b at) = omega arith
some_expr (tree.VarExpr x at) = omega arith
some_expr (tree.UnitExpr at) = omega arith
some_expr (tree.BoolExpr x at) = omega arith
some_expr (tree.IntExpr x at) = omega arith
some_expr (tree.StrExpr x at) = omega arith

literal_size : (c : Token) (at : tree.Span) (e : tree.Expr) → literal c at ≡ Some e → expr_size e ≡ 1
literal_size (Name x) at e h = let g : tree.VarExpr x at ≡ e = cc in ap expr_size (sym g)
literal_size (Integer n) at e h = let g : tree.IntExpr n at ≡ e = cc in ap expr_size (sym g)
literal_size (Str x) at e h = let g : tree.StrExpr x at ≡ e = cc in ap expr_size (sym g)
literal_size (Word word.TrueWord) at e h = let g : tree.BoolExpr true at ≡ e = cc in ap expr_size (sym g)
literal_size (Word word.FalseWord) at e h = let g : tree.BoolExpr false at ≡ e = cc in ap expr_size (sym g)
literal_size _ at e h = absurd cc

expr_count : {lim : Limits} {o k t : ℕ} {l : Level} {ts us : List Item} {a : Operand} → Expr lim o k l ts a t us → expr_size a.0 + length us ≤ length ts
expr_count (grammar.Expr.leaf {c = c} {w = w} {e = e} h) = let g = literal_size c _ e h in omega arith
expr_count (grammar.Expr.unit room) = omega arith
expr_count (grammar.Expr.bracket room d) = let h = expr_count d in omega arith
expr_count (grammar.Expr.atom d) = expr_count d
expr_count (grammar.Expr.times d room f) = let h = expr_count d in let g = expr_count f in omega arith
expr_count (grammar.Expr.product d) = expr_count d
expr_count (grammar.Expr.plus is d room f) = let h = expr_count d in let g = expr_count f in omega arith
expr_count (grammar.Expr.sum d) = expr_count d
expr_count (grammar.Expr.compare is d room f) = let h = expr_count d in let g = expr_count f in omega arith

number_one : (b : Bool) (at : tree.Span) (p : tree.Pattern) → cond b (Some (tree.OnePattern at)) None ≡ Some p → pattern_size p ≡ 1
number_one true at p h = let g : tree.OnePattern at ≡ p = cc in ap pattern_size (sym g)
number_one false at p h = absurd cc

number_zero : (b c : Bool) (at : tree.Span) (p : tree.Pattern) → cond b (Some (tree.ZeroPattern at)) (cond c (Some (tree.OnePattern at)) None) ≡ Some p → pattern_size p ≡ 1
number_zero true c at p h = let g : tree.ZeroPattern at ≡ p = cc in ap pattern_size (sym g)
number_zero false c at p h = number_one c at p h

constant_size : (n : ℤ) (at : tree.Span) (p : tree.Pattern) → constant n at ≡ Some p → pattern_size p ≡ 1
constant_size n at p h = number_zero (int_eq n (pos 0)) (int_eq n (pos 1)) at p h

pattern_count : {lim : Limits} {o k t : ℕ} {l : Level} {ts us : List Item} {p : tree.Pattern} → Pattern lim o k l ts p t us → pattern_size p + 2 * length us ≤ 2 * length ts
pattern_count (grammar.Pattern.number {n = n} {p = p} is) = let g = constant_size n _ p is in omega arith
pattern_count grammar.Pattern.tag = omega arith
pattern_count (grammar.Pattern.bracket room d) = let h = pattern_count d in omega arith
pattern_count (grammar.Pattern.star room d) = let h = pattern_count d in omega arith
pattern_count (grammar.Pattern.factor d) = pattern_count d
pattern_count (grammar.Pattern.dot d room f) = let h = pattern_count d in let g = pattern_count f in omega arith
pattern_count (grammar.Pattern.product d) = pattern_count d
pattern_count (grammar.Pattern.plus d room f) = let h = pattern_count d in let g = pattern_count f in omega arith

separated_count : {A : Type 0} {One : List Item → A → List Item → Type 0} {ts us : List Item} {xs : List A} (f : A → ℕ) → ((vs ws : List Item) (a : A) → One vs a ws → f a + 4 * length ws ≤ 4 * length vs) → Separated One ts xs us → sum_of f xs + 4 * length us ≤ 4 * length ts
separated_count f h (one {ts = ts} {us = us} {a = a} d) = let g = h ts us a d in omega arith
separated_count f h (more {us = us} {vs = vs} {xs = xs} {a = a} d e) = let g = separated_count f h d in let i = h us vs a e in let j = sum_snoc f xs a in omega arith

optional_count : {A : Type 0} {One : List Item → A → List Item → Type 0} {ts us : List Item} {xs : List A} (f : A → ℕ) → ((vs ws : List Item) (a : A) → One vs a ws → f a + 4 * length ws ≤ 4 * length vs) → Optional One ts xs us → sum_of f xs + 4 * length us ≤ 4 * length ts
optional_count f h none = omega arith
optional_count f h (some d) = separated_count f h d

arg_count : (lim : Limits) (o : ℕ) (ts us : List Item) (e : tree.Expr) → Arg lim o ts e us → expr_size e + 4 * length us ≤ 4 * length ts
arg_count lim o ts us e d = let h = expr_count d.2 in omega arith

binder_count : (ts us : List Item) (x : tree.Name) → Binder ts x us → 1 + 4 * length us ≤ 4 * length ts
binder_count ts us x binder = omega arith

clauses_snoc : (cs : List tree.Clause) (c : tree.Clause) → clauses_size (listed (cs ++ c ∷ [])) ≡ clauses_size (listed cs) + clause_size c
clauses_snoc [] c = omega arith
clauses_snoc (d ∷ cs) c = let h = clauses_snoc cs c in omega arith

mutual
  term_count : {lim : Limits} {o s f : ℕ} {l : Part} {ts us : List Item} {m : tree.Term} → Term lim o s l ts m f us → term_size m + 4 * length us ≤ 4 * length ts
  term_count (value {a = a} d) = let h = expr_count d in let g = some_expr a.0 in omega arith
  term_count (print room d) = let h = expr_count d in omega arith
  term_count (new room) = omega arith
  term_count (spawn room d) = let h = term_count d in omega arith
  term_count (free room) = omega arith
  term_count {lim = lim} {o = o} (send room d) = let h = optional_count expr_size (arg_count lim (suc o)) d in omega arith
  term_count {lim = lim} {o = o} (call room d) = let h = optional_count expr_size (arg_count lim (suc o)) d in omega arith
  term_count (branch d room e space f) = let h = expr_count d in let g = term_count e in let i = term_count f in omega arith
  term_count (guard d room cs) = let h = pattern_count d in let g = clauses_count cs in omega arith
  term_count (block room d) = let h = term_count d in omega arith
  term_count (simple d) = term_count d
  term_count (then d room e) = let h = term_count d in let g = term_count e in omega arith
  term_count (bind d room e) = let h = term_count d in let g = term_count e in omega arith

  clauses_count : {lim : Limits} {o s : ℕ} {c : Bool} {ts us : List Item} {cs : List tree.Clause} → Clauses lim o s c ts cs us → clauses_size (listed cs) + 4 * length us ≤ 4 * length ts
  clauses_count no_clause = omega arith
  clauses_count (fail_clause {w = w} {cs = cs} d) = let h = clauses_count d in let g = clauses_snoc cs (tree.FailClause (place_of w)) in omega arith
  clauses_count (free_clause {w = w} {cs = cs} {m = m} d e) = let h = clauses_count d in let i = term_count e in let g = clauses_snoc cs (tree.FreeClause (place_of w) m) in omega arith
  clauses_count (receive_clause {w = w} {n = n} {h = p} {x = x} {y = y} {cs = cs} {ns = ns} {m = m} d room b e) = let h = clauses_count d in let i = term_count e in let j = optional_count (λ x. 1) binder_count b in let g = clauses_snoc cs (tree.ReceiveClause (place_of w) (named x n) ns (named y p) m) in omega arith

type_count : (lim : Limits) (o : ℕ) (b : Bool) (ts us : List Item) (a : tree.WrittenType) → WrittenType lim o b ts a us → type_size a + 4 * length us ≤ 4 * length ts
type_count lim o b ts us a (base is) = omega arith
type_count lim o b ts us a (mailbox is d) = let h = pattern_count d in omega arith
type_count lim o b ts us a (short omitted is) = omega arith

message_count : (lim : Limits) (ts us : List Item) (m : tree.Message) → Message lim ts m us → message_size m + 4 * length us ≤ 4 * length ts
message_count lim ts us m (message room d) = let h = optional_count type_size (type_count lim 2 true) d in omega arith

param_count : (lim : Limits) (ts us : List Item) (p : tree.Param) → Param lim ts p us → param_size p + 4 * length us ≤ 4 * length ts
param_count lim ts us p (param {ts = vs} {us = ws} {a = a} d) = let h = type_count lim 1 false vs ws a d in omega arith

decls_count : {lim : Limits} {c : Bool} {ts us : List Item} {ds : List tree.Decl} → Decls lim c ts ds us → tree_size ds + 4 * length us ≤ 4 * length ts
decls_count no_decl = omega arith
decls_count {lim = lim} (interface {x = x} {n = n} {ds = ds} {xs = ms} d room e) =
    let h = decls_count d in
    let g = separated_count message_size (message_count lim) e in
    let i = sum_snoc decl_size ds (tree.InterfaceDecl (named x n) ms) in
    omega arith
decls_count {lim = lim} (function {x = x} {n = n} {vs = vs} {xs = xs} {ds = ds} {ps = ps} {r = r} {m = m} d room e t space b) =
    let h = decls_count d in
    let g = optional_count param_size (param_count lim) e in
    let j = type_count lim 0 false vs _ r t in
    let k = term_count b in
    let i = sum_snoc decl_size ds (tree.DefDecl (named x n) ps r m) in
    omega arith

map_length : {A B : Type 0} (f : A → B) (xs : List A) → length (map f xs) ≡ length xs
map_length f [] = refl
map_length f (x ∷ xs) = let h = map_length f xs in omega arith

pub at_most_four : (lim : Limits) (ts : List Spanned) (m : tree.Tree) → SpellsTree lim ts m → tree_size m ≤ 4 * length ts
at_most_four lim ts m d = let h = decls_count d in let g = map_length bound_item ts in omega arith
