-- Tokens that bytes spell give trees of such names and strings.
use Rattle.std.proofs.Common.{◌≡◌, ℕ, suc, Bool, true, false, List, [], ◌∷◌, ◌++◌, map, Some, None, subst}
use Rattle.std.specs.Prelude.{ℤ, pos, cond}
use Rattle.std.specs.Ordering.{int_eq}
use Rattle.pat_lexer_spec.specs.Words as word
use Rattle.pat_lexer_spec.specs.Tokens.{Token, Spanned, Name, Integer, Str, Word}
use Rattle.pat_parser_spec.specs.Trees as tree
use Rattle.pat_parser_spec.specs.Trees.{listed}
use Rattle.pat_parser_spec.specs.Items.{Item, Limits, literal, constant, bound_item, place_of, named}
use Rattle.pat_parser_spec.specs.Grammar as grammar
use Rattle.pat_parser_spec.specs.Grammar.{Level, Operand, Expr, Pattern, Separated, one, more, Optional, none, some, Arg, Binder, binder, Part, Term, value, print, new, spawn, free, send, call, branch, guard, block, simple, then, bind, Clauses, no_clause, fail_clause, free_clause, receive_clause, WrittenType, base, mailbox, short, Message, message, Param, param, Decls, no_decl, interface, function}
use Rattle.pat_parser_spec.specs.Claims.{SpellsTree}
use Rattle.pat_lexer_spec.specs.Spelled.{IsSpelled}
use Rattle.pat_parser_laws.specs.Names.{EachOf, AreSpelled, NameIs, PatternNamed, TypeNamed, ExprNamed, TermNamed, ClauseNamed, ClausesNamed, MessageNamed, ParamNamed, DeclNamed, TreeNamed}

abbrev Good : List Item → Type 0
Good ts = EachOf (λ t. IsSpelled t.0) ts

each_snoc : {A : Type 0} (P : A → Type 0) (xs : List A) (x : A) → EachOf P xs → P x → EachOf P (xs ++ x ∷ [])
each_snoc P [] x f g = (g, tt)
each_snoc P (y ∷ xs) x f g = (f.0, each_snoc P xs x f.1 g)

literal_named : (c : Token) (at : tree.Span) (e : tree.Expr) → literal c at ≡ Some e → IsSpelled c → ExprNamed e
literal_named (Name x) at e h s = let g : tree.VarExpr x at ≡ e = cc in subst ExprNamed g s
literal_named (Integer n) at e h s = let g : tree.IntExpr n at ≡ e = cc in subst ExprNamed g tt
literal_named (Str x) at e h s = let g : tree.StrExpr x at ≡ e = cc in subst ExprNamed g s
literal_named (Word word.TrueWord) at e h s = let g : tree.BoolExpr true at ≡ e = cc in subst ExprNamed g tt
literal_named (Word word.FalseWord) at e h s = let g : tree.BoolExpr false at ≡ e = cc in subst ExprNamed g tt
literal_named _ at e h s = absurd cc

expr_named : {lim : Limits} {o k t : ℕ} {l : Level} {ts us : List Item} {a : Operand} → Expr lim o k l ts a t us → Good ts → ExprNamed a.0 × Good us
expr_named (grammar.Expr.leaf {c = c} {w = w} {e = e} h) b = (literal_named c (place_of w) e h b.0, b.1)
expr_named (grammar.Expr.unit room) b = (tt, b.1.1)
expr_named (grammar.Expr.bracket room d) b = let r = expr_named d b.1 in (r.0, r.1.1)
expr_named (grammar.Expr.atom d) b = expr_named d b
expr_named (grammar.Expr.times d room f) b = let r = expr_named d b in let s = expr_named f r.1.1 in ((r.0, s.0), s.1)
expr_named (grammar.Expr.product d) b = expr_named d b
expr_named (grammar.Expr.plus is d room f) b = let r = expr_named d b in let s = expr_named f r.1.1 in ((r.0, s.0), s.1)
expr_named (grammar.Expr.sum d) b = expr_named d b
expr_named (grammar.Expr.compare is d room f) b = let r = expr_named d b in let s = expr_named f r.1.1 in ((r.0, s.0), s.1)

number_one : (b : Bool) (at : tree.Span) (p : tree.Pattern) → cond b (Some (tree.OnePattern at)) None ≡ Some p → PatternNamed p
number_one true at p h = let g : tree.OnePattern at ≡ p = cc in subst PatternNamed g tt
number_one false at p h = absurd cc

number_zero : (b c : Bool) (at : tree.Span) (p : tree.Pattern) → cond b (Some (tree.ZeroPattern at)) (cond c (Some (tree.OnePattern at)) None) ≡ Some p → PatternNamed p
number_zero true c at p h = let g : tree.ZeroPattern at ≡ p = cc in subst PatternNamed g tt
number_zero false c at p h = number_one c at p h

constant_named : (n : ℤ) (at : tree.Span) (p : tree.Pattern) → constant n at ≡ Some p → PatternNamed p
constant_named n at p h = number_zero (int_eq n (pos 0)) (int_eq n (pos 1)) at p h

pattern_named : {lim : Limits} {o k t : ℕ} {l : Level} {ts us : List Item} {p : tree.Pattern} → Pattern lim o k l ts p t us → Good ts → PatternNamed p × Good us
pattern_named (grammar.Pattern.number {n = n} {w = w} {p = p} is) b = (constant_named n (place_of w) p is, b.1)
pattern_named grammar.Pattern.tag b = (b.0, b.1)
pattern_named (grammar.Pattern.bracket room d) b = let r = pattern_named d b.1 in (r.0, r.1.1)
pattern_named (grammar.Pattern.star room d) b = pattern_named d b.1
pattern_named (grammar.Pattern.factor d) b = pattern_named d b
pattern_named (grammar.Pattern.dot d room f) b = let r = pattern_named d b in let s = pattern_named f r.1.1 in ((r.0, s.0), s.1)
pattern_named (grammar.Pattern.product d) b = pattern_named d b
pattern_named (grammar.Pattern.plus d room f) b = let r = pattern_named d b in let s = pattern_named f r.1.1 in ((r.0, s.0), s.1)

separated_named : {A : Type 0} {One : List Item → A → List Item → Type 0} {ts us : List Item} {xs : List A} (P : A → Type 0) → ((vs ws : List Item) (a : A) → One vs a ws → Good vs → P a × Good ws) → Separated One ts xs us → Good ts → EachOf P xs × Good us
separated_named P h (one {ts = ts} {us = us} {a = a} d) b = let r = h ts us a d b in ((r.0, tt), r.1)
separated_named P h (more {us = us} {vs = vs} {xs = xs} {a = a} d f) b =
    let r = separated_named P h d b in
    let s = h us vs a f r.1.1 in
    (each_snoc P xs a r.0 s.0, s.1)

optional_named : {A : Type 0} {One : List Item → A → List Item → Type 0} {ts us : List Item} {xs : List A} (P : A → Type 0) → ((vs ws : List Item) (a : A) → One vs a ws → Good vs → P a × Good ws) → Optional One ts xs us → Good ts → EachOf P xs × Good us
optional_named P h none b = (tt, b)
optional_named P h (some d) b = separated_named P h d b

arg_named : (lim : Limits) (o : ℕ) (ts us : List Item) (e : tree.Expr) → Arg lim o ts e us → Good ts → ExprNamed e × Good us
arg_named lim o ts us e d b = expr_named d.2 b

binder_named : (ts us : List Item) (x : tree.Name) → Binder ts x us → Good ts → NameIs x × Good us
binder_named ts us x binder b = (b.0, b.1)

clauses_snoc : (cs : List tree.Clause) (c : tree.Clause) → ClausesNamed (listed cs) → ClauseNamed c → ClausesNamed (listed (cs ++ c ∷ []))
clauses_snoc [] c f g = (g, tt)
clauses_snoc (d ∷ cs) c f g = (f.0, clauses_snoc cs c f.1 g)

mutual
  term_named : {lim : Limits} {o s f : ℕ} {l : Part} {ts us : List Item} {m : tree.Term} → Term lim o s l ts m f us → Good ts → TermNamed m × Good us
  term_named (value d) b = expr_named d b
  term_named (print room d) b = let r = expr_named d b.1.1 in (r.0, r.1.1)
  term_named (new room) b = (b.1.1.0, b.1.1.1.1)
  term_named (spawn room d) b = let r = term_named d b.1.1 in (r.0, r.1.1)
  term_named (free room) b = (b.1.1.0, b.1.1.1.1)
  term_named {lim = lim} {o = o} (send room d) b = let r = optional_named ExprNamed (arg_named lim (suc o)) d b.1.1.1.1 in ((b.0, b.1.1.0, r.0), r.1.1)
  term_named {lim = lim} {o = o} (call room d) b = let r = optional_named ExprNamed (arg_named lim (suc o)) d b.1.1 in ((b.0, r.0), r.1.1)
  term_named (branch d room e space f) b =
      let x = expr_named d b.1 in
      let y = term_named e x.1.1 in
      let z = term_named f y.1.1.1.1 in
      ((x.0, y.0, z.0), z.1.1)
  term_named (guard d room cs) b =
      let x = pattern_named d b.1.1.1 in
      let y = clauses_named cs x.1.1 in
      ((b.1.0, x.0, y.0), y.1.1)
  term_named (block room d) b = let r = term_named d b.1 in (r.0, r.1.1)
  term_named (simple d) b = term_named d b
  term_named (then d room e) b = let x = term_named d b in let y = term_named e x.1.1 in ((tt, x.0, y.0), y.1)
  term_named (bind d room e) b = let x = term_named d b.1.1.1 in let y = term_named e x.1.1 in ((b.1.0, x.0, y.0), y.1)

  clauses_named : {lim : Limits} {o s : ℕ} {c : Bool} {ts us : List Item} {cs : List tree.Clause} → Clauses lim o s c ts cs us → Good ts → ClausesNamed (listed cs) × Good us
  clauses_named no_clause b = (tt, b)
  clauses_named (fail_clause {w = w} {cs = cs} d) b = let x = clauses_named d b in (clauses_snoc cs (tree.FailClause (place_of w)) x.0 tt, x.1.1)
  clauses_named (free_clause {w = w} {cs = cs} {m = m} d e) b =
      let x = clauses_named d b in
      let y = term_named e x.1.1.1 in
      (clauses_snoc cs (tree.FreeClause (place_of w) m) x.0 y.0, y.1)
  clauses_named (receive_clause {w = w} {n = n} {h = h} {x = p} {y = q} {cs = cs} {ns = ns} {m = m} d room bs e) b =
      let x = clauses_named d b in
      let z = optional_named NameIs binder_named bs x.1.1.1.1 in
      let y = term_named e z.1.1.1.1.1 in
      (clauses_snoc cs (tree.ReceiveClause (place_of w) (named p n) ns (named q h) m) x.0 (x.1.1.0, z.0, z.1.1.1.0, y.0), y.1)

type_named : (lim : Limits) (o : ℕ) (p : Bool) (ts us : List Item) (a : tree.WrittenType) → WrittenType lim o p ts a us → Good ts → TypeNamed a × Good us
type_named lim o p ts us a (base is) b = (tt, b.1)
type_named lim o p ts us a (mailbox is d) b = let r = pattern_named d b.1.1 in ((b.0, r.0), r.1)
type_named lim o p ts us a (short omitted is) b = ((b.0, tt), b.1.1)

message_named : (lim : Limits) (ts us : List Item) (m : tree.Message) → Message lim ts m us → Good ts → MessageNamed m × Good us
message_named lim ts us m (message room d) b = let r = optional_named TypeNamed (type_named lim 2 true) d b.1.1 in ((b.0, r.0), r.1.1)

param_named : (lim : Limits) (ts us : List Item) (p : tree.Param) → Param lim ts p us → Good ts → ParamNamed p × Good us
param_named lim ts us p (param {ts = vs} {us = ws} {a = a} d) b = let r = type_named lim 1 false vs ws a d b.1.1 in ((b.0, r.0), r.1)

decls_named : {lim : Limits} {c : Bool} {ts us : List Item} {ds : List tree.Decl} → Decls lim c ts ds us → Good ts → TreeNamed ds × Good us
decls_named no_decl b = (tt, b)
decls_named {lim = lim} (interface {x = x} {n = n} {ds = ds} {xs = ms} d room e) b =
    let r = decls_named d b in
    let s = separated_named MessageNamed (message_named lim) e r.1.1.1.1 in
    (each_snoc DeclNamed ds (tree.InterfaceDecl (named x n) ms) r.0 (r.1.1.0, s.0), s.1.1)
decls_named {lim = lim} (function {x = x} {n = n} {vs = vs} {xs = xs} {ds = ds} {ps = ps} {r = a} {m = m} d room e t space body) b =
    let r = decls_named d b in
    let s = optional_named ParamNamed (param_named lim) e r.1.1.1.1 in
    let y = type_named lim 0 false vs _ a t s.1.1.1 in
    let z = term_named body y.1.1 in
    (each_snoc DeclNamed ds (tree.DefDecl (named x n) ps a m) r.0 (r.1.1.0, s.0, y.0, z.0), z.1.1)

good_items : (ts : List Spanned) → AreSpelled ts → Good (map bound_item ts)
good_items [] s = tt
good_items (t ∷ ts) s = (s.0, good_items ts s.1)

pub tree_named : (lim : Limits) (ts : List Spanned) (m : tree.Tree) → AreSpelled ts → SpellsTree lim ts m → TreeNamed m
tree_named lim ts m s d = (decls_named d (good_items ts s)).0
