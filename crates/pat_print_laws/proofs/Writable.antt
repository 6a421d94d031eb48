-- Bytes spell each token of the canonical text of a tree that spelled tokens spell.
use Rattle.std.proofs.Common.{◌≡◌, ℕ, suc, Bool, true, false, List, [], ◌∷◌, ◌++◌, map, Some, None, subst, ap, refl, arith}
use Rattle.std.specs.Prelude.{ℤ, pos, cond, ◌+◌, ◌<◌}
use Rattle.std.proofs.lemmas.Bool.Decides.{nat_tests}
use Rattle.std.specs.Ordering.{int_eq}
use Rattle.pat_lexer_spec.specs.Words as word
use Rattle.pat_lexer_spec.specs.Words.{word_bytes}
use Rattle.pat_lexer_spec.specs.Marks as mark
use Rattle.pat_lexer_spec.specs.Marks.{mark_bytes}
use Rattle.pat_lexer_spec.specs.Tokens.{Token, Spanned, Name, Integer, Str, Word, Mark}
use Rattle.pat_semantics_spec.specs.Values.{Op, Add, Sub, Mul, Equal, Less}
use Rattle.pat_semantics_spec.specs.Programs.{Polarity}
use Rattle.pat_parser_spec.specs.Trees as tree
use Rattle.pat_parser_spec.specs.Trees.{listed, with_clause}
use Rattle.pat_parser_spec.specs.Items.{Item, Limits, literal, constant, bound_item, place_of, named}
use Rattle.pat_parser_spec.specs.Grammar as grammar
use Rattle.pat_parser_spec.specs.Grammar.{Level, Operand, Expr, Pattern, Separated, one, more, Optional, none, some, Arg, Binder, binder, Part, Term, value, print, new, spawn, free, send, call, branch, guard, block, simple, then, bind, Clauses, no_clause, fail_clause, free_clause, receive_clause, WrittenType, base, mailbox, short, Message, message, Param, param, Decls, no_decl, interface, function}
use Rattle.pat_parser_spec.specs.Claims.{SpellsTree}
use Rattle.pat_lexer_spec.specs.Spelled.{IsSpelled}
use Rattle.pat_parser_laws.specs.Names.{EachOf, AreSpelled}
use Rattle.pat_print_spec.specs.Canonical.{Tok, Blank, Line, Pieces, Onto, marked, worded, name_onto, bracketed, braced, more_onto, list_onto, opens_left, opens_right, op_token, expr_onto, opens_factor, opens_sum_pattern, pattern_onto, base_word, polarity_mark, type_onto, opens_simple, args_onto, term_onto, clause_onto, clauses_onto, message_onto, param_onto, decl_onto, tree_onto, tokens_of}
use Rattle.pat_print_laws.specs.ReadAgain.{IsWritable}

-- bytes spell each token of the pieces
abbrev Spelt : Pieces → Type 0
Spelt r = EachOf IsSpelled (tokens_of r)

-- what a part puts before such pieces
abbrev Puts : Onto → Type 0
Puts f = (r : Pieces) → Spelt r → Spelt (f r)

of_word : (w : word.Reserved) → IsSpelled (Word w)
of_word w = (word_bytes w, [], refl)

of_mark : (m : mark.Mark) → IsSpelled (Mark m)
of_mark m = (mark_bytes m, [], refl)

bracketed_puts : (c : Bool) (f : Onto) → Puts f → Puts (bracketed c f)
bracketed_puts true f h r s = (of_mark mark.RoundOpen, h (Tok (Mark mark.RoundClose) ∷ r) (of_mark mark.RoundClose, s))
bracketed_puts false f h r s = h r s

braced_puts : (c : Bool) (f : Onto) → Puts f → Puts (braced c f)
braced_puts true f h r s = (of_mark mark.CurlyOpen, h (Blank ∷ Tok (Mark mark.CurlyClose) ∷ r) (of_mark mark.CurlyClose, s))
braced_puts false f h r s = h r s

more_puts : {A : Type 0} (f : A → Onto) (P : A → Type 0) → ((x : A) → P x → Puts (f x)) → (xs : List A) → EachOf P xs → Puts (more_onto f xs)
more_puts f P h [] k r s = s
more_puts f P h (x ∷ xs) k r s = (of_mark mark.Comma, h x k.0 (more_onto f xs r) (more_puts f P h xs k.1 r s))

list_puts : {A : Type 0} (f : A → Onto) (P : A → Type 0) → ((x : A) → P x → Puts (f x)) → (xs : List A) → EachOf P xs → Puts (list_onto f xs)
list_puts f P h [] k r s = s
list_puts f P h (x ∷ xs) k r s = h x k.0 (more_onto f xs r) (more_puts f P h xs k.1 r s)

-- ---- parts whose tokens bytes spell

abbrev NamePuts : tree.Name → Type 0
NamePuts x = IsSpelled (Name x.text)

record ExprPuts (e : tree.Expr) : Type 0 where
  is : Puts (expr_onto e)

record PatternPuts (p : tree.Pattern) : Type 0 where
  is : Puts (pattern_onto p)

record TypePuts (a : tree.WrittenType) : Type 0 where
  is : Puts (type_onto a)

record TermPuts (m : tree.Term) : Type 0 where
  is : Puts (term_onto m)

record ClausePuts (c : tree.Clause) : Type 0 where
  is : Puts (clause_onto c)

record ClausesPuts (cs : tree.Clauses) : Type 0 where
  is : Puts (clauses_onto cs)

record MessagePuts (m : tree.Message) : Type 0 where
  is : Puts (message_onto m)

record ParamPuts (p : tree.Param) : Type 0 where
  is : Puts (param_onto p)

record DeclPuts (d : tree.Decl) : Type 0 where
  is : Puts (decl_onto d)

op_spelled : (op : Op) → IsSpelled (op_token op)
op_spelled Add = of_mark mark.Plus
op_spelled Sub = of_mark mark.Minus
op_spelled Mul = of_mark mark.Star
op_spelled Equal = of_mark mark.DoubleEquals
op_spelled Less = of_mark mark.Less

op_puts : {op : Op} {a b : tree.Expr} {at : tree.Span} → ExprPuts a → ExprPuts b → ExprPuts (tree.OpExpr op a b at)
op_puts {op} {a} {b} x y = record {
  is = λ r s. bracketed_puts (opens_left op a) (expr_onto a) x.is (Blank ∷ Tok (op_token op) ∷ Blank ∷ bracketed (opens_right op b) (expr_onto b) r)
      (op_spelled op, bracketed_puts (opens_right op b) (expr_onto b) y.is r s);
}

number_spelled : (n : ℕ) → n < 10 → IsSpelled (Integer (pos n))
number_spelled n h = ((48 + n) ∷ [], [], ((λ e. cc, (grind (arith, nat_tests), tt), tt), omega arith, ap pos (omega arith)))

sum_puts : {p q : tree.Pattern} → PatternPuts p → PatternPuts q → PatternPuts (tree.SumPattern p q)
sum_puts {p} {q} x y = record {
  is = λ r s. x.is (Blank ∷ Tok (Mark mark.Plus) ∷ Blank ∷ bracketed (opens_sum_pattern q) (pattern_onto q) r) (of_mark mark.Plus, bracketed_puts (opens_sum_pattern q) (pattern_onto q) y.is r s);
}

prod_puts : {p q : tree.Pattern} → PatternPuts p → PatternPuts q → PatternPuts (tree.ProdPattern p q)
prod_puts {p} {q} x y = record {
  is = λ r s. bracketed_puts (opens_sum_pattern p) (pattern_onto p) x.is (Tok (Mark mark.Dot) ∷ bracketed (opens_factor q) (pattern_onto q) r) (of_mark mark.Dot, bracketed_puts (opens_factor q) (pattern_onto q) y.is r s);
}

star_puts : {p : tree.Pattern} → PatternPuts p → PatternPuts (tree.StarPattern p)
star_puts {p} x = record { is = λ r s. (of_mark mark.Star, bracketed_puts (opens_factor p) (pattern_onto p) x.is r s) }

polarity_spelled : (q : Polarity) → IsSpelled (Mark (polarity_mark q))
polarity_spelled q = of_mark (polarity_mark q)

mailbox_puts : {x : tree.Name} {q : Polarity} {p : tree.Pattern} {at : tree.Span} → NamePuts x → PatternPuts p → TypePuts (tree.MailboxType x q (Some p) at)
mailbox_puts {q = q} n y = record { is = λ r s. (n, (polarity_spelled q, y.is r s)) }

args_puts : (es : List tree.Expr) → EachOf ExprPuts es → Puts (args_onto es)
args_puts es k r s = (of_mark mark.RoundOpen, list_puts expr_onto ExprPuts (λ e h. h.is) es k (Tok (Mark mark.RoundClose) ∷ r) (of_mark mark.RoundClose, s))

names_put : (x : tree.Name) → NamePuts x → Puts (name_onto x)
names_put x n r s = (n, s)

if_puts : {e : tree.Expr} {m n : tree.Term} {at : tree.Span} → ExprPuts e → TermPuts m → TermPuts n → TermPuts (tree.IfTerm e m n at)
if_puts {m = m} {n = n} x y z = record {
  is = λ r s. (
    of_word word.If,
    x.is (Blank ∷ braced true (term_onto m) (Blank ∷ worded word.Else (Blank ∷ braced true (term_onto n) r)))
        (braced_puts true (term_onto m) y.is (Blank ∷ worded word.Else (Blank ∷ braced true (term_onto n) r)) (of_word word.Else, braced_puts true (term_onto n) z.is r s)),
  );
}

guard_puts : {x : tree.Name} {p : tree.Pattern} {cs : tree.Clauses} {at : tree.Span} → NamePuts x → PatternPuts p → ClausesPuts cs → TermPuts (tree.GuardTerm x p cs at)
guard_puts {cs = cs} n y z = record {
  is = λ r s. (
    of_word word.Guard,
    (
      n,
      (
        of_mark mark.Colon,
        y.is (Blank ∷ marked mark.CurlyOpen (Blank ∷ clauses_onto cs (marked mark.CurlyClose r)))
            (of_mark mark.CurlyOpen, z.is (Tok (Mark mark.CurlyClose) ∷ r) (of_mark mark.CurlyClose, s)),
      ),
    ),
  );
}

sequence_puts : {m n : tree.Term} {at : tree.Span} → TermPuts m → TermPuts n → TermPuts (tree.LetTerm None m n at)
sequence_puts {m = m} {n = n} x y = record { is = λ r s. braced_puts (opens_simple m) (term_onto m) x.is (marked mark.Semicolon (Blank ∷ term_onto n r)) (of_mark mark.Semicolon, y.is r s) }

let_puts : {x : tree.Name} {m n : tree.Term} {at : tree.Span} → NamePuts x → TermPuts m → TermPuts n → TermPuts (tree.LetTerm (Some x) m n at)
let_puts {m = m} {n = n} k x y = record {
  is = λ r s. (of_word word.Let, (k, (of_mark mark.Equals, braced_puts (opens_simple m) (term_onto m) x.is (Blank ∷ worded word.In (Blank ∷ term_onto n r)) (of_word word.In, y.is r s))));
}

receive_puts : {at : tree.Span} {x : tree.Name} {ns : List tree.Name} {y : tree.Name} {m : tree.Term} → NamePuts x → EachOf NamePuts ns → NamePuts y → TermPuts m → ClausePuts (tree.ReceiveClause at x ns y m)
receive_puts {ns = ns} {y = y} {m = m} k ks j z = record {
  is = λ r s. (
    of_word word.Receive,
    (
      k,
      (
        of_mark mark.RoundOpen,
        list_puts name_onto NamePuts names_put ns ks (marked mark.RoundClose (Blank ∷ worded word.From (Blank ∷ name_onto y (Blank ∷ marked mark.Arrow (Blank ∷ term_onto m r)))))
            (of_mark mark.RoundClose, (of_word word.From, (j, (of_mark mark.Arrow, z.is r s)))),
      ),
    ),
  );
}

with_puts : {c : tree.Clause} {cs : tree.Clauses} → ClausePuts c → ClausesPuts cs → ClausesPuts (with_clause c cs)
with_puts {c = c} {cs = cs} x y = record { is = λ r s. x.is (Blank ∷ clauses_onto cs r) (y.is r s) }

-- the clauses of a list, from each of them
clauses_put : (cs : List tree.Clause) → EachOf ClausePuts cs → ClausesPuts (listed cs)
clauses_put [] k = record { is = λ r s. s }
clauses_put (c ∷ cs) k = with_puts k.0 (clauses_put cs k.1)

interface_puts : {x : tree.Name} {ms : List tree.Message} → NamePuts x → EachOf MessagePuts ms → DeclPuts (tree.InterfaceDecl x ms)
interface_puts {ms = ms} n k = record {
  is = λ r s. (of_word word.Interface, (n, (of_mark mark.CurlyOpen, list_puts message_onto MessagePuts (λ m h. h.is) ms k (Blank ∷ Tok (Mark mark.CurlyClose) ∷ r) (of_mark mark.CurlyClose, s))));
}

function_puts : {x : tree.Name} {ps : List tree.Param} {a : tree.WrittenType} {m : tree.Term} → NamePuts x → EachOf ParamPuts ps → TypePuts a → TermPuts m → DeclPuts (tree.DefDecl x ps a m)
function_puts {ps = ps} {a = a} {m = m} n k y z = record {
  is = λ r s. (
    of_word word.Def,
    (
      n,
      (
        of_mark mark.RoundOpen,
        list_puts param_onto ParamPuts (λ p h. h.is) ps k (marked mark.RoundClose (marked mark.Colon (Blank ∷ type_onto a (Blank ∷ braced true (term_onto m) r))))
            (of_mark mark.RoundClose, (of_mark mark.Colon, y.is (Blank ∷ braced true (term_onto m) r) (braced_puts true (term_onto m) z.is r s))),
      ),
    ),
  );
}

-- ---- from the tokens that spell the tree

abbrev Good : List Item → Type 0
Good ts = EachOf (λ t. IsSpelled t.0) ts

each_snoc : {A : Type 0} (P : A → Type 0) (xs : List A) (x : A) → EachOf P xs → P x → EachOf P (xs ++ x ∷ [])
each_snoc P [] x f g = (g, tt)
each_snoc P (y ∷ xs) x f g = (f.0, each_snoc P xs x f.1 g)

literal_writable : (c : Token) (at : tree.Span) (e : tree.Expr) → literal c at ≡ Some e → IsSpelled c → ExprPuts e
literal_writable (Name x) at e h s = let g : tree.VarExpr x at ≡ e = cc in subst ExprPuts g (record { is = λ r q. (s, q) })
literal_writable (Integer n) at e h s = let g : tree.IntExpr n at ≡ e = cc in subst ExprPuts g (record { is = λ r q. (s, q) })
literal_writable (Str x) at e h s = let g : tree.StrExpr x at ≡ e = cc in subst ExprPuts g (record { is = λ r q. (s, q) })
literal_writable (Word word.TrueWord) at e h s = let g : tree.BoolExpr true at ≡ e = cc in subst ExprPuts g (record { is = λ r q. (of_word word.TrueWord, q) })
literal_writable (Word word.FalseWord) at e h s = let g : tree.BoolExpr false at ≡ e = cc in subst ExprPuts g (record { is = λ r q. (of_word word.FalseWord, q) })
literal_writable _ at e h s = absurd cc

expr_writable : {lim : Limits} {o k t : ℕ} {l : Level} {ts us : List Item} {a : Operand} → Expr lim o k l ts a t us → Good ts → ExprPuts a.0 × Good us
expr_writable (grammar.Expr.leaf {c = c} {w = w} {e = e} h) b = (literal_writable c (place_of w) e h b.0, b.1)
expr_writable (grammar.Expr.unit room) b = (record { is = λ r q. (of_mark mark.RoundOpen, (of_mark mark.RoundClose, q)) }, b.1.1)
expr_writable (grammar.Expr.bracket room d) b = let r = expr_writable d b.1 in (r.0, r.1.1)
expr_writable (grammar.Expr.atom d) b = expr_writable d b
expr_writable (grammar.Expr.times d room f) b = let r = expr_writable d b in let s = expr_writable f r.1.1 in (op_puts r.0 s.0, s.1)
expr_writable (grammar.Expr.product d) b = expr_writable d b
expr_writable (grammar.Expr.plus is d room f) b = let r = expr_writable d b in let s = expr_writable f r.1.1 in (op_puts r.0 s.0, s.1)
expr_writable (grammar.Expr.sum d) b = expr_writable d b
expr_writable (grammar.Expr.compare is d room f) b = let r = expr_writable d b in let s = expr_writable f r.1.1 in (op_puts r.0 s.0, s.1)

number_one : (b : Bool) (at : tree.Span) (p : tree.Pattern) → cond b (Some (tree.OnePattern at)) None ≡ Some p → PatternPuts p
number_one true at p h = let g : tree.OnePattern at ≡ p = cc in subst PatternPuts g (record { is = λ r q. (number_spelled 1 (omega arith), q) })
number_one false at p h = absurd cc

number_zero : (b c : Bool) (at : tree.Span) (p : tree.Pattern) → cond b (Some (tree.ZeroPattern at)) (cond c (Some (tree.OnePattern at)) None) ≡ Some p → PatternPuts p
number_zero true c at p h = let g : tree.ZeroPattern at ≡ p = cc in subst PatternPuts g (record { is = λ r q. (number_spelled 0 (omega arith), q) })
number_zero false c at p h = number_one c at p h

constant_writable : (n : ℤ) (at : tree.Span) (p : tree.Pattern) → constant n at ≡ Some p → PatternPuts p
constant_writable n at p h = number_zero (int_eq n (pos 0)) (int_eq n (pos 1)) at p h

pattern_writable : {lim : Limits} {o k t : ℕ} {l : Level} {ts us : List Item} {p : tree.Pattern} → Pattern lim o k l ts p t us → Good ts → PatternPuts p × Good us
pattern_writable (grammar.Pattern.number {n = n} {w = w} {p = p} is) b = (constant_writable n (place_of w) p is, b.1)
pattern_writable grammar.Pattern.tag b = (record { is = λ r q. (b.0, q) }, b.1)
pattern_writable (grammar.Pattern.bracket room d) b = let r = pattern_writable d b.1 in (r.0, r.1.1)
pattern_writable (grammar.Pattern.star room d) b = let r = pattern_writable d b.1 in (star_puts r.0, r.1)
pattern_writable (grammar.Pattern.factor d) b = pattern_writable d b
pattern_writable (grammar.Pattern.dot d room f) b = let r = pattern_writable d b in let s = pattern_writable f r.1.1 in (prod_puts r.0 s.0, s.1)
pattern_writable (grammar.Pattern.product d) b = pattern_writable d b
pattern_writable (grammar.Pattern.plus d room f) b = let r = pattern_writable d b in let s = pattern_writable f r.1.1 in (sum_puts r.0 s.0, s.1)

separated_writable : {A : Type 0} {One : List Item → A → List Item → Type 0} {ts us : List Item} {xs : List A} (P : A → Type 0) → ((vs ws : List Item) (a : A) → One vs a ws → Good vs → P a × Good ws) → Separated One ts xs us → Good ts → EachOf P xs × Good us
separated_writable P h (one {ts = ts} {us = us} {a = a} d) b = let r = h ts us a d b in ((r.0, tt), r.1)
separated_writable P h (more {us = us} {vs = vs} {xs = xs} {a = a} d f) b =
    let r = separated_writable P h d b in
    let s = h us vs a f r.1.1 in
    (each_snoc P xs a r.0 s.0, s.1)

optional_writable : {A : Type 0} {One : List Item → A → List Item → Type 0} {ts us : List Item} {xs : List A} (P : A → Type 0) → ((vs ws : List Item) (a : A) → One vs a ws → Good vs → P a × Good ws) → Optional One ts xs us → Good ts → EachOf P xs × Good us
optional_writable P h none b = (tt, b)
optional_writable P h (some d) b = separated_writable P h d b

arg_writable : (lim : Limits) (o : ℕ) (ts us : List Item) (e : tree.Expr) → Arg lim o ts e us → Good ts → ExprPuts e × Good us
arg_writable lim o ts us e d b = expr_writable d.2 b

binder_writable : (ts us : List Item) (x : tree.Name) → Binder ts x us → Good ts → NamePuts x × Good us
binder_writable ts us x binder b = (b.0, b.1)

mutual
  term_writable : {lim : Limits} {o s f : ℕ} {l : Part} {ts us : List Item} {m : tree.Term} → Term lim o s l ts m f us → Good ts → TermPuts m × Good us
  term_writable (value d) b = let r = expr_writable d b in (record { is = r.0.is }, r.1)
  term_writable (print room d) b = let x = expr_writable d b.1.1 in (record { is = λ r q. (of_word word.Print, (of_mark mark.RoundOpen, x.0.is (Tok (Mark mark.RoundClose) ∷ r) (of_mark mark.RoundClose, q))) }, x.1.1)
  term_writable (new room) b = (record { is = λ r q. (of_word word.New, (of_mark mark.SquareOpen, (b.1.1.0, (of_mark mark.SquareClose, q)))) }, b.1.1.1.1)
  term_writable (spawn {m = m} room d) b = let x = term_writable d b.1.1 in (record { is = λ r q. (of_word word.Spawn, braced_puts true (term_onto m) x.0.is r q) }, x.1.1)
  term_writable (free room) b = (record { is = λ r q. (of_word word.Free, (of_mark mark.RoundOpen, (b.1.1.0, (of_mark mark.RoundClose, q)))) }, b.1.1.1.1)
  term_writable {lim = lim} {o = o} (send {es = es} room d) b = let x = optional_writable ExprPuts (arg_writable lim (suc o)) d b.1.1.1.1 in (record { is = λ r q. (b.0, (of_mark mark.Bang, (b.1.1.0, args_puts es x.0 r q))) }, x.1.1)
  term_writable {lim = lim} {o = o} (call {es = es} room d) b = let x = optional_writable ExprPuts (arg_writable lim (suc o)) d b.1.1 in (record { is = λ r q. (b.0, args_puts es x.0 r q) }, x.1.1)
  term_writable (branch d room e space f) b =
      let x = expr_writable d b.1 in
      let y = term_writable e x.1.1 in
      let z = term_writable f y.1.1.1.1 in
      (if_puts x.0 y.0 z.0, z.1.1)
  term_writable (guard d room cs) b =
      let x = pattern_writable d b.1.1.1 in
      let y = clauses_writable cs x.1.1 in
      (guard_puts b.1.0 x.0 (clauses_put _ y.0), y.1.1)
  term_writable (block room d) b = let r = term_writable d b.1 in (r.0, r.1.1)
  term_writable (simple d) b = term_writable d b
  term_writable (then d room e) b = let x = term_writable d b in let y = term_writable e x.1.1 in (sequence_puts x.0 y.0, y.1)
  term_writable (bind d room e) b = let x = term_writable d b.1.1.1 in let y = term_writable e x.1.1 in (let_puts b.1.0 x.0 y.0, y.1)

  clauses_writable : {lim : Limits} {o s : ℕ} {c : Bool} {ts us : List Item} {cs : List tree.Clause} → Clauses lim o s c ts cs us → Good ts → EachOf ClausePuts cs × Good us
  clauses_writable no_clause b = (tt, b)
  clauses_writable (fail_clause {w = w} {cs = cs} d) b = let x = clauses_writable d b in (each_snoc ClausePuts cs (tree.FailClause (place_of w)) x.0 (record { is = λ r q. (of_word word.Fail, q) }), x.1.1)
  clauses_writable (free_clause {w = w} {cs = cs} {m = m} d e) b =
      let x = clauses_writable d b in
      let y = term_writable e x.1.1.1 in
      (each_snoc ClausePuts cs (tree.FreeClause (place_of w) m) x.0 (record { is = λ r q. (of_word word.Free, (of_mark mark.Arrow, y.0.is r q)) }), y.1)
  clauses_writable (receive_clause {w = w} {n = n} {h = h} {x = p} {y = q} {cs = cs} {ns = ns} {m = m} d room bs e) b =
      let x = clauses_writable d b in
      let z = optional_writable NamePuts binder_writable bs x.1.1.1.1 in
      let y = term_writable e z.1.1.1.1.1 in
      (each_snoc ClausePuts cs (tree.ReceiveClause (place_of w) (named p n) ns (named q h) m) x.0 (receive_puts x.1.1.0 z.0 z.1.1.1.0 y.0), y.1)

type_writable : (lim : Limits) (o : ℕ) (p : Bool) (ts us : List Item) (a : tree.WrittenType) → WrittenType lim o p ts a us → Good ts → TypePuts a × Good us
type_writable lim o p ts us a (base {b = c} is) b = (record { is = λ r q. (of_word (base_word c), q) }, b.1)
type_writable lim o p ts us a (mailbox is d) b = let r = pattern_writable d b.1.1 in (mailbox_puts b.0 r.0, r.1)
type_writable lim o p ts us a (short {q = c} omitted is) b = (record { is = λ r q. (b.0, (polarity_spelled c, q)) }, b.1.1)

message_writable : (lim : Limits) (ts us : List Item) (m : tree.Message) → Message lim ts m us → Good ts → MessagePuts m × Good us
message_writable lim ts us m (message {xs = types} room d) b = let x = optional_writable TypePuts (type_writable lim 2 true) d b.1.1 in (record { is = λ r q. (b.0, (of_mark mark.RoundOpen, list_puts type_onto TypePuts (λ a h. h.is) types x.0 (Tok (Mark mark.RoundClose) ∷ r) (of_mark mark.RoundClose, q))) }, x.1.1)

param_writable : (lim : Limits) (ts us : List Item) (p : tree.Param) → Param lim ts p us → Good ts → ParamPuts p × Good us
param_writable lim ts us p (param {ts = vs} {us = ws} {a = a} d) b = let x = type_writable lim 1 false vs ws a d b.1.1 in (record { is = λ r q. (b.0, (of_mark mark.Colon, x.0.is r q)) }, x.1)

decls_writable : {lim : Limits} {c : Bool} {ts us : List Item} {ds : List tree.Decl} → Decls lim c ts ds us → Good ts → EachOf DeclPuts ds × Good us
decls_writable no_decl b = (tt, b)
decls_writable {lim = lim} (interface {x = x} {n = n} {ds = ds} {xs = ms} d room e) b =
    let r = decls_writable d b in
    let s = separated_writable MessagePuts (message_writable lim) e r.1.1.1.1 in
    (each_snoc DeclPuts ds (tree.InterfaceDecl (named x n) ms) r.0 (interface_puts r.1.1.0 s.0), s.1.1)
decls_writable {lim = lim} (function {x = x} {n = n} {vs = vs} {xs = xs} {ds = ds} {ps = ps} {r = a} {m = m} d room e t space body) b =
    let r = decls_writable d b in
    let s = optional_writable ParamPuts (param_writable lim) e r.1.1.1.1 in
    let y = type_writable lim 0 false vs _ a t s.1.1.1 in
    let z = term_writable body y.1.1 in
    (each_snoc DeclPuts ds (tree.DefDecl (named x n) ps a m) r.0 (function_puts r.1.1.0 s.0 y.0 z.0), z.1.1)

good_items : (ts : List Spanned) → AreSpelled ts → Good (map bound_item ts)
good_items [] s = tt
good_items (t ∷ ts) s = (s.0, good_items ts s.1)

tree_puts : (ds : List tree.Decl) → EachOf DeclPuts ds → Spelt (tree_onto ds [])
tree_puts [] k = tt
tree_puts (d ∷ ds) k = k.0.is (Line ∷ tree_onto ds []) (tree_puts ds k.1)

pub writable : (lim : Limits) (ts : List Spanned) (m : tree.Tree) → AreSpelled ts → SpellsTree lim ts m → IsWritable m
writable lim ts m s d = tree_puts m (decls_writable d (good_items ts s)).0
