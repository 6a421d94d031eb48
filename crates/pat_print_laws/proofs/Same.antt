-- The places of tokens change nothing but the places of the tree.
use Rattle.std.proofs.Common.{◌≡◌, ℕ, suc, ◌+◌, Bool, true, false, List, [], ◌∷◌, ◌++◌, map, Option, Some, None, refl, sym, ap, subst, ◌∙◌}
use Rattle.std.specs.Prelude.{ℤ, pos, ◌||◌, cond, nat_lt}
use Rattle.std.specs.Ordering.{int_eq}
use Rattle.pat_lexer_spec.specs.Words as word
use Rattle.pat_lexer_spec.specs.Marks as mark
use Rattle.pat_lexer_spec.specs.Tokens.{Token, Name, Integer, Str, Word, Mark}
use Rattle.pat_semantics_spec.specs.Values.{Mul}
use Rattle.pat_parser_spec.specs.Trees as tree
use Rattle.pat_parser_spec.specs.Trees.{operators, pattern_operators, listed}
use Rattle.pat_parser_spec.specs.Items.{At, Item, place_of, named, Limits, Room, RoomBelow, literal, constant}
use Rattle.pat_parser_spec.specs.Grammar as grammar
use Rattle.pat_parser_spec.specs.Grammar.{Level, Whole, Operand, Expr, Pattern, Separated, one, more, Optional, none, some, Arg, Binder, binder, Part, Simple, Any, Term, value, print, new, spawn, free, send, call, branch, guard, block, simple, then, bind, Clauses, no_clause, fail_clause, free_clause, receive_clause, WrittenType, base, mailbox, short, Message, message, Param, param, Decls, no_decl, interface, function, Spells}
use Rattle.pat_print_spec.specs.Bare.{nowhere, bare_name, bare_pattern, bare_type, bare_expr, bare_term, bare_clause, bare_clauses, bare_message, bare_param, bare_decl, bare}
use Rattle.pat_print_laws.proofs.Canon.{bare_operators, bare_pattern_operators}

map_snoc : {A B : Type 0} (f : A → B) (xs : List A) (x : A) → map f (xs ++ x ∷ []) ≡ map f xs ++ f x ∷ []
map_snoc f [] x = refl
map_snoc f (y ∷ xs) x = ap (λ (w : List _). f y ∷ w) (map_snoc f xs x)

-- the same tokens, at other places
pub data Same : List Item → List Item → Type 0 where
  same_none : Same [] []
  same_one : {c : Token} {w v : At} {ts us : List Item} → w.free ≡ v.free → Same ts us → Same ((c, w) ∷ ts) ((c, v) ∷ us)

room_same : (lim : Limits) (w v : At) (o k : ℕ) → w.free ≡ v.free → Room lim w o k → Room lim v o k
room_same lim w v o k e room = subst (λ (b : Bool). (b || nat_lt (o + k) lim.tokens) ≡ true) e room

below_same : (lim : Limits) (w v : At) (s : ℕ) → w.free ≡ v.free → RoomBelow lim w s → RoomBelow lim v s
below_same lim w v s e room = subst (λ (b : Bool). (b || nat_lt s lim.statements) ≡ true) e room

-- ---- expressions

record ExprSame (lim : Limits) (o k : ℕ) (l : Level) (a : Operand) (us vs : List Item) : Type 0 where
  operand : Operand
  to : ℕ
  rest : List Item
  derived : Expr lim o k l vs operand to rest
  same : Same us rest
  equal : bare_expr a.0 ≡ bare_expr operand.0

record LiteralSame (c : Token) (at : tree.Span) (e : tree.Expr) : Type 0 where
  other : tree.Expr
  is : literal c at ≡ Some other
  equal : bare_expr e ≡ bare_expr other

literal_same : (c : Token) (at to : tree.Span) (e : tree.Expr) → literal c at ≡ Some e → LiteralSame c to e
literal_same (Name x) at to e h = let g : tree.VarExpr x at ≡ e = cc in record { other = tree.VarExpr x to; is = refl; equal = ap bare_expr (sym g) }
literal_same (Integer n) at to e h = let g : tree.IntExpr n at ≡ e = cc in record { other = tree.IntExpr n to; is = refl; equal = ap bare_expr (sym g) }
literal_same (Str x) at to e h = let g : tree.StrExpr x at ≡ e = cc in record { other = tree.StrExpr x to; is = refl; equal = ap bare_expr (sym g) }
literal_same (Word word.TrueWord) at to e h = let g : tree.BoolExpr true at ≡ e = cc in record { other = tree.BoolExpr true to; is = refl; equal = ap bare_expr (sym g) }
literal_same (Word word.FalseWord) at to e h = let g : tree.BoolExpr false at ≡ e = cc in record { other = tree.BoolExpr false to; is = refl; equal = ap bare_expr (sym g) }
literal_same _ at to e h = absurd cc

-- as many operators
as_many : (a b : tree.Expr) → bare_expr a ≡ bare_expr b → operators a ≡ operators b
as_many a b h = sym (bare_operators a) ∙ ap operators h ∙ bare_operators b

-- the second part of an operator, and its room, behind an equal first part
move_room : (lim : Limits) (w v : At) (o k : ℕ) (a b : tree.Expr) → w.free ≡ v.free → bare_expr a ≡ bare_expr b → Room lim w o (k + operators a) → Room lim v o (k + operators b)
move_room lim w v o k a b e h room = subst (λ (n : ℕ). Room lim v o (k + n)) (as_many a b h) (room_same lim w v o (k + operators a) e room)

move_expr : {lim : Limits} {o t : ℕ} {l : Level} {ts us : List Item} {x : Operand} (k : ℕ) (a b : tree.Expr) → bare_expr a ≡ bare_expr b → Expr lim o (suc (k + operators a)) l ts x t us → Expr lim o (suc (k + operators b)) l ts x t us
move_expr {lim = lim} {o = o} {t = t} {l = l} {ts = ts} {us = us} {x = x} k a b h d = subst (λ (n : ℕ). Expr lim o (suc (k + n)) l ts x t us) (as_many a b h) d

-- the first of the same tokens
record Front (c : Token) (w : At) (ts vs : List Item) : Type 0 where
  at : At
  rest : List Item
  is : vs ≡ (c, at) ∷ rest
  free : w.free ≡ at.free
  same : Same ts rest

front : {c : Token} {w : At} {ts vs : List Item} → Same ((c, w) ∷ ts) vs → Front c w ts vs
front (same_one {v = v} {us = us} g s) = record { at = v; rest = us; is = refl; free = g; same = s }

moved : {lim : Limits} {o k t : ℕ} {l : Level} {ts us vs : List Item} {a : Operand} → us ≡ vs → Expr lim o k l ts a t us → Expr lim o k l ts a t vs
moved {lim = lim} {o = o} {k = k} {t = t} {l = l} {ts = ts} {a = a} h d = subst (λ (q : List Item). Expr lim o k l ts a t q) h d

expr_same : (lim : Limits) {o k t : ℕ} {l : Level} {ts us vs : List Item} {a : Operand} → Expr lim o k l ts a t us → Same ts vs → ExprSame lim o k l a us vs
expr_same lim (grammar.Expr.leaf {c = c} {w = w} {e = e} h) (same_one {v = v} {us = us} g s) =
    let f = literal_same c (place_of w) (place_of v) e h in
    record { operand = (f.other, v.from); to = v.to; rest = us; derived = grammar.Expr.leaf f.is; same = s; equal = f.equal }
expr_same lim {o = o} {k = k} (grammar.Expr.unit {w = w} room) (same_one {v = v} g (same_one {v = z} {us = us} h s)) =
    record { operand = (tree.UnitExpr (tree.span v.from z.to), v.from); to = z.to; rest = us; derived = grammar.Expr.unit (room_same lim w v o k g room); same = s; equal = refl }
expr_same lim {o = o} {k = k} (grammar.Expr.bracket {w = w} room d) (same_one {v = v} g s) =
    let r = expr_same lim d s in
    let z = front r.same in
    record { operand = (r.operand.0, v.from); to = z.at.to; rest = z.rest; derived = grammar.Expr.bracket (room_same lim w v o k g room) (moved z.is r.derived); same = z.same; equal = r.equal }
expr_same lim (grammar.Expr.atom d) s = let r = expr_same lim d s in record { operand = r.operand; to = r.to; rest = r.rest; derived = grammar.Expr.atom r.derived; same = r.same; equal = r.equal }
expr_same lim {o = o} {k = k} (grammar.Expr.times {t = t} {w = w} {a = a} {b = b} d room f) s =
    let x = expr_same lim d s in
    let z = front x.same in
    let y = expr_same lim f z.same in
    record {
      operand = grammar.combined Mul x.operand y.operand y.to;
      to = y.to;
      rest = y.rest;
      derived = grammar.Expr.times (moved z.is x.derived) (move_room lim w z.at o k a.0 x.operand.0 z.free x.equal room) (move_expr k a.0 x.operand.0 x.equal y.derived);
      same = y.same;
      equal = ap (λ (u : tree.Expr). tree.OpExpr Mul u (bare_expr b.0) nowhere) x.equal ∙ ap (λ (u : tree.Expr). tree.OpExpr Mul (bare_expr x.operand.0) u nowhere) y.equal;
    }
expr_same lim (grammar.Expr.product d) s = let r = expr_same lim d s in record { operand = r.operand; to = r.to; rest = r.rest; derived = grammar.Expr.product r.derived; same = r.same; equal = r.equal }
expr_same lim {o = o} {k = k} (grammar.Expr.plus {op = op} {w = w} {a = a} {b = b} is d room f) s =
    let x = expr_same lim d s in
    let z = front x.same in
    let y = expr_same lim f z.same in
    record {
      operand = grammar.combined op x.operand y.operand y.to;
      to = y.to;
      rest = y.rest;
      derived = grammar.Expr.plus is (moved z.is x.derived) (move_room lim w z.at o k a.0 x.operand.0 z.free x.equal room) (move_expr k a.0 x.operand.0 x.equal y.derived);
      same = y.same;
      equal = ap (λ (u : tree.Expr). tree.OpExpr op u (bare_expr b.0) nowhere) x.equal ∙ ap (λ (u : tree.Expr). tree.OpExpr op (bare_expr x.operand.0) u nowhere) y.equal;
    }
expr_same lim (grammar.Expr.sum d) s = let r = expr_same lim d s in record { operand = r.operand; to = r.to; rest = r.rest; derived = grammar.Expr.sum r.derived; same = r.same; equal = r.equal }
expr_same lim {o = o} {k = k} (grammar.Expr.compare {op = op} {w = w} {a = a} {b = b} is d room f) s =
    let x = expr_same lim d s in
    let z = front x.same in
    let y = expr_same lim f z.same in
    record {
      operand = grammar.combined op x.operand y.operand y.to;
      to = y.to;
      rest = y.rest;
      derived = grammar.Expr.compare is (moved z.is x.derived) (move_room lim w z.at o k a.0 x.operand.0 z.free x.equal room) (move_expr k a.0 x.operand.0 x.equal y.derived);
      same = y.same;
      equal = ap (λ (u : tree.Expr). tree.OpExpr op u (bare_expr b.0) nowhere) x.equal ∙ ap (λ (u : tree.Expr). tree.OpExpr op (bare_expr x.operand.0) u nowhere) y.equal;
    }

-- ---- patterns

record PatternSame (lim : Limits) (o k : ℕ) (l : Level) (p : tree.Pattern) (us vs : List Item) : Type 0 where
  other : tree.Pattern
  to : ℕ
  rest : List Item
  derived : Pattern lim o k l vs other to rest
  same : Same us rest
  equal : bare_pattern p ≡ bare_pattern other

record ConstantSame (n : ℤ) (at : tree.Span) (p : tree.Pattern) : Type 0 where
  other : tree.Pattern
  is : constant n at ≡ Some other
  equal : bare_pattern p ≡ bare_pattern other

one_same : (b : Bool) (at to : tree.Span) (p : tree.Pattern) → cond b (Some (tree.OnePattern at)) None ≡ Some p → (q : tree.Pattern) × (cond b (Some (tree.OnePattern to)) None ≡ Some q) × (bare_pattern p ≡ bare_pattern q)
one_same true at to p h = let g : tree.OnePattern at ≡ p = cc in (tree.OnePattern to, refl, ap bare_pattern (sym g))
one_same false at to p h = absurd cc

zero_same : (b c : Bool) (at to : tree.Span) (p : tree.Pattern) → cond b (Some (tree.ZeroPattern at)) (cond c (Some (tree.OnePattern at)) None) ≡ Some p → (q : tree.Pattern) × (cond b (Some (tree.ZeroPattern to)) (cond c (Some (tree.OnePattern to)) None) ≡ Some q) × (bare_pattern p ≡ bare_pattern q)
zero_same true c at to p h = let g : tree.ZeroPattern at ≡ p = cc in (tree.ZeroPattern to, refl, ap bare_pattern (sym g))
zero_same false c at to p h = one_same c at to p h

constant_same : (n : ℤ) (at to : tree.Span) (p : tree.Pattern) → constant n at ≡ Some p → ConstantSame n to p
constant_same n at to p h = let r = zero_same (int_eq n (pos 0)) (int_eq n (pos 1)) at to p h in record { other = r.0; is = r.1; equal = r.2 }

many_alike : (p q : tree.Pattern) → bare_pattern p ≡ bare_pattern q → pattern_operators p ≡ pattern_operators q
many_alike p q h = sym (bare_pattern_operators p) ∙ ap pattern_operators h ∙ bare_pattern_operators q

pattern_room : (lim : Limits) (w v : At) (o k : ℕ) (p q : tree.Pattern) → w.free ≡ v.free → bare_pattern p ≡ bare_pattern q → Room lim w o (k + pattern_operators p) → Room lim v o (k + pattern_operators q)
pattern_room lim w v o k p q e h room = subst (λ (n : ℕ). Room lim v o (k + n)) (many_alike p q h) (room_same lim w v o (k + pattern_operators p) e room)

move_pattern : {lim : Limits} {o t : ℕ} {l : Level} {ts us : List Item} {x : tree.Pattern} (k : ℕ) (p q : tree.Pattern) → bare_pattern p ≡ bare_pattern q → Pattern lim o (suc (k + pattern_operators p)) l ts x t us → Pattern lim o (suc (k + pattern_operators q)) l ts x t us
move_pattern {lim = lim} {o = o} {t = t} {l = l} {ts = ts} {us = us} {x = x} k p q h d = subst (λ (n : ℕ). Pattern lim o (suc (k + n)) l ts x t us) (many_alike p q h) d

moved_pattern : {lim : Limits} {o k t : ℕ} {l : Level} {ts us vs : List Item} {p : tree.Pattern} → us ≡ vs → Pattern lim o k l ts p t us → Pattern lim o k l ts p t vs
moved_pattern {lim = lim} {o = o} {k = k} {t = t} {l = l} {ts = ts} {p = p} h d = subst (λ (q : List Item). Pattern lim o k l ts p t q) h d

pattern_same : (lim : Limits) {o k t : ℕ} {l : Level} {ts us vs : List Item} {p : tree.Pattern} → Pattern lim o k l ts p t us → Same ts vs → PatternSame lim o k l p us vs
pattern_same lim (grammar.Pattern.number {n = n} {w = w} {p = p} is) (same_one {v = v} {us = us} g s) =
    let f = constant_same n (place_of w) (place_of v) p is in
    record { other = f.other; to = v.to; rest = us; derived = grammar.Pattern.number f.is; same = s; equal = f.equal }
pattern_same lim (grammar.Pattern.tag {x = x}) (same_one {v = v} {us = us} g s) = record { other = tree.TagPattern (named x v); to = v.to; rest = us; derived = grammar.Pattern.tag; same = s; equal = refl }
pattern_same lim {o = o} {k = k} (grammar.Pattern.bracket {w = w} room d) (same_one {v = v} g s) =
    let r = pattern_same lim d s in
    let z = front r.same in
    record { other = r.other; to = z.at.to; rest = z.rest; derived = grammar.Pattern.bracket (room_same lim w v o k g room) (moved_pattern z.is r.derived); same = z.same; equal = r.equal }
pattern_same lim {o = o} {k = k} (grammar.Pattern.star {w = w} room d) (same_one {v = v} g s) =
    let r = pattern_same lim d s in
    record { other = tree.StarPattern r.other; to = r.to; rest = r.rest; derived = grammar.Pattern.star (room_same lim w v o k g room) r.derived; same = r.same; equal = ap tree.StarPattern r.equal }
pattern_same lim (grammar.Pattern.factor d) s = let r = pattern_same lim d s in record { other = r.other; to = r.to; rest = r.rest; derived = grammar.Pattern.factor r.derived; same = r.same; equal = r.equal }
pattern_same lim {o = o} {k = k} (grammar.Pattern.dot {w = w} {p = p} {q = q} d room f) s =
    let x = pattern_same lim d s in
    let z = front x.same in
    let y = pattern_same lim f z.same in
    record {
      other = tree.ProdPattern x.other y.other;
      to = y.to;
      rest = y.rest;
      derived = grammar.Pattern.dot (moved_pattern z.is x.derived) (pattern_room lim w z.at o k p x.other z.free x.equal room) (move_pattern k p x.other x.equal y.derived);
      same = y.same;
      equal = ap (λ (u : tree.Pattern). tree.ProdPattern u (bare_pattern q)) x.equal ∙ ap (λ (u : tree.Pattern). tree.ProdPattern (bare_pattern x.other) u) y.equal;
    }
pattern_same lim (grammar.Pattern.product d) s = let r = pattern_same lim d s in record { other = r.other; to = r.to; rest = r.rest; derived = grammar.Pattern.product r.derived; same = r.same; equal = r.equal }
pattern_same lim {o = o} {k = k} (grammar.Pattern.plus {w = w} {p = p} {q = q} d room f) s =
    let x = pattern_same lim d s in
    let z = front x.same in
    let y = pattern_same lim f z.same in
    record {
      other = tree.SumPattern x.other y.other;
      to = y.to;
      rest = y.rest;
      derived = grammar.Pattern.plus (moved_pattern z.is x.derived) (pattern_room lim w z.at o k p x.other z.free x.equal room) (move_pattern k p x.other x.equal y.derived);
      same = y.same;
      equal = ap (λ (u : tree.Pattern). tree.SumPattern u (bare_pattern q)) x.equal ∙ ap (λ (u : tree.Pattern). tree.SumPattern (bare_pattern x.other) u) y.equal;
    }

-- ---- lists

-- what one item is read as at other places
pub record OneSame {A : Type 0} (One : List Item → A → List Item → Type 0) (b : A → A) (a : A) (us vs : List Item) : Type 0 where
  other : A
  rest : List Item
  derived : One vs other rest
  same : Same us rest
  equal : b a ≡ b other

abbrev Moves : {A : Type 0} → (List Item → A → List Item → Type 0) → (A → A) → Type 0
Moves {A = A} One b = (ts us vs : List Item) (a : A) → One ts a us → Same ts vs → OneSame One b a us vs

record ListSame {A : Type 0} (Many : List Item → List A → List Item → Type 0) (b : A → A) (xs : List A) (us vs : List Item) : Type 0 where
  others : List A
  rest : List Item
  derived : Many vs others rest
  same : Same us rest
  equal : map b xs ≡ map b others

map_end : {A : Type 0} (b : A → A) (xs ys : List A) (x y : A) → map b xs ≡ map b ys → b x ≡ b y → map b (xs ++ x ∷ []) ≡ map b (ys ++ y ∷ [])
map_end b xs ys x y h g = map_snoc b xs x ∙ ap (λ (w : List _). w ++ b x ∷ []) h ∙ ap (λ (z : _). map b ys ++ z ∷ []) g ∙ sym (map_snoc b ys y)

separated_same : {A : Type 0} (One : List Item → A → List Item → Type 0) (b : A → A) → Moves One b → {ts us vs : List Item} {xs : List A} → Separated One ts xs us → Same ts vs → ListSame (Separated One) b xs us vs
separated_same One b h {vs = vs} (one {ts = ts} {us = us} {a = a} d) s =
    let r = h ts us vs a d s in
    record { others = r.other ∷ []; rest = r.rest; derived = one r.derived; same = r.same; equal = ap (λ (z : _). z ∷ []) r.equal }
separated_same One b h {vs = vs} (more {us = us} {vs = ws} {xs = xs} {a = a} d f) s =
    let x = separated_same One b h d s in
    let z = front x.same in
    let y = h us ws z.rest a f z.same in
    record { others = x.others ++ y.other ∷ []; rest = y.rest; derived = more (subst (λ (q : List Item). Separated One vs x.others q) z.is x.derived) y.derived; same = y.same; equal = map_end b xs x.others a y.other x.equal y.equal }

optional_same : {A : Type 0} (One : List Item → A → List Item → Type 0) (b : A → A) → Moves One b → {ts us vs : List Item} {xs : List A} → Optional One ts xs us → Same ts vs → ListSame (Optional One) b xs us vs
optional_same One b h {vs = vs} none s = record { others = []; rest = vs; derived = none; same = s; equal = refl }
optional_same One b h (some d) s = let r = separated_same One b h d s in record { others = r.others; rest = r.rest; derived = some r.derived; same = r.same; equal = r.equal }

arg_same : (lim : Limits) (o : ℕ) → Moves (Arg lim o) bare_expr
arg_same lim o ts us vs e d s =
    let r = expr_same lim d.2 s in
    record { other = r.operand.0; rest = r.rest; derived = (r.operand.1, r.to, r.derived); same = r.same; equal = r.equal }

binder_same : Moves Binder bare_name
binder_same ts us vs x (binder {x = y}) (same_one {v = v} {us = ws} g s) = record { other = named y v; rest = ws; derived = binder; same = s; equal = refl }

-- ---- terms

record TermSame (lim : Limits) (o s : ℕ) (l : Part) (m : tree.Term) (us vs : List Item) : Type 0 where
  other : tree.Term
  from : ℕ
  rest : List Item
  derived : Term lim o s l vs other from rest
  same : Same us rest
  equal : bare_term m ≡ bare_term other

record ClausesSame (lim : Limits) (o s : ℕ) (c : Bool) (cs : List tree.Clause) (us vs : List Item) : Type 0 where
  others : List tree.Clause
  rest : List Item
  derived : Clauses lim o s c vs others rest
  same : Same us rest
  equal : map bare_clause cs ≡ map bare_clause others

moved_term : {lim : Limits} {o s f : ℕ} {l : Part} {ts us vs : List Item} {m : tree.Term} → us ≡ vs → Term lim o s l ts m f us → Term lim o s l ts m f vs
moved_term {lim = lim} {o = o} {s = s} {f = f} {l = l} {ts = ts} {m = m} h d = subst (λ (q : List Item). Term lim o s l ts m f q) h d

moved_clauses : {lim : Limits} {o s : ℕ} {c : Bool} {ts us vs : List Item} {cs : List tree.Clause} → us ≡ vs → Clauses lim o s c ts cs us → Clauses lim o s c ts cs vs
moved_clauses {lim = lim} {o = o} {s = s} {c = c} {ts = ts} {cs = cs} h d = subst (λ (q : List Item). Clauses lim o s c ts cs q) h d

moved_args : {lim : Limits} {o : ℕ} {ts us vs : List Item} {es : List tree.Expr} → us ≡ vs → Optional (Arg lim o) ts es us → Optional (Arg lim o) ts es vs
moved_args {lim = lim} {o = o} {ts = ts} {es = es} h d = subst (λ (q : List Item). Optional (Arg lim o) ts es q) h d

bare_listed : (cs : List tree.Clause) → bare_clauses (listed cs) ≡ listed (map bare_clause cs)
bare_listed [] = refl
bare_listed (c ∷ cs) = ap (tree.with_clause (bare_clause c)) (bare_listed cs)

listed_same : (cs ds : List tree.Clause) → map bare_clause cs ≡ map bare_clause ds → bare_clauses (listed cs) ≡ bare_clauses (listed ds)
listed_same cs ds h = bare_listed cs ∙ ap listed h ∙ sym (bare_listed ds)

mutual
  term_same : (lim : Limits) {o s f : ℕ} {l : Part} {ts us vs : List Item} {m : tree.Term} → Term lim o s l ts m f us → Same ts vs → TermSame lim o s l m us vs
  term_same lim (value d) e = let r = expr_same lim d e in record { other = tree.ValueTerm r.operand.0 (tree.span r.operand.1 r.to); from = r.operand.1; rest = r.rest; derived = value r.derived; same = r.same; equal = ap (λ (u : tree.Expr). tree.ValueTerm u nowhere) r.equal }
  term_same lim {o = o} (print {v = v} room d) (same_one {v = w1} g (same_one {v = v1} h e)) =
      let r = expr_same lim d e in
      let z = front r.same in
      record { other = tree.PrintTerm r.operand.0 (tree.span w1.from z.at.to); from = w1.from; rest = z.rest; derived = print (room_same lim v v1 o 0 h room) (moved z.is r.derived); same = z.same; equal = ap (λ (u : tree.Expr). tree.PrintTerm u nowhere) r.equal }
  term_same lim {o = o} (new {v = v} {x = x} room) (same_one {v = w1} g (same_one {v = v1} h (same_one {v = n1} i (same_one {v = z1} {us = us} j e)))) =
      record { other = tree.NewTerm (named x n1) (tree.span w1.from z1.to); from = w1.from; rest = us; derived = new (room_same lim v v1 o 0 h room); same = e; equal = refl }
  term_same lim {o = o} (spawn {v = v} room d) (same_one {v = w1} g (same_one {v = v1} h e)) =
      let r = term_same lim d e in
      let z = front r.same in
      record { other = tree.SpawnTerm r.other (tree.span w1.from z.at.to); from = w1.from; rest = z.rest; derived = spawn (room_same lim v v1 o 0 h room) (moved_term z.is r.derived); same = z.same; equal = ap (λ (u : tree.Term). tree.SpawnTerm u nowhere) r.equal }
  term_same lim {o = o} (free {v = v} {x = x} room) (same_one {v = w1} g (same_one {v = v1} h (same_one {v = n1} i (same_one {v = z1} {us = us} j e)))) =
      record { other = tree.FreeTerm (named x n1) (tree.span w1.from z1.to); from = w1.from; rest = us; derived = free (room_same lim v v1 o 0 h room); same = e; equal = refl }
  term_same lim {o = o} (send {v = v} {x = x} {y = y} room d) (same_one {v = a1} g (same_one h (same_one {v = c1} i (same_one {v = v1} j e)))) =
      let r = optional_same (Arg lim (suc o)) bare_expr (arg_same lim (suc o)) d e in
      let z = front r.same in
      record { other = tree.SendTerm (named x a1) (named y c1) r.others (tree.span a1.from z.at.to); from = a1.from; rest = z.rest; derived = send (room_same lim v v1 o 0 j room) (moved_args z.is r.derived); same = z.same; equal = ap (λ (u : List tree.Expr). tree.SendTerm (record { text = x; span = nowhere }) (record { text = y; span = nowhere }) u nowhere) r.equal }
  term_same lim {o = o} (call {v = v} {x = x} room d) (same_one {v = a1} g (same_one {v = v1} j e)) =
      let r = optional_same (Arg lim (suc o)) bare_expr (arg_same lim (suc o)) d e in
      let z = front r.same in
      record { other = tree.CallTerm (named x a1) r.others (tree.span a1.from z.at.to); from = a1.from; rest = z.rest; derived = call (room_same lim v v1 o 0 j room) (moved_args z.is r.derived); same = z.same; equal = ap (λ (u : List tree.Expr). tree.CallTerm (record { text = x; span = nowhere }) u nowhere) r.equal }
  term_same lim {o = o} (branch {v = v} {d = q} {a = a} {m = m} {n = n} d room f space g) (same_one {v = w1} h e) =
      let x = expr_same lim d e in
      let z = front x.same in
      let y = term_same lim f z.same in
      let b = front y.same in
      let c = front b.same in
      let i = front c.same in
      let k = term_same lim g i.same in
      let j = front k.same in
      record {
        other = tree.IfTerm x.operand.0 y.other k.other (tree.span w1.from j.at.to);
        from = w1.from;
        rest = j.rest;
        derived = branch (moved z.is x.derived) (room_same lim v z.at o 0 z.free room) (moved_term (b.is ∙ ap (λ (u : List Item). (Mark mark.CurlyClose, b.at) ∷ u) (c.is ∙ ap (λ (u : List Item). (Word word.Else, c.at) ∷ u) i.is)) y.derived) (room_same lim q i.at o 0 i.free space) (moved_term j.is k.derived);
        same = j.same;
        equal = ap (λ (u : tree.Expr). tree.IfTerm u (bare_term m) (bare_term n) nowhere) x.equal ∙ ap (λ (u : tree.Term). tree.IfTerm (bare_expr x.operand.0) u (bare_term n) nowhere) y.equal ∙ ap (λ (u : tree.Term). tree.IfTerm (bare_expr x.operand.0) (bare_term y.other) u nowhere) k.equal;
      }
  term_same lim {o = o} (guard {v = v} {x = x} {p = p} {cs = cs} d room f) (same_one {v = w1} g (same_one {v = n1} h (same_one i e))) =
      let q = pattern_same lim d e in
      let z = front q.same in
      let y = clauses_same lim f z.same in
      let j = front y.same in
      record {
        other = tree.GuardTerm (named x n1) q.other (listed y.others) (tree.span w1.from j.at.to);
        from = w1.from;
        rest = j.rest;
        derived = guard (moved_pattern z.is q.derived) (room_same lim v z.at o 0 z.free room) (moved_clauses j.is y.derived);
        same = j.same;
        equal = ap (λ (u : tree.Pattern). tree.GuardTerm (record { text = x; span = nowhere }) u (bare_clauses (listed cs)) nowhere) q.equal ∙ ap (λ (u : tree.Clauses). tree.GuardTerm (record { text = x; span = nowhere }) (bare_pattern q.other) u nowhere) (listed_same cs y.others y.equal);
      }
  term_same lim {o = o} (block {w = w} room d) (same_one {v = w1} g e) =
      let r = term_same lim d e in
      let z = front r.same in
      record { other = r.other; from = w1.from; rest = z.rest; derived = block (room_same lim w w1 o 0 g room) (moved_term z.is r.derived); same = z.same; equal = r.equal }
  term_same lim (simple d) e = let r = term_same lim d e in record { other = r.other; from = r.from; rest = r.rest; derived = simple r.derived; same = r.same; equal = r.equal }
  term_same lim {s = s} (then {w = w} {m = m} {n = n} d room f) e =
      let x = term_same lim d e in
      let z = front x.same in
      let y = term_same lim f z.same in
      record {
        other = tree.LetTerm None x.other y.other (tree.span x.from (tree.term_at y.other).to);
        from = x.from;
        rest = y.rest;
        derived = then (moved_term z.is x.derived) (below_same lim w z.at s z.free room) y.derived;
        same = y.same;
        equal = ap (λ (u : tree.Term). tree.LetTerm None u (bare_term n) nowhere) x.equal ∙ ap (λ (u : tree.Term). tree.LetTerm None (bare_term x.other) u nowhere) y.equal;
      }
  term_same lim {s = s} (bind {i = w} {x = q} {a = m} {b = n} d room f) (same_one {v = w1} g (same_one {v = n1} h (same_one i e))) =
      let x = term_same lim d e in
      let z = front x.same in
      let y = term_same lim f z.same in
      let k : Option tree.Name = Some (record { text = q; span = nowhere }) in
      record {
        other = tree.LetTerm (Some (named q n1)) x.other y.other (tree.span w1.from (tree.term_at y.other).to);
        from = w1.from;
        rest = y.rest;
        derived = bind (moved_term z.is x.derived) (below_same lim w z.at s z.free room) y.derived;
        same = y.same;
        equal = ap (λ (u : tree.Term). tree.LetTerm k u (bare_term n) nowhere) x.equal ∙ ap (λ (u : tree.Term). tree.LetTerm k (bare_term x.other) u nowhere) y.equal;
      }

  clauses_same : (lim : Limits) {o s : ℕ} {c : Bool} {ts us vs : List Item} {cs : List tree.Clause} → Clauses lim o s c ts cs us → Same ts vs → ClausesSame lim o s c cs us vs
  clauses_same lim {vs = vs} no_clause e = record { others = []; rest = vs; derived = no_clause; same = e; equal = refl }
  clauses_same lim (fail_clause {w = w} {cs = cs} d) e =
      let x = clauses_same lim d e in
      let z = front x.same in
      record { others = x.others ++ tree.FailClause (place_of z.at) ∷ []; rest = z.rest; derived = fail_clause (moved_clauses z.is x.derived); same = z.same; equal = map_end bare_clause cs x.others (tree.FailClause (place_of w)) (tree.FailClause (place_of z.at)) x.equal refl }
  clauses_same lim (free_clause {w = w} {cs = cs} {m = m} d f) e =
      let x = clauses_same lim d e in
      let z = front x.same in
      let a = front z.same in
      let y = term_same lim f a.same in
      record {
        others = x.others ++ tree.FreeClause (place_of z.at) y.other ∷ [];
        rest = y.rest;
        derived = free_clause (moved_clauses (z.is ∙ ap (λ (u : List Item). (Word word.Free, z.at) ∷ u) a.is) x.derived) y.derived;
        same = y.same;
        equal = map_end bare_clause cs x.others (tree.FreeClause (place_of w) m) (tree.FreeClause (place_of z.at) y.other) x.equal (ap (tree.FreeClause nowhere) y.equal);
      }
  clauses_same lim {o = o} (receive_clause {w = w} {n = n} {v = v} {h = h} {x = p} {y = q} {cs = cs} {ns = ns} {m = m} d room b f) e =
      let x = clauses_same lim d e in
      let z1 = front x.same in
      let z2 = front z1.same in
      let z3 = front z2.same in
      let r = optional_same Binder bare_name binder_same b z3.same in
      let y1 = front r.same in
      let y2 = front y1.same in
      let y3 = front y2.same in
      let y4 = front y3.same in
      let t = term_same lim f y4.same in
      let k = tree.ReceiveClause (place_of z1.at) (named p z2.at) r.others (named q y3.at) t.other in
      record {
        others = x.others ++ k ∷ [];
        rest = t.rest;
        derived = receive_clause (moved_clauses (z1.is ∙ ap (λ (u : List Item). (Word word.Receive, z1.at) ∷ u) (z2.is ∙ ap (λ (u : List Item). (Name p, z2.at) ∷ u) z3.is)) x.derived) (room_same lim v z3.at (suc o) 0 z3.free room)
            (subst (λ (u : List Item). Optional Binder z3.rest r.others u) (y1.is ∙ ap (λ (u : List Item). (Mark mark.RoundClose, y1.at) ∷ u) (y2.is ∙ ap (λ (u : List Item). (Word word.From, y2.at) ∷ u) (y3.is ∙ ap (λ (u : List Item). (Name q, y3.at) ∷ u) y4.is))) r.derived) t.derived;
        same = t.same;
        equal = map_end bare_clause cs x.others (tree.ReceiveClause (place_of w) (named p n) ns (named q h) m) k x.equal
            (ap (λ (u : List tree.Name). tree.ReceiveClause nowhere (record { text = p; span = nowhere }) u (record { text = q; span = nowhere }) (bare_term m)) r.equal ∙ ap (λ (u : tree.Term). tree.ReceiveClause nowhere (record { text = p; span = nowhere }) (map bare_name r.others) (record { text = q; span = nowhere }) u) t.equal);
      }

-- ---- types and declarations

type_same : (lim : Limits) (o : ℕ) (b : Bool) → Moves (WrittenType lim o b) bare_type
type_same lim o b ts us vs a (base {b = c} is) (same_one {v = v} {us = ws} g s) = record { other = tree.BaseType c (place_of v); rest = ws; derived = base is; same = s; equal = refl }
type_same lim o b ts us vs a (mailbox {x = x} {q = q} is d) (same_one {v = w} g (same_one h s)) =
    let r = pattern_same lim d s in
    record { other = tree.MailboxType (named x w) q (Some r.other) (tree.span w.from r.to); rest = r.rest; derived = mailbox is r.derived; same = r.same; equal = ap (λ (u : tree.Pattern). tree.MailboxType (record { text = x; span = nowhere }) q (Some u) nowhere) r.equal }
type_same lim o b ts us vs a (short {x = x} {q = q} omitted is) (same_one {v = w} g (same_one {v = v} {us = ws} h s)) = record { other = tree.MailboxType (named x w) q None (tree.span w.from v.to); rest = ws; derived = short omitted is; same = s; equal = refl }

message_same : (lim : Limits) → Moves (Message lim) bare_message
message_same lim ts us vs m (message {x = x} {v = v} room d) (same_one {v = w} g (same_one {v = v1} {us = ps} h s)) =
    let r = optional_same (WrittenType lim 2 true) bare_type (type_same lim 2 true) d s in
    let z = front r.same in
    record { other = record { name = named x w; payloads = r.others }; rest = z.rest; derived = message (room_same lim v v1 1 0 h room) (subst (λ (q : List Item). Optional (WrittenType lim 2 true) ps r.others q) z.is r.derived); same = z.same; equal = ap (λ (u : List tree.WrittenType). record { name = record { text = x; span = nowhere }; payloads = u }) r.equal }

param_same : (lim : Limits) → Moves (Param lim) bare_param
param_same lim ts us vs p (param {x = x} {ts = qs} {us = ws} {a = a} d) (same_one {v = w} g (same_one {us = os} h s)) =
    let r = type_same lim 1 false qs ws os a d s in
    record { other = record { name = named x w; type = r.other }; rest = r.rest; derived = param r.derived; same = r.same; equal = ap (λ (u : tree.WrittenType). record { name = record { text = x; span = nowhere }; type = u }) r.equal }

record DeclsSame (lim : Limits) (c : Bool) (ds : List tree.Decl) (us vs : List Item) : Type 0 where
  others : List tree.Decl
  rest : List Item
  derived : Decls lim c vs others rest
  same : Same us rest
  equal : map bare_decl ds ≡ map bare_decl others

moved_decls : {lim : Limits} {c : Bool} {ts us vs : List Item} {ds : List tree.Decl} → us ≡ vs → Decls lim c ts ds us → Decls lim c ts ds vs
moved_decls {lim = lim} {c = c} {ts = ts} {ds = ds} h d = subst (λ (q : List Item). Decls lim c ts ds q) h d

decls_same : (lim : Limits) {c : Bool} {ts us vs : List Item} {ds : List tree.Decl} → Decls lim c ts ds us → Same ts vs → DeclsSame lim c ds us vs
decls_same lim {vs = vs} no_decl s = record { others = []; rest = vs; derived = no_decl; same = s; equal = refl }
decls_same lim (interface {x = x} {n = n} {v = v} {ds = ds} {xs = ms} d room e) s =
    let p = decls_same lim d s in
    let z1 = front p.same in
    let z2 = front z1.same in
    let z3 = front z2.same in
    let r = separated_same (Message lim) bare_message (message_same lim) e z3.same in
    let y = front r.same in
    let k = tree.InterfaceDecl (named x z2.at) r.others in
    record {
      others = p.others ++ k ∷ [];
      rest = y.rest;
      derived = interface (moved_decls (z1.is ∙ ap (λ (u : List Item). (Word word.Interface, z1.at) ∷ u) (z2.is ∙ ap (λ (u : List Item). (Name x, z2.at) ∷ u) z3.is)) p.derived) (room_same lim v z3.at 0 0 z3.free room) (subst (λ (q : List Item). Separated (Message lim) z3.rest r.others q) y.is r.derived);
      same = y.same;
      equal = map_end bare_decl ds p.others (tree.InterfaceDecl (named x n) ms) k p.equal (ap (tree.InterfaceDecl (record { text = x; span = nowhere })) r.equal);
    }
decls_same lim (function {x = x} {n = n} {v = v} {d = q} {vs = vs} {xs = xs} {ds = ds} {ps = ps} {r = r} {m = m} d room e t space b) s =
    let p = decls_same lim d s in
    let z1 = front p.same in
    let z2 = front z1.same in
    let z3 = front z2.same in
    let f = optional_same (Param lim) bare_param (param_same lim) e z3.same in
    let y1 = front f.same in
    let y2 = front y1.same in
    let a = type_same lim 0 false vs _ y2.rest r t y2.same in
    let i = front a.same in
    let g = term_same lim b i.same in
    let j = front g.same in
    let k = tree.DefDecl (named x z2.at) f.others a.other g.other in
    let o : tree.Name = record { text = x; span = nowhere } in
    record {
      others = p.others ++ k ∷ [];
      rest = j.rest;
      derived = function (moved_decls (z1.is ∙ ap (λ (u : List Item). (Word word.Def, z1.at) ∷ u) (z2.is ∙ ap (λ (u : List Item). (Name x, z2.at) ∷ u) z3.is)) p.derived) (room_same lim v z3.at 0 0 z3.free room)
          (subst (λ (u : List Item). Optional (Param lim) z3.rest f.others u) (y1.is ∙ ap (λ (u : List Item). (Mark mark.RoundClose, y1.at) ∷ u) y2.is) f.derived)
          (subst (λ (u : List Item). WrittenType lim 0 false y2.rest a.other u) i.is a.derived) (room_same lim q i.at 0 0 i.free space) (moved_term j.is g.derived);
      same = j.same;
      equal = map_end bare_decl ds p.others (tree.DefDecl (named x n) ps r m) k p.equal
          (ap (λ (u : List tree.Param). tree.DefDecl o u (bare_type r) (bare_term m)) f.equal ∙ ap (λ (u : tree.WrittenType). tree.DefDecl o (map bare_param f.others) u (bare_term m)) a.equal ∙ ap (λ (u : tree.Term). tree.DefDecl o (map bare_param f.others) (bare_type a.other) u) g.equal);
    }

none_left : {vs : List Item} → Same [] vs → vs ≡ []
none_left same_none = refl

-- the same tokens at other places spell a tree that is the same but for its places
pub spells_same : (lim : Limits) (ts vs : List Item) (m : tree.Tree) → Spells lim ts m → Same ts vs → (n : tree.Tree) × Spells lim vs n × (bare m ≡ bare n)
spells_same lim ts vs m d s = let r = decls_same lim d s in (r.others, moved_decls (none_left r.same) r.derived, r.equal)
