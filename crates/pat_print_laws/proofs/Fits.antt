-- Where bound tokens spell an expression or a pattern, there is room for its canonical tokens.
use Rattle.std.proofs.Common.{◌≡◌, ℕ, suc, ◌+◌, ◌≤◌, Bool, true, false, List, [], ◌∷◌, Option, Some, None, refl, sym, ap, subst, ◌∙◌, arith}
use Rattle.std.specs.Prelude.{ℤ, pos, nat_lt, ◌||◌, if◌then◌else◌}
use Rattle.std.specs.Ordering.{int_eq}
use Rattle.std.proofs.lemmas.Bool.{lt-ltb, ltb-true}
use Rattle.pat_lexer_spec.specs.Words as word
use Rattle.pat_lexer_spec.specs.Marks as mark
use Rattle.pat_lexer_spec.specs.Tokens.{Token, Name, Integer, Str, Word, Mark}
use Rattle.pat_semantics_spec.specs.Values.{Op, Add, Sub, Mul, Equal, Less}
use Rattle.pat_parser_spec.specs.Trees as tree
use Rattle.pat_parser_spec.specs.Trees.{operators, pattern_operators}
use Rattle.pat_parser_spec.specs.Items.{At, Item, place_of, Limits, Room, RoomBelow, literal, constant, additive, comparison}
use Rattle.pat_parser_spec.specs.Grammar as grammar
use Rattle.pat_parser_spec.specs.Grammar.{Level, Atom, Product, Sum, Whole, Operand, Expr, Pattern}
use Rattle.pat_print_spec.specs.Canonical.{opens_atom, opens_product, opens_sum, opens_left, opens_right, opens_factor, opens_sum_pattern}

-- the limits bind each of the tokens
abbrev pub Bound : List Item → Type 0
Bound [] = Unit {0}
Bound (t ∷ ts) = (t.1.free ≡ false) × Bound ts

-- a token at no place, that the limits bind
abbrev pub at_zero : At
at_zero = record { from = 0; to = 0; free = false }

abbrev pub RoomFor : Limits → ℕ → ℕ → Type 0
RoomFor lim o k = Room lim at_zero o k

pub expr_bound : {lim : Limits} {o k t : ℕ} {l : Level} {ts us : List Item} {a : Operand} → Expr lim o k l ts a t us → Bound ts → Bound us
expr_bound (grammar.Expr.leaf h) b = b.1
expr_bound (grammar.Expr.unit room) b = b.1.1
expr_bound (grammar.Expr.bracket room d) b = (expr_bound d b.1).1
expr_bound (grammar.Expr.atom d) b = expr_bound d b
expr_bound (grammar.Expr.times d room f) b = expr_bound f (expr_bound d b).1
expr_bound (grammar.Expr.product d) b = expr_bound d b
expr_bound (grammar.Expr.plus is d room f) b = expr_bound f (expr_bound d b).1
expr_bound (grammar.Expr.sum d) b = expr_bound d b
expr_bound (grammar.Expr.compare is d room f) b = expr_bound f (expr_bound d b).1

pub pattern_bound : {lim : Limits} {o k t : ℕ} {l : Level} {ts us : List Item} {p : tree.Pattern} → Pattern lim o k l ts p t us → Bound ts → Bound us
pattern_bound (grammar.Pattern.number is) b = b.1
pattern_bound grammar.Pattern.tag b = b.1
pattern_bound (grammar.Pattern.bracket room d) b = (pattern_bound d b.1).1
pattern_bound (grammar.Pattern.star room d) b = pattern_bound d b.1
pattern_bound (grammar.Pattern.factor d) b = pattern_bound d b
pattern_bound (grammar.Pattern.dot d room f) b = pattern_bound f (pattern_bound d b).1
pattern_bound (grammar.Pattern.product d) b = pattern_bound d b
pattern_bound (grammar.Pattern.plus d room f) b = pattern_bound f (pattern_bound d b).1

-- room for a bound token, where no more is open
pub room_less : (lim : Limits) (w : At) (o k c j : ℕ) → w.free ≡ false → c + j ≤ o + k → Room lim w o k → RoomFor lim c j
room_less lim w o k c j free le room =
    let strict : nat_lt (o + k) lim.tokens ≡ true = ap (λ (b : Bool). b || nat_lt (o + k) lim.tokens) (sym free) ∙ room in
    lt-ltb (c + j) lim.tokens (let l = ltb-true (o + k) lim.tokens strict in omega arith)

pub below_less : (lim : Limits) (w : At) (s r : ℕ) → w.free ≡ false → r ≤ s → RoomBelow lim w s → RoomBelow lim at_zero r
below_less lim w s r free le room =
    let strict : nat_lt s lim.statements ≡ true = ap (λ (b : Bool). b || nat_lt s lim.statements) (sym free) ∙ room in
    lt-ltb r lim.statements (let l = ltb-true s lim.statements strict in omega arith)

pub never : {P : Type 0} → false ≡ true → P
never h = absurd cc

not_both : {P : Type 0} (b : Bool) → b ≡ false → b ≡ true → P
not_both b h g = absurd cc

-- in a bracket, if one is needed
abbrev pub FitsPart : Bool → (ℕ → ℕ → Type 0) → Limits → ℕ → ℕ → Type 0
FitsPart true fits lim o k = RoomFor lim o k × fits (suc o) k
FitsPart false fits lim o k = fits o k

part_fits : (b : Bool) (lim : Limits) (fits : ℕ → ℕ → Type 0) (c j : ℕ) → fits c j → (b ≡ true → RoomFor lim c j × fits (suc c) j) → FitsPart b fits lim c j
part_fits true lim fits c j f g = g refl
part_fits false lim fits c j f g = f

-- ---- expressions

abbrev pub Fits : Limits → tree.Expr → ℕ → ℕ → Type 0
Fits lim (tree.UnitExpr at) o k = RoomFor lim o k
Fits lim (tree.OpExpr op a b at) o k = FitsPart (opens_left op a) (Fits lim a) lim o k × RoomFor lim o (k + operators a) × FitsPart (opens_right op b) (Fits lim b) lim o (suc (k + operators a))
Fits lim _ o k = Unit {0}

abbrev opens_at : Level → tree.Expr → Bool
opens_at Atom e = opens_atom e
opens_at Product e = opens_product e
opens_at Sum e = opens_sum e
opens_at Whole e = false

-- wherever no more is open
abbrev FitsBelow : Limits → Level → ℕ → ℕ → tree.Expr → Type 0
FitsBelow lim l o k e = (c j : ℕ) → c + j ≤ o + k → Fits lim e c j × (opens_at l e ≡ true → RoomFor lim c j × Fits lim e (suc c) j)

product_opens : (e : tree.Expr) → opens_product e ≡ true → opens_atom e ≡ true
product_opens (tree.OpExpr op a b at) h = refl
product_opens (tree.VarExpr x at) h = h
product_opens (tree.UnitExpr at) h = h
product_opens (tree.BoolExpr x at) h = h
product_opens (tree.IntExpr x at) h = h
product_opens (tree.StrExpr x at) h = h

sum_opens : (e : tree.Expr) → opens_sum e ≡ true → opens_product e ≡ true
sum_opens (tree.OpExpr Add a b at) h = refl
sum_opens (tree.OpExpr Sub a b at) h = refl
sum_opens (tree.OpExpr Mul a b at) h = h
sum_opens (tree.OpExpr Equal a b at) h = refl
sum_opens (tree.OpExpr Less a b at) h = refl
sum_opens (tree.VarExpr x at) h = h
sum_opens (tree.UnitExpr at) h = h
sum_opens (tree.BoolExpr x at) h = h
sum_opens (tree.IntExpr x at) h = h
sum_opens (tree.StrExpr x at) h = h

-- the brackets of the parts, by the operator's token
data Adds : Op → Type 0 where
  adds : Adds Add
  subtracts : Adds Sub

data Compares : Op → Type 0 where
  equates : Compares Equal
  orders : Compares Less

additive_adds : (c : Token) (op : Op) → additive c ≡ Some op → Adds op
additive_adds (Mark mark.Plus) op h = let e : Add ≡ op = cc in subst Adds e adds
additive_adds (Mark mark.Minus) op h = let e : Sub ≡ op = cc in subst Adds e subtracts
additive_adds _ op h = absurd cc

comparison_compares : (c : Token) (op : Op) → comparison c ≡ Some op → Compares op
comparison_compares (Mark mark.DoubleEquals) op h = let e : Equal ≡ op = cc in subst Compares e equates
comparison_compares (Mark mark.Less) op h = let e : Less ≡ op = cc in subst Compares e orders
comparison_compares _ op h = absurd cc

both_fit : (lim : Limits) (w : At) (op : Op) (a b : tree.Expr) (at : tree.Span) (l r : Level) (o k : ℕ) → w.free ≡ false → opens_left op a ≡ opens_at l a → opens_right op b ≡ opens_at r b → Room lim w o (k + operators a) → FitsBelow lim l o k a → FitsBelow lim r o (suc (k + operators a)) b → (c j : ℕ) → c + j ≤ o + k → Fits lim (tree.OpExpr op a b at) c j
both_fit lim w op a b at l r o k free hl hr room f g c j le =
    let x = f c j le in
    let y = g c (suc (j + operators a)) (omega arith) in
    let left = subst (λ (v : Bool). FitsPart v (Fits lim a) lim c j) (sym hl) (part_fits (opens_at l a) lim (Fits lim a) c j x.0 x.1) in
    let right = subst (λ (v : Bool). FitsPart v (Fits lim b) lim c (suc (j + operators a))) (sym hr) (part_fits (opens_at r b) lim (Fits lim b) c (suc (j + operators a)) y.0 y.1) in
    (left, room_less lim w o (k + operators a) c (j + operators a) free (omega arith) room, right)

plus_fit : (lim : Limits) (w : At) (op : Op) (a b : tree.Expr) (at : tree.Span) (o k : ℕ) → Adds op → w.free ≡ false → Room lim w o (k + operators a) → FitsBelow lim Sum o k a → FitsBelow lim Product o (suc (k + operators a)) b → FitsBelow lim Sum o k (tree.OpExpr op a b at)
plus_fit lim w op a b at o k adds free room f g = λ c j le. (both_fit lim w Add a b at Sum Product o k free refl refl room f g c j le, λ h. never h)
plus_fit lim w op a b at o k subtracts free room f g = λ c j le. (both_fit lim w Sub a b at Sum Product o k free refl refl room f g c j le, λ h. never h)

compare_fit : (lim : Limits) (w : At) (op : Op) (a b : tree.Expr) (at : tree.Span) (o k : ℕ) → Compares op → w.free ≡ false → Room lim w o (k + operators a) → FitsBelow lim Sum o k a → FitsBelow lim Sum o (suc (k + operators a)) b → FitsBelow lim Whole o k (tree.OpExpr op a b at)
compare_fit lim w op a b at o k equates free room f g = λ c j le. (both_fit lim w Equal a b at Sum Sum o k free refl refl room f g c j le, λ h. never h)
compare_fit lim w op a b at o k orders free room f g = λ c j le. (both_fit lim w Less a b at Sum Sum o k free refl refl room f g c j le, λ h. never h)

leaf_fits : (lim : Limits) (l : Level) (c : Token) (at : tree.Span) (e : tree.Expr) (o k : ℕ) → literal c at ≡ Some e → FitsBelow lim Atom o k e
leaf_fits lim l (Name x) at e o k h = let g : tree.VarExpr x at ≡ e = cc in subst (λ (v : tree.Expr). FitsBelow lim Atom o k v) g (λ c j le. (tt, λ q. never q))
leaf_fits lim l (Integer n) at e o k h = let g : tree.IntExpr n at ≡ e = cc in subst (λ (v : tree.Expr). FitsBelow lim Atom o k v) g (λ c j le. (tt, λ q. never q))
leaf_fits lim l (Str x) at e o k h = let g : tree.StrExpr x at ≡ e = cc in subst (λ (v : tree.Expr). FitsBelow lim Atom o k v) g (λ c j le. (tt, λ q. never q))
leaf_fits lim l (Word word.TrueWord) at e o k h = let g : tree.BoolExpr true at ≡ e = cc in subst (λ (v : tree.Expr). FitsBelow lim Atom o k v) g (λ c j le. (tt, λ q. never q))
leaf_fits lim l (Word word.FalseWord) at e o k h = let g : tree.BoolExpr false at ≡ e = cc in subst (λ (v : tree.Expr). FitsBelow lim Atom o k v) g (λ c j le. (tt, λ q. never q))
leaf_fits lim l _ at e o k h = absurd cc

pub expr_fits : (lim : Limits) {o k t : ℕ} {l : Level} {ts us : List Item} {a : Operand} → Expr lim o k l ts a t us → Bound ts → FitsBelow lim l o k a.0
expr_fits lim {o = o} {k = k} (grammar.Expr.leaf {c = c} {w = w} {e = e} h) b = leaf_fits lim Atom c (place_of w) e o k h
expr_fits lim {o = o} {k = k} (grammar.Expr.unit {w = w} room) b = λ c j le. (room_less lim w o k c j b.0 le room, λ h. never h)
expr_fits lim {o = o} {k = k} (grammar.Expr.bracket {w = w} room d) b = λ c j le. ((expr_fits lim d b.1 c j (omega arith)).0, λ h. (room_less lim w o k c j b.0 le room, (expr_fits lim d b.1 (suc c) j (omega arith)).0))
expr_fits lim (grammar.Expr.atom {a = a} d) b = λ c j le. let f = expr_fits lim d b c j le in (f.0, λ h. f.1 (product_opens a.0 h))
expr_fits lim {o = o} {k = k} (grammar.Expr.times {t = t} {w = w} {a = a} {b = e} d room f) b =
    let m = expr_bound d b in
    λ c j le. (both_fit lim w Mul a.0 e.0 (tree.span a.1 t) Product Atom o k m.0 refl refl room (expr_fits lim d b) (expr_fits lim f m.1) c j le, λ h. never h)
expr_fits lim (grammar.Expr.product {a = a} d) b = λ c j le. let f = expr_fits lim d b c j le in (f.0, λ h. f.1 (sum_opens a.0 h))
expr_fits lim {o = o} {k = k} (grammar.Expr.plus {t = t} {c = i} {op = op} {w = w} {a = a} {b = e} is d room f) b =
    let m = expr_bound d b in
    plus_fit lim w op a.0 e.0 (tree.span a.1 t) o k (additive_adds i op is) m.0 room (expr_fits lim d b) (expr_fits lim f m.1)
expr_fits lim (grammar.Expr.sum d) b = λ c j le. ((expr_fits lim d b c j le).0, λ h. never h)
expr_fits lim {o = o} {k = k} (grammar.Expr.compare {t = t} {c = i} {op = op} {w = w} {a = a} {b = e} is d room f) b =
    let m = expr_bound d b in
    compare_fit lim w op a.0 e.0 (tree.span a.1 t) o k (comparison_compares i op is) m.0 room (expr_fits lim d b) (expr_fits lim f m.1)

-- ---- patterns

abbrev pub PatternFits : Limits → tree.Pattern → ℕ → ℕ → Type 0
PatternFits lim (tree.SumPattern p q) o k = PatternFits lim p o k × RoomFor lim o (k + pattern_operators p) × FitsPart (opens_sum_pattern q) (PatternFits lim q) lim o (suc (k + pattern_operators p))
PatternFits lim (tree.ProdPattern p q) o k = FitsPart (opens_sum_pattern p) (PatternFits lim p) lim o k × RoomFor lim o (k + pattern_operators p) × FitsPart (opens_factor q) (PatternFits lim q) lim o (suc (k + pattern_operators p))
PatternFits lim (tree.StarPattern p) o k = RoomFor lim o k × FitsPart (opens_factor p) (PatternFits lim p) lim o (suc k)
PatternFits lim _ o k = Unit {0}

abbrev pattern_opens : Level → tree.Pattern → Bool
pattern_opens Atom p = opens_factor p
pattern_opens Product p = opens_sum_pattern p
pattern_opens Sum p = false
pattern_opens Whole p = false

abbrev PatternBelow : Limits → Level → ℕ → ℕ → tree.Pattern → Type 0
PatternBelow lim l o k p = (c j : ℕ) → c + j ≤ o + k → PatternFits lim p c j × (pattern_opens l p ≡ true → RoomFor lim c j × PatternFits lim p (suc c) j)

sum_factor : (p : tree.Pattern) → opens_sum_pattern p ≡ true → opens_factor p ≡ true
sum_factor (tree.SumPattern p q) h = refl
sum_factor (tree.ProdPattern p q) h = refl
sum_factor (tree.ZeroPattern at) h = h
sum_factor (tree.OnePattern at) h = h
sum_factor (tree.TagPattern x) h = h
sum_factor (tree.StarPattern p) h = h

number_zero : (lim : Limits) (b : Bool) (at : tree.Span) (r : Option tree.Pattern) (p : tree.Pattern) (o k : ℕ) → (r ≡ Some p → PatternBelow lim Atom o k p) → (if b then Some (tree.ZeroPattern at) else r) ≡ Some p → PatternBelow lim Atom o k p
number_zero lim true at r p o k f h = let g : tree.ZeroPattern at ≡ p = cc in subst (λ (v : tree.Pattern). PatternBelow lim Atom o k v) g (λ c j le. (tt, λ q. never q))
number_zero lim false at r p o k f h = f h

number_one : (lim : Limits) (b : Bool) (at : tree.Span) (p : tree.Pattern) (o k : ℕ) → (if b then Some (tree.OnePattern at) else None) ≡ Some p → PatternBelow lim Atom o k p
number_one lim true at p o k h = let g : tree.OnePattern at ≡ p = cc in subst (λ (v : tree.Pattern). PatternBelow lim Atom o k v) g (λ c j le. (tt, λ q. never q))
number_one lim false at p o k h = absurd cc

number_fits : (lim : Limits) (n : ℤ) (at : tree.Span) (p : tree.Pattern) (o k : ℕ) → constant n at ≡ Some p → PatternBelow lim Atom o k p
number_fits lim n at p o k h = number_zero lim (int_eq n (pos 0)) at _ p o k (λ g. number_one lim (int_eq n (pos 1)) at p o k g) h

pub pattern_fits : (lim : Limits) {o k t : ℕ} {l : Level} {ts us : List Item} {p : tree.Pattern} → Pattern lim o k l ts p t us → Bound ts → PatternBelow lim l o k p
pattern_fits lim {o = o} {k = k} (grammar.Pattern.number {n = n} {w = w} {p = p} is) b = number_fits lim n (place_of w) p o k is
pattern_fits lim grammar.Pattern.tag b = λ c j le. (tt, λ h. never h)
pattern_fits lim {o = o} {k = k} (grammar.Pattern.bracket {w = w} room d) b = λ c j le. ((pattern_fits lim d b.1 c j (omega arith)).0, λ h. (room_less lim w o k c j b.0 le room, (pattern_fits lim d b.1 (suc c) j (omega arith)).0))
pattern_fits lim {o = o} {k = k} (grammar.Pattern.star {w = w} {p = p} room d) b = λ c j le.
    let f = pattern_fits lim d b.1 c (suc j) (omega arith) in
    ((room_less lim w o k c j b.0 le room, part_fits (opens_factor p) lim (PatternFits lim p) c (suc j) f.0 f.1), λ h. never h)
pattern_fits lim (grammar.Pattern.factor {p = p} d) b = λ c j le. let f = pattern_fits lim d b c j le in (f.0, λ h. f.1 (sum_factor p h))
pattern_fits lim {o = o} {k = k} (grammar.Pattern.dot {w = w} {p = p} {q = q} d room e) b =
    let m = pattern_bound d b in
    λ c j le.
    let x = pattern_fits lim d b c j le in
    let y = pattern_fits lim e m.1 c (suc (j + pattern_operators p)) (omega arith) in
    ((part_fits (opens_sum_pattern p) lim (PatternFits lim p) c j x.0 x.1, room_less lim w o (k + pattern_operators p) c (j + pattern_operators p) m.0 (omega arith) room, part_fits (opens_factor q) lim (PatternFits lim q) c (suc (j + pattern_operators p)) y.0 y.1), λ h. never h)
pattern_fits lim (grammar.Pattern.product d) b = λ c j le. ((pattern_fits lim d b c j le).0, λ h. never h)
pattern_fits lim {o = o} {k = k} (grammar.Pattern.plus {w = w} {p = p} {q = q} d room e) b =
    let m = pattern_bound d b in
    λ c j le.
    let x = pattern_fits lim d b c j le in
    let y = pattern_fits lim e m.1 c (suc (j + pattern_operators p)) (omega arith) in
    ((x.0, room_less lim w o (k + pattern_operators p) c (j + pattern_operators p) m.0 (omega arith) room, part_fits (opens_sum_pattern q) lim (PatternFits lim q) c (suc (j + pattern_operators p)) y.0 y.1), λ h. never h)
