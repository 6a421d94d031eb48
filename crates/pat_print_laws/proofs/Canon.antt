-- The canonical tokens of a tree that some tokens spell, spell it, its places aside.
use Rattle.std.proofs.Common.{◌≡◌, ℕ, suc, ◌+◌, Bool, true, false, List, [], ◌∷◌, ◌++◌, map, Some, None, refl, sym, ap, subst, ◌∙◌, append_assoc}
use Rattle.std.specs.Prelude.{◌||◌}
use Rattle.std.proofs.lemmas.List.{append-nil}
use Rattle.pat_lexer_spec.specs.Marks as mark
use Rattle.pat_lexer_spec.specs.Tokens.{Word, Mark}
use Rattle.pat_semantics_spec.specs.Values.{Base, BaseUnit, BaseBool, BaseInt, BaseText, Add, Sub, Mul, Equal, Less}
use Rattle.pat_semantics_spec.specs.Programs.{Polarity, Sending, Receiving}
use Rattle.pat_parser_spec.specs.Trees as tree
use Rattle.pat_parser_spec.specs.Trees.{operators, pattern_operators, listed, no_clauses, with_clause}
use Rattle.pat_parser_spec.specs.Items.{Item, Limits, base_named, polarity_of}
use Rattle.pat_parser_spec.specs.Grammar as grammar
use Rattle.pat_parser_spec.specs.Grammar.{Level, Atom, Product, Sum, Whole, Operand, Expr, Pattern, Separated, one, more, Optional, none, some, Arg, Binder, binder, Part, Simple, Any, Term, value, print, new, spawn, free, send, call, branch, guard, block, simple, then, bind, Clauses, no_clause, fail_clause, free_clause, receive_clause, WrittenType, base, mailbox, short, Message, message, Param, param, Decls, no_decl, interface, function, Spells}
use Rattle.pat_print_spec.specs.Bare.{nowhere, bare_name, bare_pattern, bare_type, bare_expr, bare_term, bare_clause, bare_clauses, bare_message, bare_param, bare_decl, bare}
use Rattle.pat_print_spec.specs.Canonical.{Tok, Blank, Line, Pieces, Onto, name_onto, bracketed, braced, more_onto, list_onto, opens_atom, opens_product, opens_sum, expr_onto, opens_factor, opens_sum_pattern, pattern_onto, base_word, polarity_mark, type_onto, opens_simple, term_onto, clause_onto, clauses_onto, message_onto, param_onto, decl_onto, tree_onto, canonical}
use Rattle.pat_print_laws.proofs.Fits.{Bound, at_zero, RoomFor, Fits, FitsPart, PatternFits}
use Rattle.pat_print_laws.proofs.FitsTerm.{Each, any, FitsSimple, any_clause, TermFits, ClauseFits, ClausesFit, TypeFits, MessageFits, ParamFits, DeclFits, decls_fit}

-- the tokens of pieces, at no place
abbrev pub items_of : Pieces → List Item
items_of [] = []
items_of (Tok c ∷ r) = (c, at_zero) ∷ items_of r
items_of (Blank ∷ r) = items_of r
items_of (Line ∷ r) = items_of r

-- ---- expressions

pub bare_operators : (e : tree.Expr) → operators (bare_expr e) ≡ operators e
bare_operators (tree.OpExpr op a b at) = ap (λ (n : ℕ). suc (n + operators (bare_expr b))) (bare_operators a) ∙ ap (λ (n : ℕ). suc (operators a + n)) (bare_operators b)
bare_operators (tree.VarExpr x at) = refl
bare_operators (tree.UnitExpr at) = refl
bare_operators (tree.BoolExpr x at) = refl
bare_operators (tree.IntExpr x at) = refl
bare_operators (tree.StrExpr x at) = refl

abbrev level_of : tree.Expr → Level
level_of (tree.OpExpr Mul a b at) = Product
level_of (tree.OpExpr Add a b at) = Sum
level_of (tree.OpExpr Sub a b at) = Sum
level_of (tree.OpExpr Equal a b at) = Whole
level_of (tree.OpExpr Less a b at) = Whole
level_of _ = Atom

abbrev bared : tree.Expr → Operand
bared e = (bare_expr e, 0)

to_whole : {lim : Limits} {o k : ℕ} {ts us : List Item} (e : tree.Expr) {a : Operand} → Expr lim o k (level_of e) ts a 0 us → Expr lim o k Whole ts a 0 us
to_whole (tree.OpExpr Mul a b at) d = grammar.Expr.sum (grammar.Expr.product d)
to_whole (tree.OpExpr Add a b at) d = grammar.Expr.sum d
to_whole (tree.OpExpr Sub a b at) d = grammar.Expr.sum d
to_whole (tree.OpExpr Equal a b at) d = d
to_whole (tree.OpExpr Less a b at) d = d
to_whole (tree.VarExpr x at) d = grammar.Expr.sum (grammar.Expr.product (grammar.Expr.atom d))
to_whole (tree.UnitExpr at) d = grammar.Expr.sum (grammar.Expr.product (grammar.Expr.atom d))
to_whole (tree.BoolExpr x at) d = grammar.Expr.sum (grammar.Expr.product (grammar.Expr.atom d))
to_whole (tree.IntExpr x at) d = grammar.Expr.sum (grammar.Expr.product (grammar.Expr.atom d))
to_whole (tree.StrExpr x at) d = grammar.Expr.sum (grammar.Expr.product (grammar.Expr.atom d))

abbrev CanonExpr : Limits → tree.Expr → Type 0
CanonExpr lim e = (o k : ℕ) (r : Pieces) → Fits lim e o k → Expr lim o k (level_of e) (items_of (expr_onto e r)) (bared e) 0 (items_of r)

in_bracket_of : {lim : Limits} (o k : ℕ) (r : Pieces) (e : tree.Expr) → CanonExpr lim e → RoomFor lim o k × Fits lim e (suc o) k → Expr lim o k Atom (items_of (bracketed true (expr_onto e) r)) (bared e) 0 (items_of r)
in_bracket_of o k r e d f = grammar.Expr.bracket f.0 (to_whole e (d (suc o) k (Tok (Mark mark.RoundClose) ∷ r) f.1))

as_atom : {lim : Limits} (o k : ℕ) (r : Pieces) (e : tree.Expr) → CanonExpr lim e → FitsPart (opens_atom e) (Fits lim e) lim o k → Expr lim o k Atom (items_of (bracketed (opens_atom e) (expr_onto e) r)) (bared e) 0 (items_of r)
as_atom o k r (tree.OpExpr op a b at) d f = in_bracket_of o k r (tree.OpExpr op a b at) d f
as_atom o k r (tree.VarExpr x at) d f = d o k r f
as_atom o k r (tree.UnitExpr at) d f = d o k r f
as_atom o k r (tree.BoolExpr x at) d f = d o k r f
as_atom o k r (tree.IntExpr x at) d f = d o k r f
as_atom o k r (tree.StrExpr x at) d f = d o k r f

as_product : {lim : Limits} (o k : ℕ) (r : Pieces) (e : tree.Expr) → CanonExpr lim e → FitsPart (opens_product e) (Fits lim e) lim o k → Expr lim o k Product (items_of (bracketed (opens_product e) (expr_onto e) r)) (bared e) 0 (items_of r)
as_product o k r (tree.OpExpr Mul a b at) d f = d o k r f
as_product o k r (tree.OpExpr Add a b at) d f = grammar.Expr.atom (in_bracket_of o k r (tree.OpExpr Add a b at) d f)
as_product o k r (tree.OpExpr Sub a b at) d f = grammar.Expr.atom (in_bracket_of o k r (tree.OpExpr Sub a b at) d f)
as_product o k r (tree.OpExpr Equal a b at) d f = grammar.Expr.atom (in_bracket_of o k r (tree.OpExpr Equal a b at) d f)
as_product o k r (tree.OpExpr Less a b at) d f = grammar.Expr.atom (in_bracket_of o k r (tree.OpExpr Less a b at) d f)
as_product o k r (tree.VarExpr x at) d f = grammar.Expr.atom (d o k r f)
as_product o k r (tree.UnitExpr at) d f = grammar.Expr.atom (d o k r f)
as_product o k r (tree.BoolExpr x at) d f = grammar.Expr.atom (d o k r f)
as_product o k r (tree.IntExpr x at) d f = grammar.Expr.atom (d o k r f)
as_product o k r (tree.StrExpr x at) d f = grammar.Expr.atom (d o k r f)

as_sum : {lim : Limits} (o k : ℕ) (r : Pieces) (e : tree.Expr) → CanonExpr lim e → FitsPart (opens_sum e) (Fits lim e) lim o k → Expr lim o k Sum (items_of (bracketed (opens_sum e) (expr_onto e) r)) (bared e) 0 (items_of r)
as_sum o k r (tree.OpExpr Mul a b at) d f = grammar.Expr.product (d o k r f)
as_sum o k r (tree.OpExpr Add a b at) d f = d o k r f
as_sum o k r (tree.OpExpr Sub a b at) d f = d o k r f
as_sum o k r (tree.OpExpr Equal a b at) d f = grammar.Expr.product (grammar.Expr.atom (in_bracket_of o k r (tree.OpExpr Equal a b at) d f))
as_sum o k r (tree.OpExpr Less a b at) d f = grammar.Expr.product (grammar.Expr.atom (in_bracket_of o k r (tree.OpExpr Less a b at) d f))
as_sum o k r (tree.VarExpr x at) d f = grammar.Expr.product (grammar.Expr.atom (d o k r f))
as_sum o k r (tree.UnitExpr at) d f = grammar.Expr.product (grammar.Expr.atom (d o k r f))
as_sum o k r (tree.BoolExpr x at) d f = grammar.Expr.product (grammar.Expr.atom (d o k r f))
as_sum o k r (tree.IntExpr x at) d f = grammar.Expr.product (grammar.Expr.atom (d o k r f))
as_sum o k r (tree.StrExpr x at) d f = grammar.Expr.product (grammar.Expr.atom (d o k r f))

-- behind the first part, by its operators without places
behind : (lim : Limits) (o k : ℕ) (q : Bool) (a b : tree.Expr) → RoomFor lim o (k + operators a) × FitsPart q (Fits lim b) lim o (suc (k + operators a)) → RoomFor lim o (k + operators (bare_expr a)) × FitsPart q (Fits lim b) lim o (suc (k + operators (bare_expr a)))
behind lim o k q a b f = subst (λ (n : ℕ). RoomFor lim o (k + n) × FitsPart q (Fits lim b) lim o (suc (k + n))) (sym (bare_operators a)) f

pub expr_canon : (lim : Limits) (e : tree.Expr) → CanonExpr lim e
expr_canon lim (tree.VarExpr x at) o k r f = grammar.Expr.leaf refl
expr_canon lim (tree.UnitExpr at) o k r f = grammar.Expr.unit f
expr_canon lim (tree.BoolExpr true at) o k r f = grammar.Expr.leaf refl
expr_canon lim (tree.BoolExpr false at) o k r f = grammar.Expr.leaf refl
expr_canon lim (tree.IntExpr n at) o k r f = grammar.Expr.leaf refl
expr_canon lim (tree.StrExpr x at) o k r f = grammar.Expr.leaf refl
expr_canon lim (tree.OpExpr Mul a b at) o k r f =
    let g = behind lim o k (opens_atom b) a b (f.1, f.2) in
    grammar.Expr.times (as_product o k _ a (expr_canon lim a) f.0) g.0 (as_atom o (suc (k + operators (bare_expr a))) r b (expr_canon lim b) g.1)
expr_canon lim (tree.OpExpr Add a b at) o k r f =
    let g = behind lim o k (opens_product b) a b (f.1, f.2) in
    grammar.Expr.plus refl (as_sum o k _ a (expr_canon lim a) f.0) g.0 (as_product o (suc (k + operators (bare_expr a))) r b (expr_canon lim b) g.1)
expr_canon lim (tree.OpExpr Sub a b at) o k r f =
    let g = behind lim o k (opens_product b) a b (f.1, f.2) in
    grammar.Expr.plus refl (as_sum o k _ a (expr_canon lim a) f.0) g.0 (as_product o (suc (k + operators (bare_expr a))) r b (expr_canon lim b) g.1)
expr_canon lim (tree.OpExpr Equal a b at) o k r f =
    let g = behind lim o k (opens_sum b) a b (f.1, f.2) in
    grammar.Expr.compare refl (as_sum o k _ a (expr_canon lim a) f.0) g.0 (as_sum o (suc (k + operators (bare_expr a))) r b (expr_canon lim b) g.1)
expr_canon lim (tree.OpExpr Less a b at) o k r f =
    let g = behind lim o k (opens_sum b) a b (f.1, f.2) in
    grammar.Expr.compare refl (as_sum o k _ a (expr_canon lim a) f.0) g.0 (as_sum o (suc (k + operators (bare_expr a))) r b (expr_canon lim b) g.1)

pub whole_canon : (lim : Limits) (o k : ℕ) (r : Pieces) (e : tree.Expr) → Fits lim e o k → Expr lim o k Whole (items_of (expr_onto e r)) (bared e) 0 (items_of r)
whole_canon lim o k r e f = to_whole e (expr_canon lim e o k r f)

-- ---- patterns

pub bare_pattern_operators : (p : tree.Pattern) → pattern_operators (bare_pattern p) ≡ pattern_operators p
bare_pattern_operators (tree.SumPattern p q) = ap (λ (n : ℕ). suc (n + pattern_operators (bare_pattern q))) (bare_pattern_operators p) ∙ ap (λ (n : ℕ). suc (pattern_operators p + n)) (bare_pattern_operators q)
bare_pattern_operators (tree.ProdPattern p q) = ap (λ (n : ℕ). suc (n + pattern_operators (bare_pattern q))) (bare_pattern_operators p) ∙ ap (λ (n : ℕ). suc (pattern_operators p + n)) (bare_pattern_operators q)
bare_pattern_operators (tree.StarPattern p) = ap suc (bare_pattern_operators p)
bare_pattern_operators (tree.ZeroPattern at) = refl
bare_pattern_operators (tree.OnePattern at) = refl
bare_pattern_operators (tree.TagPattern x) = refl

abbrev pattern_level : tree.Pattern → Level
pattern_level (tree.SumPattern p q) = Whole
pattern_level (tree.ProdPattern p q) = Product
pattern_level _ = Atom

pattern_whole : {lim : Limits} {o k : ℕ} {ts us : List Item} (p : tree.Pattern) {q : tree.Pattern} → Pattern lim o k (pattern_level p) ts q 0 us → Pattern lim o k Whole ts q 0 us
pattern_whole (tree.SumPattern p q) d = d
pattern_whole (tree.ProdPattern p q) d = grammar.Pattern.product d
pattern_whole (tree.StarPattern p) d = grammar.Pattern.product (grammar.Pattern.factor d)
pattern_whole (tree.ZeroPattern at) d = grammar.Pattern.product (grammar.Pattern.factor d)
pattern_whole (tree.OnePattern at) d = grammar.Pattern.product (grammar.Pattern.factor d)
pattern_whole (tree.TagPattern x) d = grammar.Pattern.product (grammar.Pattern.factor d)

abbrev CanonPattern : Limits → tree.Pattern → Type 0
CanonPattern lim p = (o k : ℕ) (r : Pieces) → PatternFits lim p o k → Pattern lim o k (pattern_level p) (items_of (pattern_onto p r)) (bare_pattern p) 0 (items_of r)

pattern_bracket : {lim : Limits} (o k : ℕ) (r : Pieces) (p : tree.Pattern) → CanonPattern lim p → RoomFor lim o k × PatternFits lim p (suc o) k → Pattern lim o k Atom (items_of (bracketed true (pattern_onto p) r)) (bare_pattern p) 0 (items_of r)
pattern_bracket o k r p d f = grammar.Pattern.bracket f.0 (pattern_whole p (d (suc o) k (Tok (Mark mark.RoundClose) ∷ r) f.1))

as_factor : {lim : Limits} (o k : ℕ) (r : Pieces) (p : tree.Pattern) → CanonPattern lim p → FitsPart (opens_factor p) (PatternFits lim p) lim o k → Pattern lim o k Atom (items_of (bracketed (opens_factor p) (pattern_onto p) r)) (bare_pattern p) 0 (items_of r)
as_factor o k r (tree.SumPattern p q) d f = pattern_bracket o k r (tree.SumPattern p q) d f
as_factor o k r (tree.ProdPattern p q) d f = pattern_bracket o k r (tree.ProdPattern p q) d f
as_factor o k r (tree.StarPattern p) d f = d o k r f
as_factor o k r (tree.ZeroPattern at) d f = d o k r f
as_factor o k r (tree.OnePattern at) d f = d o k r f
as_factor o k r (tree.TagPattern x) d f = d o k r f

as_pattern_product : {lim : Limits} (o k : ℕ) (r : Pieces) (p : tree.Pattern) → CanonPattern lim p → FitsPart (opens_sum_pattern p) (PatternFits lim p) lim o k → Pattern lim o k Product (items_of (bracketed (opens_sum_pattern p) (pattern_onto p) r)) (bare_pattern p) 0 (items_of r)
as_pattern_product o k r (tree.SumPattern p q) d f = grammar.Pattern.factor (pattern_bracket o k r (tree.SumPattern p q) d f)
as_pattern_product o k r (tree.ProdPattern p q) d f = d o k r f
as_pattern_product o k r (tree.StarPattern p) d f = grammar.Pattern.factor (d o k r f)
as_pattern_product o k r (tree.ZeroPattern at) d f = grammar.Pattern.factor (d o k r f)
as_pattern_product o k r (tree.OnePattern at) d f = grammar.Pattern.factor (d o k r f)
as_pattern_product o k r (tree.TagPattern x) d f = grammar.Pattern.factor (d o k r f)

behind_pattern : (lim : Limits) (o k : ℕ) (c : Bool) (p q : tree.Pattern) → RoomFor lim o (k + pattern_operators p) × FitsPart c (PatternFits lim q) lim o (suc (k + pattern_operators p)) → RoomFor lim o (k + pattern_operators (bare_pattern p)) × FitsPart c (PatternFits lim q) lim o (suc (k + pattern_operators (bare_pattern p)))
behind_pattern lim o k c p q f = subst (λ (n : ℕ). RoomFor lim o (k + n) × FitsPart c (PatternFits lim q) lim o (suc (k + n))) (sym (bare_pattern_operators p)) f

pub pattern_canon : (lim : Limits) (p : tree.Pattern) → CanonPattern lim p
pattern_canon lim (tree.ZeroPattern at) o k r f = grammar.Pattern.number refl
pattern_canon lim (tree.OnePattern at) o k r f = grammar.Pattern.number refl
pattern_canon lim (tree.TagPattern x) o k r f = grammar.Pattern.tag
pattern_canon lim (tree.StarPattern p) o k r f = grammar.Pattern.star f.0 (as_factor o (suc k) r p (pattern_canon lim p) f.1)
pattern_canon lim (tree.ProdPattern p q) o k r f =
    let g = behind_pattern lim o k (opens_factor q) p q (f.1, f.2) in
    grammar.Pattern.dot (as_pattern_product o k _ p (pattern_canon lim p) f.0) g.0 (as_factor o (suc (k + pattern_operators (bare_pattern p))) r q (pattern_canon lim q) g.1)
pattern_canon lim (tree.SumPattern p q) o k r f =
    let g = behind_pattern lim o k (opens_sum_pattern q) p q (f.1, f.2) in
    grammar.Pattern.plus (pattern_whole p (pattern_canon lim p o k _ f.0)) g.0 (as_pattern_product o (suc (k + pattern_operators (bare_pattern p))) r q (pattern_canon lim q) g.1)

-- ---- lists

list_more : {A : Type 0} {One : List Item → A → List Item → Type 0} (f : A → Onto) (b : A → A) (P : A → Type 0) → ((x : A) (r : Pieces) → P x → One (items_of (f x r)) (b x) (items_of r)) → {ts : List Item} {ys : List A} (xs : List A) (r : Pieces) → Each P xs → Separated One ts ys (items_of (more_onto f xs r)) → Separated One ts (ys ++ map b xs) (items_of r)
list_more {One = One} f b P h {ts = ts} {ys = ys} [] r e d = subst (λ (w : List _). Separated One ts w (items_of r)) (sym (append-nil ys)) d
list_more {One = One} f b P h {ts = ts} {ys = ys} (x ∷ xs) r e d =
    subst (λ (w : List _). Separated One ts w (items_of r)) (append_assoc ys (b x ∷ []) (map b xs)) (list_more f b P h xs r e.1 (more d (h x (more_onto f xs r) e.0)))

list_some : {A : Type 0} {One : List Item → A → List Item → Type 0} (f : A → Onto) (b : A → A) (P : A → Type 0) → ((x : A) (r : Pieces) → P x → One (items_of (f x r)) (b x) (items_of r)) → (x : A) (xs : List A) (r : Pieces) → Each P (x ∷ xs) → Separated One (items_of (list_onto f (x ∷ xs) r)) (map b (x ∷ xs)) (items_of r)
list_some f b P h x xs r e = list_more f b P h xs r e.1 (one (h x (more_onto f xs r) e.0))

list_canon : {A : Type 0} {One : List Item → A → List Item → Type 0} (f : A → Onto) (b : A → A) (P : A → Type 0) → ((x : A) (r : Pieces) → P x → One (items_of (f x r)) (b x) (items_of r)) → (xs : List A) (r : Pieces) → Each P xs → Optional One (items_of (list_onto f xs r)) (map b xs) (items_of r)
list_canon f b P h [] r e = none
list_canon f b P h (x ∷ xs) r e = some (list_some f b P h x xs r e)

arg_canon : (lim : Limits) (o : ℕ) (e : tree.Expr) (r : Pieces) → Fits lim e o 0 → Arg lim o (items_of (expr_onto e r)) (bare_expr e) (items_of r)
arg_canon lim o e r f = (0, 0, whole_canon lim o 0 r e f)

binder_canon : (x : tree.Name) (r : Pieces) → Unit {0} → Binder (items_of (name_onto x r)) (bare_name x) (items_of r)
binder_canon x r f = binder

each_unit : {A : Type 0} (xs : List A) → Each (λ x. Unit {0}) xs
each_unit [] = tt
each_unit (x ∷ xs) = (tt, each_unit xs)

-- ---- terms

bare_at : (m : tree.Term) → tree.term_at (bare_term m) ≡ nowhere
bare_at (tree.LetTerm x m n at) = refl
bare_at (tree.IfTerm e m n at) = refl
bare_at (tree.PrintTerm e at) = refl
bare_at (tree.NewTerm x at) = refl
bare_at (tree.SpawnTerm m at) = refl
bare_at (tree.FreeTerm x at) = refl
bare_at (tree.GuardTerm x p cs at) = refl
bare_at (tree.SendTerm x y es at) = refl
bare_at (tree.CallTerm f es at) = refl
bare_at (tree.ValueTerm e at) = refl

abbrev CanonTerm : Limits → Part → tree.Term → Type 0
CanonTerm lim l m = (o s : ℕ) (r : Pieces) → TermFits lim m o s → Term lim o s l (items_of (term_onto m r)) (bare_term m) 0 (items_of r)

-- a term, and as a simple one where it needs no braces
record Both (lim : Limits) (m : tree.Term) : Type 0 where
  whole : CanonTerm lim Any m
  plain : opens_simple m ≡ false → CanonTerm lim Simple m

both_of : {lim : Limits} {m : tree.Term} → CanonTerm lim Simple m → Both lim m
both_of d = record { whole = λ o s r f. simple (d o s r f); plain = λ h. d }

braced_canon : {lim : Limits} (b : Bool) (m : tree.Term) → Both lim m → opens_simple m ≡ b → (o s : ℕ) (r : Pieces) → FitsSimple b (TermFits lim m) lim o s → Term lim o s Simple (items_of (braced b (term_onto m) r)) (bare_term m) 0 (items_of r)
braced_canon true m d h o s r f = block f.0 (d.whole (suc o) s (Blank ∷ Tok (Mark mark.CurlyClose) ∷ r) f.1)
braced_canon false m d h o s r f = d.plain h o s r f

-- the clauses in a list
abbrev clause_list : tree.Clauses → List tree.Clause
clause_list no_clauses = []
clause_list (with_clause c cs) = c ∷ clause_list cs

list_clauses : (cs : tree.Clauses) → listed (clause_list cs) ≡ cs
list_clauses no_clauses = refl
list_clauses (with_clause c cs) = ap (with_clause c) (list_clauses cs)

abbrev CanonClause : Limits → tree.Clause → Type 0
CanonClause lim c = (o s : ℕ) (r : Pieces) (b : Bool) (ts : List Item) (ds : List tree.Clause) → ClauseFits lim c (suc o) s → Clauses lim o s b ts ds (items_of (clause_onto c r)) → Clauses lim o s true ts (ds ++ bare_clause c ∷ []) (items_of r)

abbrev CanonClauses : Limits → tree.Clauses → Type 0
CanonClauses lim cs = (o s : ℕ) (r : Pieces) (b : Bool) (ts : List Item) (ds : List tree.Clause) → ClausesFit lim cs (suc o) s → Clauses lim o s b ts ds (items_of (clauses_onto cs r)) → Clauses lim o s (b || any_clause cs) ts (ds ++ clause_list (bare_clauses cs)) (items_of r)

or_none : (b : Bool) → b ≡ (b || false)
or_none true = refl
or_none false = refl

or_some : (b : Bool) → true ≡ (b || true)
or_some true = refl
or_some false = refl

guard_canon : (lim : Limits) (x : tree.Name) (p : tree.Pattern) (cs : tree.Clauses) → CanonClauses lim cs → (o s : ℕ) (r : Pieces) → PatternFits lim p o 0 → RoomFor lim o 0 → any_clause cs ≡ true → ClausesFit lim cs (suc o) s → Term lim o s Simple (items_of (term_onto (tree.GuardTerm x p cs nowhere) r)) (tree.GuardTerm (bare_name x) (bare_pattern p) (bare_clauses cs) nowhere) 0 (items_of r)
guard_canon lim x p cs d o s r f room h g =
    let us = items_of (clauses_onto cs (Tok (Mark mark.CurlyClose) ∷ r)) in
    let all = d o s (Tok (Mark mark.CurlyClose) ∷ r) false us [] g no_clause in
    let known = subst (λ (b : Bool). Clauses lim o s b us (clause_list (bare_clauses cs)) (items_of (Tok (Mark mark.CurlyClose) ∷ r))) h all in
    subst (λ (q : tree.Clauses). Term lim o s Simple (items_of (term_onto (tree.GuardTerm x p cs nowhere) r)) (tree.GuardTerm (bare_name x) (bare_pattern p) q nowhere) 0 (items_of r)) (list_clauses (bare_clauses cs))
    (guard (pattern_whole p (pattern_canon lim p o 0 _ f)) room known)

mutual
  term_canon : (lim : Limits) (m : tree.Term) → Both lim m
  term_canon lim (tree.LetTerm None m n at) =
      let a = term_canon lim m in
      let b = term_canon lim n in
      record { whole = λ o s r f. subst (λ (e : tree.Span). Term lim o s Any (items_of (term_onto (tree.LetTerm None m n at) r)) (tree.LetTerm None (bare_term m) (bare_term n) (tree.span 0 e.to)) 0 (items_of r)) (bare_at n) (then (braced_canon (opens_simple m) m a refl o s _ f.0) f.1 (b.whole o (suc s) r f.2)); plain = λ h. absurd cc }
  term_canon lim (tree.LetTerm (Some x) m n at) =
      let a = term_canon lim m in
      let b = term_canon lim n in
      record { whole = λ o s r f. subst (λ (e : tree.Span). Term lim o s Any (items_of (term_onto (tree.LetTerm (Some x) m n at) r)) (tree.LetTerm (Some (bare_name x)) (bare_term m) (bare_term n) (tree.span 0 e.to)) 0 (items_of r)) (bare_at n) (bind (braced_canon (opens_simple m) m a refl o s _ f.0) f.1 (b.whole o (suc s) r f.2)); plain = λ h. absurd cc }
  term_canon lim (tree.IfTerm e m n at) =
      let a = term_canon lim m in
      let b = term_canon lim n in
      both_of (λ o s r f. branch (whole_canon lim o 0 _ e f.0) f.1 (a.whole (suc o) s _ f.2) f.1 (b.whole (suc o) s (Blank ∷ Tok (Mark mark.CurlyClose) ∷ r) f.3))
  term_canon lim (tree.PrintTerm e at) = both_of (λ o s r f. print f.0 (whole_canon lim (suc o) 0 (Tok (Mark mark.RoundClose) ∷ r) e f.1))
  term_canon lim (tree.NewTerm x at) = both_of (λ o s r f. new f)
  term_canon lim (tree.SpawnTerm m at) = let a = term_canon lim m in both_of (λ o s r f. spawn f.0 (a.whole (suc o) s (Blank ∷ Tok (Mark mark.CurlyClose) ∷ r) f.1))
  term_canon lim (tree.FreeTerm x at) = both_of (λ o s r f. free f)
  term_canon lim (tree.GuardTerm x p cs at) = let d = clauses_canon lim cs in both_of (λ o s r f. guard_canon lim x p cs d o s r f.0 f.1 f.2 f.3)
  term_canon lim (tree.SendTerm x y es at) = both_of (λ o s r f. send f.0 (list_canon expr_onto bare_expr (λ e. Fits lim e (suc o) 0) (arg_canon lim (suc o)) es (Tok (Mark mark.RoundClose) ∷ r) f.1))
  term_canon lim (tree.CallTerm g es at) = both_of (λ o s r f. call f.0 (list_canon expr_onto bare_expr (λ e. Fits lim e (suc o) 0) (arg_canon lim (suc o)) es (Tok (Mark mark.RoundClose) ∷ r) f.1))
  term_canon lim (tree.ValueTerm e at) = both_of (λ o s r f. value (whole_canon lim o 0 r e f))

  clause_canon : (lim : Limits) (c : tree.Clause) → CanonClause lim c
  clause_canon lim (tree.FailClause w) = λ o s r b ts ds f d. fail_clause d
  clause_canon lim (tree.FreeClause w m) = let a = term_canon lim m in λ o s r b ts ds f d. free_clause d (a.whole (suc o) s r f)
  clause_canon lim (tree.ReceiveClause w x ns y m) = let a = term_canon lim m in λ o s r b ts ds f d. receive_clause d f.0 (list_canon name_onto bare_name (λ z. Unit {0}) binder_canon ns _ (each_unit ns)) (a.whole (suc o) s r f.1)

  clauses_canon : (lim : Limits) (cs : tree.Clauses) → CanonClauses lim cs
  clauses_canon lim no_clauses = λ o s r b ts ds f d. subst (λ (w : List tree.Clause). Clauses lim o s (b || false) ts w (items_of r)) (sym (append-nil ds)) (subst (λ (c : Bool). Clauses lim o s c ts ds (items_of r)) (or_none b) d)
  clauses_canon lim (with_clause c cs) =
      let a = clause_canon lim c in
      let e = clauses_canon lim cs in
      λ o s r b ts ds f d.
      let here = a o s (Blank ∷ clauses_onto cs r) b ts ds f.0 d in
      let all = e o s r true ts (ds ++ bare_clause c ∷ []) f.1 here in
      subst (λ (q : Bool). Clauses lim o s q ts (ds ++ bare_clause c ∷ clause_list (bare_clauses cs)) (items_of r)) (or_some b)
      (subst (λ (w : List tree.Clause). Clauses lim o s true ts w (items_of r)) (append_assoc ds (bare_clause c ∷ []) (clause_list (bare_clauses cs))) all)

-- ---- types and declarations

base_word_is : (b : Base) → base_named (Word (base_word b)) ≡ Some b
base_word_is BaseUnit = refl
base_word_is BaseBool = refl
base_word_is BaseInt = refl
base_word_is BaseText = refl

polarity_mark_is : (q : Polarity) → polarity_of (Mark (polarity_mark q)) ≡ Some q
polarity_mark_is Sending = refl
polarity_mark_is Receiving = refl

type_canon : (lim : Limits) (o : ℕ) (b : Bool) (a : tree.WrittenType) (r : Pieces) → TypeFits lim o b a → WrittenType lim o b (items_of (type_onto a r)) (bare_type a) (items_of r)
type_canon lim o b (tree.BaseType c at) r f = base (base_word_is c)
type_canon lim o b (tree.MailboxType x q None at) r f = short f (polarity_mark_is q)
type_canon lim o b (tree.MailboxType x q (Some p) at) r f = mailbox (polarity_mark_is q) (pattern_whole p (pattern_canon lim p o 0 r f))

message_canon : (lim : Limits) (m : tree.Message) (r : Pieces) → MessageFits lim m → Message lim (items_of (message_onto m r)) (bare_message m) (items_of r)
message_canon lim m r f = message f.0 (list_canon type_onto bare_type (TypeFits lim 2 true) (type_canon lim 2 true) m.payloads (Tok (Mark mark.RoundClose) ∷ r) f.1)

param_canon : (lim : Limits) (p : tree.Param) (r : Pieces) → ParamFits lim p → Param lim (items_of (param_onto p r)) (bare_param p) (items_of r)
param_canon lim p r f = param (type_canon lim 1 false p.type r f)

messages_canon : (lim : Limits) (ms : List tree.Message) (r : Pieces) → any ms ≡ true → Each (MessageFits lim) ms → Separated (Message lim) (items_of (list_onto message_onto ms r)) (map bare_message ms) (items_of r)
messages_canon lim [] r h f = absurd cc
messages_canon lim (m ∷ ms) r h f = list_some message_onto bare_message (MessageFits lim) (message_canon lim) m ms r f

decl_canon : (lim : Limits) (d : tree.Decl) (r : Pieces) (b : Bool) (ts : List Item) (ds : List tree.Decl) → DeclFits lim d → Decls lim b ts ds (items_of (decl_onto d r)) → Decls lim true ts (ds ++ bare_decl d ∷ []) (items_of r)
decl_canon lim (tree.InterfaceDecl x ms) r b ts ds f d = interface d f.0 (messages_canon lim ms _ f.1 f.2)
decl_canon lim (tree.DefDecl x ps a m) r b ts ds f d =
    let t = term_canon lim m in
    function d f.0 (list_canon param_onto bare_param (ParamFits lim) (param_canon lim) ps _ f.1) (type_canon lim 0 false a _ f.2) f.0 (t.whole 1 0 (Blank ∷ Tok (Mark mark.CurlyClose) ∷ r) f.3)

decls_canon : (lim : Limits) (es : List tree.Decl) (b : Bool) (ts : List Item) (ds : List tree.Decl) → Each (DeclFits lim) es → Decls lim b ts ds (items_of (tree_onto es [])) → Decls lim (b || any es) ts (ds ++ map bare_decl es) []
decls_canon lim [] b ts ds f d = subst (λ (w : List tree.Decl). Decls lim (b || false) ts w []) (sym (append-nil ds)) (subst (λ (c : Bool). Decls lim c ts ds []) (or_none b) d)
decls_canon lim (e ∷ es) b ts ds f d =
    let all = decls_canon lim es true ts (ds ++ bare_decl e ∷ []) f.1 (decl_canon lim e (Line ∷ tree_onto es []) b ts ds f.0 d) in
    subst (λ (q : Bool). Decls lim q ts (ds ++ bare_decl e ∷ map bare_decl es) []) (or_some b) (subst (λ (w : List tree.Decl). Decls lim true ts w []) (append_assoc ds (bare_decl e ∷ []) (map bare_decl es)) all)

pub canonical_spells : (lim : Limits) (ts : List Item) (ds : tree.Tree) → Bound ts → Spells lim ts ds → Spells lim (items_of (canonical ds)) (bare ds)
canonical_spells lim ts ds b d =
    let f = decls_fit lim d b in
    subst (λ (q : Bool). Decls lim q (items_of (canonical ds)) (bare ds) []) (f.2 refl) (decls_canon lim ds false (items_of (canonical ds)) [] f.0 no_decl)
