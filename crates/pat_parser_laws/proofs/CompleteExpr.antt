-- What is an expression by the grammar is read as it.
use Rattle.std.proofs.Common.{◌≡◌, ℕ, suc, ◌+◌, Bool, true, false, List, [], ◌∷◌, Option, Some, None, refl, sym, ap, ◌∙◌}
use Rattle.pat_lexer_spec.specs.Words as word
use Rattle.pat_lexer_spec.specs.Marks as mark
use Rattle.pat_lexer_spec.specs.Tokens.{Token, Name, Integer, Str, Word, Mark}
use Rattle.pat_semantics_spec.specs.Values.{Op, Add, Sub, Mul, Equal, Less}
use Rattle.pat_parser_spec.specs.Trees as tree
use Rattle.pat_parser_spec.specs.Trees.{span, operators}
use Rattle.pat_parser_spec.specs.Items.{At, Item, place_of, Limits, literal, additive, comparison}
use Rattle.pat_parser_spec.specs.Grammar.{Level, Atom, Product, Sum, Whole, Operand, combined, Expr, leaf, unit, bracket, atom, times, product, plus, sum, compare}
use Rattle.pat_parser_spec.specs.Machine.{Pending, nothing, product_of, joined, whole_of, Frame, AtExpr, InBracket, Opened, Want, Have, state, settle, add_step, compare_step, have_step, leaf_step, want_step, run}
use Rattle.pat_parser_laws.proofs.Runs.{run_step, open_run, recount, count_none, count_zero, count_both}

abbrev pub pend : Option (Op × Operand) → Option (Op × Operand) → Option Operand → Pending
pend c a m = record { compared = c; added = a; multiplied = m }

abbrev pub Runs : Limits → ℕ → ℕ → Level → List Item → Operand → ℕ → List Item → Type 0
Runs lim o k Atom ts a t us = (fs : List Frame) (s : ℕ) (p : Pending) → run lim (state (Want p) fs o k s) ts ≡ run lim (state (Have p a t) fs o (k + operators a.0) s) us
Runs lim o k Product ts a t us = (fs : List Frame) (s : ℕ) (c d : Option (Op × Operand)) → (m : Option Operand) × (x : Operand) × (run lim (state (Want (pend c d None)) fs o k s) ts ≡ run lim (state (Have (pend c d m) x t) fs o (k + operators a.0) s) us) × (product_of m x t ≡ a)
Runs lim o k Sum ts a t us = (fs : List Frame) (s : ℕ) (c : Option (Op × Operand)) → (d : Option (Op × Operand)) × (m : Option Operand) × (x : Operand) × (run lim (state (Want (pend c None None)) fs o k s) ts ≡ run lim (state (Have (pend c d m) x t) fs o (k + operators a.0) s) us) × (joined d (product_of m x t) t ≡ a)
Runs lim o k Whole ts a t us = (fs : List Frame) (s : ℕ) → (p : Pending) × (x : Operand) × (run lim (state (Want nothing) fs o k s) ts ≡ run lim (state (Have p x t) fs o (k + operators a.0) s) us) × (whole_of p x t ≡ a)

-- the tokens begin, and not with a closing bracket
abbrev pub starts : List Item → Bool
starts [] = false
starts ((Mark mark.RoundClose, w) ∷ ts) = false
starts ((_, w) ∷ ts) = true

leaf_starts : (c : Token) (w : At) (ts : List Item) (at : tree.Span) (e : tree.Expr) → literal c at ≡ Some e → starts ((c, w) ∷ ts) ≡ true
leaf_starts (Name x) w ts at e h = refl
leaf_starts (Integer n) w ts at e h = refl
leaf_starts (Str x) w ts at e h = refl
leaf_starts (Word x) w ts at e h = refl
leaf_starts (Mark x) w ts at e h = absurd cc

pub expr_starts : {lim : Limits} {o k t : ℕ} {l : Level} {ts us : List Item} {a : Operand} → Expr lim o k l ts a t us → starts ts ≡ true
expr_starts (leaf {c = c} {w = w} {us = us} {e = e} h) = leaf_starts c w us _ e h
expr_starts (unit room) = refl
expr_starts (bracket room d) = refl
expr_starts (atom d) = expr_starts d
expr_starts (times d room f) = expr_starts d
expr_starts (product d) = expr_starts d
expr_starts (plus is d room f) = expr_starts d
expr_starts (sum d) = expr_starts d
expr_starts (compare is d room f) = expr_starts d

-- the first token of an expression isn't the end of an empty bracket
pub opened_run : (lim : Limits) (fs : List Frame) (o k s : ℕ) (ts : List Item) → starts ts ≡ true → run lim (state Opened fs o k s) ts ≡ run lim (state (Want nothing) fs o k s) ts
opened_run lim fs o k s [] h = absurd cc
opened_run lim fs o k s ((Mark mark.RoundClose, w) ∷ ts) h = absurd cc
opened_run lim fs o k s ((_, w) ∷ ts) h = refl

pub leaf_operators : (c : Token) (at : tree.Span) (e : tree.Expr) → literal c at ≡ Some e → operators e ≡ 0
leaf_operators (Name x) at e h = let g : tree.VarExpr x at ≡ e = cc in ap operators (sym g)
leaf_operators (Integer n) at e h = let g : tree.IntExpr n at ≡ e = cc in ap operators (sym g)
leaf_operators (Str x) at e h = let g : tree.StrExpr x at ≡ e = cc in ap operators (sym g)
leaf_operators (Word word.TrueWord) at e h = let g : tree.BoolExpr true at ≡ e = cc in ap operators (sym g)
leaf_operators (Word word.FalseWord) at e h = let g : tree.BoolExpr false at ≡ e = cc in ap operators (sym g)
leaf_operators _ at e h = absurd cc

leaf_is : (fs : List Frame) (o k s : ℕ) (p : Pending) (c : Token) (w : tree.Span) (e : tree.Expr) → literal c w ≡ Some e → want_step fs o k s p c w ≡ leaf_step fs o k s p (literal c w) w
leaf_is fs o k s p (Mark mark.RoundOpen) w e h = absurd cc
leaf_is fs o k s p _ w e h = refl

pub leaf_run : (lim : Limits) (fs : List Frame) (o k s : ℕ) (p : Pending) (c : Token) (w : At) (e : tree.Expr) (us : List Item) → literal c (place_of w) ≡ Some e → run lim (state (Want p) fs o k s) ((c, w) ∷ us) ≡ run lim (state (Have p (e, w.from) w.to) fs o (k + operators e) s) us
leaf_run lim fs o k s p c w e us h =
    run_step lim (state (Want p) fs o k s) (state (Have p (e, w.from) w.to) fs o k s) (c, w) us (ap (settle lim w.free) (leaf_is fs o k s p c (place_of w) e h ∙ ap (λ (v : Option tree.Expr). leaf_step fs o k s p v (place_of w)) h))
    ∙ recount lim (Have p (e, w.from) w.to) fs o k (k + operators e) s us (count_zero k (operators e) (leaf_operators c (place_of w) e h))

additive_step : (fs : List Frame) (o k s : ℕ) (p : Pending) (x : Operand) (t : ℕ) (c : Token) (w : tree.Span) (q : Op) → additive c ≡ Some q → have_step fs o k s p x t c w ≡ add_step fs o k s p x t q
additive_step fs o k s p x t (Mark mark.Plus) w q h = let e : Add ≡ q = cc in ap (add_step fs o k s p x t) e
additive_step fs o k s p x t (Mark mark.Minus) w q h = let e : Sub ≡ q = cc in ap (add_step fs o k s p x t) e
additive_step fs o k s p x t _ w q h = absurd cc

comparison_step : (fs : List Frame) (o k s : ℕ) (p : Pending) (x : Operand) (t : ℕ) (c : Token) (w : tree.Span) (q : Op) → comparison c ≡ Some q → have_step fs o k s p x t c w ≡ compare_step fs o k s p x t q p.compared
comparison_step fs o k s p x t (Mark mark.DoubleEquals) w q h = let e : Equal ≡ q = cc in ap (λ (r : Op). compare_step fs o k s p x t r p.compared) e
comparison_step fs o k s p x t (Mark mark.Less) w q h = let e : Less ≡ q = cc in ap (λ (r : Op). compare_step fs o k s p x t r p.compared) e
comparison_step fs o k s p x t _ w q h = absurd cc

pub exprs : (lim : Limits) {o k t : ℕ} {l : Level} {ts us : List Item} {a : Operand} → Expr lim o k l ts a t us → Runs lim o k l ts a t us
exprs lim {o = o} {k = k} (leaf {c = c} {w = w} {us = us} {e = e} h) = λ fs s p. leaf_run lim fs o k s p c w e us h
exprs lim {o = o} {k = k} (unit {w = w} {z = z} {us = us} room) = λ fs s p.
    open_run lim (state (Want p) fs o k s) (state Opened (AtExpr (InBracket p w.from o) ∷ fs) (suc o) k s) (Mark mark.RoundOpen, w) w o k ((Mark mark.RoundClose, z) ∷ us) refl room
    ∙ recount lim (Have p (tree.UnitExpr (span w.from z.to), w.from) z.to) fs o k (k + 0) s us (count_none k)
exprs lim {o = o} {k = k} (bracket {t = t} {w = w} {z = z} {ts = ts} {us = us} {a = a} room d) = λ fs s p.
    let gs = AtExpr (InBracket p w.from o) ∷ fs in
    let h = exprs lim d gs s in
    open_run lim (state (Want p) fs o k s) (state Opened gs (suc o) k s) (Mark mark.RoundOpen, w) w o k ts refl room
    ∙ opened_run lim gs (suc o) k s ts (expr_starts d) ∙ h.2
    ∙ ap (λ (v : Operand). run lim (state (Have p (v.0, w.from) z.to) fs o (k + operators a.0) s) us) h.3
exprs lim (atom {a = a} d) = λ fs s c b. (None, a, exprs lim d fs s (pend c b None), refl)
exprs lim {o = o} {k = k} (times {r = r} {t = t} {w = w} {us = us} {vs = vs} {a = a} {b = b} d room f) = λ fs s c e.
    let h = exprs lim d fs s c e in
    let j = k + operators a.0 in
    let q = pend c e (Some (product_of h.0 h.1 r)) in
    let go = open_run lim (state (Have (pend c e h.0) h.1 r) fs o j s) (state (Want q) fs o (suc j) s) (Mark mark.Star, w) w o j us refl room in (
      Some (product_of h.0 h.1 r),
      b,
      h.2 ∙ go ∙ exprs lim f fs s q ∙ recount lim (Have q b t) fs o (suc j + operators b.0) (k + suc (operators a.0 + operators b.0)) s vs (count_both k (operators a.0) (operators b.0)),
      ap (λ (v : Operand). combined Mul v b t) h.3,
    )
exprs lim (product d) = λ fs s c.
    let h = exprs lim d fs s c None in
    (None, h.0, h.1, h.2, h.3)
exprs lim {o = o} {k = k} (plus {r = r} {t = t} {c = c} {op = op} {w = w} {us = us} {vs = vs} {a = a} {b = b} is d room f) = λ fs s i.
    let h = exprs lim d fs s i in
    let j = k + operators a.0 in
    let v = joined h.0 (product_of h.1 h.2 r) r in
    let y = state (Want (pend i (Some (op, v)) None)) fs o (suc j) s in
    let g = exprs lim f fs s i (Some (op, v)) in
    let go = open_run lim (state (Have (pend i h.0 h.1) h.2 r) fs o j s) y (c, w) w o j us (ap (settle lim w.free) (additive_step fs o j s (pend i h.0 h.1) h.2 r c (place_of w) op is)) room in
    let q = pend i (Some (op, v)) g.0 in (
      Some (op, v),
      g.0,
      g.1,
      h.3 ∙ go ∙ g.2 ∙ recount lim (Have q g.1 t) fs o (suc j + operators b.0) (k + suc (operators a.0 + operators b.0)) s vs (count_both k (operators a.0) (operators b.0)),
      ap (λ (u : Operand). combined op u (product_of g.0 g.1 t) t) h.4 ∙ ap (λ (u : Operand). combined op a u t) g.3,
    )
exprs lim (sum d) = λ fs s.
    let h = exprs lim d fs s None in
    (pend None h.0 h.1, h.2, h.3, h.4)
exprs lim {o = o} {k = k} (compare {r = r} {t = t} {c = c} {op = op} {w = w} {us = us} {vs = vs} {a = a} {b = b} is d room f) = λ fs s.
    let h = exprs lim d fs s None in
    let j = k + operators a.0 in
    let v = joined h.0 (product_of h.1 h.2 r) r in
    let y = state (Want (pend (Some (op, v)) None None)) fs o (suc j) s in
    let g = exprs lim f fs s (Some (op, v)) in
    let go = open_run lim (state (Have (pend None h.0 h.1) h.2 r) fs o j s) y (c, w) w o j us (ap (settle lim w.free) (comparison_step fs o j s (pend None h.0 h.1) h.2 r c (place_of w) op is)) room in
    let q = pend (Some (op, v)) g.0 g.1 in (
      q,
      g.2,
      h.3 ∙ go ∙ g.3 ∙ recount lim (Have q g.2 t) fs o (suc j + operators b.0) (k + suc (operators a.0 + operators b.0)) s vs (count_both k (operators a.0) (operators b.0)),
      ap (λ (u : Operand). combined op u (joined g.0 (product_of g.1 g.2 t) t) t) h.4 ∙ ap (λ (u : Operand). combined op a u t) g.4,
    )
