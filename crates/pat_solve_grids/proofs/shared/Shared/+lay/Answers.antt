use Rattle.std.proofs.Common.{sym, subst}
use Rattle.std.specs.Prelude.{IfOk}
use Rattle.pat_words_spec.specs.Patterns.{Zero, One, Tag, Sum, Prod, Star, Var}
use Rattle.pat_inclusion_spec.specs.bounds.Symbols.{NoSymbol, OneSymbol, TagSymbol, SumSymbol, ProdSymbol, StarSymbol, LowerSymbol}
use Rattle.pat_patterns.specs.Views.{pattern_view}
use Rattle.pat_grid_points.specs.symbols.Views.{symbols_view}
use Rattle.pat_solve_grids.specs.Laying.{IsPut, IsLaid}
use Rattle.pat_solve_grids.proofs.Laid.{lifted, zero_laid, one_laid, tag_laid, var_laid, sum_laid, product_laid, star_laid}
use Rattle.pat_solve_grids.proofs.shared.Shared.+lay.Goals as goal

pub returns-in-Zero : goal.returns-in-Zero
returns-in-Zero t c =
    let old = symbols_view c.args.self.now.symbols in
    let new = symbols_view c.put.new.self.symbols in
    subst (λ p. IfOk c.put.result (IsLaid old new (pattern_view p))) (sym c.in-Zero.is)
    (lifted (IsPut old new NoSymbol) (IsLaid old new Zero) c.put.result (zero_laid old new) c.put.ensures)

pub returns-in-One : goal.returns-in-One
returns-in-One t c =
    let old = symbols_view c.args.self.now.symbols in
    let new = symbols_view c.put-in-One.new.self.symbols in
    subst (λ p. IfOk c.put-in-One.result (IsLaid old new (pattern_view p))) (sym c.in-One.is)
    (lifted (IsPut old new OneSymbol) (IsLaid old new One) c.put-in-One.result (one_laid old new) c.put-in-One.ensures)

pub returns-in-Tag : goal.returns-in-Tag
returns-in-Tag t c =
    let old = symbols_view c.args.self.now.symbols in
    let new = symbols_view c.put-in-Tag.new.self.symbols in
    subst (λ p. IfOk c.put-in-Tag.result (IsLaid old new (pattern_view p))) (sym c.in-Tag.is)
    (lifted (IsPut old new (TagSymbol c.in-Tag.tag)) (IsLaid old new (Tag c.in-Tag.tag)) c.put-in-Tag.result (tag_laid old new c.in-Tag.tag) c.put-in-Tag.ensures)

pub returns-in-Var : goal.returns-in-Var
returns-in-Var t c =
    let old = symbols_view c.args.self.now.symbols in
    let new = symbols_view c.put-in-Var.new.self.symbols in
    subst (λ p. IfOk c.put-in-Var.result (IsLaid old new (pattern_view p))) (sym c.in-Var.is)
    (lifted (IsPut old new (LowerSymbol c.in-Var.number)) (IsLaid old new (Var c.in-Var.number)) c.put-in-Var.result (var_laid old new c.in-Var.number) c.put-in-Var.ensures)

pub returns-in_ok-other-in-Sum : goal.returns-in_ok-other-in-Sum
returns-in_ok-other-in-Sum t c =
    let old = symbols_view c.args.self.now.symbols in
    let one = symbols_view c.lay.new.self.symbols in
    let two = symbols_view c.lay-in-Sum.new.self.symbols in
    let new = symbols_view c.put-in-Sum.new.self.symbols in
    let e = pattern_view c.in-Sum.left.value in
    let f = pattern_view c.in-Sum.right.value in
    let a = c.in_ok-one-in-Sum.one in
    let b = c.in_ok-other-in-Sum.other in
    let first = subst (λ p. IsLaid old one (pattern_view p) a) c.deref.ensures c.in_ok-one-in-Sum.ensures in
    let second = subst (λ p. IsLaid one two (pattern_view p) b) c.deref-in-Sum.ensures c.in_ok-other-in-Sum.ensures in
    subst (λ p. IfOk c.put-in-Sum.result (IsLaid old new (pattern_view p))) (sym c.in-Sum.is)
    (lifted (IsPut two new (SumSymbol a b)) (IsLaid old new (Sum e f)) c.put-in-Sum.result (λ s own. sum_laid old one two new e f a b s first second own) c.put-in-Sum.ensures)

pub returns-in_ok-other-in-Prod : goal.returns-in_ok-other-in-Prod
returns-in_ok-other-in-Prod t c =
    let old = symbols_view c.args.self.now.symbols in
    let one = symbols_view c.lay-in-Prod.new.self.symbols in
    let two = symbols_view c.lay-in-Prod-2.new.self.symbols in
    let new = symbols_view c.put-in-Prod.new.self.symbols in
    let e = pattern_view c.in-Prod.first.value in
    let f = pattern_view c.in-Prod.second.value in
    let a = c.in_ok-one-in-Prod.one in
    let b = c.in_ok-other-in-Prod.other in
    let first = subst (λ p. IsLaid old one (pattern_view p) a) c.deref-in-Prod.ensures c.in_ok-one-in-Prod.ensures in
    let second = subst (λ p. IsLaid one two (pattern_view p) b) c.deref-in-Prod-2.ensures c.in_ok-other-in-Prod.ensures in
    subst (λ p. IfOk c.put-in-Prod.result (IsLaid old new (pattern_view p))) (sym c.in-Prod.is)
    (lifted (IsPut two new (ProdSymbol a b)) (IsLaid old new (Prod e f)) c.put-in-Prod.result (λ s own. product_laid old one two new e f a b s first second own) c.put-in-Prod.ensures)

pub returns-in_ok-own-in-Star : goal.returns-in_ok-own-in-Star
returns-in_ok-own-in-Star t c =
    let old = symbols_view c.args.self.now.symbols in
    let one = symbols_view c.lay-in-Star.new.self.symbols in
    let new = symbols_view c.put-in-Star.new.self.symbols in
    let e = pattern_view c.in-Star.part.value in
    let a = c.in_ok-own-in-Star.own in
    let part = subst (λ p. IsLaid old one (pattern_view p) a) c.deref-in-Star.ensures c.in_ok-own-in-Star.ensures in
    subst (λ p. IfOk c.put-in-Star.result (IsLaid old new (pattern_view p))) (sym c.in-Star.is)
    (lifted (IsPut one new (StarSymbol a)) (IsLaid old new (Star e)) c.put-in-Star.result (λ s own. star_laid old one new e a s part own) c.put-in-Star.ensures)
