-- What is a pattern by the grammar is read as it.
use Rattle.std.proofs.Common.{◌≡◌, ℕ, suc, ◌+◌, Bool, true, false, List, ◌∷◌, Option, Some, None, refl, sym, ap, ◌∙◌}
use Rattle.std.specs.Prelude.{ℤ, pos, if◌then◌else◌}
use Rattle.std.specs.Ordering.{int_eq}
use Rattle.pat_lexer_spec.specs.Marks as mark
use Rattle.pat_lexer_spec.specs.Tokens.{Integer, Mark}
use Rattle.pat_parser_spec.specs.Trees as tree
use Rattle.pat_parser_spec.specs.Trees.{span, pattern_operators}
use Rattle.pat_parser_spec.specs.Items.{Item, place_of, named, Limits, constant}
use Rattle.pat_parser_spec.specs.Grammar.{Level, Atom, Product, Sum, Whole, Pattern, number, tag, bracket, star, factor, dot, product, plus}
use Rattle.pat_parser_spec.specs.Machine.{Before, none_before, starred, times_pattern, whole_in, Frame, AtPattern, InPatternBracket, WantPattern, HavePattern, state, settle, number_step, run}
use Rattle.pat_parser_laws.proofs.Runs.{run_step, open_run, recount, count_none, count_zero, count_one, count_both}

abbrev pub before : Option tree.Pattern → Option tree.Pattern → ℕ → Before
before a m n = record { added = a; multiplied = m; stars = n }

abbrev pub Runs : Limits → ℕ → ℕ → Level → List Item → tree.Pattern → ℕ → List Item → Type 0
Runs lim o k Atom ts e t us = (fs : List Frame) (s : ℕ) (a m : Option tree.Pattern) (n : ℕ) → (j : ℕ) × (x : tree.Pattern) × (run lim (state (WantPattern (before a m n)) fs o k s) ts ≡ run lim (state (HavePattern (before a m j) x t) fs o (k + pattern_operators e) s) us) × (starred j x ≡ starred n e)
Runs lim o k Product ts e t us = (fs : List Frame) (s : ℕ) (a : Option tree.Pattern) → (m : Option tree.Pattern) × (j : ℕ) × (x : tree.Pattern) × (run lim (state (WantPattern (before a None 0)) fs o k s) ts ≡ run lim (state (HavePattern (before a m j) x t) fs o (k + pattern_operators e) s) us) × (times_pattern m (starred j x) ≡ e)
Runs lim o k Sum ts e t us = Unit {0}
Runs lim o k Whole ts e t us = (fs : List Frame) (s : ℕ) → (p : Before) × (x : tree.Pattern) × (run lim (state (WantPattern none_before) fs o k s) ts ≡ run lim (state (HavePattern p x t) fs o (k + pattern_operators e) s) us) × (whole_in p x ≡ e)

constant_zero : (b : Bool) (at : tree.Span) (r : Option tree.Pattern) (p : tree.Pattern) → (r ≡ Some p → pattern_operators p ≡ 0) → (if b then Some (tree.ZeroPattern at) else r) ≡ Some p → pattern_operators p ≡ 0
constant_zero true at r p f h = let g : tree.ZeroPattern at ≡ p = cc in ap pattern_operators (sym g)
constant_zero false at r p f h = f h

constant_one : (b : Bool) (at : tree.Span) (p : tree.Pattern) → (if b then Some (tree.OnePattern at) else None) ≡ Some p → pattern_operators p ≡ 0
constant_one true at p h = let g : tree.OnePattern at ≡ p = cc in ap pattern_operators (sym g)
constant_one false at p h = absurd cc

pub constant_operators : (n : ℤ) (at : tree.Span) (p : tree.Pattern) → constant n at ≡ Some p → pattern_operators p ≡ 0
constant_operators n at p h = constant_zero (int_eq n (pos 0)) at _ p (λ g. constant_one (int_eq n (pos 1)) at p g) h

pub patterns : (lim : Limits) {o k t : ℕ} {l : Level} {ts us : List Item} {e : tree.Pattern} → Pattern lim o k l ts e t us → Runs lim o k l ts e t us
patterns lim {o = o} {k = k} (number {n = n} {w = w} {us = us} {p = p} is) = λ fs s a m i. (
  i,
  p,
  run_step lim (state (WantPattern (before a m i)) fs o k s) (state (HavePattern (before a m i) p w.to) fs o k s) (Integer n, w) us (ap (λ (v : Option tree.Pattern). settle lim w.free (number_step fs o k s (before a m i) v (place_of w))) is)
      ∙ recount lim (HavePattern (before a m i) p w.to) fs o k (k + pattern_operators p) s us (count_zero k (pattern_operators p) (constant_operators n (place_of w) p is)),
  refl,
)
patterns lim {o = o} {k = k} (tag {x = x} {w = w} {us = us}) = λ fs s a m i.
    (i, tree.TagPattern (named x w), recount lim (HavePattern (before a m i) (tree.TagPattern (named x w)) w.to) fs o k (k + 0) s us (count_none k), refl)
patterns lim {o = o} {k = k} (bracket {t = t} {w = w} {z = z} {ts = ts} {us = us} {p = e} room d) = λ fs s a m i.
    let p = before a m i in
    let gs = AtPattern (InPatternBracket p o) ∷ fs in
    let h = patterns lim d gs s in (
      i,
      e,
      open_run lim (state (WantPattern p) fs o k s) (state (WantPattern none_before) gs (suc o) k s) (Mark mark.RoundOpen, w) w o k ts refl room
          ∙ h.2 ∙ ap (λ (v : tree.Pattern). run lim (state (HavePattern p v z.to) fs o (k + pattern_operators e) s) us) h.3,
      refl,
    )
patterns lim {o = o} {k = k} (star {t = t} {w = w} {ts = ts} {us = us} {p = e} room d) = λ fs s a m i.
    let h = patterns lim d fs s a m (suc i) in (
      h.0,
      h.1,
      open_run lim (state (WantPattern (before a m i)) fs o k s) (state (WantPattern (before a m (suc i))) fs o (suc k) s) (Mark mark.Star, w) w o k ts refl room
          ∙ h.2 ∙ recount lim (HavePattern (before a m h.0) h.1 t) fs o (suc k + pattern_operators e) (k + suc (pattern_operators e)) s us (count_one k (pattern_operators e)),
      h.3,
    )
patterns lim (factor d) = λ fs s a. let h = patterns lim d fs s a None 0 in (None, h.0, h.1, h.2, h.3)
patterns lim {o = o} {k = k} (dot {r = r} {t = t} {w = w} {us = us} {vs = vs} {p = a} {q = b} d room f) = λ fs s i.
    let h = patterns lim d fs s i in
    let j = k + pattern_operators a in
    let v = times_pattern h.0 (starred h.1 h.2) in
    let g = patterns lim f fs s i (Some v) 0 in
    let q = before i (Some v) g.0 in (
      Some v,
      g.0,
      g.1,
      h.3 ∙ open_run lim (state (HavePattern (before i h.0 h.1) h.2 r) fs o j s) (state (WantPattern (before i (Some v) 0)) fs o (suc j) s) (Mark mark.Dot, w) w o j us refl room
          ∙ g.2 ∙ recount lim (HavePattern q g.1 t) fs o (suc j + pattern_operators b) (k + suc (pattern_operators a + pattern_operators b)) s vs (count_both k (pattern_operators a) (pattern_operators b)),
      ap (λ (u : tree.Pattern). tree.ProdPattern v u) g.3 ∙ ap (λ (u : tree.Pattern). tree.ProdPattern u b) h.4,
    )
patterns lim (product d) = λ fs s. let h = patterns lim d fs s None in (before None h.0 h.1, h.2, h.3, h.4)
patterns lim {o = o} {k = k} (plus {r = r} {t = t} {w = w} {us = us} {vs = vs} {p = a} {q = b} d room f) = λ fs s.
    let h = patterns lim d fs s in
    let j = k + pattern_operators a in
    let v = whole_in h.0 h.1 in
    let g = patterns lim f fs s (Some v) in
    let q = before (Some v) g.0 g.1 in (
      q,
      g.2,
      h.2 ∙ open_run lim (state (HavePattern h.0 h.1 r) fs o j s) (state (WantPattern (before (Some v) None 0)) fs o (suc j) s) (Mark mark.Plus, w) w o j us refl room
          ∙ g.3 ∙ recount lim (HavePattern q g.2 t) fs o (suc j + pattern_operators b) (k + suc (pattern_operators a + pattern_operators b)) s vs (count_both k (pattern_operators a) (pattern_operators b)),
      ap (λ (u : tree.Pattern). tree.SumPattern v u) g.4 ∙ ap (λ (u : tree.Pattern). tree.SumPattern u b) h.3,
    )
