-- Stars and brackets: where they open, and what stands behind them.
use Rattle.std.proofs.Common.{◌≡◌, ℕ, suc, ◌+◌, List, ◌∷◌, None, refl, sym, subst, ◌∙◌, arith}
use Rattle.pat_parser_spec.specs.Trees as tree
use Rattle.pat_parser_spec.specs.Machine as m
use Rattle.pat_syntax.specs.declared.span.Span.{Span}
use Rattle.pat_syntax.specs.declared.token.Token.{Token}
use Rattle.pat_syntax.specs.declared.token.TokenKind.{TokenKind}
use Rattle.pat_syntax.specs.declared.token.TokenKind.TheVariants as kinds
use Rattle.pat_syntax.specs.declared.mark.Mark.TheVariants as marks
use Rattle.pat_syntax.specs.Views.{kind_view}
use Rattle.pat_tree.specs.Views.{span_view, pattern_view}
use Rattle.pat_parser_phrases.specs.tokens.Answers.{Answer, Rest, after, moved}
use Rattle.pat_parser_phrases.specs.declared.types.patterns.PatternRead.{PatternRead}
use Rattle.pat_parser_phrases.specs.types.Ends.{behind_factor}

-- one star more before the factor
abbrev pub starrier : m.Before → m.Before
starrier p = record { added = p.added; multiplied = p.multiplied; stars = suc p.stars }

-- the token is taken that stands behind one that opens
abbrev pub TakenBehind : ℕ → ℕ → ℕ → Token → Rest → Rest → Type 0
TakenBehind o k n t old new = (x : m.State) → m.finish x ≡ None → after (m.Opens o k x) n old ≡ after (moved x (kind_view t.kind) (span_view t.span)) t.span.from new

one_more : (n : ℕ) → suc n ≡ n + 1
one_more n = omega arith

pub at_star : (fs : List m.Frame) (o k s n : ℕ) (p : m.Before) (c : TokenKind) (w : Span) (t : Token) (old new : Rest) → c ≡ kinds.Mark marks.Star → TakenBehind o k n t old new → after (m.want_pattern fs o k s p (kind_view c) (span_view w)) n old ≡ after (m.want_pattern fs o (k + 1) s (starrier p) (kind_view t.kind) (span_view t.span)) t.span.from new
at_star fs o k s n p c w t old new is taken =
    let opens = taken (m.state (m.WantPattern (starrier p)) fs o (suc k) s) refl in
    let counted = subst (λ (j : ℕ). after (m.Opens o k (m.state (m.WantPattern (starrier p)) fs o (suc k) s)) n old ≡ after (m.want_pattern fs o j s (starrier p) (kind_view t.kind) (span_view t.span)) t.span.from new) (one_more k) opens in
    subst (λ (d : TokenKind). after (m.want_pattern fs o k s p (kind_view d) (span_view w)) n old ≡ after (m.want_pattern fs o (k + 1) s (starrier p) (kind_view t.kind) (span_view t.span)) t.span.from new) (sym is) counted

pub at_bracket : (fs : List m.Frame) (o k s n : ℕ) (p : m.Before) (c : TokenKind) (w : Span) (t : Token) (old new : Rest) → c ≡ kinds.Mark marks.RoundOpen → TakenBehind o k n t old new → after (m.want_pattern fs o k s p (kind_view c) (span_view w)) n old ≡ after (m.want_pattern (m.AtPattern (m.InPatternBracket p o) ∷ fs) (o + 1) k s m.none_before (kind_view t.kind) (span_view t.span)) t.span.from new
at_bracket fs o k s n p c w t old new is taken =
    let inside = m.AtPattern (m.InPatternBracket p o) ∷ fs in
    let opens = taken (m.state (m.WantPattern m.none_before) inside (suc o) k s) refl in
    let counted = subst (λ (j : ℕ). after (m.Opens o k (m.state (m.WantPattern m.none_before) inside (suc o) k s)) n old ≡ after (m.want_pattern inside j k s m.none_before (kind_view t.kind) (span_view t.span)) t.span.from new) (one_more o) opens in
    subst (λ (d : TokenKind). after (m.want_pattern fs o k s p (kind_view d) (span_view w)) n old ≡ after (m.want_pattern inside (o + 1) k s m.none_before (kind_view t.kind) (span_view t.span)) t.span.from new) (sym is) counted

-- a factor with one star more is what is read from before the star
pub star_read : (fs : List m.Frame) (o s : ℕ) (p : m.Before) (read q : PatternRead) (a : Answer) (ts : Rest) → (pattern_view q.pattern ≡ tree.StarPattern (pattern_view read.pattern)) × (q.to ≡ read.to) × (q.operators ≡ read.operators) × (q.token ≡ read.token) → a ≡ behind_factor fs o s (starrier p) read ts → a ≡ behind_factor fs o s p q ts
star_read fs o s p read q a ts made e = e ∙ simp (made.0, made.1, made.2, made.3) refl
