-- What may stand behind a factor and behind a pattern, and what a function that allocates returns.
use Rattle.std.specs.Prelude.{ℕ, suc, Bool, false, not, List, Option, Some, None}
use Rattle.std.specs.Global.{Box}
use Rattle.pat_lexer_spec.specs.Marks as mark
use Rattle.pat_lexer_spec.specs.Tokens.{Token, Mark}
use Rattle.pat_parser_spec.specs.Trees as tree
use Rattle.pat_parser_spec.specs.Machine as m
use Rattle.pat_syntax.specs.Views.{kind_view}
use Rattle.pat_tree.specs.declared.pattern.TreePattern.{TreePattern}
use Rattle.pat_tree.specs.Views.{span_view, pattern_view, type_view}
use Rattle.pat_parser_phrases.specs.tokens.Answers.{Answer, Rest, after}
use Rattle.pat_parser_phrases.specs.declared.types.patterns.Before.{Before}
use Rattle.pat_parser_phrases.specs.declared.types.patterns.PatternRead.{PatternRead}
use Rattle.pat_parser_phrases.specs.declared.types.types.TypeRead.{TypeRead}

-- behind a whole pattern
abbrev pub pattern_end : List m.Frame → ℕ → ℕ → ℕ → tree.Pattern → ℕ → Token → tree.Span → m.Move
pattern_end fs o k s q t (Mark mark.RoundClose) w = m.pattern_close fs k s q t w
pattern_end fs o k s q t (Mark mark.Comma) w = m.pattern_comma fs o q t
pattern_end fs o k s q t (Mark mark.CurlyOpen) w = m.pattern_open fs o s q t
pattern_end fs o k s q t _ w = m.Refused

-- behind a product, with the sum that stands before it
abbrev pub product_end : List m.Frame → ℕ → ℕ → ℕ → Option tree.Pattern → tree.Pattern → ℕ → Token → tree.Span → m.Move
product_end fs o k s a q t (Mark mark.Dot) w = m.Opens o k (m.state (m.WantPattern (record { added = a; multiplied = Some q; stars = 0 })) fs o (suc k) s)
product_end fs o k s a q t (Mark mark.Plus) w = m.Opens o k (m.state (m.WantPattern (record { added = Some (m.plus_pattern a q); multiplied = None; stars = 0 })) fs o (suc k) s)
product_end fs o k s a q t c w = pattern_end fs o k s (m.plus_pattern a q) t c w

-- the answer behind a pattern and the token that ends it
abbrev pub behind_pattern : List m.Frame → ℕ → ℕ → PatternRead → Rest → Answer
behind_pattern fs o s q ts = after (pattern_end fs o q.operators s (pattern_view q.pattern) q.to (kind_view q.token.kind) (span_view q.token.span)) q.token.span.from ts

-- the answer behind a factor and the token that ends it
abbrev pub behind_factor : List m.Frame → ℕ → ℕ → m.Before → PatternRead → Rest → Answer
behind_factor fs o s p q ts = after (product_end fs o q.operators s p.added (m.product_in p (pattern_view q.pattern)) q.to (kind_view q.token.kind) (span_view q.token.span)) q.token.span.from ts

-- the answer behind a type and the token that ends it
abbrev pub behind_type : List m.Frame → ℕ → TypeRead → Rest → Answer
behind_type fs o a ts = after (m.type_step fs o (type_view a.of) (kind_view a.token.kind) (span_view a.token.span)) a.token.span.from ts

-- whether a token ends a type that has no pattern; a payload's has one
abbrev pub leaves_out : Bool → Token → Bool
leaves_out payload (Mark mark.Comma) = not payload
leaves_out payload (Mark mark.RoundClose) = not payload
leaves_out payload (Mark mark.CurlyOpen) = not payload
leaves_out payload _ = false

-- a pattern in a box, if there is one
abbrev pub held_view : Option (Box TreePattern) → Option tree.Pattern
held_view None = None
held_view (Some b) = Some (pattern_view b.value)

-- what stands before a factor without stars
abbrev pub before_view : Before → m.Before
before_view p = record { added = held_view p.added; multiplied = held_view p.multiplied; stars = 0 }
