-- A type whose pattern is read ends where the pattern does.
use Rattle.std.proofs.Common.{◌≡◌, ℕ, Bool, true, false, List, ◌∷◌, None, refl, ap, ◌∙◌}
use Rattle.pat_lexer_spec.specs.Marks as mark
use Rattle.pat_lexer_spec.specs.Tokens.{Token, Mark}
use Rattle.pat_primitives.specs.Programs.{Polarity}
use Rattle.pat_parser_spec.specs.Trees as tree
use Rattle.pat_parser_spec.specs.Machine as m
use Rattle.pat_syntax.specs.declared.token.Token.{Token as CodeToken}
use Rattle.pat_syntax.specs.Views.{kind_view}
use Rattle.pat_tree.specs.Views.{span_view}
use Rattle.pat_parser_phrases.specs.tokens.Answers.{Rest, answer, after, moved}
use Rattle.pat_parser_phrases.specs.types.Ends.{pattern_end, leaves_out}

pub typed_end : (fs : List m.Frame) (o k : ℕ) (x : tree.Name) (r : Polarity) (q : tree.Pattern) (t : ℕ) (c : Token) (w : tree.Span) → pattern_end (m.AtPattern (m.InTyped x r) ∷ fs) o k 0 q t c w ≡ m.type_step fs o (m.typed_by x r q t) c w
typed_end fs o k x r q t (Mark mark.Comma) w = refl
typed_end fs o k x r q t (Mark mark.RoundClose) w = refl
typed_end fs o k x r q t (Mark mark.CurlyOpen) w = refl
typed_end fs o k x r q t _ w = refl

-- behind a polarity a pattern begins, where it isn't left out
with_pattern : (fs : List m.Frame) (o : ℕ) (x : tree.Name) (r : Polarity) (t : ℕ) (c : Token) (w : tree.Span) → leaves_out false c ≡ false → m.after_polarity fs o x r t c w ≡ m.want_pattern (m.AtPattern (m.InTyped x r) ∷ fs) o 0 0 m.none_before c w
with_pattern fs o x r t (Mark mark.Comma) w h = absurd (cc)
with_pattern fs o x r t (Mark mark.RoundClose) w h = absurd (cc)
with_pattern fs o x r t (Mark mark.CurlyOpen) w h = absurd (cc)
with_pattern fs o x r t _ w h = refl

pub at_pattern : (payload : Bool) (fs : List m.Frame) (o : ℕ) (x : tree.Name) (r : Polarity) (n : ℕ) (w : tree.Span) (t : CodeToken) (old new : Rest) → leaves_out payload (kind_view t.kind) ≡ false → ((y : m.State) → m.finish y ≡ None → answer y old ≡ after (moved y (kind_view t.kind) (span_view t.span)) t.span.from new) → after (m.polarized payload fs o x r w) n old ≡ after (m.want_pattern (m.AtPattern (m.InTyped x r) ∷ fs) o 0 0 m.none_before (kind_view t.kind) (span_view t.span)) t.span.from new
at_pattern true fs o x r n w t old new h taken = taken (m.state (m.WantPattern m.none_before) (m.AtPattern (m.InTyped x r) ∷ fs) o 0 0) refl
at_pattern false fs o x r n w t old new h taken = taken (m.state (m.AfterPolarity x r w.to) fs o 0 0) refl ∙ ap (λ y. after y t.span.from new) (with_pattern fs o x r w.to (kind_view t.kind) (span_view t.span) h)
