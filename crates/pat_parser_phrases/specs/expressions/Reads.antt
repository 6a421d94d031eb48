-- The machine's answers behind what was read, and where a simple term may stand.
use Rattle.std.specs.Prelude.{ℕ, Bool, true, false, List, ◌∷◌}
use Rattle.pat_lexer_spec.specs.Words as word
use Rattle.pat_lexer_spec.specs.Marks as mark
use Rattle.pat_lexer_spec.specs.Tokens as tokens
use Rattle.pat_lexer_spec.specs.Tokens.{Token as Kind}
use Rattle.pat_parser_spec.specs.Machine as m
use Rattle.pat_syntax.specs.Views.{kind_view}
use Rattle.pat_tree.specs.Views.{span_view, term_view}
use Rattle.pat_parser_phrases.specs.tokens.Answers.{Answer, Rest, after}
use Rattle.pat_parser_phrases.specs.declared.expressions.expressions.ExpressionRead.{ExpressionRead}
use Rattle.pat_parser_phrases.specs.declared.expressions.simple.TermRead.{TermRead}
use Rattle.pat_parser_phrases.specs.expressions.Views.{operand_view}

-- behind an operand, with the token behind it in hand
abbrev pub behind_operand : List m.Frame → ℕ → ℕ → m.Pending → ExpressionRead → Rest → Answer
behind_operand fs o s p x ts = after (m.have_step fs o x.operators s p (operand_view x.operand) x.to (kind_view x.token.kind) (span_view x.token.span)) x.token.span.from ts

-- behind an expression, with the token behind it in hand
abbrev pub behind_expression : List m.Frame → ℕ → ℕ → ExpressionRead → Rest → Answer
behind_expression fs o s x ts = after (m.end_step fs o x.operators s (operand_view x.operand) x.to (kind_view x.token.kind) (span_view x.token.span)) x.token.span.from ts

-- behind a term, with the token behind it in hand
abbrev pub behind_term : List m.Frame → ℕ → ℕ → TermRead → Rest → Answer
behind_term fs o s x ts = after (m.done_step fs o s (term_view x.term.value) x.from (kind_view x.token.kind) (span_view x.token.span)) x.token.span.from ts

-- no expression is owed to the frame on top
abbrev pub no_expression : List m.Frame → Bool
no_expression (m.AtExpr f ∷ fs) = false
no_expression _ = true

-- the token begins no let, and no term with a block
abbrev pub is_simple : Kind → Bool
is_simple (tokens.Word word.Let) = false
is_simple (tokens.Word word.Spawn) = false
is_simple (tokens.Word word.If) = false
is_simple (tokens.Word word.Guard) = false
is_simple (tokens.Mark mark.CurlyOpen) = false
is_simple _ = true
