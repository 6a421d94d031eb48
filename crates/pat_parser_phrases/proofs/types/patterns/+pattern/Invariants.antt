use Rattle.std.proofs.Common.{◌≡◌, ◌+◌, ◌*◌, ◌≤◌, ℕ, List, length}
use Rattle.pat_parser_spec.specs.Machine as m
use Rattle.pat_syntax.specs.Views.{kind_view}
use Rattle.pat_tree.specs.Views.{span_view}
use Rattle.pat_parser_phrases.specs.tokens.Answers.{after}
use Rattle.pat_parser_phrases.specs.types.Ends.{before_view}
use Rattle.pat_parser_phrases.proofs.types.patterns.+pattern.Given as goal

abbrev pub decreases-factor : goal.decreases-factor
decreases-factor l = 2 * length l.tokens.now.0

abbrev pub decreases-pattern : goal.decreases-pattern
decreases-pattern l = 2 * length l.tokens.now.0 + 1

-- the answer from here is the one from the pattern's first token
abbrev pub invariant-pattern-loop-before : goal.invariant-pattern-loop-before
invariant-pattern-loop-before l = record {
  read : (fs : List m.Frame) → (s : ℕ) → after (m.want_pattern fs l.fn.opened l.fn.operators s m.none_before (kind_view l.fn.kind) (span_view l.fn.span)) l.fn.span.from l.fn.tokens ≡ after (m.want_pattern fs l.opened l.operators s (before_view l.before) (kind_view l.kind) (span_view l.span)) l.span.from l.tokens;
  fewer : length l.tokens.0 ≤ length l.fn.tokens.0;
}

abbrev pub decreases-pattern-loop-before : goal.decreases-pattern-loop-before
decreases-pattern-loop-before l = length l.tokens.0
