use Rattle.std.proofs.Common.{◌≡◌, ◌+◌, ◌-◌, ◌*◌, ◌≤◌, ℕ, List, length}
use Rattle.pat_parser_spec.specs.Machine as m
use Rattle.pat_parser_phrases.specs.expressions.Views.{pending_view}
use Rattle.pat_parser_phrases.specs.expressions.Reads.{behind_operand}
use Rattle.pat_parser_phrases.proofs.expressions.expressions.+expression.Given as goal
use Rattle.pat_limits.specs.Limits.{most_open}

abbrev pub decreases-bracket : goal.decreases-bracket
decreases-bracket l = 4 * (most_open - l.opened)

abbrev pub decreases-operand : goal.decreases-operand
decreases-operand l = 4 * (most_open - l.opened) + 1

abbrev pub decreases-operations : goal.decreases-operations
decreases-operations l = 4 * (most_open - l.opened) + 2

abbrev pub decreases-expression : goal.decreases-expression
decreases-expression l = 4 * (most_open - l.opened) + 3

abbrev pub invariant-operations-loop-op : goal.invariant-operations-loop-op
invariant-operations-loop-op l = record {
  same : (fs : List m.Frame) → (s : ℕ) → behind_operand fs l.opened s m.nothing l.fn.first l.fn.tokens ≡ behind_operand fs l.opened s (pending_view l.pending) l.last l.tokens;
  no_more : length l.tokens.0 ≤ length l.fn.tokens.0;
}

abbrev pub decreases-operations-loop-op : goal.decreases-operations-loop-op
decreases-operations-loop-op l = length l.tokens.0
