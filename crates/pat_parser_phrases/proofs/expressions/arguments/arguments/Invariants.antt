use Rattle.std.proofs.Common.{◌≡◌, ◌∷◌, [], ◌+◌, ◌≤◌, ℕ, suc, List, length, map}
use Rattle.pat_parser_spec.specs.Machine as m
use Rattle.pat_syntax.specs.Views.{kind_view}
use Rattle.pat_tree.specs.Views.{span_view, expr_view}
use Rattle.pat_parser_phrases.specs.tokens.Answers.{after}
use Rattle.pat_parser_phrases.proofs.expressions.arguments.arguments.Given as goal

-- the answer from behind the bracket is the one at the next argument, behind those so far
abbrev pub invariant-loop-args : goal.invariant-loop-args
invariant-loop-args l = record {
  same : (h : m.Head) → (fs : List m.Frame) → (s : ℕ) → after (m.Opens l.opened 0 (m.state m.FirstArg (m.AtExpr (m.InArgs h [] l.opened) ∷ fs) (suc l.opened) 0 s)) l.at l.fn.tokens ≡ after (m.want_step (m.AtExpr (m.InArgs h (map expr_view l.args) l.opened) ∷ fs) (l.opened + 1) 0 s m.nothing (kind_view l.next.kind) (span_view l.next.span)) l.next.span.from l.tokens;
  no_more : length l.tokens.0 ≤ length l.fn.tokens.0;
}

abbrev pub decreases-loop-args : goal.decreases-loop-args
decreases-loop-args l = length l.tokens.0
