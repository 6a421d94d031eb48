use Rattle.std.proofs.Common.{◌≡◌, ◌≤◌, ℕ, List, [], map, length}
use Rattle.pat_parser_spec.specs.Machine as m
use Rattle.pat_parser_spec.specs.Trees as trees
use Rattle.pat_syntax.specs.Views.{kind_view}
use Rattle.pat_tree.specs.Views.{span_view, name_view}
use Rattle.pat_parser_phrases.specs.tokens.Answers.{answer, after}
use Rattle.pat_parser.proofs.terms.clauses.names.Given as goal

-- the answer from behind the bracket is the one at the next name, behind those so far
abbrev pub invariant-loop-text : goal.invariant-loop-text
invariant-loop-text l = record {
  read : (g : m.Guarding) → (word : trees.Span) → (tag : trees.Name) → (fs : List m.Frame) → (o s : ℕ) → answer (m.state (m.FirstBinder (record { guard = g; word = word; tag = tag; names = [] })) fs o 0 s) l.fn.tokens ≡ after (m.want_name fs o s (m.BinderName (record { guard = g; word = word; tag = tag; names = map name_view l.names })) (kind_view l.next.kind) (span_view l.next.span)) l.next.span.from l.tokens;
  fewer : length l.tokens.0 ≤ length l.fn.tokens.0;
}

abbrev pub decreases-loop-text : goal.decreases-loop-text
decreases-loop-text l = length l.tokens.0
