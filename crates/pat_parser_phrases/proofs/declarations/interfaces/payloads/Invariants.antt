use Rattle.std.proofs.Common.{◌≡◌, ◌≤◌, ◌∷◌, [], List, map, length}
use Rattle.pat_parser_spec.specs.Machine as m
use Rattle.pat_parser_spec.specs.Trees as trees
use Rattle.pat_syntax.specs.Views.{kind_view}
use Rattle.pat_tree.specs.Views.{span_view, type_view}
use Rattle.pat_parser_phrases.specs.tokens.Answers.{answer, after}
use Rattle.pat_parser_phrases.proofs.declarations.interfaces.payloads.Given as goal

-- the answer from behind the bracket is the one at the next payload, behind those so far
abbrev pub invariant-loop-payloads : goal.invariant-loop-payloads
invariant-loop-payloads l = record {
  read : (fs : List m.Frame) → (i : m.Interfacing) → (x : trees.Name) → answer (m.state m.FirstPayload (m.AtType (m.InMessage i x []) ∷ fs) 2 0 0) l.fn.tokens ≡ after (m.want_type (m.AtType (m.InMessage i x (map type_view l.payloads)) ∷ fs) 2 (kind_view l.next.kind) (span_view l.next.span)) l.next.span.from l.tokens;
  fewer : length l.tokens.0 ≤ length l.fn.tokens.0;
}

abbrev pub decreases-loop-payloads : goal.decreases-loop-payloads
decreases-loop-payloads l = length l.tokens.0
