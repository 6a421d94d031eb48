use Rattle.std.proofs.Common.{◌≡◌, ◌≤◌, [], List, map, length}
use Rattle.pat_parser_spec.specs.Machine as m
use Rattle.pat_parser_spec.specs.Trees as trees
use Rattle.pat_syntax.specs.Views.{kind_view}
use Rattle.pat_tree.specs.Views.{span_view, param_view}
use Rattle.pat_parser_phrases.specs.tokens.Answers.{answer, after}
use Rattle.pat_parser_phrases.proofs.declarations.functions.params.Given as goal

-- the answer from behind the bracket is the one at the next parameter, behind those so far
abbrev pub invariant-loop-params : goal.invariant-loop-params
invariant-loop-params l = record {
  read : (fs : List m.Frame) → (ds : List trees.Decl) → (x : trees.Name) → answer (m.state (m.FirstParam (record { decls = ds; name = x; params = [] })) fs 1 0 0) l.fn.tokens ≡ after (m.want_name fs 1 0 (m.ParamName (record { decls = ds; name = x; params = map param_view l.params })) (kind_view l.next.kind) (span_view l.next.span)) l.next.span.from l.tokens;
  fewer : length l.tokens.0 ≤ length l.fn.tokens.0;
}

abbrev pub decreases-loop-params : goal.decreases-loop-params
decreases-loop-params l = length l.tokens.0
