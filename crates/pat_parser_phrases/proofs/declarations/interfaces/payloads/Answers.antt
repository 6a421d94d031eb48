use Rattle.std.proofs.Common.{[], ◌∷◌, ap, ◌∙◌, refl, arith}
use Rattle.pat_parser_spec.specs.Machine as m
use Rattle.pat_syntax.specs.Views.{kind_view}
use Rattle.pat_tree.specs.Views.{span_view}
use Rattle.pat_parser_phrases.specs.tokens.Answers.{after}
use Rattle.pat_parser_phrases.proofs.Items.{payload_first}
use Rattle.pat_parser_phrases.proofs.declarations.interfaces.payloads.Goals as goal

pub loop-payloads-init : goal.loop-payloads-init
loop-payloads-init c = record {
  read = λ fs i x.
      let inside = m.AtType (m.InMessage i x []) ∷ fs in
      let first = c.in_ok-next.next in
      rw c.new-payloads.ensures (c.in_ok-next.ensures.taken (m.state m.FirstPayload inside 2 0 0) refl ∙ ap (λ (y : m.Move). after y first.span.from c.next.new.self) (payload_first inside (kind_view first.kind) (span_view first.span) (λ e. let h = c.is_mark.ensures.1 e in cc)));
  fewer = omega arith;
}
