use Rattle.std.proofs.Common.{◌≡◌, [], ap, ◌∙◌, refl, arith, rules}
use Rattle.pat_parser_spec.specs.Machine as m
use Rattle.pat_syntax.specs.declared.mark.Mark.TheVariants as mark
use Rattle.pat_syntax.specs.declared.token.TokenKind.TheVariants as kind
use Rattle.pat_syntax.specs.Views.{kind_view}
use Rattle.pat_tree.specs.Views.{span_view}
use Rattle.pat_parser_phrases.specs.tokens.Answers.{after}
use Rattle.pat_parser_phrases.proofs.Items.{param_first, with_params, param_taken}
use Rattle.pat_parser_phrases.proofs.declarations.functions.params.Goals as goal

pub loop-params-init : goal.loop-params-init
loop-params-init c = record {
  read = λ fs ds x.
      let f = with_params ds x [] in
      let first = c.in_ok-next.next in
      rw c.new-params.ensures (c.in_ok-next.ensures.taken (m.state (m.FirstParam f) fs 1 0 0) refl ∙ ap (λ (y : m.Move). after y first.span.from c.next.new.self) (param_first fs f (kind_view first.kind) (span_view first.span) (λ e. let h = c.is_mark.ensures.1 e in cc)));
  fewer = omega arith;
}

pub loop-params-preserved : goal.loop-params-preserved
loop-params-preserved c = record {
  read = λ fs ds x.
      let params = c.loop-params.params in
      let more = c.push.new.self in
      let comma : c.in_ok-read.read.token.kind ≡ kind.Mark mark.Comma = search rules in
      let before = c.loop-params.invariant.read fs ds x ∙ c.in_ok-read.ensures.read fs (with_params ds x params) in
      before ∙ param_taken fs ds x params more c.in_ok-read.read c.param.new.tokens comma c.in_ok-push.ensures.ok ∙ c.in_ok-next-in-Mark-Comma.ensures.taken (m.state (m.WantName (m.ParamName (with_params ds x more))) fs 1 0 0) refl;
  fewer = omega arith;
}
