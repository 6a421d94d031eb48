use Rattle.std.proofs.Common.{◌≡◌, ◌∷◌, [], ◌+◌, suc, true, nat_lt, map, refl, ◌∙◌, arith, rules}
use Rattle.pat_parser_spec.specs.Machine as m
use Rattle.pat_syntax.specs.declared.mark.Mark.TheVariants as mark
use Rattle.pat_syntax.specs.declared.token.TokenKind.TheVariants as kind
use Rattle.pat_syntax.specs.Views.{kind_view}
use Rattle.pat_tree.specs.Views.{span_view, expr_view}
use Rattle.pat_parser_phrases.proofs.Joining.{comma_taken, in_arguments}
use Rattle.pat_parser_phrases.proofs.expressions.arguments.arguments.Goals as goal
use Rattle.pat_limits.specs.Limits.{most_open}

pub loop-args-init : goal.loop-args-init
loop-args-init c = record {
  same = λ h fs s.
      let room : nat_lt (c.args.opened + 0) most_open ≡ true = cc in
      let first = c.in_ok-next.next in
      let state = m.state m.FirstArg (m.AtExpr (m.InArgs h [] c.args.opened) ∷ fs) (suc c.args.opened) 0 s in
      in_arguments h fs c.args.opened s c.new-args.result c.args.at (kind_view first.kind) (span_view first.span) first.span.from c.args.tokens.now c.next.new.self room c.new-args.ensures (λ e. let h = c.is_mark.ensures.1 e in cc) (c.in_ok-next.ensures.taken state refl);
  no_more = omega arith;
}

pub loop-args-preserved : goal.loop-args-preserved
loop-args-preserved c = record {
  same = λ h fs s.
      let read = c.in_ok-read.read in
      let comma : c.in_ok-read.read.token.kind ≡ kind.Mark mark.Comma = search rules in
      let o = c.args.opened in
      let e = c.loop-args.invariant.same h fs s ∙ c.in_ok-read.ensures.reads (m.AtExpr (m.InArgs h (map expr_view c.loop-args.args) o) ∷ fs) s in
      let more = c.push.new.self in
      e ∙ comma_taken h fs o (o + 1) s c.loop-args.args more read c.expression.new.tokens comma c.in_ok-push.ensures.ok ∙ c.in_ok-next-in-Mark-Comma.ensures.taken (m.state (m.Want m.nothing) (m.AtExpr (m.InArgs h (map expr_view more) o) ∷ fs) (o + 1) 0 s) refl;
  no_more = omega arith;
}
