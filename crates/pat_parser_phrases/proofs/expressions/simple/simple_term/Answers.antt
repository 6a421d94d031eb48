use Rattle.std.proofs.Common.{ap, ◌∙◌}
use Rattle.pat_parser_spec.specs.Machine as m
use Rattle.pat_tree.specs.Views.{span_view}
use Rattle.pat_parser_phrases.specs.tokens.Answers.{after}
use Rattle.pat_parser_phrases.proofs.Steps.{from_front, fails_from_front, failed}
use Rattle.pat_parser_phrases.proofs.Joining.{start_other}
use Rattle.pat_parser_phrases.proofs.expressions.simple.simple_term.Goals as goal

pub returns-in_err-expression-in_default-clause-reads :
    goal.returns-in_err-expression-in_default-clause-reads
returns-in_err-expression-in_default-clause-reads c = λ fs s b simple top.
    let e = ap (λ (y : m.Move). after y c.args.span.from c.args.tokens.now) (start_other fs c.args.opened 0 s b c.args.kind (span_view c.args.span) c.in_default.not-Name c.in_default.not-Word simple) in
    failed _ c.in_err-expression-in_default.field-0.0 _ _ c.from_residual-in_err-expression-in_default.ensures.1 (fails_from_front _ _ _ e (c.in_err-expression-in_default.ensures.reads fs s))

pub returns-in_ok-expression-in_default-clause-reads :
    goal.returns-in_ok-expression-in_default-clause-reads
returns-in_ok-expression-in_default-clause-reads c = λ fs s b simple top.
    let e = ap (λ (y : m.Move). after y c.args.span.from c.args.tokens.now) (start_other fs c.args.opened 0 s b c.args.kind (span_view c.args.span) c.in_default.not-Name c.in_default.not-Word simple) in
    from_front c.value.result _ _ _ (e ∙ c.in_ok-expression-in_default.ensures.reads fs s) (c.value.ensures fs c.args.opened s _ top)
