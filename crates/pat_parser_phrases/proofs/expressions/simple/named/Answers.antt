use Rattle.std.proofs.Common.{ap, ◌∙◌}
use Rattle.pat_parser_spec.specs.Machine as m
use Rattle.pat_syntax.specs.Views.{kind_view}
use Rattle.pat_tree.specs.Views.{span_view, name_view}
use Rattle.pat_parser_phrases.specs.tokens.Answers.{after}
use Rattle.pat_parser_phrases.proofs.Steps.{from_front, fails_from_front, failed}
use Rattle.pat_parser_phrases.proofs.Joining.{named_other}
use Rattle.pat_parser_phrases.proofs.expressions.simple.named.Goals as goal

pub returns-in_err-expression_named-clause-reads : goal.returns-in_err-expression_named-clause-reads
returns-in_err-expression_named-clause-reads c = λ fs s top.
    let t = c.args.token in
    let e = ap (λ (y : m.Move). after y t.span.from c.args.tokens.now) (named_other fs c.args.opened 0 s (name_view c.args.name) (kind_view t.kind) (span_view t.span) (λ e. let h = c.is_mark.ensures.1 e in cc) (λ e. let h = c.is_mark-2.ensures.1 e in cc)) in
    failed _ c.in_err-expression_named.field-0.0 _ _ c.from_residual.ensures.1 (fails_from_front _ _ _ e (c.in_err-expression_named.ensures.reads fs s))

pub returns-clause-reads : goal.returns-clause-reads
returns-clause-reads c = λ fs s top.
    let t = c.args.token in
    let e = ap (λ (y : m.Move). after y t.span.from c.args.tokens.now) (named_other fs c.args.opened 0 s (name_view c.args.name) (kind_view t.kind) (span_view t.span) (λ e. let h = c.is_mark.ensures.1 e in cc) (λ e. let h = c.is_mark-2.ensures.1 e in cc)) in
    from_front c.value.result _ _ _ (e ∙ c.in_ok-expression_named.ensures.reads fs s) (c.value.ensures fs c.args.opened s _ top)
