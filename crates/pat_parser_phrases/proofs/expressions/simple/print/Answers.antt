use Rattle.std.proofs.Common.{◌≡◌, ◌∷◌, ◌+◌, ℕ, suc, refl, ap, ◌∙◌, arith}
use Rattle.pat_parser_spec.specs.Machine as m
use Rattle.pat_syntax.specs.Views.{kind_view}
use Rattle.pat_tree.specs.Views.{span_view}
use Rattle.pat_parser_phrases.specs.tokens.Answers.{after}
use Rattle.pat_parser_phrases.proofs.Steps.{from_front, fails_from_front, failed}
use Rattle.pat_parser_phrases.proofs.ExpressionsMarks.{only_print}
use Rattle.pat_parser_phrases.proofs.expressions.simple.print.Goals as goal

pub returns-in_err-open-clause-reads : goal.returns-in_err-open-clause-reads
returns-in_err-open-clause-reads c = λ fs s.
    let want = m.state (m.Want m.nothing) (m.AtExpr (m.InPrint c.args.from c.args.opened) ∷ fs) (suc c.args.opened) 0 s in
    let f = c.in_err-open.ensures.opened (m.state (m.AfterPrint c.args.from) fs c.args.opened 0 s) want (only_print fs c.args.opened s c.args.from) (λ w. refl) in
    failed _ c.in_err-open.field-0.0 _ _ c.from_residual.ensures.1 f

pub returns-in_err-kind-clause-reads : goal.returns-in_err-kind-clause-reads
returns-in_err-kind-clause-reads c = λ fs s.
    let want = m.state (m.Want m.nothing) (m.AtExpr (m.InPrint c.args.from c.args.opened) ∷ fs) (suc c.args.opened) 0 s in
    let e = c.in_ok-open.ensures.opened (m.state (m.AfterPrint c.args.from) fs c.args.opened 0 s) want (only_print fs c.args.opened s c.args.from) (λ w. refl) in
    failed _ c.in_err-kind.field-0.0 _ _ c.from_residual-in_err-kind.ensures.1 (fails_from_front _ _ _ e (c.in_err-kind.ensures.taken want refl))

pub returns-in_err-read-clause-reads : goal.returns-in_err-read-clause-reads
returns-in_err-read-clause-reads c = λ fs s.
    let inside = m.AtExpr (m.InPrint c.args.from c.args.opened) ∷ fs in
    let next = c.in_ok-kind.field-0 in
    let want = m.state (m.Want m.nothing) inside (suc c.args.opened) 0 s in
    let e = c.in_ok-open.ensures.opened (m.state (m.AfterPrint c.args.from) fs c.args.opened 0 s) want (only_print fs c.args.opened s c.args.from) (λ w. refl) in
    let more : suc c.args.opened ≡ c.args.opened + 1 = omega arith in
    let wanted = ap (λ (o : ℕ). after (m.want_step inside o 0 s m.nothing (kind_view next.kind) (span_view next.span)) next.span.from c.next.new.self) more in
    failed _ c.in_err-read.field-0.0 _ _ c.from_residual-in_err-read.ensures.1 (fails_from_front _ _ _ (e ∙ c.in_ok-kind.ensures.taken want refl ∙ wanted) (c.in_err-read.ensures.reads inside s))

pub returns-clause-reads : goal.returns-clause-reads
returns-clause-reads c = λ fs s.
    let inside = m.AtExpr (m.InPrint c.args.from c.args.opened) ∷ fs in
    let next = c.in_ok-kind.field-0 in
    let want = m.state (m.Want m.nothing) inside (suc c.args.opened) 0 s in
    let e = c.in_ok-open.ensures.opened (m.state (m.AfterPrint c.args.from) fs c.args.opened 0 s) want (only_print fs c.args.opened s c.args.from) (λ w. refl) in
    let more : suc c.args.opened ≡ c.args.opened + 1 = omega arith in
    let wanted = ap (λ (o : ℕ). after (m.want_step inside o 0 s m.nothing (kind_view next.kind) (span_view next.span)) next.span.from c.next.new.self) more in
    from_front c.print_end.result _ _ _ (e ∙ c.in_ok-kind.ensures.taken want refl ∙ wanted ∙ c.in_ok-read.ensures.reads inside s) (c.print_end.ensures.reads fs c.args.opened (c.args.opened + 1) s)
