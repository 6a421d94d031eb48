use Rattle.std.proofs.Common.{suc, refl, ◌∙◌}
use Rattle.pat_parser_spec.specs.Machine as m
use Rattle.pat_tree.specs.Views.{name_view}
use Rattle.pat_parser_phrases.proofs.Steps.{from_front, fails_from_front, failed}
use Rattle.pat_parser_phrases.proofs.ExpressionsMarks.{only_new, only_new_end}
use Rattle.pat_parser_phrases.proofs.expressions.simple.new.Goals as goal

-- `free` goes through other states and has other brackets; what holds of both stands in `Steps`.
pub returns-in_err-open-clause-reads : goal.returns-in_err-open-clause-reads
returns-in_err-open-clause-reads c = λ fs s.
    let what = m.NewName c.args.from c.args.opened in
    let f = c.in_err-open.ensures.opened (m.state (m.AfterNew c.args.from) fs c.args.opened 0 s) (m.state (m.WantName what) fs (suc c.args.opened) 0 s) (only_new fs c.args.opened s c.args.from) (λ w. refl) in
    failed _ c.in_err-open.field-0.0 _ _ c.from_residual.ensures.1 f

pub returns-in_err-name-clause-reads : goal.returns-in_err-name-clause-reads
returns-in_err-name-clause-reads c = λ fs s.
    let what = m.NewName c.args.from c.args.opened in
    let e = c.in_ok-open.ensures.opened (m.state (m.AfterNew c.args.from) fs c.args.opened 0 s) (m.state (m.WantName what) fs (suc c.args.opened) 0 s) (only_new fs c.args.opened s c.args.from) (λ w. refl) in
    failed _ c.in_err-name.field-0.0 _ _ c.from_residual-in_err-name.ensures.1 (fails_from_front _ _ _ e (c.in_err-name.ensures.named what fs (suc c.args.opened) s))

pub returns-in_err-end-clause-reads : goal.returns-in_err-end-clause-reads
returns-in_err-end-clause-reads c = λ fs s.
    let what = m.NewName c.args.from c.args.opened in
    let name = name_view c.in_ok-name.name in
    let e = c.in_ok-open.ensures.opened (m.state (m.AfterNew c.args.from) fs c.args.opened 0 s) (m.state (m.WantName what) fs (suc c.args.opened) 0 s) (only_new fs c.args.opened s c.args.from) (λ w. refl) in
    let f = c.in_err-end.ensures.taken (m.state (m.GotName what name) fs (suc c.args.opened) 0 s) (only_new_end fs (suc c.args.opened) s c.args.from c.args.opened name) in
    failed _ c.in_err-end.field-0.0 _ _ c.from_residual-in_err-end.ensures.1 (fails_from_front _ _ _ (e ∙ c.in_ok-name.ensures.named what fs (suc c.args.opened) s) f)

pub returns-clause-reads : goal.returns-clause-reads
returns-clause-reads c = λ fs s.
    let what = m.NewName c.args.from c.args.opened in
    let name = name_view c.in_ok-name.name in
    let e = c.in_ok-open.ensures.opened (m.state (m.AfterNew c.args.from) fs c.args.opened 0 s) (m.state (m.WantName what) fs (suc c.args.opened) 0 s) (only_new fs c.args.opened s c.args.from) (λ w. refl) in
    let end = c.in_ok-end.ensures.taken (m.state (m.GotName what name) fs (suc c.args.opened) 0 s) (only_new_end fs (suc c.args.opened) s c.args.from c.args.opened name) in
    from_front c.ended.result _ _ _ (e ∙ c.in_ok-name.ensures.named what fs (suc c.args.opened) s ∙ end) (c.ended.ensures.reads fs c.args.opened s)
