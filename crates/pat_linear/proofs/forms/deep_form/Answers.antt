use Rattle.std.proofs.Common.{ap}
use Rattle.std.proofs.lemmas.Result.{err_from_is_err_and}
use Rattle.pat_patterns.specs.Views.{pattern_view}
use Rattle.pat_inclusion_spec.specs.Counts.{most_tags}
use Rattle.pat_linear.specs.Views.{forms_view}
use Rattle.pat_linear.proofs.Standing.{begun, can_join, refused}
use Rattle.pat_linear.proofs.forms.deep_form.Goals as goal

pub loop-head-init : goal.loop-head-init
loop-head-init c =
    begun most_tags (pattern_view c.args.p.now) c.in_ok-heads.heads (forms_view c.in_ok-done.done) c.in_ok-heads.ensures (ap forms_view c.in_ok-done.ensures)

pub join-requires : goal.join-requires
join-requires c =
    can_join (pattern_view c.args.p.now) c.loop-head.heads c.in-Some.head c.pop.new.self (forms_view c.loop-head.done) c.requires.small c.requires.tags c.loop-head.invariant c.in-Some.ensures.some

pub returns-in_err-join : goal.returns-in_err-join
returns-in_err-join c =
    let q = err_from_is_err_and c.from_residual-in_err-join.result c.from_residual-in_err-join.ensures.1 in
    rw (q.1, q.2)
    (refused most_tags (pattern_view c.args.p.now) c.loop-head.heads c.in-Some.head c.pop.new.self (forms_view c.loop-head.done) (forms_view c.join.new.done) c.in_err-join.field-0.0 c.loop-head.invariant c.in-Some.ensures.some c.in_err-join.ensures)
