use Rattle.std.proofs.Common.{rules, ◌≡◌, Some, None}
use Rattle.pat_patterns.specs.Views.{pattern_view}
use Rattle.pat_certificate_values.proofs.Powers.{point_over, sum_over}
use Rattle.pat_certificate_values.proofs.forms.point_patterns.points.Goals as goal

pub returns-in-None : goal.returns-in-None
returns-in-None c =
    let none : c.in_ok-point.field-0 ≡ None = search rules in
    point_over c.args.k c.args.tags (pattern_view c.loop-own.made.pattern) c.args.all.now c.loop-own.own-index _ c.loop-own-test.true c.loop-own.invariant.0 c.in_ok-point.field-0 c.in_ok-point.ensures none

pub returns-in-None-2 : goal.returns-in-None-2
returns-in-None-2 c =
    let some : c.in_ok-point.field-0 ≡ Some c.in-Some.next = search rules in
    let none : c.in_ok-sum-in-Some.field-0 ≡ None = search rules in
    sum_over c.args.k c.args.tags (pattern_view c.loop-own.made.pattern) c.args.all.now c.loop-own.own-index _ c.loop-own-test.true c.loop-own.invariant.0 c.in_ok-point.field-0 c.in-Some.next c.in_ok-sum-in-Some.field-0 c.in_ok-point.ensures some c.in_ok-sum-in-Some.ensures none
