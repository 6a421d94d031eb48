use Rattle.std.proofs.Common.{◌+◌, ◌<◌, length, drop, map, arith}
use Rattle.pat_semantics_spec.specs.Programs.{kind_of}
use Rattle.pat_resolver_spec.specs.Findings.{args_findings}
use Rattle.pat_core.specs.Views.{sort_view}
use Rattle.pat_resolver_heads.specs.tables.Views.{scope_view}
use Rattle.pat_tree.specs.Views.{expr_view}
use Rattle.pat_resolver_bodies.proofs.Order.{stops, goes_on}
use Rattle.pat_resolver_bodies.proofs.Rows.{row_from}
use Rattle.pat_resolver_bodies.proofs.expressions.check_args.Goals as goal

pub returns-in_err-check_expr : goal.returns-in_err-check_expr
returns-in_err-check_expr c =
    let here : c.loop-place.place < length c.args.sorts.now = omega (arith, c.requires) in
    let e = row_from c.args.args.now c.loop-place.place c.index-args-place.result c.loop-place-test.true c.index-args-place.is in
    let f = row_from c.args.sorts.now c.loop-place.place c.index-sorts-place.result here c.index-sorts-place.is in
    stops _ _ _ (args_findings (scope_view c.args.scope.now) (map kind_of (map sort_view (drop (c.loop-place.place + 1) c.args.sorts.now))) (map expr_view (drop (c.loop-place.place + 1) c.args.args.now))) _
    c.from_residual.ensures.1 (rw (e, f) at c.loop-place.invariant) (rw (← c.kind_of_sort.ensures) c.in_err-check_expr.ensures)

pub loop-place-preserved : goal.loop-place-preserved
loop-place-preserved c =
    let here : c.loop-place.place < length c.args.sorts.now = omega (arith, c.requires) in
    let e = row_from c.args.args.now c.loop-place.place c.index-args-place.result c.loop-place-test.true c.index-args-place.is in
    let f = row_from c.args.sorts.now c.loop-place.place c.index-sorts-place.result here c.index-sorts-place.is in
    goes_on _ _ _ (rw (e, f) at c.loop-place.invariant) (rw (← c.kind_of_sort.ensures) c.in_ok-check_expr.ensures)
