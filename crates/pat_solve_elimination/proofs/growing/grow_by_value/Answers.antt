use Rattle.std.proofs.Common.{arith}
use Rattle.pat_solve_bounded.specs.Views.{measured_view, measured_list}
use Rattle.pat_solve_bounded.specs.replacing.Ascending.{paired}
use Rattle.pat_solve_elimination.proofs.Growths.{if_some, lacks_all, settled_value, settled_variable}
use Rattle.pat_solve_elimination.proofs.growing.grow_by_value.Goals as goal

pub returns-then-has_none-clause-settled : goal.returns-then-has_none-clause-settled
returns-then-has_none-clause-settled c =
    let ks = c.args.variables.now in
    let vs = measured_list c.args.values.now in
    let own = c.in-Some.value.now in
    let levels = own.sizes.levels_are in
    if_some c.with.result c.with.ensures (λ next h.
    settled_value (paired ks vs) c.args.variable next.levels (measured_view own) c.in-Some.ensures (omega (arith, h.2, levels))
    (lacks_all ks vs (measured_view own) (c.has_none.ensures c.if-has_none.true)))

pub returns-in-None-clause-settled : goal.returns-in-None-clause-settled
returns-in-None-clause-settled c =
    let vs = paired c.args.variables.now (measured_list c.args.values.now) in
    if_some c.with-in-None.result c.with-in-None.ensures (λ next h.
    settled_variable vs c.args.variable next.levels c.in-None.ensures (omega (arith, h.2)))
