use Rattle.std.proofs.Common.{arith, subst}
use Rattle.pat_patterns.specs.postfix_form.Views.{pointed}
use Rattle.pat_solve_bounded.specs.Views.{measured_view}
use Rattle.pat_solve_elimination.specs.Weighing.{nodes_by, levels_by}
use Rattle.pat_solve_elimination.proofs.Growths.{if_some}
use Rattle.pat_solve_elimination.proofs.Weighed.{SoWeighs, weighed_whole}
use Rattle.pat_solve_elimination.proofs.weighing.weigh.Goals as goal

pub returns-clause-levels : goal.returns-clause-levels
returns-clause-levels c =
    let n = nodes_by c.args.variables.now c.args.weights.now in
    let d = levels_by c.args.variables.now c.args.weights.now in
    let f = measured_view c.args.f.now in
    let growth = c.loop-part.growth in
    let levels = c.args.f.now.sizes.levels_are in
    let so = subst (λ es. SoWeighs n d f growth (pointed es)) c.in_default.ensures.none.0 c.loop-part.invariant in
    if_some c.within_levels.result c.within_levels.ensures (λ whole h. let most = h.1 in ((weighed_whole n d f growth whole so h.0 (omega (arith, most, levels))).1, h.2))
