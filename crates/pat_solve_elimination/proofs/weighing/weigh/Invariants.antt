use Rattle.pat_patterns.specs.postfix_form.Postfix.{nodes}
use Rattle.pat_patterns.specs.postfix_form.Views.{pointed}
use Rattle.pat_solve_bounded.specs.Views.{measured_view}
use Rattle.pat_solve_elimination.specs.Weighing.{nodes_by, levels_by}
use Rattle.pat_solve_elimination.proofs.Weighed.{SoWeighs}
use Rattle.pat_solve_elimination.proofs.weighing.weigh.Given as goal

abbrev pub invariant-loop-part : goal.invariant-loop-part
invariant-loop-part l =
    SoWeighs (nodes_by l.variables l.weights) (levels_by l.variables l.weights) (measured_view l.f) l.growth (pointed l.waiting)

abbrev pub decreases-loop-part : goal.decreases-loop-part
decreases-loop-part l = nodes (pointed l.waiting)
