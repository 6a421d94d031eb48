use Rattle.pat_patterns.specs.postfix_form.Postfix.{nodes}
use Rattle.pat_patterns.specs.postfix_form.Views.{pointed}
use Rattle.pat_solve_bounded.specs.Views.{measured_view, measured_list}
use Rattle.pat_solve_bounded.specs.replacing.Ascending.{paired}
use Rattle.pat_solve_elimination.proofs.Growths.{SoFar}
use Rattle.pat_solve_elimination.proofs.growing.may_grow.Given as goal

abbrev pub invariant-loop-part : goal.invariant-loop-part
invariant-loop-part l = SoFar (paired l.variables (measured_list l.values)) (measured_view l.f) l.growth (pointed l.waiting)

abbrev pub decreases-loop-part : goal.decreases-loop-part
decreases-loop-part l = nodes (pointed l.waiting)
