use Rattle.pat_patterns.specs.Views.{pattern_view}
use Rattle.pat_patterns.specs.postfix_form.Postfix.{nodes}
use Rattle.pat_patterns.specs.postfix_form.Views.{pointed}
use Rattle.pat_solve_elimination.proofs.Marked.{SoMarked}
use Rattle.pat_solve_elimination.proofs.needing.mark_variables.Given as goal

abbrev pub invariant-loop-part : goal.invariant-loop-part
invariant-loop-part l = SoMarked l.variables l.from (pattern_view l.p) l.fn.marks.items l.marks.items (pointed l.waiting)

abbrev pub decreases-loop-part : goal.decreases-loop-part
decreases-loop-part l = nodes (pointed l.waiting)
