use Rattle.pat_solve_bounded.specs.Views.{measured_view, measured_list}
use Rattle.pat_solve_elimination.proofs.Marked.{SoNeeded}
use Rattle.pat_solve_elimination.proofs.needing.needed_places.Given as goal

abbrev pub invariant-loop-place : goal.invariant-loop-place
invariant-loop-place l = SoNeeded l.variables (measured_list l.values) (measured_view l.fn.f) l.place l.marks.items
