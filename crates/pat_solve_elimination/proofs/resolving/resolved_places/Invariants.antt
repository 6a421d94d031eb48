use Rattle.std.proofs.Common.{◌≤◌, length}
use Rattle.pat_solve_bounded.specs.Views.{measured_list}
use Rattle.pat_solve_elimination.specs.Resolving.{AreResolved}
use Rattle.pat_solve_elimination.proofs.resolving.resolved_places.Given as goal

abbrev pub invariant-loop-place : goal.invariant-loop-place
invariant-loop-place l =
    AreResolved l.variables (measured_list l.values) l.marks l.place (measured_list l.known.values) l.known.weights × (l.place ≤ length l.variables)

abbrev pub decreases-loop-place : goal.decreases-loop-place
decreases-loop-place l = l.place
