use Rattle.pat_solve_bounded.specs.Views.{measured_view, measured_list}
use Rattle.pat_solve_elimination.proofs.Turning.{Turned}
use Rattle.pat_solve_elimination.proofs.turns.turns.Given as goal
use Rattle.std.proofs.Common.{◌-◌, length}

abbrev pub invariant-loop-place : goal.invariant-loop-place
invariant-loop-place l = Turned l.variables (measured_list l.values) (measured_view l.fn.f) l.place (measured_view l.made)

abbrev pub decreases-loop-place : goal.decreases-loop-place
decreases-loop-place l = length l.variables - l.place
