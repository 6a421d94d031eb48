use Rattle.std.proofs.Common.{◌-◌, length}
use Rattle.pat_solve_bounded.specs.Views.{measured_list}
use Rattle.pat_solve_elimination.proofs.FirstTurns.{Eliminated}
use Rattle.pat_solve_elimination.proofs.assignment.first.first_round.Given as goal

abbrev pub invariant-loop-place : goal.invariant-loop-place
invariant-loop-place l = Eliminated l.variables (measured_list l.lowers) l.place (measured_list l.values)

abbrev pub decreases-loop-place : goal.decreases-loop-place
decreases-loop-place l = length l.variables - l.place
