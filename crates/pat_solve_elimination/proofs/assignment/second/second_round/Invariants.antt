use Rattle.pat_solve_bounded.specs.Views.{measured_list}
use Rattle.pat_solve_elimination.proofs.SecondTurns.{PutBack}
use Rattle.pat_solve_elimination.proofs.assignment.second.second_round.Given as goal

abbrev pub invariant-loop-place : goal.invariant-loop-place
invariant-loop-place l = PutBack l.variables (measured_list l.initial.values) l.place (measured_list l.values)

abbrev pub decreases-loop-place : goal.decreases-loop-place
decreases-loop-place l = l.place
