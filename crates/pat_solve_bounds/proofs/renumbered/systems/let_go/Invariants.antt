use Rattle.std.proofs.Common.{length}
use Rattle.pat_solve_bounds.proofs.renumbered.systems.let_go.Given as goal

abbrev pub invariant-loop-bound : goal.invariant-loop-bound
invariant-loop-bound l = Unit {0}

abbrev pub decreases-loop-bound : goal.decreases-loop-bound
decreases-loop-bound l = length l.system
