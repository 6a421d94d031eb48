use Rattle.std.proofs.Common.{◌≡◌, length}
use Rattle.pat_solve.proofs.states.begun.Given as goal

abbrev pub invariant-loop-declared : goal.invariant-loop-declared
invariant-loop-declared l = length l.values ≡ l.declared-index
