use Rattle.std.proofs.Common.{◌≡◌, length}
use Rattle.pat_solve_elimination.proofs.resolving.nothing_known.Given as goal

abbrev pub invariant-loop : goal.invariant-loop
invariant-loop l = length l.values ≡ l.counter
