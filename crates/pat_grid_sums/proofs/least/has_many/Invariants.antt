use Rattle.std.proofs.Common.{◌≤◌, length}
use Rattle.pat_grid_sums.proofs.least.has_many.Given as goal

abbrev pub invariant-loop : goal.invariant-loop
invariant-loop l = l.number ≤ length l.held
