use Rattle.std.proofs.Common.{◌≡◌, [], replicate}
use Rattle.pat_solve_bounds.proofs.lower_bounds.rows.no_rows.Given as goal

abbrev pub invariant-loop : goal.invariant-loop
invariant-loop g l = l.rows ≡ replicate l.counter []
