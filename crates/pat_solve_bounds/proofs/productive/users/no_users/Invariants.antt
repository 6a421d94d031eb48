use Rattle.std.proofs.Common.{◌≡◌, [], replicate}
use Rattle.pat_solve_bounds.proofs.productive.users.no_users.Given as goal

abbrev pub invariant-loop : goal.invariant-loop
invariant-loop l = l.users ≡ replicate l.counter []
