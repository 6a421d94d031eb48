use Rattle.pat_solve_bounds.specs.lower_bounds.Sides.{sides_list}
use Rattle.pat_solve_bounds.specs.productive.Users.{HasUsersBefore}
use Rattle.pat_solve_bounds.proofs.productive.users.users_of.Given as goal

abbrev pub invariant-loop-number : goal.invariant-loop-number
invariant-loop-number l = HasUsersBefore (sides_list l.constraints) l.count l.number l.users
