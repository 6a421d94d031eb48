use Rattle.std.proofs.Common.{◌≡◌}
use Rattle.pat_solve_bounds.specs.productive.Spreading.{numbers_below}
use Rattle.pat_solve_bounds.proofs.productive.spreading.all_numbers.Given as goal

abbrev pub invariant-loop-number : goal.invariant-loop-number
invariant-loop-number l = l.numbers ≡ numbers_below l.number
