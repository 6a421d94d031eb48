use Rattle.std.proofs.Common.{◌≡◌, Some, map, drop}
use Rattle.pat_words_spec.specs.Patterns.{Zero}
use Rattle.pat_solve_bounded.specs.Views.{limited_view}
use Rattle.pat_solve_bounds.specs.lower_bounds.Sides.{left_at}
use Rattle.pat_solve_bounds.specs.lower_bounds.Sums.{sum_all}
use Rattle.pat_solve_bounds.proofs.lower_bounds.bounds.sum_of_lefts.Given as goal

-- what is made and the left sides to come make the whole sum
abbrev pub invariant-loop-number : goal.invariant-loop-number
invariant-loop-number l =
    sum_all (limited_view l.made) (map (left_at l.constraints) (drop l.number-index l.numbers)) ≡ sum_all (Some Zero) (map (left_at l.constraints) l.numbers)
