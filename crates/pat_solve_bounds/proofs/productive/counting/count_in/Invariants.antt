use Rattle.std.proofs.Common.{◌≡◌, ◌+◌, drop, map}
use Rattle.pat_core.specs.Views.{sort_view}
use Rattle.pat_solve_bounds.specs.productive.Counts.{omitted_in}
use Rattle.pat_solve_bounds.proofs.productive.counting.count_in.Given as goal

abbrev pub invariant-loop-sort : goal.invariant-loop-sort
invariant-loop-sort l =
    l.count + omitted_in (map sort_view (drop l.sort-index l.sorts)) ≡ omitted_in (map sort_view l.sorts)
