use Rattle.std.proofs.Common.{◌≡◌, ◌+◌, drop, map}
use Rattle.pat_core.specs.Views.{function_view}
use Rattle.pat_solve_bounds.specs.productive.Counts.{omitted_by_all}
use Rattle.pat_solve_bounds.proofs.productive.counting.count_omitted.Given as goal

abbrev pub invariant-loop-function : goal.invariant-loop-function
invariant-loop-function l =
    l.count + omitted_by_all (map function_view (drop l.function-index l.functions)) ≡ omitted_by_all (map function_view l.functions)
