use Rattle.std.proofs.Common.{◌≡◌, ◌+◌, map, drop}
use Rattle.pat_core.specs.Views.{function_view}
use Rattle.pat_judge.specs.shape.Counts.{omit_in_all}
use Rattle.pat_judge.proofs.shape.starting.are_enough.Given as goal

abbrev pub invariant-loop-function : goal.invariant-loop-function
invariant-loop-function l = l.rest + omit_in_all (map function_view l.functions) ≡ l.count + omit_in_all (map function_view (drop l.function-index l.functions))
