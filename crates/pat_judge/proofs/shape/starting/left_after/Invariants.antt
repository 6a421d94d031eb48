use Rattle.std.proofs.Common.{◌≡◌, ◌+◌, map, drop}
use Rattle.pat_core.specs.Views.{sort_view}
use Rattle.pat_judge.specs.shape.Counts.{omit_all}
use Rattle.pat_judge.proofs.shape.starting.left_after.Given as goal

abbrev pub invariant-loop-sort : goal.invariant-loop-sort
invariant-loop-sort l = l.rest + omit_all (map sort_view l.sorts) ≡ l.left + omit_all (map sort_view (drop l.sort-index l.sorts))
