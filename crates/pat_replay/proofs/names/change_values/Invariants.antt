use Rattle.std.proofs.Common.{drop, map}
use Rattle.pat_reduce_values.specs.ValueViews.{value_view}
use Rattle.pat_machine_laws.specs.refcounts.Naming.{times_in_values}
use Rattle.pat_replay.proofs.Walks.{IsUnderWay}
use Rattle.pat_replay.proofs.names.change_values.Given as goal

abbrev pub invariant-loop-value : goal.invariant-loop-value
invariant-loop-value l = IsUnderWay l.change l.fn.times.items (λ a. times_in_values a (map value_view l.values)) l.times.items (λ a. times_in_values a (map value_view (drop l.value-index l.values)))
