use Rattle.std.proofs.Common.{◌≡◌, ◌++◌, drop, map}
use Rattle.pat_reduce_values.specs.ValueViews.{value_view}
use Rattle.pat_machine_indexes.proofs.messages.copies.copy_values.Given as goal

-- the copies so far, and what is left
abbrev pub invariant-loop-value : goal.invariant-loop-value
invariant-loop-value l = map value_view l.own ++ map value_view (drop l.value-index l.values) ≡ map value_view l.values
