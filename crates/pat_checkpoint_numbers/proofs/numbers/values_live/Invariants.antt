use Rattle.std.proofs.Common.{◌≡◌, drop, map}
use Rattle.std.specs.List.{list_all}
use Rattle.pat_reduce_values.specs.ValueViews.{value_view}
use Rattle.pat_checkpoint_spec.specs.Numbers.{value_lives}
use Rattle.pat_checkpoint_numbers.proofs.numbers.values_live.Given as goal

-- what is left decides it
abbrev pub invariant-loop-value : goal.invariant-loop-value
invariant-loop-value l = list_all (value_lives l.live) (map value_view (drop l.value-index l.values)) ≡ list_all (value_lives l.live) (map value_view l.values)
