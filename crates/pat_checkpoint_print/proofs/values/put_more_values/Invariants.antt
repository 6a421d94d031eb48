use Rattle.std.proofs.Common.{◌≡◌, ◌∷◌, ◌++◌, drop, map}
use Rattle.std.specs.List.{flat_map}
use Rattle.pat_reduce_values.specs.ValueViews.{value_view}
use Rattle.pat_checkpoint_spec.specs.text.ValueText.{value_text}
use Rattle.pat_checkpoint_print.specs.Ranges.{values_in_range}
use Rattle.pat_checkpoint_print.proofs.values.put_more_values.Given as goal

abbrev pub invariant-loop-value : goal.invariant-loop-value
invariant-loop-value l = record {
  text : l.out.items ++ flat_map (λ y. 44 ∷ y) (map (λ v. 32 ∷ value_text v) (map value_view (drop l.value-index l.values))) ≡ l.initial.out.items ++ flat_map (λ y. 44 ∷ y) (map (λ v. 32 ∷ value_text v) (map value_view l.values));
  range : values_in_range (map value_view (drop l.value-index l.values)) ≡ values_in_range (map value_view l.values);
}
