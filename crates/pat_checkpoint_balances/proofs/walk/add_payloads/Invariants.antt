use Rattle.std.proofs.Common.{◌≡◌, ◌++◌, map, drop}
use Rattle.std.specs.Prelude.{option_and_then, slice_get}
use Rattle.pat_types.specs.Views.{needs_view}
use Rattle.pat_type_system_spec.specs.Typings.{payload_sort}
use Rattle.pat_core.specs.Views.{sort_view}
use Rattle.pat_reduce_values.specs.ValueViews.{value_view}
use Rattle.pat_checkpoint_spec.specs.HoldingsInOrder.{payload_holds}
use Rattle.pat_checkpoint_balances.proofs.walk.add_payloads.Given as goal

abbrev pub invariant-loop-place : goal.invariant-loop-place
invariant-loop-place l = needs_view l.held ++ payload_holds (λ k. option_and_then payload_sort (slice_get (map sort_view l.payloads) k)) l.place (map value_view (drop l.place l.values)) ≡ needs_view l.initial.held ++ payload_holds (λ k. option_and_then payload_sort (slice_get (map sort_view l.payloads) k)) 0 (map value_view l.values)
