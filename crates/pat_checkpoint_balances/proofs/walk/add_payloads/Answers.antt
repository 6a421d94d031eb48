use Rattle.std.proofs.Common.{◌++◌, ap, ◌∙◌, ℕ, map}
use Rattle.std.specs.Prelude.{option_and_then, slice_get}
use Rattle.pat_type_system_spec.specs.Typings.{payload_sort}
use Rattle.pat_type_system_spec.specs.Types.{TypeEnv}
use Rattle.pat_core.specs.Views.{sort_view}
use Rattle.pat_types.specs.Views.{needs_view}
use Rattle.pat_reduce_values.specs.ValueViews.{value_view}
use Rattle.pat_checkpoint_spec.specs.HoldingsInOrder.{held_as, payload_holds}
use Rattle.pat_checkpoint_balances.proofs.Holding.{payload_turn}
use Rattle.pat_checkpoint_balances.proofs.walk.add_payloads.Goals as goal

pub loop-place-preserved : goal.loop-place-preserved
loop-place-preserved c =
    let types : TypeEnv = λ (k : ℕ). option_and_then payload_sort (slice_get (map sort_view c.args.payloads.now) k) in
    payload_turn types (needs_view c.loop-place.held) (needs_view c.add_value.new.held) (needs_view c.args.held.now ++ payload_holds types 0 (map value_view c.args.values.now)) c.args.values.now c.loop-place.place c.index-values-place.result c.loop-place-test.true c.index-values-place.is (c.in_ok-add_value.ensures ∙ ap (λ o. needs_view c.loop-place.held ++ held_as (value_view c.index-values-place.result) o) c.in_ok-of.ensures) c.loop-place.invariant
