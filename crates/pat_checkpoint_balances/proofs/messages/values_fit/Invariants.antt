use Rattle.std.proofs.Common.{◌≡◌, map, drop}
use Rattle.pat_semantics_spec.specs.Programs.{kind_of}
use Rattle.pat_core.specs.Views.{sort_view}
use Rattle.pat_reduce_values.specs.ValueViews.{value_view}
use Rattle.pat_checkpoint_spec.specs.Checkpoints.{interface_at}
use Rattle.pat_checkpoint_spec.specs.Mailboxes.{values_fit}
use Rattle.pat_checkpoint_balances.proofs.messages.values_fit.Given as goal

abbrev pub invariant-loop-place : goal.invariant-loop-place
invariant-loop-place l =
    values_fit (interface_at l.live l.interfaces) (map value_view (drop l.place l.values)) (map kind_of (map sort_view (drop l.place l.payloads)))
    ≡ values_fit (interface_at l.live l.interfaces) (map value_view l.values) (map kind_of (map sort_view l.payloads))
