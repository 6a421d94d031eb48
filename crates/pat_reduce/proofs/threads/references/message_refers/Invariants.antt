use Rattle.std.proofs.Common.{◌≡◌, drop, map}
use Rattle.std.specs.List.{list_any}
use Rattle.pat_semantics_spec.specs.Configs.{is_mailbox}
use Rattle.pat_reduce_values.specs.ValueViews.{value_view}
use Rattle.pat_reduce.proofs.threads.references.message_refers.Given as goal

-- what is left decides it
abbrev pub invariant-loop-value : goal.invariant-loop-value
invariant-loop-value l = list_any (is_mailbox l.mailbox) (map value_view (drop l.value-index l.value-items)) ≡ list_any (is_mailbox l.mailbox) (map value_view l.message.values)
