use Rattle.std.proofs.Common.{◌≡◌, drop, map}
use Rattle.std.specs.Prelude.{is_some}
use Rattle.std.specs.List.{list_any}
use Rattle.pat_type_system_spec.specs.Typings.{payload_sort}
use Rattle.pat_core.specs.Views.{sort_view}
use Rattle.pat_judge_nodes.proofs.uses.payloads.some_is_mailbox.Given as goal

abbrev pub invariant-loop-sort : goal.invariant-loop-sort
invariant-loop-sort l =
    list_any (λ a. is_some (payload_sort a)) (map sort_view (drop l.sort-index l.sorts))
    ≡ list_any (λ a. is_some (payload_sort a)) (map sort_view l.sorts)
