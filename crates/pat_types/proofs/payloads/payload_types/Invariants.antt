use Rattle.std.proofs.Common.{◌≡◌, ◌++◌, drop, map, option_map}
use Rattle.pat_types.specs.Views.{type_view}
use Rattle.pat_core.specs.Views.{sort_view}
use Rattle.pat_type_system_spec.specs.Typings.{payload_sort}
use Rattle.pat_types.proofs.payloads.payload_types.Given as goal

abbrev pub invariant-loop-sort : goal.invariant-loop-sort
invariant-loop-sort l =
    map (option_map type_view) l.types ++ map payload_sort (map sort_view (drop l.sort-index l.sorts))
    ≡ map payload_sort (map sort_view l.sorts)
