use Rattle.std.proofs.Common.{◌≡◌, map, take}
use Rattle.pat_resolver_spec.specs.Heads.{sort_of}
use Rattle.pat_resolver_spec.specs.Places.{type_place}
use Rattle.pat_core.specs.Views.{sort_view}
use Rattle.pat_tree.specs.Views.{type_view}
use Rattle.pat_resolver_heads.specs.results.Views.{sort_place}
use Rattle.pat_resolver_heads.specs.Names.{names_view}
use Rattle.pat_resolver_heads.proofs.number.number_types.Given as goal

abbrev pub invariant-loop-of : goal.invariant-loop-of
invariant-loop-of l = record {
  numbers : map sort_view l.sorts ≡ map (sort_of (names_view l.names)) (map type_view (take l.of-index l.types));
  places : map sort_place l.sorts ≡ map type_place (map type_view (take l.of-index l.types));
}
