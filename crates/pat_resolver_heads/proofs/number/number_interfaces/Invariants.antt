use Rattle.std.proofs.Common.{◌≡◌, ◌++◌, map, drop}
use Rattle.pat_resolver_spec.specs.Heads.{interfaces_of}
use Rattle.pat_resolver_spec.specs.Places.{payload_places}
use Rattle.pat_core.specs.Views.{interface_view}
use Rattle.pat_tree.specs.Views.{decl_view}
use Rattle.pat_resolver_heads.specs.Names.{names_view}
use Rattle.pat_resolver_heads.specs.HeadPlaces.{interface_places}
use Rattle.pat_resolver_heads.proofs.number.number_interfaces.Given as goal

abbrev pub invariant-loop-decl : goal.invariant-loop-decl
invariant-loop-decl l = record {
  numbers : map interface_view l.interfaces ++ interfaces_of (names_view l.names) (map decl_view (drop l.decl-index l.decls)) ≡ interfaces_of (names_view l.names) (map decl_view l.decls);
  places : map interface_places l.interfaces ++ payload_places (map decl_view (drop l.decl-index l.decls)) ≡ payload_places (map decl_view l.decls);
}
