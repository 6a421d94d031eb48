use Rattle.std.proofs.Common.{◌≡◌, map, take}
use Rattle.pat_resolver_spec.specs.Heads.{sort_of}
use Rattle.pat_resolver_spec.specs.Places.{type_place}
use Rattle.pat_core.specs.Views.{sort_view}
use Rattle.pat_tree.specs.Views.{param_view}
use Rattle.pat_resolver_heads.specs.results.Views.{sort_place}
use Rattle.pat_resolver_heads.specs.Names.{names_view}
use Rattle.pat_resolver_heads.proofs.number.number_params.Given as goal

abbrev pub invariant-loop-param : goal.invariant-loop-param
invariant-loop-param l = record {
  numbers : map sort_view l.sorts ≡ map (λ p. sort_of (names_view l.names) p.type) (map param_view (take l.param-index l.params));
  places : map sort_place l.sorts ≡ map (λ p. type_place p.type) (map param_view (take l.param-index l.params));
}
