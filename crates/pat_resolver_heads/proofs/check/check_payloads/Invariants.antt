use Rattle.std.proofs.Common.{◌≡◌, map, drop}
use Rattle.std.specs.Prelude.{true}
use Rattle.std.specs.List.{flat_map}
use Rattle.pat_resolver_spec.specs.Findings.{type_findings}
use Rattle.pat_tree.specs.Views.{type_view}
use Rattle.pat_resolver_heads.specs.results.Results.{first_of}
use Rattle.pat_resolver_heads.specs.Names.{names_view}
use Rattle.pat_resolver_heads.proofs.check.check_payloads.Given as goal

abbrev pub invariant-loop-of : goal.invariant-loop-of
invariant-loop-of l = first_of (flat_map (type_findings (names_view l.names)) (map type_view (drop l.of-index l.types))) ≡ first_of (flat_map (type_findings (names_view l.names)) (map type_view l.types))
