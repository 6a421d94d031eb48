use Rattle.std.proofs.Common.{◌≡◌, map, drop, []}
use Rattle.pat_resolver_spec.specs.Findings.{params_findings}
use Rattle.pat_tree.specs.Views.{param_view}
use Rattle.pat_resolver_heads.specs.results.Results.{first_of}
use Rattle.pat_resolver_heads.specs.Names.{names_view}
use Rattle.pat_resolver_heads.proofs.check.check_params.Given as goal

abbrev pub invariant-loop-param : goal.invariant-loop-param
invariant-loop-param l = first_of (params_findings (names_view l.names) l.earlier (map param_view (drop l.param-index l.params))) ≡ first_of (params_findings (names_view l.names) [] (map param_view l.params))
