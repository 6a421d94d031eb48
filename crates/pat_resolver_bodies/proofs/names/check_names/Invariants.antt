use Rattle.std.proofs.Common.{◌≡◌, [], ◌∷◌, ◌++◌, drop, map}
use Rattle.pat_resolver_spec.specs.Findings.{names_findings}
use Rattle.pat_tree.specs.Views.{name_view}
use Rattle.pat_resolver_heads.specs.results.Results.{first_of}
use Rattle.pat_resolver_bodies.proofs.names.check_names.Given as goal

-- what is found among the names that are left is what is found among all
abbrev pub invariant-loop-name : goal.invariant-loop-name
invariant-loop-name l = first_of (names_findings l.earlier (map name_view (drop l.name-index l.names) ++ name_view l.from ∷ [])) ≡ first_of (names_findings [] (map name_view l.names ++ name_view l.from ∷ []))
