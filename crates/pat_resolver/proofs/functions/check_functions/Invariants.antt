use Rattle.std.proofs.Common.{◌≡◌, [], drop, map}
use Rattle.pat_resolver_spec.specs.Heads.{definitions_of}
use Rattle.pat_resolver_spec.specs.Findings.{bodies_findings}
use Rattle.pat_tree.specs.Views.{decl_view}
use Rattle.pat_resolver_heads.specs.results.Results.{first_of}
use Rattle.pat_resolver_heads.specs.Names.{names_view}
use Rattle.pat_resolver_heads.specs.Views.{heads_view}
use Rattle.pat_resolver.proofs.functions.check_functions.Given as goal

-- what is found first in the bodies that are left is found first in all
abbrev pub invariant-loop-decl : goal.invariant-loop-decl
invariant-loop-decl l = record {
  scope : l.scope ≡ [];
  found : first_of (bodies_findings (names_view l.heads.names) (heads_view l.heads) (definitions_of (map decl_view (drop l.decl-index l.decls)))) ≡ first_of (bodies_findings (names_view l.heads.names) (heads_view l.heads) (definitions_of (map decl_view l.decls)));
}
