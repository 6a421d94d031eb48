use Rattle.std.proofs.Common.{◌≡◌, map, drop, []}
use Rattle.pat_resolver_spec.specs.Findings.{heads_findings}
use Rattle.pat_tree.specs.Views.{decl_view}
use Rattle.pat_resolver_heads.specs.results.Results.{first_of}
use Rattle.pat_resolver_heads.specs.Names.{names_view}
use Rattle.pat_resolver_heads.proofs.check.check_heads.Given as goal

abbrev pub invariant-loop-decl : goal.invariant-loop-decl
invariant-loop-decl l = first_of (heads_findings (names_view l.names) l.interfaces l.functions (map decl_view (drop l.decl-index l.decls))) ≡ first_of (heads_findings (names_view l.names) [] [] (map decl_view l.decls))
