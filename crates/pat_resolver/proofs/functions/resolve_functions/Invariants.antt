use Rattle.std.proofs.Common.{◌≡◌, ◌+◌, ◌≤◌, ◌++◌, [], length, drop, map}
use Rattle.pat_resolver_spec.specs.Heads.{definitions_of}
use Rattle.pat_resolver_spec.specs.Findings.{bodies_findings}
use Rattle.pat_resolver_spec.specs.Numbering.{functions_from, nodes_from}
use Rattle.pat_resolver_spec.specs.Places.{function_places as written_places}
use Rattle.pat_parser_laws.specs.Counts.{tree_size}
use Rattle.pat_core.specs.Views.{function_view, node_view}
use Rattle.pat_core.specs.declared.program.Node.{Node}
use Rattle.pat_tree.specs.Views.{decl_view, span_view}
use Rattle.pat_resolver_heads.specs.results.Results.{first_of}
use Rattle.pat_resolver_heads.specs.results.Views.{function_places}
use Rattle.pat_resolver_heads.specs.Names.{names_view}
use Rattle.pat_resolver_heads.specs.Views.{heads_view}
use Rattle.pat_resolver.specs.Steps.{nodes_in_all}
use Rattle.pat_resolver.proofs.Definitions.{places_of}
use Rattle.pat_resolver.proofs.functions.resolve_functions.Given as goal

-- what is made, and what is still to come, are the whole
abbrev pub invariant-loop-decl : goal.invariant-loop-decl
invariant-loop-decl l = record {
  scope : l.made.numbering.scope ≡ [];
  found : first_of (bodies_findings (names_view l.heads.names) (heads_view l.heads) (definitions_of (map decl_view (drop l.decl-index l.decls)))) ≡ first_of (bodies_findings (names_view l.heads.names) (heads_view l.heads) (definitions_of (map decl_view l.decls)));
  functions : map function_view l.made.functions ++ functions_from (names_view l.heads.names) (heads_view l.heads) (length l.made.numbering.nodes) (definitions_of (map decl_view (drop l.decl-index l.decls))) ≡ functions_from (names_view l.heads.names) (heads_view l.heads) 0 (definitions_of (map decl_view l.decls));
  function_places : map function_places l.made.functions ++ map written_places (definitions_of (map decl_view (drop l.decl-index l.decls))) ≡ map written_places (definitions_of (map decl_view l.decls));
  nodes : map node_view l.made.numbering.nodes ++ nodes_from (names_view l.heads.names) (heads_view l.heads) (length l.made.functions) (length l.made.numbering.nodes) (definitions_of (map decl_view (drop l.decl-index l.decls))) ≡ nodes_from (names_view l.heads.names) (heads_view l.heads) 0 0 (definitions_of (map decl_view l.decls));
  node_places : map (λ (d : Node). span_view d.span) l.made.numbering.nodes ++ places_of (definitions_of (map decl_view (drop l.decl-index l.decls))) ≡ places_of (definitions_of (map decl_view l.decls));
  many : length l.made.functions ≤ l.decl-index;
  room : length l.made.numbering.nodes + nodes_in_all (definitions_of (map decl_view (drop l.decl-index l.decls))) ≤ tree_size (map decl_view l.decls);
}
