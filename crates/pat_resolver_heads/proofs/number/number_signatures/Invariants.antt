use Rattle.std.proofs.Common.{◌≡◌, ◌≤◌, ◌++◌, map, drop, length}
use Rattle.pat_resolver_spec.specs.Heads.{signature_of, definitions_of}
use Rattle.pat_tree.specs.Views.{decl_view}
use Rattle.pat_resolver_heads.specs.Names.{names_view}
use Rattle.pat_resolver_heads.specs.Signatures.{signature_view}
use Rattle.pat_resolver_heads.specs.HeadPlaces.{param_places, result_place, written_params, written_result}
use Rattle.pat_resolver_heads.proofs.number.number_signatures.Given as goal

abbrev pub invariant-loop-decl : goal.invariant-loop-decl
invariant-loop-decl l = record {
  few : length l.signatures ≤ l.decl-index;
  numbers : map signature_view l.signatures ++ map (signature_of (names_view l.names)) (definitions_of (map decl_view (drop l.decl-index l.decls))) ≡ map (signature_of (names_view l.names)) (definitions_of (map decl_view l.decls));
  params : map param_places l.signatures ++ map written_params (definitions_of (map decl_view (drop l.decl-index l.decls))) ≡ map written_params (definitions_of (map decl_view l.decls));
  results : map result_place l.signatures ++ map written_result (definitions_of (map decl_view (drop l.decl-index l.decls))) ≡ map written_result (definitions_of (map decl_view l.decls));
}
