use Rattle.std.proofs.Common.{◌≡◌, ◌+◌, ◌≤◌, [], ◌∷◌, length, drop, map, refl, ap, sym, ◌∙◌, subst, arith, List}
use Rattle.std.proofs.lemmas.Result.{err_from_is_err_and}
use Rattle.pat_resolver_spec.specs.Heads.{definitions_of}
use Rattle.pat_resolver_spec.specs.Findings.{bodies_findings}
use Rattle.pat_core.specs.Views.{function_view, node_view}
use Rattle.pat_tree.specs.Views.{decl_view}
use Rattle.pat_tree.specs.declared.tree.Decl.{Decl}
use Rattle.pat_resolver_heads.specs.results.Results.{first_of}
use Rattle.pat_resolver_heads.proofs.Firsts.{refused}
use Rattle.pat_resolver_heads.specs.Names.{names_view}
use Rattle.pat_resolver_heads.specs.Views.{heads_view}
use Rattle.pat_resolver.specs.declared.numbering.state.Numbering.{Numbering}
use Rattle.pat_resolver_bodies.proofs.Rows.{row_from}
use Rattle.pat_resolver.specs.Steps.{nodes_in_all}
use Rattle.pat_resolver.proofs.Room.{nodes_few, decl_within, decls_within}
use Rattle.pat_resolver.proofs.Definitions.{found_more, found_turn, functions_turn, nodes_turn, written_turn, places_turn, more_nodes, more_functions, nodes_split, at_most_one}
use Rattle.pat_resolver.proofs.functions.resolve_functions.Goals as goal

pub loop-decl-init : goal.loop-decl-init
loop-decl-init c = record {
  scope = ap (λ (n : Numbering). n.scope) c.new-2.ensures;
  found = refl;
  functions = rw (c.new.ensures, c.new-2.ensures) refl;
  function_places = rw c.new.ensures refl;
  nodes = rw (c.new.ensures, c.new-2.ensures) refl;
  node_places = rw c.new-2.ensures refl;
  many = rw c.new.ensures (omega arith);
  room = rw c.new-2.ensures (omega (arith, nodes_few (map decl_view c.args.decls.now)));
}

pub resolve_decl-requires-clause-functions : goal.resolve_decl-requires-clause-functions
resolve_decl-requires-clause-functions c = omega (arith, c.loop-decl.invariant.many, c.loop-decl-test.true, decls_within c.args.decls.now, c.requires)

pub resolve_decl-requires-clause-names : goal.resolve_decl-requires-clause-names
resolve_decl-requires-clause-names c =
    let e = row_from c.args.decls.now c.loop-decl.decl-index c.decl-item.result c.loop-decl-test.true c.decl-item.is in
    omega (arith, decl_within c.loop-decl.decl-index c.args.decls.now (drop (c.loop-decl.decl-index + 1) c.args.decls.now) c.decl-item.result e, c.requires)

pub returns-in_err-resolve_decl-clause-found : goal.returns-in_err-resolve_decl-clause-found
returns-in_err-resolve_decl-clause-found c =
    let names = names_view c.args.heads.now.names in
    let h = heads_view c.args.heads.now in
    let d = c.decl-item.result in
    let rest = drop (c.loop-decl.decl-index + 1) c.args.decls.now in
    let row = row_from c.args.decls.now c.loop-decl.decl-index d c.loop-decl-test.true c.decl-item.is in
    let p = err_from_is_err_and c.from_residual.result c.from_residual.ensures.1 in
    let whole = bodies_findings names h (definitions_of (map decl_view c.args.decls.now)) in
    let left = subst (λ (ds : List Decl). first_of (bodies_findings names h (definitions_of (map decl_view ds))) ≡ first_of whole) row c.loop-decl.invariant.found in
    refused c.from_residual.result p.0 c.in_err-resolve_decl.field-0.0 (bodies_findings names h (definitions_of (decl_view d ∷ []))) (bodies_findings names h (definitions_of (map decl_view rest))) whole p.1 p.2 c.in_err-resolve_decl.ensures.found
    (ap first_of (sym (found_more names h (decl_view d) (map decl_view rest))) ∙ left)

pub loop-decl-preserved : goal.loop-decl-preserved
loop-decl-preserved c =
    let names = names_view c.args.heads.now.names in
    let h = heads_view c.args.heads.now in
    let d = decl_view c.decl-item.result in
    let rest = map decl_view (drop (c.loop-decl.decl-index + 1) c.args.decls.now) in
    let before = c.loop-decl.made in
    let after = c.resolve_decl.new.made in
    let row = row_from c.args.decls.now c.loop-decl.decl-index c.decl-item.result c.loop-decl-test.true c.decl-item.is in
    let made = c.in_ok-resolve_decl.ensures in
    let more = more_nodes names h node_view before.numbering.nodes after.numbering.nodes (length before.functions) (length before.numbering.nodes) (definitions_of (d ∷ [])) made.nodes in
    let count = more_functions names h function_view before.functions after.functions (length before.numbering.nodes) (definitions_of (d ∷ [])) made.functions in
    let room : length before.numbering.nodes + nodes_in_all (definitions_of (d ∷ rest)) ≤ _ = rw row at c.loop-decl.invariant.room in
    record {
      scope = made.scope;
      found = found_turn names h d rest _ made.found (rw row at c.loop-decl.invariant.found);
      functions = functions_turn names h d rest _ _ _ (length before.numbering.nodes) (length after.numbering.nodes) more made.functions (rw row at c.loop-decl.invariant.functions);
      function_places = written_turn d rest _ _ _ made.function_places (rw row at c.loop-decl.invariant.function_places);
      nodes = nodes_turn names h d rest _ _ _ (length before.functions) (length after.functions) (length before.numbering.nodes) (length after.numbering.nodes) count more made.nodes (rw row at c.loop-decl.invariant.nodes);
      node_places = places_turn d rest _ _ _ made.node_places (rw row at c.loop-decl.invariant.node_places);
      many = omega (arith, count, at_most_one d, c.loop-decl.invariant.many);
      room = omega (arith, more, nodes_split d rest, room);
    }
