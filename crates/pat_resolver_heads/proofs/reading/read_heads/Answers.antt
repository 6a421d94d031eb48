use Rattle.std.proofs.Common.{List, length, map, arith, ap}
use Rattle.std.proofs.lemmas.List.{length-map}
use Rattle.pat_tree.specs.Views.{decl_view}
use Rattle.pat_tree.specs.declared.tree.Decl.{Decl}
use Rattle.pat_resolver_heads.specs.Names.{names_view}
use Rattle.pat_resolver_heads.proofs.Size.{within_size, few_tables}
use Rattle.pat_resolver_heads.proofs.reading.read_heads.Goals as goal

pub gather_names-requires : goal.gather_names-requires
gather_names-requires c =
    let decls : List Decl = c.args.tree.now.decls in
    omega (arith, within_size (map decl_view decls), length-map decls decl_view, ap length c.as_slice-decls.ensures, c.requires)

pub number_heads-requires-clause-few : goal.number_heads-requires-clause-few
number_heads-requires-clause-few c =
    let decls : List Decl = c.args.tree.now.decls in
    omega (arith, within_size (map decl_view decls), length-map decls decl_view, ap length c.as_slice-decls.ensures, c.requires)

pub number_heads-requires-clause-few_tags : goal.number_heads-requires-clause-few_tags
number_heads-requires-clause-few_tags c =
    few_tables c.in_ok-names.names.interfaces (map decl_view c.as_slice-decls.result.now) (names_view c.in_ok-names.names) c.in_ok-names.ensures c.in_ok-check_heads.ensures
