use Rattle.std.proofs.lemmas.Result.{err_from_is_err_and}
use Rattle.std.proofs.Common.{List, [], ◌++◌, length, map, ap, subst, arith, append-nil}
use Rattle.std.proofs.lemmas.List.{length-map}
use Rattle.pat_resolver_spec.specs.Heads.{interface_names}
use Rattle.pat_resolver_spec.specs.Findings.{heads_findings, main_findings, main_of}
use Rattle.pat_tree.specs.Views.{tree_view, decl_view}
use Rattle.pat_tree.specs.declared.tree.Decl.{Decl}
use Rattle.pat_resolver_heads.specs.results.Results.{first_of, Refuses}
use Rattle.pat_resolver_heads.proofs.Firsts.{refused, refuses_behind}
use Rattle.pat_resolver_heads.proofs.Size.{within_size}
use Rattle.pat_resolver.proofs.whole.heads_and_main.Goals as goal

pub find_main-requires : goal.find_main-requires
find_main-requires c =
    let decls : List Decl = c.args.tree.now.decls in
    omega (arith, within_size (map decl_view decls), length-map decls decl_view, ap length c.as_slice.ensures, c.requires)

pub returns-in_err-main-clause-found : goal.returns-in_err-main-clause-found
returns-in_err-main-clause-found c =
    let p = err_from_is_err_and c.from_residual-in_err-main.result c.from_residual-in_err-main.ensures.1 in
    let e = c.in_err-main.field-0.0 in
    let t = tree_view c.args.tree.now in
    let heads = heads_findings (interface_names t) [] [] t in
    let main = main_findings c.args.end (main_of t) in
    let first = subst (λ (ds : List Decl). Refuses e (main_findings c.args.end (main_of (map decl_view ds)))) c.as_slice.ensures c.in_err-main.ensures.found in
    refused c.from_residual-in_err-main.result p.0 e (heads ++ main) [] (heads ++ main) p.1 p.2 (refuses_behind e heads main c.in_ok-heads.ensures.found first) (ap first_of (append-nil (heads ++ main)))
