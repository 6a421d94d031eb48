use Rattle.std.proofs.lemmas.Result.{err_from_is_err_and}
use Rattle.std.proofs.Common.{[], map, Err, ap, append-nil}
use Rattle.pat_core.specs.declared.program.Program.{Program}
use Rattle.pat_resolver_spec.specs.Findings.{findings}
use Rattle.pat_tree.specs.Views.{tree_view, decl_view}
use Rattle.pat_resolver_heads.specs.results.Results.{first_of}
use Rattle.pat_resolver_heads.proofs.Firsts.{refused}
use Rattle.pat_resolver_heads.specs.Names.{names_view}
use Rattle.pat_resolver_heads.specs.Views.{heads_view}
use Rattle.pat_resolver.proofs.Wholes.{meets_bodies}
use Rattle.pat_resolver.proofs.whole.whole_tree.Goals as goal

pub returns-in_err-made-clause-found : goal.returns-in_err-made-clause-found
returns-in_err-made-clause-found c =
    let made = c.in_ok-heads in
    let e = c.in_err-made.field-0.0 in
    let t = tree_view c.args.tree.now in
    let p = err_from_is_err_and c.from_residual-in_err-made.result c.from_residual-in_err-made.ensures.1 in
    let whole = meets_bodies {A = Program} (Err e) c.args.end t (names_view made.heads.names) (heads_view made.heads) c.as_slice.result.now made.ensures.found made.ensures.names made.ensures.heads (ap (map decl_view) c.as_slice.ensures) c.in_err-made.ensures.found in
    refused c.from_residual-in_err-made.result p.0 e (findings c.args.end t) [] (findings c.args.end t) p.1 p.2 whole (ap first_of (append-nil (findings c.args.end t)))
