use Rattle.std.proofs.Common.{◌≡◌, ◌+◌, ◌∷◌, [], List, drop, map, ap, sym, ◌∙◌, subst, arith}
use Rattle.std.proofs.lemmas.Result.{err_from_is_err_and}
use Rattle.pat_resolver_spec.specs.Heads.{definitions_of}
use Rattle.pat_resolver_spec.specs.Findings.{bodies_findings}
use Rattle.pat_tree.specs.Views.{decl_view}
use Rattle.pat_tree.specs.declared.tree.Decl.{Decl}
use Rattle.pat_resolver_heads.specs.results.Results.{first_of}
use Rattle.pat_resolver_heads.proofs.Firsts.{refused}
use Rattle.pat_resolver_heads.specs.Names.{names_view}
use Rattle.pat_resolver_heads.specs.Views.{heads_view}
use Rattle.pat_resolver_bodies.proofs.Rows.{row_from}
use Rattle.pat_resolver.proofs.Room.{decl_within}
use Rattle.pat_resolver.proofs.Definitions.{found_more, found_turn}
use Rattle.pat_resolver.proofs.functions.check_functions.Goals as goal

pub check_decl-requires-clause-names : goal.check_decl-requires-clause-names
check_decl-requires-clause-names c =
    let e = row_from c.args.decls.now c.loop-decl.decl-index c.decl-item.result c.loop-decl-test.true c.decl-item.is in
    omega (arith, decl_within c.loop-decl.decl-index c.args.decls.now (drop (c.loop-decl.decl-index + 1) c.args.decls.now) c.decl-item.result e, c.requires)

-- What a refused declaration owes stands in `Firsts` and `Definitions`; what is left names the steps of this loop, which makes nothing.
pub returns-in_err-check_decl : goal.returns-in_err-check_decl
returns-in_err-check_decl c =
    let names = names_view c.args.heads.now.names in
    let h = heads_view c.args.heads.now in
    let d = c.decl-item.result in
    let rest = drop (c.loop-decl.decl-index + 1) c.args.decls.now in
    let row = row_from c.args.decls.now c.loop-decl.decl-index d c.loop-decl-test.true c.decl-item.is in
    let p = err_from_is_err_and c.from_residual.result c.from_residual.ensures.1 in
    let whole = bodies_findings names h (definitions_of (map decl_view c.args.decls.now)) in
    let left = subst (λ (ds : List Decl). first_of (bodies_findings names h (definitions_of (map decl_view ds))) ≡ first_of whole) row c.loop-decl.invariant.found in
    refused c.from_residual.result p.0 c.in_err-check_decl.field-0.0 (bodies_findings names h (definitions_of (decl_view d ∷ []))) (bodies_findings names h (definitions_of (map decl_view rest))) whole p.1 p.2 c.in_err-check_decl.ensures.found
    (ap first_of (sym (found_more names h (decl_view d) (map decl_view rest))) ∙ left)

pub loop-decl-preserved : goal.loop-decl-preserved
loop-decl-preserved c =
    let names = names_view c.args.heads.now.names in
    let h = heads_view c.args.heads.now in
    let d = decl_view c.decl-item.result in
    let rest = map decl_view (drop (c.loop-decl.decl-index + 1) c.args.decls.now) in
    let row = row_from c.args.decls.now c.loop-decl.decl-index c.decl-item.result c.loop-decl-test.true c.decl-item.is in
    record {
      scope = c.in_ok-check_decl.ensures.scope;
      found = found_turn names h d rest _ c.in_ok-check_decl.ensures.found (rw row at c.loop-decl.invariant.found);
    }
