use Rattle.std.proofs.lemmas.Result.{err_from_is_err_and}
use Rattle.std.proofs.Common.{ℕ, List, map, drop, [], ◌+◌, ◌∙◌, sym, ap}
use Rattle.pat_resolver_spec.specs.Findings.{heads_findings}
use Rattle.pat_tree.specs.Views.{decl_view}
use Rattle.pat_resolver_heads.specs.results.Results.{first_of}
use Rattle.pat_resolver_heads.proofs.Firsts.{refused, passed, at_item}
use Rattle.pat_resolver_heads.specs.Names.{names_view}
use Rattle.pat_resolver_heads.specs.Examined.{decl_findings, interfaces_with, functions_with}
use Rattle.pat_resolver_heads.proofs.Checks.{heads_item}
use Rattle.pat_resolver_heads.proofs.check.check_heads.Goals as goal

pub returns-in_err-check_decl : goal.returns-in_err-check_decl
returns-in_err-check_decl c =
    let p = err_from_is_err_and c.from_residual.result c.from_residual.ensures.1 in
    let names = names_view c.args.names.now in
    let interfaces = c.loop-decl.interfaces in
    let functions = c.loop-decl.functions in
    let decls = c.args.decls.now in
    let i = c.loop-decl.decl-index in
    let x = c.decl-item.result in
    let whole = heads_findings names [] [] (map decl_view decls) in
    let front = decl_findings names interfaces functions (decl_view x) in
    let rest = heads_findings names (interfaces_with (decl_view x) interfaces) (functions_with (decl_view x) functions) (map decl_view (drop (i + 1) decls)) in
    refused c.from_residual.result p.0 c.in_err-check_decl.field-0.0 front rest whole p.1 p.2 c.in_err-check_decl.ensures.found
    (sym (ap first_of (heads_item names interfaces functions (decl_view x) (map decl_view (drop (i + 1) decls)))) ∙ at_item (λ ds. heads_findings names interfaces functions (map decl_view ds)) decls i x whole c.loop-decl-test.true c.decl-item.is c.loop-decl.invariant)

pub loop-decl-preserved : goal.loop-decl-preserved
loop-decl-preserved c =
    let names = names_view c.args.names.now in
    let interfaces = c.loop-decl.interfaces in
    let functions = c.loop-decl.functions in
    let decls = c.args.decls.now in
    let i = c.loop-decl.decl-index in
    let x = c.decl-item.result in
    let left = map decl_view (drop (i + 1) decls) in
    let whole = heads_findings names [] [] (map decl_view decls) in
    let front = decl_findings names interfaces functions (decl_view x) in
    let rest = heads_findings names (interfaces_with (decl_view x) interfaces) (functions_with (decl_view x) functions) left in
    ap (λ (e : List (List ℕ)). first_of (heads_findings names e c.check_decl.new.functions left)) c.in_ok-check_decl.ensures.interfaces
    ∙ ap (λ (e : List (List ℕ)). first_of (heads_findings names (interfaces_with (decl_view x) interfaces) e left)) c.in_ok-check_decl.ensures.functions
    ∙ passed front rest whole c.in_ok-check_decl.ensures.found
    (sym (ap first_of (heads_item names interfaces functions (decl_view x) left)) ∙ at_item (λ ds. heads_findings names interfaces functions (map decl_view ds)) decls i x whole c.loop-decl-test.true c.decl-item.is c.loop-decl.invariant)
