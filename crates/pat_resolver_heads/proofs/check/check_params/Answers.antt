use Rattle.std.proofs.lemmas.Result.{err_from_is_err_and}
use Rattle.std.proofs.Common.{ℕ, List, map, drop, [], ◌∷◌, ◌+◌, ap, ◌∙◌}
use Rattle.pat_resolver_spec.specs.Findings.{params_findings}
use Rattle.pat_tree.specs.Views.{param_view}
use Rattle.pat_resolver_heads.specs.results.Results.{first_of}
use Rattle.pat_resolver_heads.proofs.Firsts.{refused, passed, at_item}
use Rattle.pat_resolver_heads.specs.Names.{names_view}
use Rattle.pat_resolver_heads.specs.Examined.{param_findings}
use Rattle.pat_resolver_heads.proofs.check.check_params.Goals as goal

-- What holds of any such loop stands in `Firsts`; what is left names the steps of this one, as with the messages of an interface.
pub returns-in_err-check_param : goal.returns-in_err-check_param
returns-in_err-check_param c =
    let p = err_from_is_err_and c.from_residual.result c.from_residual.ensures.1 in
    let names = names_view c.args.names.now in
    let earlier = c.loop-param.earlier in
    let params = c.args.params.now in
    let i = c.loop-param.param-index in
    let x = c.param-item.result in
    let whole = params_findings names [] (map param_view params) in
    let front = param_findings names earlier (param_view x) in
    let rest = params_findings names (x.name.text ∷ earlier) (map param_view (drop (i + 1) params)) in
    refused c.from_residual.result p.0 c.in_err-check_param.field-0.0 front rest whole p.1 p.2 c.in_err-check_param.ensures.found
    (at_item (λ ps. params_findings names earlier (map param_view ps)) params i x whole c.loop-param-test.true c.param-item.is c.loop-param.invariant)

pub loop-param-preserved : goal.loop-param-preserved
loop-param-preserved c =
    let names = names_view c.args.names.now in
    let earlier = c.loop-param.earlier in
    let params = c.args.params.now in
    let i = c.loop-param.param-index in
    let x = c.param-item.result in
    let whole = params_findings names [] (map param_view params) in
    let front = param_findings names earlier (param_view x) in
    let rest = params_findings names (x.name.text ∷ earlier) (map param_view (drop (i + 1) params)) in
    ap (λ (e : List (List ℕ)). first_of (params_findings names e (map param_view (drop (i + 1) params)))) c.in_ok-check_param.ensures.grown
    ∙ passed front rest whole c.in_ok-check_param.ensures.found
    (at_item (λ ps. params_findings names earlier (map param_view ps)) params i x whole c.loop-param-test.true c.param-item.is c.loop-param.invariant)
