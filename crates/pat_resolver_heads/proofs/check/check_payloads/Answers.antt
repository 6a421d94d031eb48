use Rattle.std.proofs.lemmas.Result.{err_from_is_err_and}
use Rattle.std.proofs.Common.{map, drop, ◌+◌}
use Rattle.std.specs.Prelude.{true}
use Rattle.std.specs.List.{flat_map}
use Rattle.pat_resolver_spec.specs.Findings.{type_findings}
use Rattle.pat_tree.specs.Views.{type_view}
use Rattle.pat_resolver_heads.proofs.Firsts.{refused, at_item}
use Rattle.pat_resolver_heads.specs.Names.{names_view}
use Rattle.pat_resolver_heads.proofs.check.check_payloads.Goals as goal

pub returns-in_err-check_type : goal.returns-in_err-check_type
returns-in_err-check_type c =
    let p = err_from_is_err_and c.from_residual.result c.from_residual.ensures.1 in
    let f = type_findings (names_view c.args.names.now) in
    let types = c.args.types.now in
    let i = c.loop-of.of-index in
    let whole = flat_map f (map type_view types) in
    refused c.from_residual.result p.0 c.in_err-check_type.field-0.0 (f (type_view c.of-item.result)) (flat_map f (map type_view (drop (i + 1) types))) whole p.1 p.2 c.in_err-check_type.ensures
    (at_item (λ ts. flat_map f (map type_view ts)) types i c.of-item.result whole c.loop-of-test.true c.of-item.is c.loop-of.invariant)
