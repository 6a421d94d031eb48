use Rattle.std.proofs.Common.{◌≡◌, Bool, map, sym, ap, ◌∙◌, subst}
use Rattle.std.specs.Prelude.{IfOk, slice_get}
use Rattle.pat_core.specs.declared.program.Core.{Core as CodeCore}
use Rattle.pat_core.specs.Views.{expr_view, kind_view, core_view, function_view, program_view}
use Rattle.pat_derivation_spec.specs.Rules.{tag_of_kind, has_no_alias}
use Rattle.pat_derivation_spec.specs.Truth.{place}
use Rattle.pat_derivations.specs.Views.{line_view, derivation_view}
use Rattle.pat_obligations.specs.Views.{signature_view}
use Rattle.pat_judge_nodes.specs.uses.Arguments.{call_differs, send_differs}
use Rattle.pat_judge_nodes.proofs.Differing.{called_is, send_is}
use Rattle.pat_judge_nodes.proofs.uses.alias.has_no_alias.Goals as goal

pub returns-in-Call : goal.returns-in-Call
returns-in-Call c =
    let p = program_view c.args.program.now in
    let d = derivation_view c.args.derivation.now in
    let gs = map signature_view c.args.signatures.now in
    let rule : CodeCore → Bool = λ k. has_no_alias p d (place c.args.number (record { core = core_view k; kind = kind_view c.args.node.now.kind; function = c.args.node.now.function }) (function_view c.args.function.now) (line_view c.args.line.now)) in
    subst (λ y. IfOk c.arguments_differ.result (λ b. b ≡ y))
    (ap (λ o. call_differs o (map expr_view c.as_slice.result.now)) c.signature_of-signature.ensures
    ∙ ap (λ es. call_differs (slice_get gs c.in-Call.function) (map expr_view es)) c.as_slice.ensures
    ∙ called_is p d gs c.requires c.in-Call.function (map expr_view c.in-Call.args)
    ∙ sym (ap rule c.in-Call.is))
    c.arguments_differ.ensures

pub returns-in-Send : goal.returns-in-Send
returns-in-Send c =
    let p = program_view c.args.program.now in
    let d = derivation_view c.args.derivation.now in
    let x = c.in-Send.target in
    let tag = tag_of_kind p c.in-Send.tag (slice_get (map kind_view c.args.function.now.vars) x) in
    let rule : CodeCore → Bool = λ k. has_no_alias p d (place c.args.number (record { core = core_view k; kind = kind_view c.args.node.now.kind; function = c.args.node.now.function }) (function_view c.args.function.now) (line_view c.args.line.now)) in
    subst (λ y. IfOk c.payloads_differ.result (λ b. b ≡ y))
    (ap (λ o. send_differs x o (map expr_view c.as_slice-in-Send-2.result.now)) (c.tag_of_kind-declared.ensures ∙ ap (tag_of_kind p c.in-Send.tag) (c.kind_of.ensures ∙ ap (λ ks. slice_get (map kind_view ks) x) c.as_slice-in-Send.ensures))
    ∙ ap (λ es. send_differs x tag (map expr_view es)) c.as_slice-in-Send-2.ensures
    ∙ send_is x (map expr_view c.in-Send.args) tag
    ∙ sym (ap rule c.in-Send.is))
    c.payloads_differ.ensures
