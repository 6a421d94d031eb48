use Rattle.std.proofs.lemmas.Result.{err_from_is_err_and}
use Rattle.std.proofs.Common.{ℕ, List, map, drop, [], ◌∷◌, ◌+◌, ap, ◌∙◌}
use Rattle.pat_resolver_spec.specs.Findings.{messages_findings}
use Rattle.pat_tree.specs.Views.{message_view}
use Rattle.pat_resolver_heads.specs.results.Results.{first_of}
use Rattle.pat_resolver_heads.proofs.Firsts.{refused, passed, at_item}
use Rattle.pat_resolver_heads.specs.Names.{names_view}
use Rattle.pat_resolver_heads.specs.Examined.{message_findings}
use Rattle.pat_resolver_heads.proofs.check.check_messages.Goals as goal

-- What holds of any such loop stands in `Firsts`; what is left names the steps of this one, as with the parameters of a function.
pub returns-in_err-check_message : goal.returns-in_err-check_message
returns-in_err-check_message c =
    let p = err_from_is_err_and c.from_residual.result c.from_residual.ensures.1 in
    let names = names_view c.args.names.now in
    let earlier = c.loop-message.earlier in
    let messages = c.args.messages.now in
    let i = c.loop-message.message-index in
    let x = c.message-item.result in
    let whole = messages_findings names [] (map message_view messages) in
    let front = message_findings names earlier (message_view x) in
    let rest = messages_findings names (x.name.text ∷ earlier) (map message_view (drop (i + 1) messages)) in
    refused c.from_residual.result p.0 c.in_err-check_message.field-0.0 front rest whole p.1 p.2 c.in_err-check_message.ensures.found
    (at_item (λ ps. messages_findings names earlier (map message_view ps)) messages i x whole c.loop-message-test.true c.message-item.is c.loop-message.invariant)

pub loop-message-preserved : goal.loop-message-preserved
loop-message-preserved c =
    let names = names_view c.args.names.now in
    let earlier = c.loop-message.earlier in
    let messages = c.args.messages.now in
    let i = c.loop-message.message-index in
    let x = c.message-item.result in
    let whole = messages_findings names [] (map message_view messages) in
    let front = message_findings names earlier (message_view x) in
    let rest = messages_findings names (x.name.text ∷ earlier) (map message_view (drop (i + 1) messages)) in
    ap (λ (e : List (List ℕ)). first_of (messages_findings names e (map message_view (drop (i + 1) messages)))) c.in_ok-check_message.ensures.grown
    ∙ passed front rest whole c.in_ok-check_message.ensures.found
    (at_item (λ ps. messages_findings names earlier (map message_view ps)) messages i x whole c.loop-message-test.true c.message-item.is c.loop-message.invariant)
