use Rattle.std.proofs.Common.{◌≡◌, ℕ, ◌+◌, List, length, Some, ap, ◌∙◌, subst, rules}
use Rattle.pat_type_schemes_spec.specs.NodeTypes.{need_of}
use Rattle.pat_infer_spec.specs.BothParts.{both_parts}
use Rattle.pat_types.specs.Views.{type_view, needs_view}
use Rattle.pat_types.specs.declared.types.MailboxType.{MailboxType}
use Rattle.pat_infer_environments.specs.Combining.{IsCombined}
use Rattle.pat_infer_environments.proofs.AtMostOne.{one_put}
use Rattle.pat_infer_environments.proofs.gathering.gather_one.Goals as goal

pub returns : goal.returns
returns c =
    let p = c.args.program.now in
    let old = c.args.problem.now in
    let new = c.join_parts.new.problem in
    let x = c.args.variable in
    let same : c.as_slice.result.now ≡ c.args.body = search rules in
    let own = c.find-own.ensures ∙ ap (λ (es : List (ℕ × MailboxType)). need_of (needs_view es) x) same in
    one_put p old new c.args.node x c.args.of.now c.args.body c.put_need.new.needs c.in_ok-need.need c.requires
    (subst (λ o. IsCombined p old new c.in_ok-need.need (both_parts c.args.node (1 + length old.vars) x (Some (type_view c.args.of.now)) o)) own c.in_ok-need.ensures)
    c.in_ok-put_need.ensures
