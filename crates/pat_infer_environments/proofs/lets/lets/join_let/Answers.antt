use Rattle.std.proofs.Common.{◌≡◌, ℕ, ◌+◌, List, length, subst, rules}
use Rattle.pat_types.specs.Views.{needs_view}
use Rattle.pat_types.specs.declared.types.MailboxType.{MailboxType}
use Rattle.pat_infer_problems.specs.Walked.{Infers}
use Rattle.pat_infer_problems.proofs.Joining.{in_order}
use Rattle.pat_infer_environments.specs.lets.Lets.{own_let}
use Rattle.pat_infer_environments.proofs.lets.lets.join_let.Goals as goal

pub returns-in_err-check_let : goal.returns-in_err-check_let
returns-in_err-check_let c =
    let q = c.args.problem.now in
    let same : c.as_slice.result.now ≡ c.args.body = search rules in
    subst (λ (es : List (ℕ × MailboxType)). Infers c.args.program.now q q c.from_residual.result (own_let c.args.node (1 + length q.vars) (needs_view c.args.bound.now) (needs_view es))) same (search (rules, in_order))
