use Rattle.std.proofs.Common.{map, ap, ◌∙◌, subst}
use Rattle.pat_infer_problems.specs.Results.{Meets}
use Rattle.pat_types.specs.Views.{needs_view}
use Rattle.pat_infer_terms.specs.branches.Arms.{arm_view}
use Rattle.pat_infer_terms.proofs.Outer.{same_findings}
use Rattle.pat_infer_terms.proofs.branches.arms.check_arms.Goals as goal

pub returns : goal.returns
returns c =
    subst (λ fs. Meets c.args.program.now c.check_branches.result fs)
    (same_findings c.args.node (map arm_view c.args.arms.now) _ (ap (map needs_view) c.as_slice.ensures ∙ c.in_ok-outer.ensures))
    c.check_branches.ensures
