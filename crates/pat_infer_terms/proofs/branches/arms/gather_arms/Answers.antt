use Rattle.std.proofs.Common.{◌+◌, length, map, ap, ◌∙◌, subst}
use Rattle.pat_infer_terms.specs.Gathering.{Gathers}
use Rattle.pat_types.specs.Views.{needs_view}
use Rattle.pat_infer_terms.specs.branches.Arms.{arm_view}
use Rattle.pat_infer_terms.proofs.Outer.{same_gathered}
use Rattle.pat_infer_terms.proofs.branches.arms.gather_arms.Goals as goal

pub returns : goal.returns
returns c =
    subst (λ g. Gathers c.args.program.now c.args.problem.now c.gather_branches.new.problem c.gather_branches.result g)
    (same_gathered c.args.node (1 + length c.args.problem.now.vars) (map arm_view c.args.arms.now) _ (ap (map needs_view) c.as_slice.ensures ∙ c.in_ok-outer.ensures))
    c.gather_branches.ensures
