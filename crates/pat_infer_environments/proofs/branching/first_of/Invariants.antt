use Rattle.std.proofs.Common.{◌≡◌, drop}
use Rattle.pat_infer_spec.specs.Branches.{first_need}
use Rattle.pat_infer_environments.specs.Combining.{column_view}
use Rattle.pat_infer_environments.proofs.branching.first_of.Given as goal

-- the first need is the first of those that are left
abbrev pub invariant-loop-need : goal.invariant-loop-need
invariant-loop-need l = first_need (column_view (drop l.need-index l.needs)) ≡ first_need (column_view l.needs)
