use Rattle.std.proofs.Common.{◌≡◌, drop}
use Rattle.pat_infer_spec.specs.Branches.{some_return}
use Rattle.pat_infer_environments.specs.Combining.{column_view}
use Rattle.pat_infer_environments.proofs.branching.usage_of.Given as goal

-- some need is returnable just where one of those that are left is
abbrev pub invariant-loop-need : goal.invariant-loop-need
invariant-loop-need l = some_return (column_view (drop l.need-index l.needs)) ≡ some_return (column_view l.needs)
