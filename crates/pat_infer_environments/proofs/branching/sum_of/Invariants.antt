use Rattle.std.proofs.Common.{◌≡◌, drop}
use Rattle.pat_infer_spec.specs.Branches.{sum_on, sum_of_needs}
use Rattle.pat_patterns.specs.Views.{pattern_view}
use Rattle.pat_infer_environments.specs.Combining.{column_view}
use Rattle.pat_infer_environments.proofs.branching.sum_of.Given as goal

-- the sum so far, with those that are left, is the whole
abbrev pub invariant-loop-need : goal.invariant-loop-need
invariant-loop-need l = sum_on (pattern_view l.all) (column_view (drop l.need-index l.rest)) ≡ sum_of_needs (column_view l.fn.needs)
