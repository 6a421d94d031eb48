use Rattle.std.proofs.Common.{◌≡◌, drop}
use Rattle.pat_infer_spec.specs.Branches.{all_by}
use Rattle.pat_patterns.specs.Views.{pattern_view}
use Rattle.pat_infer_environments.specs.Combining.{column_view}
use Rattle.pat_infer_environments.proofs.branching.have_all.Given as goal

-- all have the pattern just where all of those that are left do
abbrev pub invariant-loop-need : goal.invariant-loop-need
invariant-loop-need l = all_by (pattern_view l.pattern) (column_view (drop l.need-index l.needs)) ≡ all_by (pattern_view l.pattern) (column_view l.needs)
