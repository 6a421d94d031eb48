use Rattle.std.proofs.Common.{◌≡◌, ◌+◌, ◌*◌, ◌≤◌, drop, map}
use Rattle.pat_semantics_spec.specs.Runs.{step_count}
use Rattle.pat_reduce.specs.Views.{entry_view}
use Rattle.pat_history.proofs.run_reports.counting.count_steps.Given as goal
use Rattle.pat_limits.specs.Limits.{number_count}

-- the steps so far, and those that are left, are all
abbrev pub invariant-loop-entry : goal.invariant-loop-entry
invariant-loop-entry l = record {
  whole : l.steps + step_count (map entry_view (drop l.entry-index l.entries)) ≡ step_count (map entry_view l.entries);
  small : l.steps ≤ number_count * l.entry-index;
}
