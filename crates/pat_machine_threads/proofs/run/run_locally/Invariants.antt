use Rattle.std.proofs.Common.{◌≡◌, ◌≤◌, ◌-◌, Some}
use Rattle.pat_reduce.specs.threads.Views.{program_view}
use Rattle.pat_reduce.specs.threads.ThreadViews.{thread_view}
use Rattle.pat_machine_spec.specs.Commits.{locally}
use Rattle.pat_machine_threads.proofs.run.run_locally.Given as goal

-- the steps so far led here
abbrev pub invariant-loop-steps : goal.invariant-loop-steps
invariant-loop-steps l = record {
  taken : locally (program_view l.code.program) l.steps (thread_view l.initial.state) ≡ Some (thread_view l.state);
  within : l.steps ≤ l.allowance;
}

-- each turn takes one more at least
abbrev pub decreases-loop-steps : goal.decreases-loop-steps
decreases-loop-steps l = l.allowance - l.steps
