use Rattle.std.proofs.Common.{◌≡◌, Some}
use Rattle.pat_core.specs.Views.{program_view}
use Rattle.pat_reduce.specs.threads.ThreadViews.{thread_view}
use Rattle.pat_machine_spec.specs.Commits.{locally}
use Rattle.pat_checkpoint_run.proofs.locals.run_locally.Given as goal

-- the steps so far led here
abbrev pub invariant-loop-steps : goal.invariant-loop-steps
invariant-loop-steps l = locally (program_view l.code.program) l.steps (thread_view l.initial.state) ≡ Some (thread_view l.state)
