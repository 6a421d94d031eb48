use Rattle.std.proofs.Common.{◌≡◌}
use Rattle.pat_semantics_spec.specs.Runs.{can_step_thread}
use Rattle.pat_core.specs.Views.{program_view}
use Rattle.pat_reduce.specs.Views.{config_view}
use Rattle.pat_checkpoint_run.specs.Searches.{first_from}
use Rattle.pat_checkpoint_run.proofs.next.able_from.Given as goal

-- the first from here on is the first
abbrev pub invariant-loop-place : goal.invariant-loop-place
invariant-loop-place l =
    first_from (can_step_thread (program_view l.code.program) (config_view l.config)) l.threads l.place
    ≡ first_from (can_step_thread (program_view l.code.program) (config_view l.config)) l.threads l.start
