use Rattle.std.proofs.Common.{◌≡◌, Some}
use Rattle.std.specs.Prelude.{replicate}
use Rattle.pat_semantics_spec.specs.Runs.{run_from}
use Rattle.pat_core.specs.Views.{program_view}
use Rattle.pat_reduce.specs.Views.{config_view}
use Rattle.pat_machine_spec.specs.Commits.{local_of}
use Rattle.pat_replay.proofs.plain.run_locals.Given as goal

-- so many local steps have led here
abbrev pub invariant-loop-taken : goal.invariant-loop-taken
invariant-loop-taken l = run_from (program_view l.code.program) (config_view l.fn.config) (replicate l.taken (local_of l.thread)) ≡ Some (config_view l.config)
