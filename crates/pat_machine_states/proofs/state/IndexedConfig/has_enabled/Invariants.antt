use Rattle.std.proofs.Common.{◌≡◌, drop}
use Rattle.std.specs.List.{list_any}
use Rattle.pat_semantics_spec.specs.Runs.{can_step_thread}
use Rattle.pat_core.specs.Views.{program_view}
use Rattle.pat_machine_states.proofs.state.IndexedConfig.has_enabled.Given as goal

-- what is left decides it
abbrev pub invariant-loop-thread : goal.invariant-loop-thread
invariant-loop-thread l =
    list_any (can_step_thread (program_view l.code.program) l.self.config) (drop l.thread-index l.threads) ≡ list_any (can_step_thread (program_view l.code.program) l.self.config) l.threads
