use Rattle.std.proofs.Common.{◌≡◌, drop}
use Rattle.std.specs.List.{list_any}
use Rattle.pat_core.specs.Views.{program_view}
use Rattle.pat_machine_spec.specs.Opens.{can_go_on}
use Rattle.pat_machine_states.proofs.state.IndexedConfig.has_open.Given as goal

-- what is left decides it
abbrev pub invariant-loop-thread : goal.invariant-loop-thread
invariant-loop-thread l =
    list_any (can_go_on (program_view l.code.program) l.self.config l.limit) (drop l.thread-index l.threads) ≡ list_any (can_go_on (program_view l.code.program) l.self.config l.limit) l.threads
