use Rattle.std.proofs.Common.{◌≡◌, drop}
use Rattle.std.specs.Prelude.{find}
use Rattle.pat_core.specs.Views.{program_view}
use Rattle.pat_machine_spec.specs.Turns.{is_ready}
use Rattle.pat_machine_states.proofs.state.IndexedConfig.first_ready.Given as goal

-- the first from here on is the first
abbrev pub invariant-loop-thread : goal.invariant-loop-thread
invariant-loop-thread l =
    find (is_ready (program_view l.code.program) l.self.config l.limit l.out) (drop l.thread-index l.threads) ≡ find (is_ready (program_view l.code.program) l.self.config l.limit l.out) l.threads
