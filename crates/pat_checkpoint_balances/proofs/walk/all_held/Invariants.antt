use Rattle.std.proofs.Common.{◌≡◌, ◌++◌, drop}
use Rattle.pat_types.specs.Views.{needs_view}
use Rattle.pat_derivation_spec.specs.Derivations.{written_typing}
use Rattle.pat_core.specs.Views.{program_view}
use Rattle.pat_derivations.specs.Views.{derivation_view}
use Rattle.pat_reduce.specs.Views.{threads_view, config_view}
use Rattle.pat_checkpoint_spec.specs.Checkpoints.{interface_at}
use Rattle.pat_checkpoint_spec.specs.HoldingsInOrder.{threads_hold, all_held}
use Rattle.pat_checkpoint_balances.proofs.walk.all_held.Given as goal

abbrev pub invariant-loop-thread : goal.invariant-loop-thread
invariant-loop-thread l =
    needs_view l.held ++ threads_hold (program_view l.program) (written_typing (program_view l.program) (derivation_view l.derivation)) (threads_view (drop l.thread-index l.checkpoint.config.threads))
    ≡ all_held (program_view l.program) (written_typing (program_view l.program) (derivation_view l.derivation)) (interface_at l.checkpoint.config.live l.checkpoint.interfaces) (config_view l.checkpoint.config)
