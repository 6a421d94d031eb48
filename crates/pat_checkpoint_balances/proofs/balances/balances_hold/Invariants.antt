use Rattle.std.proofs.Common.{◌≡◌}
use Rattle.pat_core.specs.Views.{program_view}
use Rattle.pat_derivations.specs.Views.{derivation_view}
use Rattle.pat_checkpoint_spec.specs.Balances.{balances_hold}
use Rattle.pat_checkpoint_data.specs.Views.{checkpoint_view}
use Rattle.pat_checkpoint_balances.specs.Gathered.{shown_from}
use Rattle.pat_checkpoint_balances.proofs.balances.balances_hold.Given as goal

abbrev pub invariant-loop-place : goal.invariant-loop-place
invariant-loop-place l =
    shown_from (program_view l.program) (derivation_view l.derivation) (checkpoint_view l.checkpoint) l.place
    ≡ balances_hold (program_view l.program) (derivation_view l.derivation) (checkpoint_view l.checkpoint)
