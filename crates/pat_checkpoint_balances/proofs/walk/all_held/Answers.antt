use Rattle.std.proofs.Common.{◌<◌, ap, ◌∙◌, length, get_or, subst}
use Rattle.pat_derivation_spec.specs.Derivations.{written_typing}
use Rattle.pat_core.specs.Views.{program_view}
use Rattle.pat_types.specs.Views.{needs_view}
use Rattle.pat_derivations.specs.Views.{derivation_view}
use Rattle.pat_reduce.specs.Views.{config_view}
use Rattle.pat_checkpoint_spec.specs.Checkpoints.{interface_at}
use Rattle.pat_checkpoint_spec.specs.HoldingsInOrder.{all_held}
use Rattle.pat_checkpoint_balances.proofs.Holding.{threads_turn}
use Rattle.pat_checkpoint_balances.proofs.walk.all_held.Goals as goal

pub loop-thread-preserved : goal.loop-thread-preserved
loop-thread-preserved c =
    let p = program_view c.args.program.now in
    let y = written_typing p (derivation_view c.args.derivation.now) in
    let x = c.args.checkpoint.now in
    let threads = c.as_slice-thread-items.ensures in
    let k = c.loop-thread.thread-index in
    let e = c.loop-thread-item.result in
    threads_turn p y (needs_view c.loop-thread.held) (needs_view c.add_thread.new.held) (all_held p y (interface_at x.config.live x.interfaces) (config_view x.config)) x.config.threads k e (subst (λ l. k < length l) threads c.loop-thread-test.true) (c.loop-thread-item.is ∙ ap (λ l. get_or l k e) threads) (c.in_ok-add_thread.ensures p c.in_ok-tables.ensures) c.loop-thread.invariant
