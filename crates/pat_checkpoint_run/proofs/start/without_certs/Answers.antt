use Rattle.std.proofs.Common.{None, [], ◌∷◌, ◌++◌, refl, ap, ◌∙◌}
use Rattle.pat_checkpoint_run.proofs.Starts.{one_more}
use Rattle.pat_checkpoint_run.proofs.start.without_certs.Goals as goal

pub loop-thread-preserved : goal.loop-thread-preserved
loop-thread-preserved c =
    one_more c.loop-thread.certs c.push.new.self (record { control = None; frames = [] }) c.args.threads.now c.loop-thread._thread-index c._thread-item.result c.loop-thread-test.true (c.in_ok-push.ensures.ok ∙ ap (λ k. c.loop-thread.certs ++ k ∷ []) c.bare.ensures) refl c.loop-thread.invariant
