use Rattle.pat_core.specs.Views.{program_view}
use Rattle.pat_machine_steps.proofs.Turns.{named_more}
use Rattle.pat_machine_steps.proofs.wakeups.waking.wake_named.Goals as goal

pub loop-mailbox-preserved : goal.loop-mailbox-preserved
loop-mailbox-preserved c =
    named_more (program_view c.args.code.now.program) c.args.state.now.config c.args.named.now c.loop-mailbox.mailbox-index 0 c.args.waits.now c.loop-mailbox.waits c.wake_to_free.new.waits
    c.loop-mailbox-test.true c.loop-mailbox.invariant c.wake_to_free.ensures
