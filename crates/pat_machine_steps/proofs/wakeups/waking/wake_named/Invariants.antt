use Rattle.std.proofs.Common.{take}
use Rattle.pat_core.specs.Views.{program_view}
use Rattle.pat_machine_indexes.specs.ready_sets.ReadySets.{WakesThose}
use Rattle.pat_machine_steps.specs.wakeups.Sleepers.{FreesNamed}
use Rattle.pat_machine_steps.proofs.wakeups.waking.wake_named.Given as goal

-- those at the mailboxes so far are woken
abbrev pub invariant-loop-mailbox : goal.invariant-loop-mailbox
invariant-loop-mailbox l = WakesThose (FreesNamed (program_view l.code.program) l.state.config (take l.mailbox-index l.named)) l.fn.waits l.waits
