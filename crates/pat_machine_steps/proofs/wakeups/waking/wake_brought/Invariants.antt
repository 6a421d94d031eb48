use Rattle.std.proofs.Common.{map, take}
use Rattle.pat_core.specs.Views.{program_view}
use Rattle.pat_reduce_values.specs.ValueViews.{value_view}
use Rattle.pat_machine_indexes.specs.ready_sets.ReadySets.{WakesThose}
use Rattle.pat_machine_steps.specs.wakeups.Sleepers.{FreesBrought}
use Rattle.pat_machine_steps.proofs.wakeups.waking.wake_brought.Given as goal

-- those at the mailboxes so far are woken
abbrev pub invariant-loop-value : goal.invariant-loop-value
invariant-loop-value l = WakesThose (FreesBrought (program_view l.code.program) l.state.config (take l.value-index (map value_view l.values))) l.fn.waits l.waits
