use Rattle.std.proofs.Common.{◌-◌, length}
use Rattle.pat_reduce.specs.threads.Views.{program_view}
use Rattle.pat_reduce.specs.threads.ThreadViews.{thread_view}
use Rattle.pat_machine_threads.specs.Settling.{IsRunOn}
use Rattle.pat_machine_threads.proofs.settling.settle_top.Given as goal

-- it has run on the frames that were copied
abbrev pub invariant-loop-alloc : goal.invariant-loop-alloc
invariant-loop-alloc l = IsRunOn (program_view l.code.program) l.allowance (thread_view l.kept) l.settled

-- each turn copies one frame more
abbrev pub decreases-loop-alloc : goal.decreases-loop-alloc
decreases-loop-alloc l = length l.kept.frames - l.settled.gone
