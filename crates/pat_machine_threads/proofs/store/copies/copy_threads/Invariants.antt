use Rattle.std.proofs.Common.{◌≡◌, take}
use Rattle.pat_reduce.specs.Views.{threads_view}
use Rattle.pat_machine_threads.specs.table.Entries.{entries_from}
use Rattle.pat_machine_threads.proofs.store.copies.copy_threads.Given as goal

-- the copies so far
abbrev pub invariant-loop-slot : goal.invariant-loop-slot
invariant-loop-slot l = threads_view l.own ≡ threads_view (entries_from 0 (take l.slot l.slots))
