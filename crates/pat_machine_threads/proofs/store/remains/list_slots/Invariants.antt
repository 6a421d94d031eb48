use Rattle.std.proofs.Common.{◌≡◌, take}
use Rattle.std.specs.Map.{keys_of}
use Rattle.pat_reduce.specs.Views.{threads_view}
use Rattle.pat_machine_threads.specs.table.Entries.{entries_from}
use Rattle.pat_machine_threads.proofs.store.remains.list_slots.Given as goal

-- the numbers so far
abbrev pub invariant-loop-slot : goal.invariant-loop-slot
invariant-loop-slot l = l.own ≡ keys_of (threads_view (entries_from 0 (take l.slot l.slots)))
