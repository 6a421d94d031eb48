use Rattle.std.proofs.Common.{◌≡◌, ◌++◌, drop}
use Rattle.std.specs.Map.{keys_of}
use Rattle.pat_reduce.specs.Views.{threads_view}
use Rattle.pat_machine_threads.proofs.store.remains.list_threads.Given as goal

-- the numbers so far, and those that are left
abbrev pub invariant-loop-entry : goal.invariant-loop-entry
invariant-loop-entry l = l.own ++ keys_of (threads_view (drop l.entry-index l.threads)) ≡ keys_of (threads_view l.threads)
