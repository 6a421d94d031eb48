use Rattle.std.proofs.Common.{◌≡◌, drop}
use Rattle.std.specs.Map.{keys_of}
use Rattle.pat_reduce.specs.Views.{threads_view}
use Rattle.pat_checkpoint_spec.specs.Numbers.{ascends}
use Rattle.pat_checkpoint_numbers.proofs.numbers.threads_ascend.Given as goal

-- what is left decides it
abbrev pub invariant-loop-number : goal.invariant-loop-number
invariant-loop-number l = ascends l.least (keys_of (threads_view (drop l.number-index l.threads))) ≡ ascends 0 (keys_of (threads_view l.threads))
