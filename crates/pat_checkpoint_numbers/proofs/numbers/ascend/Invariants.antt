use Rattle.std.proofs.Common.{◌≡◌, drop}
use Rattle.pat_checkpoint_spec.specs.Numbers.{ascends}
use Rattle.pat_checkpoint_numbers.proofs.numbers.ascend.Given as goal

-- what is left decides it
abbrev pub invariant-loop-number : goal.invariant-loop-number
invariant-loop-number l = ascends l.least (drop l.number-index l.numbers) ≡ ascends 0 l.numbers
