use Rattle.std.proofs.Common.{◌≡◌, true, length}
use Rattle.pat_checkpoint_numbers.proofs.Changed.{are_zero}
use Rattle.pat_checkpoint_numbers.proofs.marks.Marks.new.Given as goal

-- a 0 for each so far
abbrev pub invariant-loop : goal.invariant-loop
invariant-loop l = record { each : length l.turns ≡ l.index; zero : are_zero l.turns ≡ true }
