use Rattle.pat_grid_sums.specs.Systems.{WordWritten}
use Rattle.pat_grid_sums.proofs.reached.put_word.Given as goal

abbrev pub invariant-loop-bit : goal.invariant-loop-bit
invariant-loop-bit l = WordWritten l.words l.word l.from l.bit l.initial.entries l.entries
