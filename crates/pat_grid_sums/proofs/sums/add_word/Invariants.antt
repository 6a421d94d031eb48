use Rattle.pat_grid_sums.specs.Sets.{Puts, AnyBefore, IsAdded}
use Rattle.pat_grid_sums.proofs.sums.add_word.Given as goal

abbrev pub invariant-loop-bit : goal.invariant-loop-bit
invariant-loop-bit l =
    Puts (AnyBefore (IsAdded l.ones l.word l.moved) l.bit) l.initial.words l.words
