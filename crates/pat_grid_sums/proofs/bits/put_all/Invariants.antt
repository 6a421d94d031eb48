use Rattle.pat_grid_sums.specs.Sets.{Puts, AnyBefore, AtNumber}
use Rattle.pat_grid_sums.proofs.bits.put_all.Given as goal

abbrev pub invariant-loop-number : goal.invariant-loop-number
invariant-loop-number l =
    Puts (AnyBefore (AtNumber l.numbers l.width) l.number-index) l.initial.words l.words
