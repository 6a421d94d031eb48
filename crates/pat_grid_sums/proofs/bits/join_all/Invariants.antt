use Rattle.pat_grid_sums.specs.Sets.{Puts, AnyBefore}
use Rattle.pat_grid_sums.proofs.Putting.{IsWordOf}
use Rattle.pat_grid_sums.proofs.bits.join_all.Given as goal

abbrev pub invariant-loop-word : goal.invariant-loop-word
invariant-loop-word l = Puts (AnyBefore (IsWordOf l.more) l.word) l.initial.words l.words
