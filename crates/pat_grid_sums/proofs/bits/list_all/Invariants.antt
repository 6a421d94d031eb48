use Rattle.pat_grid_sums.specs.Sets.{Lists}
use Rattle.pat_grid_sums.proofs.bits.list_all.Given as goal

abbrev pub invariant-loop-number : goal.invariant-loop-number
invariant-loop-number l =
    Lists l.words l.width l.number l.numbers
