use Rattle.std.proofs.Common.{replicate}
use Rattle.pat_grid_sums.specs.Sets.{Puts, AnyBefore}
use Rattle.pat_grid_sums.specs.Shapes.{IsFirstSum}
use Rattle.pat_grid_sums.proofs.sums.sums_of.Given as goal

abbrev pub invariant-loop-word : goal.invariant-loop-word
invariant-loop-word l =
    Puts (AnyBefore (IsFirstSum l.ones l.moved l.shape) l.word) (replicate l.shape.words 0) l.sums
