use Rattle.pat_grid_sums.specs.Sets.{Puts, AnyBefore}
use Rattle.pat_grid_sums.specs.Shapes.{IsAlikeSum}
use Rattle.pat_grid_sums.proofs.sums.add_alike.Given as goal

abbrev pub invariant-loop-other : goal.invariant-loop-other
invariant-loop-other l =
    Puts (AnyBefore (IsAlikeSum l.ones l.moved l.shape l.word) l.other) l.initial.sums l.sums
