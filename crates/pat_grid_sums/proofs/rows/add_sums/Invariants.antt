use Rattle.std.proofs.Common.{◌*◌}
use Rattle.pat_grid_sums.specs.Sets.{Puts, AnyBefore}
use Rattle.pat_grid_sums.specs.Shapes.{IsAtSum}
use Rattle.pat_grid_sums.proofs.rows.add_sums.Given as goal

abbrev pub invariant-loop-block : goal.invariant-loop-block
invariant-loop-block l =
    Puts (AnyBefore (IsAtSum l.k l.tags l.point l.words) (l.block * l.width)) l.initial.sums l.sums
