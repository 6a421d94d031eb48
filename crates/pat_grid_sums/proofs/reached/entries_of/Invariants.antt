use Rattle.std.proofs.Common.{◌*◌}
use Rattle.pat_grid_sums.specs.Systems.{EntriesTo}
use Rattle.pat_grid_sums.proofs.reached.entries_of.Given as goal

abbrev pub invariant-loop-s : goal.invariant-loop-s
invariant-loop-s l = EntriesTo l.sets l.shape.width (l.shape.words * l.shape.width) l.s l.entries
