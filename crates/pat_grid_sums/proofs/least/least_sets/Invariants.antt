use Rattle.std.proofs.Common.{length, ◌+◌, ◌*◌}
use Rattle.pat_grid_sums.specs.Systems.{setting_in, Stands}
use Rattle.pat_grid_sums.proofs.least.least_sets.Given as goal

abbrev pub invariant-loop-number : goal.invariant-loop-number
invariant-loop-number l =
    Stands (setting_in l.system) l.shape.width l.shape.words (length l.system.symbols.now) (l.number * l.count + 1) l.sets l.marks.looked l.marks.changed
