use Rattle.std.proofs.Common.{length}
use Rattle.pat_grid_sums.specs.Systems.{setting_in, Passed}
use Rattle.pat_grid_sums.proofs.least.pass.Given as goal

abbrev pub invariant-loop-s : goal.invariant-loop-s
invariant-loop-s l =
    Passed (setting_in l.system) l.shape.width l.shape.words (length l.system.symbols.now) l.s l.before l.sets l.marks.looked l.marks.changed l.changed
