use Rattle.std.proofs.Common.{◌*◌}
use Rattle.pat_grid_sums.specs.Systems.{Written}
use Rattle.pat_grid_sums.proofs.reached.put_entries.Given as goal

abbrev pub invariant-loop-word : goal.invariant-loop-word
invariant-loop-word l = Written l.words l.width l.from (l.word * l.width) l.initial.entries l.entries
