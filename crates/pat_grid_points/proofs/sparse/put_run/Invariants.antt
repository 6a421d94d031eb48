use Rattle.std.proofs.Common.{◌-◌}
use Rattle.pat_grid_points.specs.Sparse.{IsFilled}
use Rattle.pat_grid_points.proofs.sparse.put_run.Given as goal

abbrev pub invariant-loop-place : goal.invariant-loop-place
invariant-loop-place g l = IsFilled l.from (l.place - l.from) l.item l.initial.blocks l.blocks
