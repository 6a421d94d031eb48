use Rattle.std.proofs.Common.{replicate}
use Rattle.pat_grid_sums.specs.Sets.{Puts, AnyBefore, GoesBy}
use Rattle.pat_grid_sums.proofs.moving.masks_of.Given as goal

abbrev pub invariant-loop-place : goal.invariant-loop-place
invariant-loop-place l = Puts (AnyBefore (GoesBy l.row) l.place) (replicate 64 0) l.masks
