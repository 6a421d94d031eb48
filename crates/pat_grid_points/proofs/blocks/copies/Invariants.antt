use Rattle.std.proofs.Common.{◌≡◌, replicate}
use Rattle.pat_grid_points.proofs.blocks.copies.Given as goal

abbrev pub invariant-loop : goal.invariant-loop
invariant-loop g l = l.items ≡ replicate l.counter l.item
