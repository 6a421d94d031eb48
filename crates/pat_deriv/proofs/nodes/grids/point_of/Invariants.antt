use Rattle.std.proofs.Common.{◌≡◌, ◌++◌, take, drop}
use Rattle.std.specs.Prelude.{replicate}
use Rattle.pat_deriv.proofs.nodes.grids.point_of.Given as goal

abbrev pub invariant-loop-i : goal.invariant-loop-i
invariant-loop-i l = l.point.counts ≡ take l.i l.counts ++ drop l.i (replicate 32 0)
