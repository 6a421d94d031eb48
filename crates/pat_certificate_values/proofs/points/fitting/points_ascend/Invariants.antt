use Rattle.std.proofs.Common.{◌≡◌, map, length}
use Rattle.pat_inclusion_spec.specs.Points as grid
use Rattle.pat_certificate_values.specs.points.Views.{counts_of}
use Rattle.pat_certificate_values.proofs.points.fitting.points_ascend.Given as goal

abbrev pub invariant-loop-rest : goal.invariant-loop-rest
invariant-loop-rest l = grid.points_ascend (map counts_of l.rest) ≡ grid.points_ascend (map counts_of l.points)

abbrev pub decreases-loop-rest : goal.decreases-loop-rest
decreases-loop-rest l = length l.rest
