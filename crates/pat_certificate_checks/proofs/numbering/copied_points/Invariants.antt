use Rattle.std.proofs.Common.{◌≡◌, ◌++◌, drop}
use Rattle.pat_certificate_checks.proofs.numbering.copied_points.Given as goal

abbrev pub invariant-loop-point : goal.invariant-loop-point
invariant-loop-point l = l.copies ++ drop l.point-index l.points ≡ l.points
