use Rattle.std.proofs.Common.{length}
use Rattle.pat_certificate_values.proofs.points.fitting.+comes_before.Given as goal

abbrev pub decreases-comes_before : goal.decreases-comes_before
decreases-comes_before l = length l.first.now
