use Rattle.std.proofs.Common.{length}
use Rattle.pat_certificate_values.proofs.points.fitting.+has_count.Given as goal

abbrev pub decreases-has_count : goal.decreases-has_count
decreases-has_count l = length l.counts.now
