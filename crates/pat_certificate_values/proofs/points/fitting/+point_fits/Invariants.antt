use Rattle.std.proofs.Common.{length}
use Rattle.pat_certificate_values.proofs.points.fitting.+point_fits.Given as goal

abbrev pub decreases-point_fits : goal.decreases-point_fits
decreases-point_fits l = length l.counts.now
