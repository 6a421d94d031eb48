use Rattle.std.proofs.Common.{◌≡◌, drop, map}
use Rattle.std.specs.List.{list_all}
use Rattle.pat_inclusion_spec.specs.Points.{point_fits}
use Rattle.pat_certificate_values.specs.points.Views.{counts_of}
use Rattle.pat_certificate_values.proofs.points.fitting.each_fits.Given as goal

abbrev pub invariant-loop-point : goal.invariant-loop-point
invariant-loop-point l = list_all (point_fits l.k l.tags) (map counts_of (drop l.point-index l.points)) ≡ list_all (point_fits l.k l.tags) (map counts_of l.points)
