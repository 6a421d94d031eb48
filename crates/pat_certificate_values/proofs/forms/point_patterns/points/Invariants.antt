use Rattle.std.proofs.Common.{◌≡◌, map, drop}
use Rattle.pat_inclusion_spec.specs.Points.{with_points, points_pattern}
use Rattle.pat_certificate_values.specs.Views.{counts_of}
use Rattle.pat_patterns.specs.Views.{pattern_view}
use Rattle.pat_certificate_values.specs.forms.Limits.{IsCounted}
use Rattle.pat_certificate_values.proofs.forms.point_patterns.points.Given as goal

-- what is made with the points that are left is the whole
abbrev pub invariant-loop-own : goal.invariant-loop-own
invariant-loop-own l =
    (with_points l.k l.tags (pattern_view l.made.pattern) (map counts_of (drop l.own-index l.all)) ≡ points_pattern l.k l.tags (map counts_of l.all))
    × IsCounted l.made
