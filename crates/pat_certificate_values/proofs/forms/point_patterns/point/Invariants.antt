use Rattle.std.proofs.Common.{◌≡◌}
use Rattle.pat_inclusion_spec.specs.Counts.{counted}
use Rattle.pat_inclusion_spec.specs.Points.{point_pattern}
use Rattle.pat_patterns.specs.Views.{pattern_view}
use Rattle.pat_certificate_values.specs.forms.Limits.{IsCounted}
use Rattle.pat_certificate_values.proofs.forms.point_patterns.point.Given as goal

abbrev pub invariant-loop-tag : goal.invariant-loop-tag
invariant-loop-tag l = (pattern_view l.made.pattern ≡ point_pattern l.k l.tag (counted l.own.counts)) × IsCounted l.made
