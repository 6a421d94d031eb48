use Rattle.std.proofs.Common.{◌≡◌}
use Rattle.pat_inclusion_spec.specs.Points.{tag_power}
use Rattle.pat_patterns.specs.Views.{pattern_view}
use Rattle.pat_certificate_values.specs.forms.Limits.{IsCounted}
use Rattle.pat_certificate_values.proofs.forms.point_patterns.power.Given as goal

abbrev pub invariant-loop-done : goal.invariant-loop-done
invariant-loop-done l = (pattern_view l.made.pattern ≡ tag_power l.tag l._done) × IsCounted l.made
