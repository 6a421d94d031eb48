-- Inclusions as the definitions see them.
use Rattle.std.specs.Prelude.{List, [], ◌∷◌, Option, Some, None}
use Rattle.pat_words_spec.specs.Patterns.{Pat}
use Rattle.pat_inclusion_spec.specs.Certificates as certificates
use Rattle.pat_patterns.specs.Views.{pattern_view}
use Rattle.pat_certificate_checks.specs.declared.inclusions.Inclusion.{Inclusion}
use Rattle.pat_certificate_checks.specs.declared.inclusions.Reflexive.{Reflexive}
use Rattle.pat_certificate_checks.specs.declared.inclusions.Side.{Side}
use Rattle.pat_certificate_checks.specs.declared.inclusions.Side.TheVariants as side

abbrev pub side_view : Side → Pat
side_view (side.Lent e) = pattern_view e.now
side_view (side.Made e) = pattern_view e

abbrev pub inclusion_view : Inclusion → certificates.Inclusion
inclusion_view q = record { interface = q.interface; left = side_view q.left; right = pattern_view q.right.now }

abbrev pub reflexive_view : Reflexive → certificates.Inclusion
reflexive_view q = record { interface = Some q.interface; left = pattern_view q.pattern.now; right = pattern_view q.pattern.now }

-- an inclusion as a list
abbrev pub listed : Option certificates.Inclusion → List certificates.Inclusion
listed None = []
listed (Some q) = q ∷ []
