-- What is noted of certificates by grids.
use Rattle.std.specs.Prelude.{Option, Some, None, IsTrue}
use Rattle.pat_inclusion_spec.specs.Values.{Scope}
use Rattle.pat_inclusion_spec.specs.Certificates.{grid_shows}
use Rattle.pat_patterns.specs.Views.{pattern_view}
use Rattle.pat_certificate_checks.specs.declared.grids.GridNote.{GridNote}

-- the bound shows the inclusion that is noted, if one is
abbrev pub IsNoted : Scope → Option GridNote → Type 0
IsNoted s None = Unit {0}
IsNoted s (Some n) = IsTrue (grid_shows s n.k (s.tags n.interface) (pattern_view n.left) (pattern_view n.right))
