-- Inclusions that are needed, as the definitions see them.
use Rattle.pat_inclusion_spec.specs.Certificates.{Inclusion}
use Rattle.pat_patterns.specs.Views.{pattern_view}
use Rattle.pat_checkpoint_certificates.specs.declared.showing.Need.{Need}

abbrev pub need_view : Need → Inclusion
need_view q = record { interface = q.interface; left = pattern_view q.left.now; right = pattern_view q.right.now }
