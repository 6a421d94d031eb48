use Rattle.std.proofs.Common.{drop}
use Rattle.pat_inclusion_spec.specs.Counts.{most_tags}
use Rattle.pat_linear.specs.Views.{sets_view}
use Rattle.pat_cover_certificates.proofs.FirstCovers.{CoverSoFar}
use Rattle.pat_cover_certificates.proofs.finding.entries_for.Given as goal

abbrev pub invariant-loop-set : goal.invariant-loop-set
invariant-loop-set l = CoverSoFar most_tags (sets_view l.right) l.cover (drop l.set-index l.left) l.left
