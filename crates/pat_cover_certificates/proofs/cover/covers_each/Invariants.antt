use Rattle.std.proofs.Common.{◌≡◌, drop}
use Rattle.pat_inclusion_spec.specs.Counts.{most_tags}
use Rattle.pat_inclusion_spec.specs.Covers.{is_cover}
use Rattle.pat_linear.specs.Views.{sets_view}
use Rattle.pat_cover_certificates.specs.Views.{entries_view}
use Rattle.pat_cover_certificates.proofs.cover.covers_each.Given as goal

abbrev pub invariant-loop-set : goal.invariant-loop-set
invariant-loop-set l =
    is_cover most_tags (sets_view (drop l.set-index l.left)) (sets_view l.right) (entries_view l.rest)
    ≡ is_cover most_tags (sets_view l.left) (sets_view l.right) (entries_view l.cover)
