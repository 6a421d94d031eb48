use Rattle.std.proofs.Common.{sym, ◌∙◌}
use Rattle.pat_inclusion_spec.specs.Counts.{most_tags}
use Rattle.pat_linear.proofs.CoverLaws.{cover_direct, direct_into}
use Rattle.pat_linear.specs.Views.{sets_view}
use Rattle.pat_cover_certificates.specs.Views.{entries_view}
use Rattle.pat_cover_certificates.proofs.cover.check_cover.Goals as goal

pub returns-clause-words : goal.returns-clause-words
returns-clause-words c = λ h.
    let left = sets_view c.args.left.now in
    let right = sets_view c.args.right.now in
    direct_into left right (cover_direct most_tags left right (entries_view c.args.cover.now) c.sets_are_few.ensures c.sets_are_few-2.ensures (sym c.covers_each.ensures ∙ h))
