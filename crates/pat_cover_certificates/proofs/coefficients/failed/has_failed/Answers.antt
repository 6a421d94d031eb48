use Rattle.pat_bags.specs.Views.{word_of}
use Rattle.pat_cover_certificates.proofs.Standing.{came_again}
use Rattle.pat_cover_certificates.proofs.coefficients.failed.has_failed.Goals as goal

pub returns : goal.returns
returns c h n ps came =
    let found = c.is_noted_at.ensures h in
    came_again n ps c.args.failed.now c.slot_of-slot.result c.args.place (word_of c.args.left.now) found.0 found.1 found.2 found.3 came
