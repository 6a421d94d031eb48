use Rattle.std.proofs.Common.{inr}
use Rattle.pat_bags.specs.Views.{word_of}
use Rattle.pat_cover_certificates.proofs.Standing.{lies_all}
use Rattle.pat_cover_certificates.proofs.coefficients.frames.with_one_more.Goals as goal

pub returns-in-None : goal.returns-in-None
returns-in-None c = inr (λ h.
    let lies = lies_all (word_of c.args.period.now) (word_of c.args.frame.now.left) c.tags_are_few.ensures h in
    let no = c.in-None.ensures.some.1 lies in cc)
