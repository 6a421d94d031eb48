use Rattle.std.proofs.Common.{inr}
use Rattle.pat_bags.specs.Views.{word_of}
use Rattle.pat_inclusion_spec.specs.Counts.{most_tags}
use Rattle.pat_cover_certificates.proofs.coefficients.frames.goes_on.Goals as goal

pub returns-then-has_failed : goal.returns-then-has_failed
returns-then-has_failed c ps came =
    let taken = c.in-Some.ensures in
    inr (word_of c.in-Some.next.left, taken.2, c.has_failed.ensures c.if-has_failed.true most_tags ps came)
