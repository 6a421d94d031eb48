use Rattle.std.proofs.Common.{sym, ◌∙◌}
use Rattle.pat_bags.specs.Views.{word_of}
use Rattle.pat_cover_certificates.proofs.OnePeriod.{times_found, times_not}
use Rattle.pat_cover_certificates.proofs.coefficients.single.times.Goals as goal

pub returns-then-makes : goal.returns-then-makes
returns-then-makes c =
    times_found (word_of c.args.period.now) (word_of c.args.word.now) c.quotient-number.result c.quotient-number.ensures (sym c.makes.ensures ∙ c.if-makes.true)

pub returns-else-makes : goal.returns-else-makes
returns-else-makes c =
    times_not (word_of c.args.period.now) (word_of c.args.word.now) c.quotient-number.result c.quotient-number.ensures (sym c.makes.ensures ∙ c.if-makes.false)
