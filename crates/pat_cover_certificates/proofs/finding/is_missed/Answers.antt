use Rattle.pat_bags.specs.Views.{word_of}
use Rattle.pat_cover_certificates.proofs.OnePeriod.{missed}
use Rattle.pat_cover_certificates.proofs.finding.is_missed.Goals as goal

pub returns-then-step-gt0 : goal.returns-then-step-gt0
returns-then-step-gt0 c = λ yes.
    missed (word_of c.args.base.now) (word_of c.args.period.now) (word_of c.args.word.now) c.loop-t.t c.get-from.result c.get-step.result c.get-to.result c.loop-t-test.true c.get-from.ensures.value c.get-step.ensures.value c.get-to.ensures.value (c.steps_miss.ensures yes)
