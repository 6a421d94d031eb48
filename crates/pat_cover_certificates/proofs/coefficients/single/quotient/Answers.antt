use Rattle.std.proofs.Common.{◌/◌, refl, arith}
use Rattle.pat_bags.specs.Views.{word_of}
use Rattle.pat_cover_certificates.proofs.OnePeriod.{taken_at, none_taken}
use Rattle.pat_cover_certificates.proofs.coefficients.single.quotient.Goals as goal

pub returns-then-own-gt0 : goal.returns-then-own-gt0
returns-then-own-gt0 c =
    taken_at (word_of c.args.period.now) (word_of c.args.word.now) c.loop-t.t c.get-own.result c.get.result (c.get.result / c.get-own.result) c.loop-t-test.true c.get-own.ensures.value c.get.ensures.value c.if-own-gt0.true refl

pub returns : goal.returns
returns c =
    let end = c.loop-t-test.false in
    none_taken (word_of c.args.period.now) (word_of c.args.word.now) (λ t l. c.loop-t.invariant t (omega arith))
