use Rattle.std.proofs.Common.{arith}
use Rattle.std.proofs.lemmas.Bool.{iff_false}
use Rattle.pat_bags.specs.Views.{word_of}
use Rattle.pat_inclusion_spec.specs.LinearSets.{combined}
use Rattle.pat_linear.specs.Views.{words_of}
use Rattle.pat_linear.proofs.SameWords.{same_end, same_not}
use Rattle.pat_cover_certificates.proofs.combining.all_fit.Goals as goal

pub returns-then-not-fits_at : goal.returns-then-not-fits_at
returns-then-not-fits_at c =
    same_not c.loop-t.t (word_of c.args.word.now) (combined c.args.numbers.now (words_of c.args.periods.now)) c.loop-t-test.true (iff_false c.fits_at.ensures c.if-not-fits_at.true)

pub returns : goal.returns
returns c =
    let a = c.loop-t-test.false in
    let b = c.loop-t.auto.t-end in
    same_end c.loop-t.t (word_of c.args.word.now) (combined c.args.numbers.now (words_of c.args.periods.now)) c.loop-t.invariant (omega arith)
