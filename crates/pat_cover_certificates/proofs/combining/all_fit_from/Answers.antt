use Rattle.std.proofs.Common.{arith}
use Rattle.std.proofs.lemmas.Bool.{iff_false}
use Rattle.pat_words_spec.specs.Words.{plus}
use Rattle.pat_bags.specs.Views.{word_of}
use Rattle.pat_inclusion_spec.specs.LinearSets.{combined}
use Rattle.pat_linear.specs.Views.{words_of}
use Rattle.pat_linear.proofs.SameWords.{same_end, same_not}
use Rattle.pat_cover_certificates.proofs.combining.all_fit_from.Goals as goal

pub returns-then-not-fits_from : goal.returns-then-not-fits_from
returns-then-not-fits_from c =
    same_not c.loop-t.t (word_of c.args.word.now) (plus (word_of c.args.base.now) (combined c.args.numbers.now (words_of c.args.periods.now))) c.loop-t-test.true (iff_false c.fits_from.ensures c.if-not-fits_from.true)

pub returns : goal.returns
returns c =
    let a = c.loop-t-test.false in
    let b = c.loop-t.auto.t-end in
    same_end c.loop-t.t (word_of c.args.word.now) (plus (word_of c.args.base.now) (combined c.args.numbers.now (words_of c.args.periods.now))) c.loop-t.invariant (omega arith)
