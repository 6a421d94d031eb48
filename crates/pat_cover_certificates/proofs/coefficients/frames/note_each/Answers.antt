use Rattle.std.proofs.Common.{◌∙◌}
use Rattle.pat_bags.specs.Views.{word_of}
use Rattle.pat_cover_certificates.proofs.Standing.{lower, fewer, fits_more}
use Rattle.pat_cover_certificates.proofs.coefficients.frames.note_each.Goals as goal

pub add-left-requires : goal.add-left-requires
add-left-requires c t l =
    fits_more c.loop-number.number (word_of c.args.period.now) (word_of c.loop-number.left) (word_of c.args.frame.now.before) t
    c.loop-number-test.true c.loop-number.invariant.whole (c.counts_fit.ensures t)

pub loop-number-preserved : goal.loop-number-preserved
loop-number-preserved c =
    let p = word_of c.args.period.now in
    let left = word_of c.loop-number.left in
    let before = word_of c.args.frame.now.before in
    let whole = c.loop-number.invariant.whole in
    record {
      whole = fewer c.loop-number.number p (word_of c.add-left.result) left before c.loop-number-test.true whole c.add-left.ensures;
      came = λ n ps at old none. c.note_failed.ensures.came n ps (c.loop-number.invariant.came n ps at old none)
          (lower n ps c.args.place c.loop-number.number p left before at whole none);
      room = c.note_failed.ensures.room ∙ c.loop-number.invariant.room;
    }

pub returns-clause-came : goal.returns-clause-came
returns-clause-came c n ps at old none =
    c.note_failed-2.ensures.came n ps (c.loop-number.invariant.came n ps at old none)
    (lower n ps c.args.place c.loop-number.number (word_of c.args.period.now) (word_of c.loop-number.left) (word_of c.args.frame.now.before) at
    c.loop-number.invariant.whole none)
