use Rattle.std.proofs.Common.{arith, subst}
use Rattle.pat_inclusion_spec.specs.Counts.{most_tags}
use Rattle.pat_linear.specs.Views.{words_of}
use Rattle.pat_cover_certificates.specs.coefficients.Numbers.{FindsNumbers}
use Rattle.pat_cover_certificates.proofs.FirstCovers.{each_end, each_none}
use Rattle.pat_cover_certificates.proofs.finding.numbers_each.Goals as goal

pub returns-in-None : goal.returns-in-None
returns-in-None c =
    each_none most_tags (words_of c.args.periods.now) c.args.words.now c.loop-word.word-index _ c.loop-word-test.true
    (subst (FindsNumbers most_tags (words_of c.args.periods.now) _) c.in-None.is c.in_ok-find_numbers.ensures)

pub returns : goal.returns
returns c =
    let a = c.loop-word-test.false in
    each_end most_tags (words_of c.args.periods.now) c.loop-word.all c.args.words.now c.loop-word.word-index (omega arith) c.loop-word.invariant
