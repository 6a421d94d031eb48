use Rattle.pat_bags.specs.Views.{word_of}
use Rattle.pat_inclusion_spec.specs.Counts.{most_tags}
use Rattle.pat_linear.specs.Views.{words_of}
use Rattle.pat_cover_certificates.proofs.FirstCovers.{from_none, from_result, not_some}
use Rattle.pat_cover_certificates.proofs.finding.numbers_from.Goals as goal

pub returns-in-None : goal.returns-in-None
returns-in-None c = from_none (word_of c.args.base.now) (words_of c.args.periods.now) (word_of c.args.word.now) c.tags_are_few.ensures (λ lies. not_some (c.in-None.ensures.some.1 lies))

pub returns-in-Some : goal.returns-in-Some
returns-in-Some c =
    from_result most_tags (word_of c.args.base.now) (words_of c.args.periods.now) (word_of c.in-Some.rest) (word_of c.args.word.now) c.find_numbers.result c.in-Some.ensures.rest c.find_numbers.ensures
