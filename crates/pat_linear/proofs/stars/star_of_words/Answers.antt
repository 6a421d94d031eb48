use Rattle.std.proofs.Common.{[], map}
use Rattle.pat_inclusion_spec.specs.Counts.{most_tags}
use Rattle.pat_inclusion_spec.specs.ClosedForms.{add_periods}
use Rattle.pat_linear.specs.Views.{words_of, sets_view}
use Rattle.pat_linear.specs.WordSets.{base_of}
use Rattle.pat_linear.proofs.StarOfWords.{word_added}
use Rattle.pat_linear.proofs.stars.star_of_words.Goals as goal

pub loop-set-preserved : goal.loop-set-preserved
loop-set-preserved c =
    word_added most_tags (add_periods most_tags [] (map base_of (sets_view c.args.sets.now))) (words_of c.loop-set.periods) (words_of c.add_period.new.periods) c.args.sets.now c.loop-set.set-index c.set-item.result c.loop-set-test.true c.set-item.is c.in_ok-add_period.ensures c.loop-set.invariant
