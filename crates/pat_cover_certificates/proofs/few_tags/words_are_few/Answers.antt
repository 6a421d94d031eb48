use Rattle.pat_words_spec.specs.Tags.{HasTagsBelow}
use Rattle.pat_bags.specs.Views.{word_of}
use Rattle.pat_inclusion_spec.specs.Counts.{most_tags}
use Rattle.pat_cover_certificates.proofs.Lists.{all_more}
use Rattle.pat_cover_certificates.proofs.few_tags.words_are_few.Goals as goal

pub loop-bag-preserved : goal.loop-bag-preserved
loop-bag-preserved c = all_more (HasTagsBelow most_tags) word_of c.args.bags.now c.loop-bag.bag-index _ c.loop-bag-test.true c.loop-bag.invariant c.tags_are_few.ensures
