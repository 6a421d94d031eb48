use Rattle.pat_inclusion_spec.specs.Counts.{most_tags}
use Rattle.pat_linear.proofs.StarOfWords.{repeated}
use Rattle.pat_linear.proofs.forms.repeat_words.Goals as goal

pub returns : goal.returns
returns c =
    repeated c.push.result most_tags c.args.done.now c.empty_top.new.self c.push.new.self c.top.result.now c.in_ok-star.star c.requires.words c.top.ensures c.empty_top.ensures c.in_ok-star.ensures c.push.ensures
