use Rattle.std.proofs.Common.{ap, ◌∙◌}
use Rattle.pat_bags.specs.Views.{word_of}
use Rattle.pat_inclusion_spec.specs.Counts.{same_below}
use Rattle.pat_inclusion_spec.specs.Counts.{most_tags}
use Rattle.pat_linear.proofs.comparing.is_empty.Goals as goal

pub returns : goal.returns
returns c = c.same_counts.ensures ∙ ap (same_below most_tags (word_of c.args.bag.now)) c.empty.ensures
