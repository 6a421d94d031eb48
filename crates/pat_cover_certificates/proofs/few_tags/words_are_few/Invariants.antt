use Rattle.std.proofs.Common.{take}
use Rattle.std.specs.List.{AllByRecursion}
use Rattle.pat_words_spec.specs.Tags.{HasTagsBelow}
use Rattle.pat_inclusion_spec.specs.Counts.{most_tags}
use Rattle.pat_linear.specs.Views.{words_of}
use Rattle.pat_cover_certificates.proofs.few_tags.words_are_few.Given as goal

abbrev pub invariant-loop-bag : goal.invariant-loop-bag
invariant-loop-bag l = AllByRecursion (HasTagsBelow most_tags) (take l.bag-index (words_of l.bags))
