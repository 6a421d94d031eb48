use Rattle.std.proofs.Common.{drop}
use Rattle.pat_bags.specs.Views.{word_of}
use Rattle.pat_refutations.specs.membership.Listings.{HasWord, Within}
use Rattle.pat_words_spec.specs.Languages.{EitherOf, SumOf}
use Rattle.pat_refutations.proofs.Rests.{Same}
use Rattle.pat_refutations.proofs.membership.word_lists.sums.Given as goal

abbrev pub invariant-loop-word : goal.invariant-loop-word
invariant-loop-word l =
    Same (EitherOf (HasWord l.words) (Within (word_of l.limit) (SumOf (HasWord (drop l.word-index l.left)) (HasWord l.right))))
    (Within (word_of l.limit) (SumOf (HasWord l.left) (HasWord l.right)))
