use Rattle.std.proofs.Common.{drop}
use Rattle.pat_bags.specs.Views.{word_of}
use Rattle.pat_refutations.specs.membership.Listings.{HasWord, Only, Within}
use Rattle.pat_words_spec.specs.Languages.{EitherOf, SumOf}
use Rattle.pat_refutations.proofs.Rests.{Same}
use Rattle.pat_refutations.proofs.membership.word_lists.push_sums.Given as goal

abbrev pub invariant-loop-other : goal.invariant-loop-other
invariant-loop-other l =
    Same (EitherOf (HasWord l.words) (Within (word_of l.limit) (SumOf (Only (word_of l.word)) (HasWord (drop l.other-index l.others)))))
    (EitherOf (HasWord l.initial.words) (Within (word_of l.limit) (SumOf (Only (word_of l.word)) (HasWord l.others))))
