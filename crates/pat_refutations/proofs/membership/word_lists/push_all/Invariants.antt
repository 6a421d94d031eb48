use Rattle.std.proofs.Common.{drop}
use Rattle.pat_refutations.specs.membership.Listings.{HasWord}
use Rattle.pat_words_spec.specs.Languages.{EitherOf}
use Rattle.pat_refutations.proofs.Rests.{Same}
use Rattle.pat_refutations.proofs.membership.word_lists.push_all.Given as goal

abbrev pub invariant-loop-word : goal.invariant-loop-word
invariant-loop-word l =
    Same (EitherOf (HasWord l.words) (HasWord (drop l.word-index l.more))) (EitherOf (HasWord l.initial.words) (HasWord l.more))
