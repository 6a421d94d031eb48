use Rattle.std.proofs.Common.{drop}
use Rattle.pat_bags.specs.Views.{word_of}
use Rattle.pat_refutations.specs.membership.Listings.{HasWord, Reached, Within}
use Rattle.pat_words_spec.specs.Languages.{EitherOf}
use Rattle.pat_refutations.proofs.Rests.{Same}
use Rattle.pat_refutations.proofs.membership.word_lists.with_steps.Given as goal

abbrev pub invariant-loop-start : goal.invariant-loop-start
invariant-loop-start l =
    Same (EitherOf (HasWord l.words) (Within (word_of l.limit) (Reached (HasWord (drop l.start-index l.starts)) (word_of l.step))))
    (Within (word_of l.limit) (Reached (HasWord l.starts) (word_of l.step)))
