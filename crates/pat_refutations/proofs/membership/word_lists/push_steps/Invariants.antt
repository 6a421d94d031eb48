use Rattle.std.proofs.Common.{◌-◌, length}
use Rattle.pat_words_spec.specs.Words.{LiesIn}
use Rattle.pat_bags.specs.Views.{word_of}
use Rattle.pat_refutations.specs.membership.Listings.{HasWord, Only, Reached, Within}
use Rattle.pat_words_spec.specs.Languages.{EitherOf}
use Rattle.pat_refutations.proofs.Rests.{Same}
use Rattle.pat_refutations.proofs.Totals.{total}
use Rattle.pat_refutations.proofs.membership.word_lists.push_steps.Given as goal

abbrev pub invariant-loop-next : goal.invariant-loop-next
invariant-loop-next l = record {
  lies : LiesIn (word_of l.next) (word_of l.limit);
  same : Same (EitherOf (HasWord l.words) (Within (word_of l.limit) (Reached (Only (word_of l.next)) (word_of l.step))))
      (EitherOf (HasWord l.initial.words) (Within (word_of l.limit) (Reached (Only (word_of l.fn.start)) (word_of l.step))));
}

abbrev pub decreases-loop-next : goal.decreases-loop-next
decreases-loop-next l = total (length l.step.counts) (word_of l.limit) - total (length l.step.counts) (word_of l.next)
