use Rattle.pat_linear.proofs.StarOfWords.{AreWordsFrom}
use Rattle.pat_linear.proofs.forms.are_words.Given as goal

abbrev pub invariant-loop-set : goal.invariant-loop-set
invariant-loop-set l = AreWordsFrom l.sets l.set-index
