use Rattle.std.proofs.Common.{drop, ℕ}
use Rattle.pat_words_spec.specs.Words.{LiesIn}
use Rattle.pat_bags.specs.Views.{word_of}
use Rattle.pat_refutations.specs.membership.Listings.{HasWord, Within}
use Rattle.pat_words_spec.specs.Languages.{StarOf}
use Rattle.pat_refutations.proofs.Rests.{Same}
use Rattle.pat_refutations.proofs.Spans.{Spanned}
use Rattle.pat_refutations.proofs.membership.word_lists.finite_sums.Given as goal

abbrev pub invariant-loop-step : goal.invariant-loop-step
invariant-loop-step l = record {
  lies : (w : ℕ → ℕ) → HasWord l.words w → LiesIn w (word_of l.limit);
  same : Same (Within (word_of l.limit) (Spanned (HasWord l.words) (drop l.step-index l.steps))) (Within (word_of l.limit) (StarOf (HasWord l.steps)));
}
