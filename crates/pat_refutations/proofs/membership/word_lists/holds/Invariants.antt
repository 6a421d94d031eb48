use Rattle.std.proofs.Common.{drop}
use Rattle.pat_bags.specs.Views.{word_of}
use Rattle.pat_refutations.specs.membership.Listings.{HasWord}
use Rattle.pat_refutations.proofs.membership.word_lists.holds.Given as goal

abbrev pub invariant-loop-own : goal.invariant-loop-own
invariant-loop-own l = HasWord l.words (word_of l.word) → HasWord (drop l.own-index l.words) (word_of l.word)
