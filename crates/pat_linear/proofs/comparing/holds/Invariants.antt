use Rattle.std.proofs.Common.{◌≡◌, drop}
use Rattle.pat_bags.specs.Views.{word_of}
use Rattle.pat_inclusion_spec.specs.Counts.{most_tags, has_word}
use Rattle.pat_linear.specs.Views.{words_of}
use Rattle.pat_linear.proofs.comparing.holds.Given as goal

abbrev pub invariant-loop-own : goal.invariant-loop-own
invariant-loop-own l =
    has_word most_tags (words_of (drop l.own-index l.bags)) (word_of l.bag) ≡ has_word most_tags (words_of l.bags) (word_of l.bag)
