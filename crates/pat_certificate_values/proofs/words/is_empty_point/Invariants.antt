use Rattle.std.proofs.Common.{◌≡◌}
use Rattle.pat_words_spec.specs.Words.{no_word}
use Rattle.pat_inclusion_spec.specs.Counts.{counted, same_below}
use Rattle.pat_certificate_values.proofs.words.is_empty_point.Given as goal

-- the counts from there on are 0, so the others decide
abbrev pub invariant-loop-left : goal.invariant-loop-left
invariant-loop-left l = same_below l.left no_word (counted l.point.counts) ≡ same_below l.tags no_word (counted l.point.counts)

abbrev pub decreases-loop-left : goal.decreases-loop-left
decreases-loop-left l = l.left
