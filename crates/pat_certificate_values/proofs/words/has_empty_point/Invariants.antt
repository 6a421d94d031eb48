use Rattle.std.proofs.Common.{◌≡◌, map, drop}
use Rattle.std.specs.List.{list_any}
use Rattle.pat_words_spec.specs.Words.{no_word}
use Rattle.pat_inclusion_spec.specs.Counts.{counted, same_below}
use Rattle.pat_derivations.specs.Views.{counts_of}
use Rattle.pat_certificate_values.proofs.words.has_empty_point.Given as goal

abbrev pub invariant-loop-point : goal.invariant-loop-point
invariant-loop-point l =
    list_any (λ p. same_below l.tags no_word (counted p)) (map counts_of (drop l.point-index l.points)) ≡ list_any (λ p. same_below l.tags no_word (counted p)) (map counts_of l.points)
