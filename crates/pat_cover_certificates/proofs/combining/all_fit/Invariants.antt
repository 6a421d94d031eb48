use Rattle.std.proofs.Common.{◌≡◌, true}
use Rattle.pat_bags.specs.Views.{word_of}
use Rattle.pat_inclusion_spec.specs.Counts.{same_below}
use Rattle.pat_inclusion_spec.specs.LinearSets.{combined}
use Rattle.pat_linear.specs.Views.{words_of}
use Rattle.pat_cover_certificates.proofs.combining.all_fit.Given as goal

abbrev pub invariant-loop-t : goal.invariant-loop-t
invariant-loop-t l = same_below l.t (word_of l.word) (combined l.numbers (words_of l.periods)) ≡ true
