use Rattle.std.proofs.Common.{◌≡◌, ◌+◌, length}
use Rattle.pat_inclusion_spec.specs.LinearSets.{combined}
use Rattle.pat_linear.specs.Views.{words_of}
use Rattle.pat_cover_certificates.proofs.combining.left_over.Given as goal

abbrev pub invariant-loop-numbers : goal.invariant-loop-numbers
invariant-loop-numbers l =
    l.left + combined l.initial.numbers (words_of l.initial.periods) l.tag
    ≡ l.count + combined l.numbers (words_of l.periods) l.tag

abbrev pub decreases-loop-numbers : goal.decreases-loop-numbers
decreases-loop-numbers l = length l.numbers
