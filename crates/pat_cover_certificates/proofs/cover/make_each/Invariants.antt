use Rattle.std.proofs.Common.{◌≡◌, length}
use Rattle.pat_inclusion_spec.specs.Counts.{most_tags}
use Rattle.pat_inclusion_spec.specs.Covers.{make_each}
use Rattle.pat_linear.specs.Views.{words_of}
use Rattle.pat_cover_certificates.proofs.cover.make_each.Given as goal

abbrev pub invariant-loop-numbers : goal.invariant-loop-numbers
invariant-loop-numbers l =
    make_each most_tags (words_of l.periods) l.numbers (words_of l.words)
    ≡ make_each most_tags (words_of l.periods) l.initial.numbers (words_of l.initial.words)

abbrev pub decreases-loop-numbers : goal.decreases-loop-numbers
decreases-loop-numbers l = length l.numbers
