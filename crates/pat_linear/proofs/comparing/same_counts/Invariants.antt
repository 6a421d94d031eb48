use Rattle.std.proofs.Common.{◌≡◌, true}
use Rattle.pat_bags.specs.Views.{word_of}
use Rattle.pat_inclusion_spec.specs.Counts.{same_below}
use Rattle.pat_linear.proofs.comparing.same_counts.Given as goal

abbrev pub invariant-loop-t : goal.invariant-loop-t
invariant-loop-t l = same_below l.t (word_of l.a) (word_of l.b) ≡ true
