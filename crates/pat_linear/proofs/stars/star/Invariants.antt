use Rattle.pat_inclusion_spec.specs.Counts.{most_tags}
use Rattle.pat_linear.specs.Views.{sets_view}
use Rattle.pat_linear.proofs.StarSteps.{MadeSoFar}
use Rattle.pat_linear.proofs.stars.star.Given as goal

abbrev pub invariant-loop-set : goal.invariant-loop-set
invariant-loop-set l = MadeSoFar most_tags (sets_view l.sets) l.set-index (sets_view l.made)
