use Rattle.std.proofs.Common.{take}
use Rattle.std.specs.List.{AllByRecursion}
use Rattle.pat_inclusion_spec.specs.Counts.{most_tags}
use Rattle.pat_inclusion_spec.specs.LinearSets.{SetBelow}
use Rattle.pat_linear.specs.Views.{sets_view}
use Rattle.pat_cover_certificates.proofs.few_tags.sets_are_few.Given as goal

abbrev pub invariant-loop-set : goal.invariant-loop-set
invariant-loop-set l = AllByRecursion (SetBelow most_tags) (take l.set-index (sets_view l.sets))
