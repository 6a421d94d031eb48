use Rattle.std.proofs.Common.{◌≡◌, ◌<◌, length}
use Rattle.std.specs.List.{AllByRecursion}
use Rattle.pat_infer_environments.specs.variables.Names.{put_on}
use Rattle.pat_infer_environments.proofs.variables.names.lift_lesser.Given as goal

abbrev pub decreases-loop-name : goal.decreases-loop-name
decreases-loop-name l = length l.names

-- what is taken off, put back, is the whole
abbrev pub invariant-loop-name : goal.invariant-loop-name
invariant-loop-name l = record {
  whole : put_on l.lesser l.names ≡ l.initial.names;
  below : AllByRecursion (λ z. z < l.variable) l.lesser;
}
