use Rattle.std.proofs.Common.{◌≤◌, ◌<◌, ◌-◌, length, take}
use Rattle.std.specs.List.{AllByRecursion}
use Rattle.pat_infer_environments.proofs.looking.skip_lesser.Given as goal

abbrev pub decreases-loop-place : goal.decreases-loop-place
decreases-loop-place l = length l.needs - l.place

-- the needs before the place are of lesser variables
abbrev pub invariant-loop-place : goal.invariant-loop-place
invariant-loop-place l = record {
  within : l.place ≤ length l.needs;
  front : AllByRecursion (λ e. e.0 < l.variable) (take l.place l.needs);
}
