use Rattle.std.proofs.Common.{◌≡◌, ◌≤◌, length, map, drop}
use Rattle.pat_types.specs.Views.{needs_view}
use Rattle.pat_infer_environments.specs.variables.Names.{names_of_outer}
use Rattle.pat_infer_environments.proofs.variables.names.names_of.Given as goal

abbrev pub decreases-loop-place : goal.decreases-loop-place
decreases-loop-place l = l.place

-- the variables of the branches behind the place
abbrev pub invariant-loop-place : goal.invariant-loop-place
invariant-loop-place l = record {
  within : l.place ≤ length l.branches;
  names : l.names ≡ names_of_outer (map needs_view (drop l.place l.branches));
}
