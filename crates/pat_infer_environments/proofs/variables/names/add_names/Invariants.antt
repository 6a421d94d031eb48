use Rattle.std.proofs.Common.{◌≡◌, ◌≤◌, length, drop}
use Rattle.std.specs.Map.{keys_of}
use Rattle.pat_infer_spec.specs.Needs.{add_all}
use Rattle.pat_types.specs.Views.{needs_view}
use Rattle.pat_infer_environments.proofs.variables.names.add_names.Given as goal

abbrev pub decreases-loop-place : goal.decreases-loop-place
decreases-loop-place l = l.place

-- the variables behind the place are added
abbrev pub invariant-loop-place : goal.invariant-loop-place
invariant-loop-place l = record {
  within : l.place ≤ length l.needs;
  added : l.names ≡ add_all (keys_of (needs_view (drop l.place l.needs))) l.fn.names;
}
