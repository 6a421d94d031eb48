use Rattle.std.proofs.Common.{◌≡◌, ◌≤◌, drop, length}
use Rattle.std.specs.Map.{keys_of}
use Rattle.pat_reduce_values.specs.ValueViews.{env_view}
use Rattle.pat_checkpoint_parts.specs.Lists.{all_but, are_same}
use Rattle.pat_checkpoint_parts.proofs.fitting.has_just.Given as goal

-- what is left of both decides it
abbrev pub invariant-loop-variable : goal.invariant-loop-variable
invariant-loop-variable l = record {
  within : l.place ≤ length l.env;
  same : are_same (all_but l.but (drop l.variable-index l.variables)) (keys_of (env_view (drop l.place l.env))) ≡ are_same (all_but l.but l.variables) (keys_of (env_view l.env));
}
