use Rattle.std.proofs.Common.{◌≡◌, drop}
use Rattle.std.specs.Map.{keys_of}
use Rattle.pat_reduce_values.specs.ValueViews.{env_view}
use Rattle.pat_checkpoint_spec.specs.Numbers.{ascends}
use Rattle.pat_checkpoint_numbers.proofs.numbers.env_ascends.Given as goal

-- what is left decides it
abbrev pub invariant-loop-variable : goal.invariant-loop-variable
invariant-loop-variable l = ascends l.least (keys_of (env_view (drop l.variable-index l.env))) ≡ ascends 0 (keys_of (env_view l.env))
