use Rattle.std.proofs.Common.{◌≡◌, drop}
use Rattle.pat_reduce_values.specs.Environments.{ascends_from}
use Rattle.pat_reduce_values.specs.ValueViews.{env_view}
use Rattle.pat_reduce_values.proofs.lookups.ascends.Given as goal

-- whether those from here on ascend decides it
abbrev pub invariant-loop-variable : goal.invariant-loop-variable
invariant-loop-variable l = ascends_from l.least (env_view (drop l.variable-index l.env)) ≡ ascends_from 0 (env_view l.env)
