use Rattle.std.proofs.Common.{◌≡◌, drop, true}
use Rattle.pat_reduce_values.specs.Environments.{all_less}
use Rattle.pat_reduce_values.specs.ValueViews.{env_view}
use Rattle.pat_reduce_values.proofs.environments.are_less.Given as goal

-- whether those that are left are decides it
abbrev pub invariant-loop-entry : goal.invariant-loop-entry
invariant-loop-entry l = all_less l.variable (env_view (drop l.entry-index l.env)) ≡ true → all_less l.variable (env_view l.env) ≡ true
