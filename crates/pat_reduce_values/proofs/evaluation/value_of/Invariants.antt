use Rattle.std.proofs.Common.{◌≡◌, drop}
use Rattle.pat_primitives.specs.Values.{value_at}
use Rattle.pat_reduce_values.specs.ValueViews.{env_view}
use Rattle.pat_reduce_values.proofs.evaluation.value_of.Given as goal

abbrev pub invariant-loop-own : goal.invariant-loop-own
invariant-loop-own l = value_at (env_view (drop l.own-index l.env)) l.variable ≡ value_at (env_view l.env) l.variable
