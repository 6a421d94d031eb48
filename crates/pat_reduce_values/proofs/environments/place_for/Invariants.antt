use Rattle.std.proofs.Common.{◌≡◌, ◌++◌, take, drop}
use Rattle.pat_primitives.specs.Values.{Value, bind}
use Rattle.pat_reduce_values.specs.ValueViews.{env_view}
use Rattle.pat_reduce_values.proofs.environments.place_for.Given as goal

-- the variables so far are less
abbrev pub invariant-loop-i : goal.invariant-loop-i
invariant-loop-i l = (v : Value) → bind (env_view l.env) l.variable v ≡ env_view (take l.i l.env) ++ bind (env_view (drop l.i l.env)) l.variable v
