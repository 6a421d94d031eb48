use Rattle.std.proofs.Common.{◌≡◌, drop, map}
use Rattle.pat_primitives.specs.Values.{bind_all}
use Rattle.pat_reduce_values.specs.ValueViews.{env_view, value_view}
use Rattle.pat_reduce_values.proofs.environments.bind_all.Given as goal

-- the variables from here on are bound
abbrev pub invariant-loop-i : goal.invariant-loop-i
invariant-loop-i l = env_view l.env ≡ bind_all (env_view l.fn.env) (drop l.i l.variables) (map value_view (drop l.i l.values))
