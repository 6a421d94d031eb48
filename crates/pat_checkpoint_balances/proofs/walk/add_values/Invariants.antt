use Rattle.std.proofs.Common.{◌≡◌, ◌++◌, drop}
use Rattle.pat_type_schemes_spec.specs.NodeTypes.{need_of}
use Rattle.pat_types.specs.Views.{needs_view}
use Rattle.pat_reduce_values.specs.ValueViews.{env_view}
use Rattle.pat_checkpoint_spec.specs.HoldingsInOrder.{env_holds}
use Rattle.pat_checkpoint_balances.proofs.walk.add_values.Given as goal

abbrev pub invariant-loop-variable : goal.invariant-loop-variable
invariant-loop-variable l = needs_view l.held ++ env_holds (need_of (needs_view l.types.env.now)) (env_view (drop l.variable-index l.env)) ≡ needs_view l.initial.held ++ env_holds (need_of (needs_view l.types.env.now)) (env_view l.env)
