use Rattle.std.proofs.Common.{◌≡◌, ◌++◌, drop, map}
use Rattle.std.specs.Prelude.{option_map}
use Rattle.pat_primitives.specs.Values.{eval_all}
use Rattle.pat_core.specs.Views.{expr_view}
use Rattle.pat_reduce_values.specs.ValueViews.{env_view}
use Rattle.pat_reduce_values.specs.Environments.{parameters_from}
use Rattle.pat_reduce_values.proofs.evaluation.parameters.Given as goal

-- the values so far, and those that are left, are all
abbrev pub invariant-loop-number : goal.invariant-loop-number
invariant-loop-number l =
    option_map (λ vs. env_view l.values ++ parameters_from l.number vs) (eval_all (env_view l.env) (map expr_view (drop l.number l.args))) ≡ option_map (parameters_from 0) (eval_all (env_view l.env) (map expr_view l.args))
