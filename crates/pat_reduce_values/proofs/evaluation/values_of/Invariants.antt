use Rattle.std.proofs.Common.{◌≡◌, ◌++◌, drop, map}
use Rattle.std.specs.Prelude.{option_map}
use Rattle.pat_primitives.specs.Values.{eval_all}
use Rattle.pat_core.specs.Views.{expr_view}
use Rattle.pat_reduce_values.specs.ValueViews.{env_view, value_view}
use Rattle.pat_reduce_values.proofs.evaluation.values_of.Given as goal

-- the values so far, and those that are left, are all
abbrev pub invariant-loop-e : goal.invariant-loop-e
invariant-loop-e l =
    option_map (λ vs. map value_view l.values ++ vs) (eval_all (env_view l.env) (map expr_view (drop l.e-index l.args))) ≡ eval_all (env_view l.env) (map expr_view l.args)
