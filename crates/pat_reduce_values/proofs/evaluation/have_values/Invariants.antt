use Rattle.std.proofs.Common.{◌≡◌, drop, map}
use Rattle.std.specs.Prelude.{is_some}
use Rattle.pat_primitives.specs.Values.{eval_all}
use Rattle.pat_core.specs.Views.{expr_view}
use Rattle.pat_reduce_values.specs.ValueViews.{env_view}
use Rattle.pat_reduce_values.proofs.evaluation.have_values.Given as goal

-- whether those from here on have values decides it
abbrev pub invariant-loop-e : goal.invariant-loop-e
invariant-loop-e l = is_some (eval_all (env_view l.env) (map expr_view (drop l.e-index l.args))) ≡ is_some (eval_all (env_view l.env) (map expr_view l.args))
