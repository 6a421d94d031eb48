use Rattle.std.proofs.Common.{map}
use Rattle.pat_semantics_spec.specs.Values.{eval_all}
use Rattle.pat_core.specs.Views.{expr_view, program_view}
use Rattle.pat_reduce_values.specs.ValueViews.{env_view}
use Rattle.pat_reduce.specs.threads.ThreadViews.{control_view}
use Rattle.pat_reduce.proofs.ParametersKept.{enters}
use Rattle.pat_reduce.proofs.threads.threads.node_with_parameters.Goals as goal

pub returns-in-Ok : goal.returns-in-Ok
returns-in-Ok c =
    let p = program_view c.args.code.now.program in
    enters p c.args.node (λ x free. c.args.code.now.small x c.args.node free) (eval_all (env_view c.args.env.now) (map expr_view c.args.args.now)) (env_view c.in-Ok.own) (control_view c.node_of.result) c.in-Ok.ensures c.node_of.ensures
