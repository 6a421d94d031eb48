use Rattle.std.proofs.Common.{◌≡◌, IfOk, subst}
use Rattle.pat_core.specs.Views.{program_view}
use Rattle.pat_reduce_values.specs.ValueViews.{env_view}
use Rattle.pat_reduce_values.proofs.Keeping.{none_but}
use Rattle.pat_reduce_values.proofs.environments.kept.Goals as goal

pub returns : goal.returns
returns c =
    let p = program_view c.args.code.now.program in
    subst (λ e. IfOk c.kept_but.result (λ own. env_view own ≡ e)) (none_but p c.args.node (env_view c.args.env.now)) c.kept_but.ensures
