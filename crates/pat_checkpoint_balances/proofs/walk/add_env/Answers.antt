use Rattle.std.proofs.Common.{◌≡◌, ◌++◌, length, sym, subst}
use Rattle.std.specs.Result.{OnOk}
use Rattle.std.proofs.lemmas.Bool.{ltb-true, ltb-false}
use Rattle.pat_types.specs.Views.{needs_view}
use Rattle.pat_reduce_values.specs.ValueViews.{env_view}
use Rattle.pat_checkpoint_spec.specs.HoldingsInOrder.{env_holds}
use Rattle.pat_checkpoint_balances.proofs.Holding.{env_there, no_env}
use Rattle.pat_checkpoint_balances.proofs.walk.add_env.Goals as goal

pub returns-in-None : goal.returns-in-None
returns-in-None c =
    no_env (needs_view c.args.held.now) c.args.envs.now c.args.node (env_view c.args.env.now) (ltb-false c.args.node (length c.args.envs.now) (sym c.in-None.ensures.lookup.0))

pub returns-in-Some : goal.returns-in-Some
returns-in-Some c =
    let t = c.in-Some.types.now in
    subst (λ g. OnOk c.add_values.result (needs_view c.add_values.new.held ≡ needs_view c.args.held.now ++ env_holds g (env_view c.args.env.now))) (sym (env_there c.args.envs.now c.args.node t (ltb-true c.args.node (length c.args.envs.now) (sym c.in-Some.ensures.lookup.0)) c.in-Some.ensures.lookup.1)) c.add_values.ensures
