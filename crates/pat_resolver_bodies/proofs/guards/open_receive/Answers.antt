use Rattle.pat_resolver_bodies.proofs.Within.{above_names}
use Rattle.std.proofs.Common.{length}
use Rattle.pat_resolver_bodies.proofs.guards.open_receive.Goals as goal

pub returns-clause-above : goal.returns-clause-above
returns-clause-above c = rw c.in_ok-bind.ensures.scope (above_names (length c.args.names.now) _ _ _ c.in_ok-bind_names.ensures.behind)
