use Rattle.pat_derivations.proofs.Halving.{stands_at}
use Rattle.pat_derivations.proofs.environments.lookups.find_near.Goals as goal

pub returns-then-env-place : goal.returns-then-env-place
returns-then-env-place c =
    stands_at c.args.env.now c.args.variable c.args.near.now c.index-env-place.result c.index-env-place-then-env-place.result c.requires c.if-place-env.true c.if-env-place.true
