use Rattle.std.proofs.Common.{option_map}
use Rattle.std.specs.Prelude.{option_copied}
use Rattle.pat_types.specs.Views.{type_view}
use Rattle.pat_derivations.proofs.Halving.{rest_ascends, in_front, behind}
use Rattle.pat_derivations.proofs.environments.lookups.LookUps.find.Goals as goal

pub find_near-requires : goal.find_near-requires
find_near-requires c = rest_ascends c.args.self.now.env.now c.args.self.now.rising (cc)

pub returns-in-Some : goal.returns-in-Some
returns-in-Some c = in_front c.args.self.now.env.now c.args.self.now.rising c.args.variable (type_view c.in-Some.of.now) c.in-Some.ensures

pub returns-in-None : goal.returns-in-None
returns-in-None c =
    behind c.args.self.now.env.now c.args.self.now.rising c.args.variable (option_map type_view (option_copied c.find_near.result)) c.in-None.ensures c.find_near.ensures
