use Rattle.std.proofs.Common.{◌≡◌, ◌+◌, true, length, rules}
use Rattle.pat_derivation_spec.specs.Derivations.{ascends_from}
use Rattle.pat_types.specs.Views.{needs_view}
use Rattle.pat_infer_environments.proofs.AtMostOne.{nothing_put}
use Rattle.pat_infer_environments.proofs.gathering.gather_let.Goals as goal

pub returns-in-empty : goal.returns-in-empty
returns-in-empty c =
    let empty : length c.args.bound.now ≡ 0 = search rules in
    let rising : ascends_from 0 (needs_view c.args.body) ≡ true = search rules in
    nothing_put c.args.program.now c.args.problem.now c.args.node (1 + length c.args.problem.now.vars) c.args.bound.now c.args.body empty rising
