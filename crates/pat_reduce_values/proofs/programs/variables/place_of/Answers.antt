use Rattle.std.proofs.Common.{IfOk, IfErr, subst}
use Rattle.pat_reduce_values.specs.programs.Places.{StandsAt, FitsAt}
use Rattle.pat_reduce_values.proofs.VariableSets.{searched}
use Rattle.pat_reduce_values.proofs.programs.variables.place_of.Goals as goal

pub returns-in-Ok-clause-found : goal.returns-in-Ok-clause-found
returns-in-Ok-clause-found c =
    let facts = c.binary_search.ensures in
    subst (λ r. IfOk r (StandsAt c.args.listed.now c.args.variable)) c.in-Ok.is (searched c.args.listed.now c.args.variable c.requires c.binary_search.result facts.bound facts.position).found

pub returns-in-Err-clause-absent : goal.returns-in-Err-clause-absent
returns-in-Err-clause-absent c =
    let facts = c.binary_search.ensures in
    subst (λ r. IfErr r (FitsAt c.args.listed.now c.args.variable)) c.in-Err.is (searched c.args.listed.now c.args.variable c.requires c.binary_search.result facts.bound facts.position).absent
