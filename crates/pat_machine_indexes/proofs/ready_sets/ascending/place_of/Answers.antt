use Rattle.std.proofs.Common.{IfOk, IfErr, subst}
use Rattle.pat_machine_indexes.specs.ready_sets.Ascending.{StandsAt, FitsAt}
use Rattle.pat_machine_indexes.proofs.Sorted.{searched}
use Rattle.pat_machine_indexes.proofs.ready_sets.ascending.place_of.Goals as goal

pub returns-in-Ok-clause-found : goal.returns-in-Ok-clause-found
returns-in-Ok-clause-found c =
    let facts = c.binary_search.ensures in
    subst (λ r. IfOk r (StandsAt c.args.numbers.now c.args.number)) c.in-Ok.is (searched c.args.numbers.now c.args.number c.requires c.binary_search.result facts.bound facts.position).found

pub returns-in-Err-clause-absent : goal.returns-in-Err-clause-absent
returns-in-Err-clause-absent c =
    let facts = c.binary_search.ensures in
    subst (λ r. IfErr r (FitsAt c.args.numbers.now c.args.number)) c.in-Err.is (searched c.args.numbers.now c.args.number c.requires c.binary_search.result facts.bound facts.position).absent
