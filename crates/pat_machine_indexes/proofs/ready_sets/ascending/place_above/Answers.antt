use Rattle.pat_machine_indexes.proofs.Sorted.{above_own, above_fit}
use Rattle.pat_machine_indexes.proofs.ready_sets.ascending.place_above.Goals as goal

pub returns-in-Ok : goal.returns-in-Ok
returns-in-Ok c = above_own c.args.numbers.now c.args.number c.in-Ok.place c.requires c.in-Ok.ensures.found

pub returns-in-Err : goal.returns-in-Err
returns-in-Err c = above_fit c.args.numbers.now c.args.number c.in-Err.place c.in-Err.ensures.absent
