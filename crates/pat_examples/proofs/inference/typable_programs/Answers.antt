use Rattle.pat_examples.proofs.Solved.{one_typable, spawned_typable, nobody_typable}
use Rattle.pat_examples.proofs.inference.typable_programs.Goals as goal

pub returns : goal.returns
returns c =
    let types = c.enough_laws.ensures.types in
    record { one_message = one_typable types; spawned_on = spawned_typable types; asked_by_nobody = nobody_typable types }
