use Rattle.std.proofs.Common.{◌∙◌}
use Rattle.pat_checkpoint_print.proofs.Names.{name_there}
use Rattle.pat_checkpoint_print.proofs.places.name_of_interface.Goals as goal

pub returns-in-Some : goal.returns-in-Some
returns-in-Some c =
    c.as_bytes.ensures
    ∙ name_there c.args.program.now.interfaces c.as_slice.result.now c.args.interface c.in-Some.own.now c.as_slice.ensures c.in-Some.ensures.lookup.0 c.in-Some.ensures.lookup.1
