use Rattle.pat_command_print.proofs.Refusals.{allowed}
use Rattle.pat_command_print.proofs.command.print_tree.Goals as goal

pub returns-in-Err : goal.returns-in-Err
returns-in-Err c = λ bytes text end. allowed bytes c.refused.result (c.refused.ensures bytes (c.in-Err.ensures.refused bytes text end))
