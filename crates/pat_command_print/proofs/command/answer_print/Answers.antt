use Rattle.pat_command_print.proofs.Refusals.{allowed}
use Rattle.pat_command_print.proofs.command.answer_print.Goals as goal

pub print_tree-requires : goal.print_tree-requires
print_tree-requires c =
    let r = c.requires in
    record { text = (r.0, c.in-Ok.ensures.tree r.0 r.1, c.in-Ok.ensures.end r.0 r.1); small = c.in-Ok.ensures.size r.0 r.1 }

pub returns-in-Ok : goal.returns-in-Ok
returns-in-Ok c = λ bytes read. c.print_tree.ensures bytes (c.in-Ok.ensures.tree bytes read) (c.in-Ok.ensures.end bytes read)

pub returns-in-Err : goal.returns-in-Err
returns-in-Err c = λ bytes read. allowed bytes c.refused.result (c.refused.ensures bytes (c.in-Err.ensures.refused bytes read))
