use Rattle.pat_tree.specs.Views.{tree_view}
use Rattle.pat_typecheck.proofs.Checking.{checked_program_text}
use Rattle.pat_typecheck.proofs.inputs.check_tree_text.Goals as goal

pub check_program-requires : goal.check_program-requires
check_program-requires c = let t = c.requires.text in c.in-Ok.ensures.is_resolved t.0 t.1 t.2

pub returns-in-Ok : goal.returns-in-Ok
returns-in-Ok c = λ bytes text end.
    checked_program_text bytes (tree_view c.args.tree.now) c.in-Ok.program c.check_program.result (c.in-Ok.ensures.program bytes text end) (c.in-Ok.ensures.is_resolved bytes text end).well_formed c.in-Ok.ensures.places c.check_program.ensures

pub returns-in-Err : goal.returns-in-Err
returns-in-Err c = λ bytes text end. c.refused_text.ensures bytes (c.in-Err.ensures.refused bytes text end)
