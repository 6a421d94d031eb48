use Rattle.pat_typecheck.proofs.inputs.check_input.Goals as goal

pub check_tree_text-requires-clause-text : goal.check_tree_text-requires-clause-text
check_tree_text-requires-clause-text c = let r = c.requires in (r.0, c.in-Ok.ensures.tree r.0 r.1, c.in-Ok.ensures.end r.0 r.1)

pub check_tree_text-requires-clause-small : goal.check_tree_text-requires-clause-small
check_tree_text-requires-clause-small c = let r = c.requires in c.in-Ok.ensures.size r.0 r.1

pub returns-in-Ok : goal.returns-in-Ok
returns-in-Ok c = λ bytes read. c.check_tree_text.ensures bytes (c.in-Ok.ensures.tree bytes read) (c.in-Ok.ensures.end bytes read)

pub returns-in-Err : goal.returns-in-Err
returns-in-Err c = λ bytes read. c.refused_text.ensures bytes (c.in-Err.ensures.refused bytes read)
