use Rattle.pat_tree.specs.Views.{tree_view}
use Rattle.pat_input_split.proofs.Few.{few_interfaces}
use Rattle.pat_input_split.proofs.program_with_text.programs.program_of_input.Goals as goal

pub program_of-requires : goal.program_of-requires
program_of-requires c = let r = c.requires in record { small = c.in-Ok.ensures.size r.0 r.1 }

pub returns-in-Ok-program_of-clause-program : goal.returns-in-Ok-program_of-clause-program
returns-in-Ok-program_of-clause-program c = λ bytes read.
    (tree_view c.in-Ok.tree, c.in-Ok-program_of.ensures.program bytes (c.in-Ok.ensures.tree bytes read) (c.in-Ok.ensures.end bytes read))

pub returns-in-Ok-program_of-clause-is_resolved : goal.returns-in-Ok-program_of-clause-is_resolved
returns-in-Ok-program_of-clause-is_resolved c = let r = c.requires in c.in-Ok-program_of.ensures.is_resolved r.0 (c.in-Ok.ensures.tree r.0 r.1) (c.in-Ok.ensures.end r.0 r.1)

pub returns-in-Ok-clause-refused : goal.returns-in-Ok-clause-refused
returns-in-Ok-clause-refused c = λ bytes read. c.in-Err-program_of.ensures.refused bytes (c.in-Ok.ensures.tree bytes read) (c.in-Ok.ensures.end bytes read)

pub returns-in-Ok-program_of-clause-interfaces : goal.returns-in-Ok-program_of-clause-interfaces
returns-in-Ok-program_of-clause-interfaces c =
    let r = c.requires in
    few_interfaces r.0 (tree_view c.in-Ok.tree) c.in-Ok-program_of.program (c.in-Ok-program_of.ensures.program r.0 (c.in-Ok.ensures.tree r.0 r.1) (c.in-Ok.ensures.end r.0 r.1)) (c.in-Ok.ensures.size r.0 r.1)
