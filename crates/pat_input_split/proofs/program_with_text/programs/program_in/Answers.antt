use Rattle.pat_input_split.proofs.program_with_text.programs.program_in.Goals as goal

pub returns-in-Ok-clause-refused : goal.returns-in-Ok-clause-refused
returns-in-Ok-clause-refused c = c.program_of_input.ensures.refused c.args.front.now c.in-Ok.ensures
