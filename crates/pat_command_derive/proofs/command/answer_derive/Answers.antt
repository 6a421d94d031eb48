use Rattle.pat_command_derive.proofs.command.answer_derive.Goals as goal

pub returns : goal.returns
returns c = λ bytes read. c.answer_of.ensures bytes (c.in_ok-found.ensures bytes read)
