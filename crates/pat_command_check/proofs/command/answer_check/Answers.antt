use Rattle.pat_command_check.proofs.command.answer_check.Goals as goal

pub returns : goal.returns
returns c = λ bytes read. c.answer_of.ensures bytes (c.in_ok-found.ensures bytes read)
