use Rattle.pat_command_checkpoint.proofs.command.answer_run.Goals as goal

pub check_input-requires : goal.check_input-requires
check_input-requires c = (c.args.bytes.now, c.in_ok-input.ensures)

pub answer_of-requires-clause-checked : goal.answer_of-requires-clause-checked
answer_of-requires-clause-checked c = (c.args.bytes.now, c.in_ok-found.ensures c.args.bytes.now c.in_ok-input.ensures)

pub returns : goal.returns
returns c = c.answer_of.ensures c.args.bytes.now (c.in_ok-found.ensures c.args.bytes.now c.in_ok-input.ensures)
