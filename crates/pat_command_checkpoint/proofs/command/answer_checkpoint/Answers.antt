use Rattle.pat_command_checkpoint.proofs.Answering.{run_allowed, piece_allowed}
use Rattle.pat_command_checkpoint.proofs.command.answer_checkpoint.Goals as goal

pub returns-in-Some : goal.returns-in-Some
returns-in-Some c = piece_allowed c.args.steps c.args.bytes.now c.answer_piece.result c.answer_piece.ensures

pub returns-in-None : goal.returns-in-None
returns-in-None c = run_allowed c.args.steps c.args.bytes.now c.answer_run.result c.in-None.ensures.none c.answer_run.ensures
