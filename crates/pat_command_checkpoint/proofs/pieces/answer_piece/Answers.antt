use Rattle.std.proofs.Common.{rules}
use Rattle.pat_checkpoint_input.specs.Pieces.{RefusesPiece}
use Rattle.pat_command_checkpoint.proofs.Leading.{piece_refused}
use Rattle.pat_command_checkpoint.proofs.pieces.answer_piece.Goals as goal

pub answer_led-requires : goal.answer_led-requires
answer_led-requires c = (c.args.bytes.now, c.in-Ok.ensures.gives)

pub returns-in-Ok : goal.returns-in-Ok
returns-in-Ok c = c.answer_led.ensures c.args.bytes.now c.in-Ok.ensures.gives

pub returns-in-Err-Refused : goal.returns-in-Err-Refused
returns-in-Err-Refused c =
    let why : RefusesPiece c.args.bytes.now c.in-Err-Refused.verdict = search rules in
    piece_refused c.args.bytes.now c.in-Err-Refused.verdict c.verdict_answer.result why c.verdict_answer.ensures
