use Rattle.std.proofs.Common.{rules}
use Rattle.pat_command_replay.specs.Pieces.{IsInputRefusal}
use Rattle.pat_command_replay.proofs.Answering.{refused}
use Rattle.pat_command_replay.proofs.command.answer_replay.Goals as goal

pub returns-in-Ok : goal.returns-in-Ok
returns-in-Ok c = c.shown-answer.ensures c.args.bytes.now c.in-Ok.ensures.gives

pub returns-in-Err-Refused : goal.returns-in-Err-Refused
returns-in-Err-Refused c =
    let why : IsInputRefusal c.args.bytes.now c.in-Err-Refused.verdict = search rules in
    refused c.args.bytes.now c.in-Err-Refused.verdict c.verdict_answer.result why c.verdict_answer.ensures
